-- The index: heads and tails of the chains by home, and the links of the rows.
use Rattle.std.specs.Prelude.{◌≡◌, ℕ, zero, suc, ◌+◌, ◌-◌, ◌/◌, ◌<◌, ◌≤◌, Bool, ◌&&◌, List, length, replicate, nat_le, nat_lt, slice_index, slice_set, Option, IfSome}
use Rattle.model.specs.Basics.{iter, tab}
use Rattle.tables.specs.declared.TableInfo.{TableInfo}
use Rattle.tables.specs.Tables.{row_at, same_words}
use Rattle.hash_index.specs.Fold.{folded}

-- the home of a key
unfoldable pub home_of : List ℕ → ℕ
home_of key = folded 0 key / 4194304

-- of the k words at `at`; of row j of a table
abbrev pub home_at : List ℕ → ℕ → ℕ → ℕ
home_at w at k = home_of (tab (λ i. slice_index w (at + i)) k)

abbrev pub home_in : List ℕ → TableInfo → ℕ → ℕ
home_in w t j = home_at w (row_at t j) t.keys

-- the word that tells the row after the last of a chain: its link, or the head of a chain that is empty
abbrev pub end_of : ℕ → ℕ → ℕ
end_of zero h = h
end_of (suc l) h = 2048 + l

-- row n of home h is the new tail
unfoldable pub added : ℕ → ℕ → List ℕ → List ℕ
added n h x = slice_set (slice_set x (1024 + h) (n + 1)) (end_of (slice_index x (1024 + h)) h) (n + 1)

-- the first n rows of a table, numbered from b on
unfoldable pub rows_added : List ℕ → TableInfo → ℕ → ℕ → List ℕ → List ℕ
rows_added w t b n x = iter (λ i. added (b + i) (home_in w t i)) n x

-- n rows
unfoldable pub indexed : (ℕ → ℕ) → ℕ → List ℕ
indexed home n = iter (λ i. added i (home i)) n (replicate 18432 0)

-- the last row of each chain is one of the first n: what adding row n asks for
abbrev pub TailsBelow : ℕ → List ℕ → Type 0
TailsBelow n x = (h : ℕ) → h < 1024 → slice_index x (1024 + h) ≤ n

-- and the words are as many as an index has
pub record Tails (n : ℕ) (x : List ℕ) : Type 0 where
  pub size : length x ≡ 18432
  pub below : TailsBelow n x

-- the index has the table's rows, numbered from b on, and perhaps others
pub record Has (w : List ℕ) (t : TableInfo) (b : ℕ) (index : List ℕ) : Type 0 where
  pub home : ℕ → ℕ
  pub rows : ℕ
  pub few : rows ≤ 16384
  pub small : (j : ℕ) → home j < 1024
  pub within : b + t.rows ≤ rows
  pub agree : (j : ℕ) → j < t.rows → home (b + j) ≡ home_in w t j
  pub is : index ≡ indexed home rows

-- p tells a row of the table, whose rows are numbered from b on, and it has the key
unfoldable pub is_row : List ℕ → TableInfo → List ℕ → (b p : ℕ) → Bool
is_row w t key b p = nat_lt b p && nat_le p (b + t.rows) && same_words w (row_at t (p - 1 - b)) key t.keys

-- such an index, if there is one
abbrev pub IndexAmong : List ℕ → TableInfo → ℕ → Option (List ℕ) → Type 0
IndexAmong w table b index = IfSome index (Has w table b)

-- the index of a table's rows alone, if there is one
abbrev pub IndexOf : List ℕ → TableInfo → Option (List ℕ) → Type 0
IndexOf w table index = IfSome index (λ x. (table.rows ≤ 16384) × (x ≡ indexed (home_in w table) table.rows))

-- rows enough for an index to be of use, and no more than it has links for
abbrev pub serves : ℕ → Bool
serves rows = nat_le 32 rows && nat_le rows 16384
