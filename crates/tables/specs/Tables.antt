-- Tables as they stand in a book's words: sizes, and the row with a key.
use Rattle.std.specs.Prelude.{ℕ, ◌+◌, ◌*◌, ◌<◌, ◌≤◌, Bool, List, length, get_or, Option, Some, None}
use Rattle.model.specs.Basics.{eq_list, found, least, tab}
use Rattle.model.specs.Book.Contents.{first_of}
use Rattle.model.specs.Book.Decode.{part}
use Rattle.tables.specs.declared.TableInfo.{TableInfo}

-- of the table whose body begins at b
abbrev pub info_at : List ℕ → ℕ → TableInfo
info_at w b = record { keys = get_or w b 0; width = get_or w b 0 + get_or w (b + 1) 0; merge = get_or w (b + 2) 0; rows = get_or w (b + 3) 0; at = b + 4 }

abbrev pub info_of : List ℕ → ℕ → TableInfo
info_of w t = info_at w (first_of w t)

-- the rows stand in the words, and a key fits an array of 16
pub record Stands (w : List ℕ) (t : TableInfo) : Type 0 where
  pub rows : t.at + t.rows * t.width ≤ length w
  pub keys : t.keys ≤ t.width
  pub few : t.keys ≤ 16

-- and a row has words
pub record RowsStand (w : List ℕ) (t : TableInfo) : Type 0 where
  pub stands : Stands w t
  pub some : 0 < t.width

-- the first k words of an array
abbrev pub front : List ℕ → ℕ → List ℕ
front key k = tab (λ i. get_or key i 0) k

-- the k words at `at` are the key's first k
unfoldable pub same_words : List ℕ → ℕ → List ℕ → ℕ → Bool
same_words w at key k = eq_list (part w at k) (front key k)

-- the word of row i
abbrev pub row_at : TableInfo → ℕ → ℕ
row_at t i = t.at + i * t.width

-- the first row with the key
unfoldable pub found_row : List ℕ → TableInfo → List ℕ → Option ℕ
found_row w t key = found (least (λ i. same_words w (row_at t i) key t.keys) t.rows) (λ i. Some (row_at t i)) (λ _. None)
