-- The index of a book's rows has those of each of its tables.
use Rattle.std.specs.Prelude.{◌≡◌, ℕ, zero, suc, ◌+◌, ◌-◌, ◌<◌, ◌≤◌, Bool, true, false, cond, List, replicate, nat_le, Option, Some, None}
use Rattle.std.proofs.Math.Path.{refl, sym, ap}
use Rattle.std.proofs.Common.{◌∙◌, zero-add, add-zero, arith, le-leb}
use Rattle.std.proofs.lemmas.Bool.{lt-leb}
use Rattle.model.specs.Basics.{iter}
use Rattle.model.specs.Laws.Logic.{either, le_cases}
use Rattle.model.specs.Laws.Iter.{iter_agree}
use Rattle.tables.specs.declared.TableInfo.{TableInfo}
use Rattle.tables.specs.Tables.{info_of}
use Rattle.hash_index.specs.Index.{home_in, added, rows_added, indexed, Tails, IndexAmong, IndexOf}
use Rattle.hash_index.specs.IndexLaws.{tails_none, tails_more}
use Rattle.hash_index.specs.SearchLaws.{row_home_below}
use Rattle.hash_index.specs.Book.{rows_before, book_indexed, BookIndex}

-- ## Rows added to an index

-- the rows of a table are the next of an index
rows_next : (w : List ℕ) (t : TableInfo) (home : ℕ → ℕ) (b n : ℕ) → ((i : ℕ) → i < n → home (b + i) ≡ home_in w t i) → rows_added w t b n (indexed home b) ≡ indexed home (b + n)
unfolding rows_added indexed
rows_next w t home b zero h = rw add-zero
rows_next w t home b (suc n) h =
    let e : b + suc n ≡ suc (b + n) = omega arith in
    rw (e, ← h n (omega arith)) (ap (added (b + n) (home (b + n))) (rows_next w t home b n (λ i l. h i (omega arith))))

pub rows_tails : (w : List ℕ) (t : TableInfo) (b n : ℕ) (x : List ℕ) → Tails b x → Tails (b + n) (rows_added w t b n x)
unfolding rows_added
rows_tails w t b zero x h = rw add-zero h
rows_tails w t b (suc n) x h =
    let e : b + suc n ≡ b + n + 1 = omega arith in
    rw e (tails_more (b + n) (home_in w t n) (iter (λ i. added (b + i) (home_in w t i)) n x) (rows_tails w t b n x h) (row_home_below w t n))

-- homes that agree on the first n rows
indexed_agree : (home other : ℕ → ℕ) (n : ℕ) → ((i : ℕ) → i < n → home i ≡ other i) → indexed home n ≡ indexed other n
unfolding indexed
indexed_agree home other n h = iter_agree (λ i. added i (home i)) (λ i. added i (other i)) n (replicate 18432 0) (λ i a l. ap (λ (k : ℕ). added i k a) (h i l))

pub rows_alone : (w : List ℕ) (t : TableInfo) (n : ℕ) → rows_added w t 0 n (replicate 18432 0) ≡ indexed (home_in w t) n
unfolding rows_added indexed
rows_alone w t n = iter_agree (λ i. added (0 + i) (home_in w t i)) (λ i. added i (home_in w t i)) n (replicate 18432 0) (λ i a l. ap (λ (k : ℕ). added k (home_in w t i) a) (zero-add i))

-- a table that has the index alone
pub among_alone : (w : List ℕ) (t : TableInfo) (index : Option (List ℕ)) → IndexOf w t index → IndexAmong w t 0 index
among_alone w t None q = tt
among_alone w t (Some x) q = record { home = home_in w t; rows = t.rows; few = q.0; small = row_home_below w t; within = omega arith; agree = λ j lt. ap (home_in w t) (zero-add j); is = q.1 }

-- ## All tables

module _ (w : List ℕ) where
  abbrev rows_of : ℕ → ℕ
  rows_of t = (info_of w t).rows

  pub before_next : (t : ℕ) → rows_before w (suc t) ≡ rows_before w t + rows_of t
  unfolding rows_before
  before_next t = refl

  pub before_within : (n t : ℕ) → t < n → rows_before w t + rows_of t ≤ rows_before w n
  before_within (suc n) t lt = either (λ l. omega (arith, before_within n t l, before_next n)) (λ e. rw e (omega (arith, before_next n))) (le_cases lt)
  before_within zero t lt = absurd (omega arith)

  -- the home of a row among those of the first n tables
  abbrev home_among : ℕ → ℕ → ℕ
  home_among zero g = 0
  home_among (suc n) g = cond (nat_le (rows_before w n) g) (home_in w (info_of w n) (g - rows_before w n)) (home_among n g)

  among_below : (n g : ℕ) → home_among n g < 1024
  among_below zero g = omega arith
  among_below (suc n) g = by (nat_le (rows_before w n) g) (among_below n g)
    where
      by : (b : Bool) → home_among n g < 1024 → cond b (home_in w (info_of w n) (g - rows_before w n)) (home_among n g) < 1024
      by true h = row_home_below w (info_of w n) (g - rows_before w n)
      by false h = h

  -- of the last table, and of those before it
  among_last : (n j : ℕ) → home_among (suc n) (rows_before w n + j) ≡ home_in w (info_of w n) j
  among_last n j =
      let e : rows_before w n + j - rows_before w n ≡ j = omega arith in
      rw (le-leb (rows_before w n) (rows_before w n + j) (omega arith), e)

  among_earlier : (n g : ℕ) → g < rows_before w n → home_among (suc n) g ≡ home_among n g
  among_earlier n g l = rw (lt-leb (rows_before w n) g l)

  among_table : (n t j : ℕ) → t < n → j < rows_of t → home_among n (rows_before w t + j) ≡ home_in w (info_of w t) j
  among_table zero t j lt l = absurd (omega arith)
  among_table (suc n) t j lt l = either (λ m. among_earlier n (rows_before w t + j) (omega (arith, before_within n t m)) ∙ among_table n t j m l) (λ e. rw e (among_last n j)) (le_cases lt)

  book_is : (n : ℕ) → book_indexed w n ≡ indexed (home_among n) (rows_before w n)
  unfolding book_indexed rows_before indexed
  book_is zero = refl
  book_is (suc n) =
      ap (rows_added w (info_of w n) (rows_before w n) (rows_of n)) (book_is n ∙ indexed_agree (home_among n) (home_among (suc n)) (rows_before w n) (λ i l. sym (among_earlier n i l)))
      ∙ rows_next w (info_of w n) (home_among (suc n)) (rows_before w n) (rows_of n) (λ i l. among_last n i)

  pub book_tails : (n : ℕ) → Tails (rows_before w n) (book_indexed w n)
  unfolding book_indexed rows_before
  book_tails zero = tails_none
  book_tails (suc n) = rows_tails w (info_of w n) (rows_before w n) (rows_of n) (book_indexed w n) (book_tails n)

  pub book_has : (n : ℕ) (index : Option (List ℕ)) → BookIndex w n index → (t : ℕ) → t < n → IndexAmong w (info_of w t) (rows_before w t) index
  book_has n None q t lt = tt
  book_has n (Some x) q t lt = record { home = home_among n; rows = rows_before w n; few = q.0; small = among_below n; within = before_within n t lt; agree = λ j l. among_table n t j lt l; is = q.1 ∙ book_is n }
