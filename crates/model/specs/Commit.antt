-- The commit of a log: what its removals leave of a table's rows, and into these the rows of its other records, one after the other, each merged with the row that has its key.
use Rattle.std.specs.Prelude.{ℕ, suc, min, max, Bool, ◌&&◌, not, cond, List, [], ◌∷◌, ◌++◌, eqb, length, take, drop, get_or, slice_get}
use Rattle.model.specs.Basics.{iter, when, found, eq_list, keep_if}
use Rattle.model.specs.Book.Syntax.{Table}
use Rattle.model.specs.Machine.State.{Record}

-- by rule 0 the old word, by 1 the new, by 2 the smaller, by 3 the larger
abbrev pub merge_word : ℕ → ℕ → ℕ → ℕ
merge_word m old new = get_or (old ∷ new ∷ min old new ∷ max old new ∷ []) m old

abbrev pub merge_words : ℕ → List ℕ → List ℕ → List ℕ
merge_words m [] new = []
merge_words m (a ∷ old) [] = a ∷ old
merge_words m (a ∷ old) (b ∷ new) = merge_word m a b ∷ merge_words m old new

abbrev pub has_key : ℕ → List ℕ → List ℕ → Bool
has_key k key row = eq_list (take k row) key

-- without the row of that key
abbrev pub without : ℕ → List ℕ → List (List ℕ) → List (List ℕ)
without k key [] = []
without k key (r ∷ rows) = keep_if (not (has_key k key r)) r (without k key rows)

-- the row merged into the one that has its key, else added
abbrev pub put : ℕ → ℕ → List ℕ → List (List ℕ) → List (List ℕ)
put k m row [] = row ∷ []
put k m row (r ∷ rows) = cond (has_key k (take k row) r) ((take k r ++ merge_words m (drop k r) (drop k row)) ∷ rows) (r ∷ put k m row rows)

abbrev pub removal : ℕ → Record → Bool
removal t r = eqb r.table t && eqb r.kind 1

abbrev pub insertion : ℕ → Record → Bool
insertion t r = eqb r.table t && not (eqb r.kind 1)

module _ (log : List Record) (t : ℕ) (T : Table) where
  -- the first n records' removals, then the first n records' insertions
  abbrev pub removals : ℕ → List (List ℕ) → List (List ℕ)
  removals n rows = iter (λ i rs. found (slice_get log i) (λ r. when (removal t r) (without T.keys r.words) rs) (λ _. rs)) n rows

  abbrev pub insertions : ℕ → List (List ℕ) → List (List ℕ)
  insertions n rows = iter (λ i rs. found (slice_get log i) (λ r. when (insertion t r) (put T.keys T.merge r.words) rs) (λ _. rs)) n rows

  unfoldable pub committed : Table
  committed = record { keys = T.keys; vals = T.vals; merge = T.merge; rows = insertions (length log) (removals (length log) T.rows) }

unfoldable pub commit : List Record → List Table → ℕ → List Table
commit log [] t = []
commit log (T ∷ ts) t = committed log t T ∷ commit log ts (suc t)
