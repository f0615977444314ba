-- A log is walked record by record.
use Rattle.std.specs.Prelude.{ℕ, ◌+◌, Bool, ◌&&◌, not, cond, List, eqb, leb, get_or}
use Rattle.model.specs.Basics.{iter}
use Rattle.tables.specs.Tables.{info_of}
use Rattle.record_log.specs.declared.Change.{Change}
use Rattle.record_log.specs.declared.Change.TheVariants.{Insert, Remove}

-- what a record of a kind does to its table: a removal is of kind 1, and every other inserts
abbrev pub change_by : ℕ → Change
change_by kind = cond (eqb kind 1) Remove Insert

-- the word past the record at p: its kind and its table, then a key if it is a removal, else a row
unfoldable pub end_of : List ℕ → List ℕ → ℕ → ℕ
end_of w log p = p + 2 + cond (eqb (get_or log p 0) 1) (info_of w (get_or log (p + 1) 0)).keys (info_of w (get_or log (p + 1) 0)).width

-- whether the record at p is a removal of table t; an insert into it or a predicted row
abbrev pub is_removal : List ℕ → ℕ → ℕ → Bool
is_removal log t p = eqb (get_or log (p + 1) 0) t && eqb (get_or log p 0) 1

abbrev pub is_insertion : List ℕ → ℕ → ℕ → Bool
is_insertion log t p = eqb (get_or log (p + 1) 0) t && not (eqb (get_or log p 0) 1)

-- a walk that stands at a record, and what it has so far
pub record Walk (A : Type 0) : Type 0 where
  pub at : ℕ
  pub state : A

-- past a record that ends within n words; f is told where it begins
abbrev pub pass : {A : Type 0} → (ℕ → ℕ) → ℕ → (ℕ → A → A) → ℕ → Walk A → Walk A
pass end n f i s = cond (leb (end s.at) n) (record { at = end s.at; state = f s.at s.state }) s

abbrev pub start : {A : Type 0} → A → Walk A
start a = record { at = 0; state = a }

-- past all of them: n turns are enough, since each record has words
unfoldable pub walked : {A : Type 0} → (ℕ → ℕ) → ℕ → (ℕ → A → A) → A → A
walked end n f a = (iter (pass end n f) n (start a)).state
