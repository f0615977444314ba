-- What stands in a body with which the walk of Book/Scan finds no fault. Every function here is total: of another body its value means nothing and is never used.
use Rattle.std.specs.Prelude.{ℕ, zero, suc, ◌+◌, ◌*◌, List, [], ◌∷◌, get_or, take, drop}
use Rattle.model.specs.Basics.{iter}
use Rattle.model.specs.Basics.{tab}
use Rattle.model.specs.Book.Syntax.{Counter, QueryEntry, Var, Const, WriteVal, Entry, IncCounter, CurrentVal, Instr, Table, Rule, Step, batch, prediction}
use Rattle.model.specs.Book.Layout.{Field, table, counter, function, dst, column, divider, entry, entries, writes, form_of}

-- by tag
abbrev pub entry_of : ℕ → ℕ → QueryEntry
entry_of zero x = Var x
entry_of (suc t) x = Const x

abbrev pub write_of : ℕ → ℕ → WriteVal
write_of zero x = Entry (Var x)
write_of (suc zero) x = Entry (Const x)
write_of (suc (suc zero)) x = IncCounter x
write_of (suc (suc (suc t))) x = CurrentVal x

module _ (w : List ℕ) where
  -- n words from p on; a count at p and as many entries, write values, or words
  abbrev pub part : ℕ → ℕ → List ℕ
  part p n = take n (drop p w)

  abbrev pub entry_at : ℕ → QueryEntry
  entry_at p = entry_of (get_or w p 0) (get_or w (p + 1) 0)

  abbrev pub write_at : ℕ → WriteVal
  write_at p = write_of (get_or w p 0) (get_or w (p + 1) 0)

  abbrev pub entries_at : ℕ → List QueryEntry
  entries_at p = tab (λ k. entry_at (p + 1 + 2 * k)) (get_or w p 0)

  abbrev pub writes_at : ℕ → List WriteVal
  writes_at p = tab (λ k. write_at (p + 1 + 2 * k)) (get_or w p 0)

  -- the word past a field that stands at p; past several
  unfoldable pub after : Field → ℕ → ℕ
  after table p = p + 1
  after counter p = p + 1
  after function p = p + 1
  after dst p = p + 1
  after column p = p + 1
  after divider p = p + 1
  after entry p = p + 2
  after entries p = p + 1 + 2 * get_or w p 0
  after writes p = p + 1 + 2 * get_or w p 0

  unfoldable pub past : List Field → ℕ → ℕ
  past [] p = p
  past (f ∷ fs) p = past fs (after f p)

  -- the instruction whose opcode stands at p: its fields, its field k, itself, and the word past it
  abbrev pub fields_at : ℕ → List Field
  fields_at p = (form_of (get_or w p 0)).fields

  abbrev pub field_place : ℕ → ℕ → ℕ
  field_place p k = past (take k (fields_at p)) (p + 1)

  unfoldable pub instr_at : ℕ → Instr
  instr_at p = (form_of (get_or w p 0)).make (λ k. get_or w (field_place p k) 0) (λ k. entry_at (field_place p k)) (λ k. entries_at (field_place p k)) (λ k. writes_at (field_place p k))

  unfoldable pub next : ℕ → ℕ
  next p = past (fields_at p) (p + 1)

  -- ## The bodies; each begins at the word `at`

  -- row i of a table
  abbrev pub row_place : ℕ → ℕ → ℕ
  row_place at i = at + 4 + i * (get_or w at 0 + get_or w (at + 1) 0)

  unfoldable pub read_table : ℕ → Table
  read_table at = record { keys = get_or w at 0; vals = get_or w (at + 1) 0; merge = get_or w (at + 2) 0; rows = tab (λ i. part (row_place at i) (get_or w at 0 + get_or w (at + 1) 0)) (get_or w (at + 3) 0) }

  unfoldable pub read_counter : ℕ → Counter
  read_counter at = get_or w at 0

  -- instruction j of a rule
  abbrev pub instr_place : ℕ → ℕ → ℕ
  instr_place at j = iter (λ _. next) j (at + 2)

  unfoldable pub read_rule : ℕ → Rule
  read_rule at = record { starts = get_or w at 0; instrs = tab (λ j. instr_at (instr_place at j)) (get_or w (at + 1) 0) }

  unfoldable pub read_batch : ℕ → Step
  read_batch at = batch (get_or w at 0) (get_or w (at + 1) 0) (tab (λ c. part (at + 3 + c * get_or w (at + 1) 0) (get_or w (at + 1) 0)) (get_or w (at + 2) 0))

  unfoldable pub read_prediction : ℕ → Step
  read_prediction at = prediction (get_or w at 0) (part (at + 2) (get_or w (at + 1) 0)) (writes_at (at + 2 + get_or w (at + 1) 0))

  -- by kind
  unfoldable pub read_step : ℕ → ℕ → Step
  read_step kind = get_or (read_prediction ∷ read_prediction ∷ read_prediction ∷ read_prediction ∷ read_batch ∷ read_prediction ∷ []) kind read_prediction
