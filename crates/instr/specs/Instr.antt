-- What stands at a place of a book's words: an entry, a write value, a list of them, an instruction.
use Rattle.std.specs.Prelude.{ℕ, zero, suc, ◌+◌, List, [], ◌∷◌, get_or}
use Rattle.model.specs.Basics.{tab}
use Rattle.model.specs.Book.Decode.{field_place}
use Rattle.instr.specs.Fields.{part_at}
use Rattle.instr.specs.declared.layout.Part.{Part}
use Rattle.instr.specs.declared.QueryEntry.{QueryEntry}
use Rattle.instr.specs.declared.QueryEntry.TheVariants.{Var, Const}
use Rattle.instr.specs.declared.WriteVal.{WriteVal}
use Rattle.instr.specs.declared.WriteVal.TheVariants.{QueryEntry as Entry, IncCounter, CurrentVal}
use Rattle.instr.specs.declared.Entries.{Entries}
use Rattle.instr.specs.declared.Instr.{Instr}
use Rattle.instr.specs.declared.Instr.TheVariants.{LookupOrInsertDefault, LookupWithDefault, Lookup, LookupWithFallback, Insert, InsertIfEq, Remove, External, ExternalWithFallback, AssertEq, AssertNe, AssertAnyNe, ReadCounter}

-- by tag
unfoldable pub entry_by : ℕ → ℕ → QueryEntry
entry_by zero x = Var (record { 0 = x })
entry_by (suc t) x = Const x

unfoldable pub write_by : ℕ → ℕ → WriteVal
write_by zero x = Entry (Var (record { 0 = x }))
write_by (suc zero) x = Entry (Const x)
write_by (suc (suc zero)) x = IncCounter (record { 0 = x })
write_by (suc (suc (suc t))) x = CurrentVal x

module _ (w : List ℕ) where
  abbrev pub entry_at : ℕ → QueryEntry
  entry_at p = entry_by (get_or w p 0) (get_or w (p + 1) 0)

  abbrev pub write_at : ℕ → WriteVal
  write_at p = write_by (get_or w p 0) (get_or w (p + 1) 0)

  -- a count at p, and as many pairs behind it
  abbrev pub list_at : ℕ → Entries
  list_at p = record { at = p + 1; count = get_or w p 0 }

-- a field as an entry, and as a list
abbrev pub entry_in : Part → QueryEntry
entry_in f = entry_by f.first f.second

abbrev pub list_in : Part → Entries
list_in f = record { at = f.rest; count = f.first }

-- what is no opcode stands for nothing in particular; no book that can be read has it
abbrev pub no_instr : Instr
no_instr = ReadCounter (record { 0 = 0 }) (record { 0 = 0 })

module _ (fs : List Part) where
  -- field k (from 0), and as a number
  abbrev f : ℕ → Part
  f k = get_or fs k (record { first = 0; second = 0; rest = 0 })

  abbrev n : ℕ → ℕ
  n k = (f k).first

  -- the instruction with these fields: one line for each opcode, from 1
  abbrev pub made : List Instr
  made =
      LookupOrInsertDefault (record { 0 = n 0 }) (list_in (f 1)) (list_in (f 2)) (record { 0 = n 3 }) (record { 0 = n 4 })
      ∷ LookupWithDefault (record { 0 = n 0 }) (list_in (f 1)) (record { 0 = n 2 }) (record { 0 = n 3 }) (entry_in (f 4))
      ∷ Lookup (record { 0 = n 0 }) (list_in (f 1)) (record { 0 = n 2 }) (record { 0 = n 3 })
      ∷ LookupWithFallback (record { 0 = n 0 }) (list_in (f 1)) (record { 0 = n 2 }) (list_in (f 3)) (record { 0 = n 4 }) (record { 0 = n 5 })
      ∷ Insert (record { 0 = n 0 }) (list_in (f 1))
      ∷ InsertIfEq (record { 0 = n 0 }) (entry_in (f 1)) (entry_in (f 2)) (list_in (f 3))
      ∷ Remove (record { 0 = n 0 }) (list_in (f 1))
      ∷ External (record { 0 = n 0 }) (list_in (f 1)) (record { 0 = n 2 })
      ∷ ExternalWithFallback (record { 0 = n 0 }) (list_in (f 1)) (record { 0 = n 2 }) (list_in (f 3)) (record { 0 = n 4 })
      ∷ AssertEq (entry_in (f 0)) (entry_in (f 1))
      ∷ AssertNe (entry_in (f 0)) (entry_in (f 1))
      ∷ AssertAnyNe (list_in (f 1)) (n 0)
      ∷ ReadCounter (record { 0 = n 0 }) (record { 0 = n 1 })
      ∷ []

  unfoldable pub instr_by : ℕ → Instr
  instr_by op = get_or (no_instr ∷ made) op no_instr

-- the instruction whose opcode stands at p
abbrev pub instr_at : List ℕ → ℕ → Instr
instr_at w p = instr_by (tab (λ k. part_at w (field_place w p k)) 6) (get_or w p 0)
