-- What an entry, a write value and an instruction mean in the model. A list is read from the words, where it stands.
use Rattle.std.specs.Prelude.{ℕ, ◌+◌, ◌*◌, List}
use Rattle.model.specs.Basics.{tab}
use Rattle.model.specs.Book.Syntax as syntax
use Rattle.model.specs.Book.Decode as decode
use Rattle.instr.specs.declared.QueryEntry.{QueryEntry}
use Rattle.instr.specs.declared.QueryEntry.TheVariants.{Var, Const}
use Rattle.instr.specs.declared.WriteVal.{WriteVal}
use Rattle.instr.specs.declared.WriteVal.TheVariants.{QueryEntry as Entry, IncCounter, CurrentVal}
use Rattle.instr.specs.declared.Entries.{Entries}
use Rattle.instr.specs.declared.Instr.{Instr}
use Rattle.instr.specs.declared.Instr.TheVariants.{LookupOrInsertDefault, LookupWithDefault, Lookup, LookupWithFallback, Insert, InsertIfEq, Remove, External, ExternalWithFallback, AssertEq, AssertNe, AssertAnyNe, ReadCounter}

abbrev pub entry_of : QueryEntry → syntax.QueryEntry
entry_of (Var v) = syntax.Var v.0
entry_of (Const x) = syntax.Const x

abbrev pub write_of : WriteVal → syntax.WriteVal
write_of (Entry e) = syntax.Entry (entry_of e)
write_of (IncCounter c) = syntax.IncCounter c.0
write_of (CurrentVal x) = syntax.CurrentVal x

module _ (w : List ℕ) where
  abbrev pub entries_of : Entries → List syntax.QueryEntry
  entries_of l = tab (λ k. decode.entry_at w (l.at + 2 * k)) l.count

  abbrev pub writes_of : Entries → List syntax.WriteVal
  writes_of l = tab (λ k. decode.write_at w (l.at + 2 * k)) l.count

  unfoldable pub instr_of : Instr → syntax.Instr
  instr_of (LookupOrInsertDefault table args default col dst) = syntax.LookupOrInsertDefault table.0 (entries_of args) (writes_of default) col.0 dst.0
  instr_of (LookupWithDefault table args col dst default) = syntax.LookupWithDefault table.0 (entries_of args) col.0 dst.0 (entry_of default)
  instr_of (Lookup table args col dst) = syntax.Lookup table.0 (entries_of args) col.0 dst.0
  instr_of (LookupWithFallback table key func args col dst) = syntax.LookupWithFallback table.0 (entries_of key) func.0 (entries_of args) col.0 dst.0
  instr_of (Insert table vals) = syntax.Insert table.0 (entries_of vals)
  instr_of (InsertIfEq table l r vals) = syntax.InsertIfEq table.0 (entry_of l) (entry_of r) (entries_of vals)
  instr_of (Remove table args) = syntax.Remove table.0 (entries_of args)
  instr_of (External func args dst) = syntax.External func.0 (entries_of args) dst.0
  instr_of (ExternalWithFallback f1 args1 f2 args2 dst) = syntax.ExternalWithFallback f1.0 (entries_of args1) f2.0 (entries_of args2) dst.0
  instr_of (AssertEq l r) = syntax.AssertEq (entry_of l) (entry_of r)
  instr_of (AssertNe l r) = syntax.AssertNe (entry_of l) (entry_of r)
  instr_of (AssertAnyNe ops divider) = syntax.AssertAnyNe divider (entries_of ops)
  instr_of (ReadCounter counter dst) = syntax.ReadCounter counter.0 dst.0
