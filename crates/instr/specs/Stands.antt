-- What is known of an instruction of a book that can be read, and the variable that an instruction binds.
use Rattle.std.specs.Prelude.{ℕ, ◌<◌, ◌≤◌, List, Option, None, Some}
use Rattle.model.specs.Book.Contents.{table_count}
use Rattle.instr.specs.declared.Entries.{Entries}
use Rattle.instr.specs.declared.Instr.{Instr}
use Rattle.instr.specs.declared.Instr.TheVariants.{LookupOrInsertDefault, LookupWithDefault, Lookup, LookupWithFallback, Insert, InsertIfEq, Remove, External, ExternalWithFallback, AssertEq, AssertNe, AssertAnyNe, ReadCounter}
use Rattle.ids.specs.declared.Variable.{Variable}

-- a list that stands in a book
abbrev pub Short : Entries → Type 0
Short l = (l.at ≤ 65536) × (l.count ≤ 16)

-- an instruction of a book that can be read: its table is there, its lists are short, and it binds one of 32 variables
abbrev pub Stands : List ℕ → Instr → Type 0
Stands w (LookupOrInsertDefault table args default col dst) = (table.0 < table_count w) × Short args × Short default × (dst.0 < 32)
Stands w (LookupWithDefault table args col dst default) = (table.0 < table_count w) × Short args × (dst.0 < 32)
Stands w (Lookup table args col dst) = (table.0 < table_count w) × Short args × (dst.0 < 32)
Stands w (LookupWithFallback table key func args col dst) = (table.0 < table_count w) × Short key × Short args × (dst.0 < 32)
Stands w (Insert table vals) = (table.0 < table_count w) × Short vals
Stands w (InsertIfEq table l r vals) = (table.0 < table_count w) × Short vals
Stands w (Remove table args) = (table.0 < table_count w) × Short args
Stands w (External func args dst) = Short args × (dst.0 < 32)
Stands w (ExternalWithFallback f1 args1 f2 args2 dst) = Short args1 × Short args2 × (dst.0 < 32)
Stands w (AssertEq l r) = Unit {0}
Stands w (AssertNe l r) = Unit {0}
Stands w (AssertAnyNe ops divider) = Short ops
Stands w (ReadCounter counter dst) = dst.0 < 32

-- the variable that an instruction binds
abbrev pub binds_of : Instr → Option ℕ
binds_of (LookupOrInsertDefault table args default col dst) = Some dst.0
binds_of (LookupWithDefault table args col dst default) = Some dst.0
binds_of (Lookup table args col dst) = Some dst.0
binds_of (LookupWithFallback table key func args col dst) = Some dst.0
binds_of (Insert table vals) = None
binds_of (InsertIfEq table l r vals) = None
binds_of (Remove table args) = None
binds_of (External func args dst) = Some dst.0
binds_of (ExternalWithFallback f1 args1 f2 args2 dst) = Some dst.0
binds_of (AssertEq l r) = None
binds_of (AssertNe l r) = None
binds_of (AssertAnyNe ops divider) = None
binds_of (ReadCounter counter dst) = Some dst.0

abbrev pub variable_of : Option Variable → Option ℕ
variable_of (Some v) = Some v.0
variable_of None = None

abbrev pub IsVariable : Option ℕ → Type 0
IsVariable None = Unit {0}
IsVariable (Some v) = v < 32
