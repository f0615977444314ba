-- The fields of an instruction: what each holds, and where it stands.
use Rattle.std.specs.Prelude.{ℕ, ◌+◌, List, map, get_or}
use Rattle.model.specs.Book.Layout as layout
use Rattle.model.specs.Book.Decode as decode
use Rattle.instr.specs.declared.layout.Field.{Field}
use Rattle.instr.specs.declared.layout.Field.TheVariants.{Table, Counter, Function, Dst, Column, Divider, Entry, Entries, Writes}
use Rattle.instr.specs.declared.layout.Part.{Part}

abbrev pub field_of : Field → layout.Field
field_of Table = layout.table
field_of Counter = layout.counter
field_of Function = layout.function
field_of Dst = layout.dst
field_of Column = layout.column
field_of Divider = layout.divider
field_of Entry = layout.entry
field_of Entries = layout.entries
field_of Writes = layout.writes

abbrev pub fields_of : List Field → List layout.Field
fields_of = map field_of

module _ (w : List ℕ) where
  -- the word past a field that stands at p
  abbrev pub past_field : Field → ℕ → ℕ
  past_field f p = decode.after w (field_of f) p

  -- the first two words of a field that stands at p
  abbrev pub part_at : ℕ → Part
  part_at p = record { first = get_or w p 0; second = get_or w (p + 1) 0; rest = p + 1 }
