use mathlib.Core.Path.{◌≡◌}
use Rattle.std.specs.Prelude.{drop}
use Rattle.instr.specs.Fields.{fields_of}
use Rattle.model.specs.Book.Scan.{walk, instr}
use Rattle.reader.specs.Values.{walk_of, sizes_of}
use Rattle.reader.proofs.scan.Body.instr.Given as goal

abbrev pub invariant-loop-field : goal.invariant-loop-field
invariant-loop-field l =
    let b = l.self in
    walk b.end b.words.now (sizes_of b.sizes) (fields_of (drop l.field-index l.fields)) (walk_of l.walk) ≡ instr b.end b.words.now (sizes_of b.sizes) (walk_of l.fn.walk)
