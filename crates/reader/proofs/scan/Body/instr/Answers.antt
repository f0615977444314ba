-- A field that draws 3 leaves the walk bad to the last field (`fields_stop`).
use mathlib.Core.Path.{sym, ◌∙◌}
use Rattle.reader.specs.ScanLaws.{fields_stop}
use Rattle.reader.specs.Values.{walk_of, sizes_of}
use Rattle.reader.proofs.scan.Body.instr.Goals as goal

pub returns-in_err-walk-2 : goal.returns-in_err-walk-2
returns-in_err-walk-2 c =
    let b = c.args.self in
    let l = c.loop-field in
    let fs = c.fields-fields.result.now in
    rw c.from_residual-in_err-walk-2.ensures (sym (fields_stop b.end b.words.now (sizes_of b.sizes) fs l.field-index _ (walk_of l.walk) c.loop-field-test.true (sym c.in_err-walk-2.ensures)) ∙ l.invariant)
