-- A step that draws 3 leaves the walk bad to the end (`iter_stops`).
use mathlib.Core.Path.{sym}
use native.Mathlib.Omega.{arith}
use Rattle.reader.specs.Values.{walk_of}
use Rattle.reader.specs.ScanLaws.{iter_stops}
use Rattle.reader.proofs.scan.steps.Goals as goal

pub returns-in_err-walk : goal.returns-in_err-walk
returns-in_err-walk g c = λ one is.
    rw c.from_residual.ensures (sym (iter_stops one is.bad c.loop.counter c.args.n (walk_of c.args.from) (omega arith) (rw (← c.loop.invariant one is) (sym (is.call _ _ c.in_err-walk.ensures)))))
