use mathlib.Core.Path.{◌≡◌}
use Rattle.model.specs.Basics.{iter}
use Rattle.model.specs.Book.Scan.{Scan}
use Rattle.reader.specs.Values.{walk_of, IsStep}
use Rattle.reader.proofs.scan.steps.Given as goal

abbrev pub invariant-loop : goal.invariant-loop
invariant-loop g l = (one : Scan → Scan) → IsStep (goal.F-post g l.step) one → walk_of l.walk ≡ iter (λ _. one) l.counter (walk_of l.fn.from)
