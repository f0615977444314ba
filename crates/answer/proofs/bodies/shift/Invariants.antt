use mathlib.Core.Path.{◌≡◌}
use Rattle.answer.specs.Moved.{moved}
use Rattle.answer.proofs.bodies.shift.Given as goal

abbrev pub invariant-loop-i : goal.invariant-loop-i
invariant-loop-i l = l.answer ≡ moved l.initial.answer l.n l.d l.i
