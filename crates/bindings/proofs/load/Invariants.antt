use mathlib.Core.Path.{◌≡◌}
use Rattle.bindings.specs.Columns.{loaded}
use Rattle.bindings.proofs.load.Given as goal

abbrev pub invariant-loop-c : goal.invariant-loop-c
invariant-loop-c l = l.bindings ≡ loaded l.words l.at l.lanes l.c l.initial.bindings
