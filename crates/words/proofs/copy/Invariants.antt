use mathlib.Core.Path.{◌≡◌}
use Rattle.std.proofs.Math.Seq.{paste}
use Rattle.words.proofs.copy.Given as goal

abbrev pub invariant-loop-i : goal.invariant-loop-i
invariant-loop-i l = l.dst ≡ paste l.initial.dst l.at l.src l.i
