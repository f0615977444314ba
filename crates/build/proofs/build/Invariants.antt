use Prim.Native.Nat.{◌+◌, ◌*◌}
use mathlib.Core.Path.{◌≡◌}
use Rattle.std.specs.Prelude.{Ok}
use Rattle.model.specs.Basics.{iter}
use Rattle.build.specs.Build.{built_up_next}
use Rattle.build.proofs.build.Given as goal

abbrev pub invariant-loop-k : goal.invariant-loop-k
invariant-loop-k l = Ok l.b ≡ iter (λ j. built_up_next l.view.words.now l.view.bindings.now l.lane.0 (l.vals.at + 2 * j)) l.k (Ok l.initial.b)
