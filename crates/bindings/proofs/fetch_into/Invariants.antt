use Prim.Native.Nat.{◌+◌, ◌*◌}
use mathlib.Core.Path.{◌≡◌}
use Rattle.words.specs.Filled.{filled}
use Rattle.bindings.specs.Columns.{value_at}
use Rattle.bindings.proofs.fetch_into.Given as goal

abbrev pub invariant-loop-i : goal.invariant-loop-i
invariant-loop-i l = l.out ≡ filled (λ k. value_at l.words l.bindings l.lane.0 (l.list.at + 2 * k)) l.i l.initial.out
