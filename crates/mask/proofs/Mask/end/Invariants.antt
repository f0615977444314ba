use Prim.Native.Nat.{◌-◌, ◌≤◌}
use mathlib.Core.Path.{◌≡◌}
use mathlib.Core.Bool.{false}
use lib.ListN.{get_or}
use Rattle.mask.specs.Masks.{past_last}
use Rattle.mask.proofs.Mask.end.Given as goal

abbrev pub invariant-loop-i : goal.invariant-loop-i
invariant-loop-i l = (l.last ≤ l.i - 1) × (l.last ≡ past_last (λ k. get_or l.fn.self.live k false) l.i - 1)
