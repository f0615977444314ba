use Rattle.std.proofs.Common.{ℕ, Bool, ◌≡◌, ◌&&◌}
use Rattle.lanes.specs.PassLaws.{Kept}
use Rattle.lanes.proofs.retain_by.Given as goal

abbrev pub invariant-loop-i : goal.invariant-loop-i
invariant-loop-i g l = (test : ℕ → Bool) → ((live : Bool) (lane : _) (r : Bool) → goal.F-post g l.passes live lane r → r ≡ (live && test lane.0)) → Kept test l.initial.mask.live l.i l.mask.live
