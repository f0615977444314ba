use Rattle.std.proofs.Common.{ℕ, Option, ◌≡◌}
use Rattle.lanes.specs.PassLaws.{Answered}
use Rattle.lanes.proofs.fill_by.Given as goal

abbrev pub invariant-loop-i : goal.invariant-loop-i
invariant-loop-i g l = (ask : ℕ → Option ℕ) → ((lane : _) (lent : _) (r : _) (left : _) → goal.F-post g l.answer lane lent r left → r ≡ ask lane.0) → Answered ask l.initial.mask.live l.initial.out l.i l.mask.live l.out
