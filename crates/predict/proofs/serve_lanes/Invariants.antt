use Rattle.std.proofs.Common.{◌≡◌, false, get_or}
use Rattle.model.specs.Basics.{iter}
use Rattle.predict.specs.Predict.{SameWords, as_asked, as_served, served_lane}
use Rattle.predict.proofs.serve_lanes.Given as goal

abbrev pub invariant-loop-i : goal.invariant-loop-i
invariant-loop-i l =
    SameWords l.initial.run l.run
    × (as_served l.run l.out ≡ iter (λ k. served_lane l.view.words.now l.view.bindings.now (as_asked l.ask) (get_or l.mask.live k false) k) l.i (as_served l.initial.run l.initial.out))
