use Rattle.std.proofs.Common.{◌≡◌, false, get_or}
use Rattle.model.specs.Basics.{iter}
use Rattle.lanes.specs.Lanes.{listed}
use Rattle.record_log.specs.Append.{SameLog}
use Rattle.execution.specs.Execution.{as_logged, staged_lane}
use Rattle.execution.proofs.stage_lanes.Given as goal

abbrev pub invariant-loop-i : goal.invariant-loop-i
invariant-loop-i l =
    SameLog l.initial.buffer.log l.buffer.log
    × (as_logged l.buffer ≡ iter (λ k. staged_lane l.what.change l.what.table.0 (listed l.view.words.now l.view.bindings.now k l.what.vals) (get_or l.mask.live k false)) l.i (as_logged l.initial.buffer))
