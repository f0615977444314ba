-- After i turns state and log are those after i lanes (`iter_more`); past the last live lane no turn changes them, so that is all 256 (`live_turns`).
use Rattle.std.proofs.Common.{false, get_or, arith, rules}
use Rattle.lanes.specs.Lanes.{listed}
use Rattle.lanes.specs.PassLaws.{live_turns}
use Rattle.execution.specs.Execution.{staged_lane, staged_lanes}
use Rattle.execution.proofs.stage_lanes.Goals as goal

pub returns-clause-is : goal.returns-clause-is
unfolding staged_lanes staged_lane
returns-clause-is c =
    let a = c.args in
    let l = c.loop-i in
    let m = a.mask.live in
    live_turns m (search rules) (λ k. staged_lane a.what.change a.what.table.0 (listed a.view.words.now a.view.bindings.now k a.what.vals) (get_or m k false)) l.i _ _ l.invariant.1 (omega arith) (λ k q. rw q)
