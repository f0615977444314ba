-- After i turns state and memory are those after i lanes (`iter_more`); at the end i is `end`, past which no lane is live and none changes them (`live_turns`).
use Rattle.std.proofs.Common.{false, get_or, arith, rules}
use Rattle.lanes.specs.PassLaws.{live_turns}
use Rattle.predict.specs.Predict.{as_asked, served_lane, served_lanes}
use Rattle.predict.proofs.serve_lanes.Goals as goal

pub returns-clause-is : goal.returns-clause-is
unfolding served_lanes served_lane
returns-clause-is c =
    let a = c.args in
    let l = c.loop-i in
    let m = a.mask.live in
    live_turns m (search rules) (λ k. served_lane a.view.words.now a.view.bindings.now (as_asked a.ask) (get_or m k false) k) l.i _ _ l.invariant.1 (omega arith) (λ k q. rw q)
