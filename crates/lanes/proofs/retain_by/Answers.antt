-- After i lanes the marks of those lanes are kept where they pass (`kept_turn`); past the last live lane no mark would change (`kept_all`).
use Rattle.std.proofs.Common.{rules, arith}
use Rattle.lanes.specs.PassLaws.{kept_none, kept_turn, kept_all}
use Rattle.lanes.proofs.retain_by.Goals as goal

pub loop-i-init : goal.loop-i-init
loop-i-init g c test p = kept_none _ _ (search rules)

pub loop-i-preserved : goal.loop-i-preserved
loop-i-preserved g c test p =
    let l = c.loop-i in
    kept_turn _ _ l.i _ _ (l.invariant test p) (omega arith) (p _ _ _ c.passes.ensures)

pub returns : goal.returns
returns g c test p = let l = c.loop-i in kept_all _ _ l.i _ (l.invariant test p) (omega arith)
