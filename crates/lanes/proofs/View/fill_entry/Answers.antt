-- After i lanes each live one of them has its word, and the mask is as it was (`answered_still`); past the last live lane nothing is left (`answered_all`).
use Rattle.std.proofs.Common.{refl, ◌∙◌, arith, rules}
use Rattle.lanes.specs.PassLaws.{answered_none, answered_still, answered_all}
use Rattle.lanes.proofs.View.fill_entry.Goals as goal

pub loop-i-init : goal.loop-i-init
loop-i-init c = answered_none _ _ _ (search rules) (search rules)

pub loop-i-preserved : goal.loop-i-preserved
loop-i-preserved c =
    let l = c.loop-i in
    answered_still _ _ _ l.i _ _ _ l.invariant (omega arith) refl (c.chosen.ensures ∙ rw c.value.ensures)

pub returns : goal.returns
returns c = let l = c.loop-i in answered_all _ _ _ l.i _ _ l.invariant (omega arith)
