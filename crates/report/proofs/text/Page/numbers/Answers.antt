use Rattle.std.proofs.Common.{refl}
use Rattle.report.specs.Text.{fields}
use Rattle.report.specs.TextLaws.{fields_more}
use Rattle.report.specs.Page.{appends_none, appends_more, appends_is}
use Rattle.report.proofs.text.Page.numbers.Goals as goal

pub loop-n-init : goal.loop-n-init
unfolding fields
loop-n-init c = appends_none _

pub loop-n-preserved : goal.loop-n-preserved
loop-n-preserved c = appends_is (fields_more _ _ c.loop-n-test.true) (appends_more c.loop-n.invariant (appends_is (rw c.from.ensures refl) c.number.ensures))
