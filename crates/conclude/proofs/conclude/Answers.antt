-- By why the run ended, each case by `concluded_by`: going, it is what `settle` ensures; spent or full, the place is the step's entry (`Book::step`).
use Rattle.std.specs.Prelude.{Some, None}
use mathlib.Core.Path.{◌∙◌}
use Rattle.execution.specs.Execution.{left_state}
use Rattle.run.specs.Progress.{as_progress}
use Rattle.conclude.specs.SettleLaws.{concluded_by}
use Rattle.conclude.proofs.conclude.Goals as goal

pub settle-requires : goal.settle-requires
settle-requires c =
    let pre = c.requires in
    (pre.1, pre.2 c.in-None.is)

pub returns-in-None-clause-is : goal.returns-in-None-clause-is
returns-in-None-clause-is c =
    let a = c.args in
    c.settle.ensures.is ∙ concluded_by a.book.words.now (as_progress a.p.now (left_state a.left)) a.left.log.now a.tables.now a.p.now.page.now.words.now None c.in-None.is

pub returns-in-Some-clause-is : goal.returns-in-Some-clause-is
returns-in-Some-clause-is c =
    let a = c.args in
    rw (c.refused.ensures, c.step.ensures.0) (concluded_by a.book.words.now (as_progress a.p.now (left_state a.left)) a.left.log.now a.tables.now a.p.now.page.now.words.now (Some c.in-Some.why) c.in-Some.is)
