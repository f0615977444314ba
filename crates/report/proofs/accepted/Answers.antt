use Rattle.report.specs.LinesLaws.{answer_is}
use Rattle.report.specs.Page.{appends_more, appends_is}
use Rattle.report.proofs.accepted.Goals as goal

pub returns : goal.returns
returns c = appends_is (answer_is c.args.words.now) (appends_more (appends_more (appends_more c.numbered.ensures c.log.ensures) c.numbered-2.ensures) c.numbered-3.ensures)
