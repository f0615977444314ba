-- Name, first number, numbers, line feed, one appended after the other: that is the whole line (`line_is`).
use Rattle.report.specs.TextLaws.{line_is}
use Rattle.report.specs.Page.{appends_more, appends_is}
use Rattle.report.proofs.text.Page.line.Goals as goal

pub returns : goal.returns
returns c = appends_is (line_is _ _ _) (appends_more (appends_more (appends_more c.append.ensures c.number.ensures) c.numbers.ensures) c.append-2.ensures)
