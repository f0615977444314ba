-- The body read is that of entry count - 1, the log's; the lines of its records and after them the flag's are the lines of the log (`log_is`).
use Rattle.std.proofs.Common.{◌≡◌, ◌∙◌}
use Rattle.report.specs.Text.{line_bytes}
use Rattle.report.specs.Lines.{log_body}
use Rattle.report.specs.LinesLaws.{log_is}
use Rattle.report.specs.Page.{appends_more, appends_is}
use Rattle.report.proofs.lines.log.Goals as goal

pub returns : goal.returns
unfolding line_bytes
returns c =
    let e : c.body-body.result.now ≡ log_body c.args.words.now = c.body-body.ensures ∙ rw (c.saturating_sub.ensures, c.size_at-count.ensures.0) in
    appends_is (rw (c.from.ensures, c.word.ensures, c.rest.ensures, e) (log_is c.args.words.now)) (appends_more c.records.ensures c.line.ensures)
