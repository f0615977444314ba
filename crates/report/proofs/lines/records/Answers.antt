-- The walk over the records has come to its end (`walks_end`), and its lines are all lines (`written_records`).
use Rattle.std.proofs.Common.{◌∙◌}
use Rattle.record_log.specs.Places.{walks_end}
use Rattle.report.specs.Page.{text_of}
use Rattle.report.specs.LinesLaws.{written_records}
use Rattle.report.proofs.lines.records.Goals as goal

pub returns : goal.returns
returns c =
    let a = c.args in
    let l = c.loop-p in
    record { same_buffer = l.invariant.0; bytes = walks_end l.invariant.1 c.in-None.ensures.steps ∙ written_records a.words.now a.log.now (text_of a.page.now) }
