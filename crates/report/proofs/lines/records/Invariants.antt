use Rattle.std.proofs.Common.{◌≡◌}
use Rattle.record_log.specs.Places.{Walks}
use Rattle.report.specs.Page.{text_of}
use Rattle.report.specs.LinesLaws.{write_record}
use Rattle.report.proofs.lines.records.Given as goal

abbrev pub invariant-loop-p : goal.invariant-loop-p
invariant-loop-p l =
    (l.page.out.ghost_name ≡ l.initial.page.out.ghost_name) × Walks l.words l.log (write_record l.words l.log) (text_of l.initial.page) l.p-iterator (text_of l.page)
