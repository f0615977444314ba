use Rattle.std.proofs.Common.{drop, ◌≡◌}
use Rattle.report.specs.Text.{up_to, appended}
use Rattle.report.proofs.text.Page.append.Given as goal

abbrev pub invariant-loop-b : goal.invariant-loop-b
invariant-loop-b l = appended l.bytes (up_to l.initial.out l.initial.at) ≡ appended (drop l.b-index l.bytes) (up_to l.out l.at)
