use Rattle.report.specs.Lines.{numbered, entry_line}
use Rattle.report.specs.Page.{Written}
use Rattle.report.proofs.lines.numbered.Given as goal

abbrev pub invariant-loop-i : goal.invariant-loop-i
invariant-loop-i l = Written l.page l.number (numbered (entry_line l.words l.family) l.i) l.initial.page 0
