use Rattle.std.proofs.Common.{take}
use Rattle.report.specs.Text.{fields}
use Rattle.report.specs.Page.{Appends}
use Rattle.report.proofs.text.Page.numbers.Given as goal

abbrev pub invariant-loop-n : goal.invariant-loop-n
invariant-loop-n l = Appends l.initial.self l.self (fields (take l.n-index l.ns))
