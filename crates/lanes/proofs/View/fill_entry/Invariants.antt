use Rattle.std.proofs.Common.{Some}
use Rattle.bindings.specs.Columns.{word_of}
use Rattle.instr.specs.Meaning.{entry_of}
use Rattle.lanes.specs.PassLaws.{Answered}
use Rattle.lanes.proofs.View.fill_entry.Given as goal

abbrev pub invariant-loop-i : goal.invariant-loop-i
invariant-loop-i l = Answered (λ k. Some (word_of l.self.bindings.now k (entry_of l.e))) l.mask.live l.initial.out l.i l.mask.live l.out
