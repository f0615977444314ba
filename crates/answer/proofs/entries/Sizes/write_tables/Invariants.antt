use Rattle.std.specs.Prelude.{◌≡◌}
use Rattle.answer.specs.Layout.{rows_length, tables_words}
use Rattle.answer.specs.Sums.{sum}
use Rattle.step_bodies.specs.Page.{Appends}
use Rattle.answer.proofs.entries.Sizes.write_tables.Given as goal

abbrev pub invariant-loop-t : goal.invariant-loop-t
invariant-loop-t l = (l.from ≡ sum (rows_length l.self.words.now l.self.counts.now) l.t) × Appends l.initial.page l.page (tables_words l.self.words.now l.self.counts.now l.rows l.t)
