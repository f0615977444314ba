use Rattle.std.specs.Prelude.{◌≡◌, ◌+◌}
use Rattle.answer.specs.Layout.{bodies_length, entries_words}
use Rattle.step_bodies.specs.Page.{Appends}
use Rattle.answer.proofs.entries.Sizes.write_entries.Given as goal

abbrev pub invariant-loop-i : goal.invariant-loop-i
invariant-loop-i l =
    let s = l.self in
    (l.first ≡ l.start + bodies_length s.words.now s.counts.now s.lengths.now s.used s.contents l.i)
    × Appends l.initial.page l.page (entries_words s.words.now s.counts.now s.lengths.now s.used s.contents l.start l.i)
