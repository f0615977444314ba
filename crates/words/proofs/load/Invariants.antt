use mathlib.Core.Path.{◌≡◌}
use Rattle.words.specs.Filled.{filled}
use Rattle.model.specs.Laws.Words.{word_at}
use Rattle.words.proofs.load.Given as goal

abbrev pub invariant-loop-i : goal.invariant-loop-i
invariant-loop-i l = l.words ≡ filled (word_at l.book) l.i l.initial.words
