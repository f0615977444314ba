use lib.Seq.{length-take-le}
use native.Mathlib.Omega.{arith}
use mathlib.Core.Path.{sym}
use Rattle.model.specs.Laws.Words.{length_words}
use Rattle.admit.proofs.load_words.Goals as goal

pub slice_bounds-load-end-2 : goal.slice_bounds-load-end-2
slice_bounds-load-end-2 c = sym (length-take-le _ _ (omega (arith, length_words c.args.book.now, c.requires)))
