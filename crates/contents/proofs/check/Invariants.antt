use Prim.Native.Nat.{ℕ, ◌<◌}
use mathlib.Core.Path.{◌≡◌}
use mathlib.Core.Bool.{true}
use lib.ListN.{length}
use Rattle.model.specs.Book.Contents.{last_group, begins, entry_fits}
use Rattle.contents.specs.Kinds.{group_number}
use Rattle.contents.specs.ContentsLaws.{Counts}
use Rattle.contents.proofs.check.Given as goal

abbrev pub invariant-loop-i : goal.invariant-loop-i
invariant-loop-i l = (group_number l.last ≡ last_group l.words l.i) × (l.end ≡ begins l.words l.i) × Counts l.words l.counts l.i × ((j : ℕ) → j < l.i → entry_fits l.words j ≡ true) × (length l.counts ≡ 5)
