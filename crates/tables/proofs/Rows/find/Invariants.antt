use Prim.Native.Nat.{ℕ, ◌<◌}
use mathlib.Core.Path.{◌≡◌}
use mathlib.Core.Bool.{false}
use Rattle.tables.specs.Tables.{same_words, row_at}
use Rattle.tables.proofs.Rows.find.Given as goal

abbrev pub invariant-loop-i : goal.invariant-loop-i
invariant-loop-i l = (l.at ≡ row_at l.self.info l.i) × ((j : ℕ) → j < l.i → same_words l.self.words.now (row_at l.self.info j) l.fn.key l.self.info.keys ≡ false)
