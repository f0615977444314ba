use Prim.Native.Nat.{ℕ, ◌<◌}
use mathlib.Core.Path.{◌≡◌}
use mathlib.Core.Bool.{false}
use Rattle.model.specs.Book.Read.{is_repeat}
use Rattle.reader.specs.Places.{rows_of}
use Rattle.reader.proofs.rows.first_repeat.Given as goal

abbrev pub invariant-loop-i : goal.invariant-loop-i
invariant-loop-i l = (j : ℕ) → j < l.i → false ≡ is_repeat l.table.rows.info.keys (rows_of l.table.rows.words.now l.table.rows.info) j
