-- The home that the code gives a key: the table's number and the key's words folded, and the high 13 bits of that. Nothing but its bound is ever used of it.
use Rattle.std.specs.Prelude.{ℕ, ◌/◌, List, ◌∷◌}
use Rattle.hash_index.specs.Fold.{folded}

unfoldable pub home_of : ℕ → List ℕ → ℕ
home_of table key = folded 0 (table ∷ key) / 524288
