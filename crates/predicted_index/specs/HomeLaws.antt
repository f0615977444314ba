-- The home is a slot.
use Rattle.std.specs.Prelude.{ℕ, ◌<◌, List, ◌∷◌}
use Rattle.std.proofs.Common.{arith}
use Rattle.hash_index.specs.FoldLaws.{folded_below}
use Rattle.predicted_index.specs.Home.{home_of}

pub home_below : (t : ℕ) (key : List ℕ) → home_of t key < 8192
unfolding home_of
home_below t key = let h = folded_below 0 (t ∷ key) (omega arith) in omega arith
