-- Words folded into one, wrapping at 32 bits. Nothing but its bound is ever used of it.
use Rattle.std.specs.Prelude.{ℕ, ◌+◌, ◌*◌, ◌%◌, List, [], ◌∷◌}

abbrev pub spun : ℕ → ℕ
spun h = (h * 2654435761) % 4294967296

abbrev pub mixed : ℕ → ℕ → ℕ
mixed h x = spun ((h + x) % 4294967296)

unfoldable pub folded : ℕ → List ℕ → ℕ
folded h [] = h
folded h (x ∷ xs) = folded (mixed h x) xs
