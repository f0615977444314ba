-- What the code answers of rules and steps, in document 01's numbers, and what it knows of a book whose bodies can be read.
use Rattle.std.specs.Prelude.{ℕ, Bool, [], ◌∷◌, Option, None, Some}
use Rattle.model.specs.Basics.{all}
use Rattle.model.specs.Book.Syntax.{WriteVal}
use Rattle.model.specs.Book.Words.{Refusal}
use Rattle.model.specs.Check.{below?, currents_of}

-- an instruction's refusal, with its place
abbrev pub placed_at : ℕ → Option ℕ → Option Refusal
placed_at p None = None
placed_at p (Some n) = Some (record { number = n; place = p })

-- a write value before which the row has n words: if it is a current value, it is one of them
abbrev pub current_fits : ℕ → WriteVal → Bool
current_fits n v = all below? (currents_of n (v ∷ []))
