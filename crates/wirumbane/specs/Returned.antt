-- What is returned to C and Rust: one word of 64 bits for an outcome.
use Rattle.std.specs.Prelude.{ℕ, ◌+◌, ◌*◌, min, ◌≡◌, List, Result, Ok, Err}
use Rattle.model.specs.Outcome.{Lent, Permitted}
use Rattle.refusal.specs.declared.Refusal.{Refusal}
use Rattle.refusal.specs.Refusal.{told}
use Rattle.engine.specs.Engine.{outcome_of, AnswerLeft}

-- the number in the high half, 0 where the book is accepted; its place or the answer's word count in the low half
abbrev pub packed : Result ℕ Refusal → ℕ
packed (Ok n) = min n 4294967295
packed (Err r) = (told r).number * 4294967296 + min (told r).place 4294967295

-- what is returned so, and left in the answer
abbrev pub Returned : Lent → List ℕ → ℕ → List ℕ → Type 0
Returned l book r ws = (o : Result ℕ Refusal) × (r ≡ packed o) × Permitted l book (outcome_of o ws) × AnswerLeft o l.answer ws
