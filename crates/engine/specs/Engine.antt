-- What the engine returns and leaves, in the terms of document 01.
use Rattle.std.specs.Prelude.{ℕ, ◌-◌, ◌≤◌, ◌≡◌, ◌≢◌, Bool, ◌&&◌, List, ◌++◌, eqb, leb, length, take, drop, replicate, None, Some, Result, Ok, Err}
use Rattle.model.specs.Book.Read.{counters, steps, steps_refusal}
use Rattle.model.specs.Machine.State.{stuck}
use Rattle.model.specs.Machine.Steps as machine
use Rattle.model.specs.Answer as model
use Rattle.model.specs.Outcome.{Lent, accepted, refused, left, committed, refusal}
use Rattle.model.specs.Outcome as outcome
use Rattle.model.specs.Laws.Book.{Readable}
use Rattle.simulation.specs.Represents.{machine}
use Rattle.refusal.specs.declared.Refusal.{Refusal}
use Rattle.refusal.specs.Refusal.{told}

-- the lengths of what is lent
abbrev pub lent_of : (bindings index log tables answer : List ℕ) → Lent
lent_of bindings index log tables answer = record { bindings = length bindings; index = length index; log = length log; tables = length tables; answer = length answer }

-- refusal 14 passes
abbrev pub lengths_fit : (bindings index log tables : ℕ) → Bool
lengths_fit bindings index log tables = eqb bindings 8192 && eqb index 8192 && leb log 16384 && leb tables 16384

-- what the code returns and leaves in the answer, in document 01's numbers
abbrev pub outcome_of : Result ℕ Refusal → List ℕ → outcome.Outcome
outcome_of (Ok n) ws = accepted (take n ws)
outcome_of (Err r) ws = refused (told r)

-- the answer's words: zero past the answer, and all zero where the book is refused
abbrev pub AnswerLeft : Result ℕ Refusal → ℕ → List ℕ → Type 0
AnswerLeft (Ok n) size ws = (n ≤ size) × (length ws ≡ size) × (drop n ws ≡ replicate (size - n) 0)
AnswerLeft (Err r) size ws = ws ≡ replicate size 0

abbrev pub kept_answer : Result ℕ Refusal → List ℕ → List ℕ
kept_answer (Ok n) ws = ws
kept_answer (Err r) ws = replicate (length ws) 0

-- ## On the way

-- the words of a book that draws none of refusals 1 to 11
pub record Runnable (w : List ℕ) : Type 0 where
  pub readable : Readable w
  pub no_steps : steps_refusal w ≡ None
  pub unstuck : (L n : ℕ) → (machine.run (machine w L) (counters w) (steps w) n).status ≢ stuck

-- a refusal, or the whole answer and zeros
abbrev pub Decided : Lent → List ℕ → Result ℕ Refusal → List ℕ → Type 0
Decided l book (Err r) ws = refusal l book ≡ Some (told r)
Decided l book (Ok n) ws = (refusal l book ≡ None) × (n ≡ length (model.answer (committed l book) (left l book))) × (n ≤ l.answer) × (ws ≡ model.answer (committed l book) (left l book) ++ replicate (l.answer - n) 0)
