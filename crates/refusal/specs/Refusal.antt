-- Each refusal by document 01's number and place.
use Rattle.std.specs.Prelude.{ℕ, ◌≡◌, Option, None, Some, Result, Ok, Err, IsErrAnd}
use Rattle.std.proofs.Common.{ap}
use Rattle.model.specs.Book.Words as model
use Rattle.refusal.specs.declared.Refusal.{Refusal}
use Rattle.refusal.specs.declared.Refusal.TheVariants.{Bytes, Contents, Layout, Stale, Repeat, Absent, Unbound, Size, Column, HeldOut, Unfit, LogFull, CounterSpent, Lengths, RowsFull, AnswerFull}

abbrev numbered : (number place : ℕ) → model.Refusal
numbered number place = record { number = number; place = place }

abbrev pub told : Refusal → model.Refusal
told Bytes = numbered 1 0
told (Contents i) = numbered 2 i
told (Layout i) = numbered 3 i
told (Stale p) = numbered 4 p
told (Repeat p) = numbered 5 p
told (Absent p) = numbered 6 p
told (Unbound p) = numbered 7 p
told (Size p) = numbered 8 p
told (Column p) = numbered 9 p
told (HeldOut p) = numbered 10 p
told (Unfit i) = numbered 11 i
told (LogFull i) = numbered 12 i
told (CounterSpent i) = numbered 13 i
told Lengths = numbered 14 0
told RowsFull = numbered 15 0
told AnswerFull = numbered 16 0

-- what is refused, or nothing where all is well
abbrev pub refusal_of : {A : Type 0} → Result A Refusal → Option model.Refusal
refusal_of (Ok a) = None
refusal_of (Err r) = Some (told r)

-- what a `?` hands on
pub handed_err : {A : Type 0} (r : Result A Refusal) (e : Refusal) → IsErrAnd r (λ x. x ≡ e) → r ≡ Err e
handed_err (Err x) e h = ap (λ (e : Refusal). Err e) h
handed_err (Ok a) e h = absurd h

pub handed_on : {A : Type 0} (r : Result A Refusal) (e : Refusal) → IsErrAnd r (λ x. x ≡ e) → refusal_of r ≡ Some (told e)
handed_on (Err x) e h = ap (λ (e : Refusal). Some (told e)) h
handed_on (Ok a) e h = absurd h
