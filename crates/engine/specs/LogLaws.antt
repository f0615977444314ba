-- Where a book is accepted, each record of its log belongs to a table of the book and has as many words as its kind asks for.
use Rattle.std.specs.Prelude.{ℕ, ◌+◌, ◌≡◌, ◌≢◌, false, List, [], None, Option, Some}
use Rattle.std.proofs.Common.{sym, ap, ◌∙◌, subst}
use Rattle.std.proofs.Math.ListN.{length}
use Rattle.model.specs.Basics.{All}
use Rattle.model.specs.Book.Syntax.{Table}
use Rattle.model.specs.Book.Words.{Byte, words_of, bytes_refusal}
use Rattle.model.specs.Book.Contents.{first_step, step_count}
use Rattle.model.specs.Machine.State.{State, stuck}
use Rattle.model.specs.Outcome.{Lent, lent_refusal, words_refusal, book_refusal, end_refusal, refusal, left, committed}
use Rattle.model.specs.Laws.Logic.{none_some, seq_none, unless_none}
use Rattle.record_log.specs.RecordLaws.{Sized}
use Rattle.execution.specs.declared.Stop.{Stop}
use Rattle.execution.specs.declared.Stop.TheVariants.{Spent, Full}
use Rattle.execution.specs.Execution.{goes_on}
use Rattle.run.specs.Progress.{Ran}
use Rattle.simulation.specs.Represents.{status_of, bool_clash}
use Rattle.simulation.specs.Runs.{Runs, sticking, stopped, going_on}
use Rattle.engine.specs.Engine.{lengths_fit, Runnable}
use Rattle.conclude.specs.EndLaws.{ran_is}
use Rattle.engine.specs.EngineLaws.{runnable, followed}
use Rattle.engine.specs.CodeLaws.{true_fit}

module _ (l : Lent) (p : ℕ) (ts : List Table) (s : State) (unrefused : end_refusal l p ts s ≡ None) where
  -- a run that stopped draws 12 or 13
  not_stopped : (o : Option Stop) → goes_on o ≡ false → s.status ≡ status_of o → ⊥
  unfolding end_refusal
  not_stopped None e q = bool_clash e
  not_stopped (Some Spent) e q = none_some {a = record { number = 13; place = p + length s.answers }} (sym unrefused ∙ rw q)
  not_stopped (Some Full) e q = none_some {a = record { number = 12; place = p + length s.answers }} (sym unrefused ∙ rw q)

  run_sized : (w : List ℕ) (L k : ℕ) (a : Ran) → s.status ≢ stuck → Runs w L k s a → All (Sized w) s.log
  run_sized w L k a n (sticking e) = absurd (n e)
  run_sized w L k a n (stopped e q d) = absurd (not_stopped a.progress.state.stop e q)
  run_sized w L k a n (going_on x y r) = r.is.sized

of_same : {w : List ℕ} {L k : ℕ} {s t : State} {a : Ran} → s ≡ t → Runs w L k t a → Runs w L k s a
of_same {w} {L} {k} {s} {t} {a} e r = subst (λ (s : State). Runs w L k s a) (sym e) r

-- none of refusals 14, 1 to 11, and 12 to 16
unrefused_parts : (l : Lent) (book : List ℕ) → refusal l book ≡ None → (lent_refusal l ≡ None) × (book_refusal book ≡ None) × (end_refusal l (first_step (words_of book)) (committed l book) (left l book) ≡ None)
unfolding refusal
unrefused_parts l book e =
    let a = seq_none (lent_refusal l) _ _ e in
    let b = seq_none (book_refusal book) _ _ a.1 in
    (a.0, b.0, b.1)

book_parts : (book : List ℕ) → book_refusal book ≡ None → (bytes_refusal book ≡ None) × (words_refusal (words_of book) ≡ None)
unfolding book_refusal
book_parts book e = seq_none (bytes_refusal book) _ _ e

pub log_sized : (l : Lent) (book : List ℕ) → All Byte book → refusal l book ≡ None → All (Sized (words_of book)) (left l book).log
log_sized l book bytes e =
    let w = words_of book in
    let parts = unrefused_parts l book e in
    let fit = true_fit l.bindings l.index l.log l.tables (unless_none (lengths_fit l.bindings l.index l.log l.tables) 14 0 parts.0) in
    let passed = book_parts book parts.1 in
    let h : Runnable w = runnable book bytes passed.0 passed.1 in
    run_sized l (first_step w) (committed l book) (left l book) parts.2 w l.log (step_count w) _
    (λ x. h.unstuck l.log (step_count w) (ap (λ (s : State). s.status) (sym (ran_is w l)) ∙ x))
    (of_same (ran_is w l) (followed w h l.log 0 fit.2 []))
