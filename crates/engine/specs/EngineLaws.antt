-- From the parts to the whole: what is decided is what document 01 permits.
use Rattle.std.specs.Prelude.{ℕ, suc, ◌-◌, ◌^◌, ◌<◌, ◌≤◌, ◌≡◌, refl, true, false, List, [], ◌∷◌, length, get_or, take, drop, replicate, None, Some, Result, Ok, Err}
use Rattle.std.proofs.Common.{sym, ◌∙◌, subst, arith, drop_at}
use Rattle.std.proofs.Math.Path.{ap}
use Rattle.std.proofs.Math.Seq.{take_at, take-take}
use Rattle.model.specs.Basics.{All}
use Rattle.model.specs.Book.Syntax.{Table}
use Rattle.model.specs.Book.Words.{Byte, words_of, bytes_refusal}
use Rattle.model.specs.Book.Contents.{first_step, step_count}
use Rattle.model.specs.Book.Read.{counters, steps}
use Rattle.model.specs.Machine.State.{State}
use Rattle.model.specs.Machine.Steps as machine
use Rattle.model.specs.Answer as model
use Rattle.model.specs.Answer.{Arranged, same}
use Rattle.model.specs.Outcome.{Lent, words_refusal, book_refusal, end_refusal, refusal, outcome, Permitted, left, committed}
use Rattle.model.specs.Safety.BookClaims.{no_contents, no_bodies, no_steps}
use Rattle.admit.specs.BookLaws.{words_some, words_most, book_on}
use Rattle.execution.specs.Execution.{goes_on}
use Rattle.run.specs.Progress.{Ran, ran_steps}
use Rattle.simulation.specs.Represents.{machine, bool_clash}
use Rattle.simulation.specs.Runs.{RunIs, Runs, sticking, stopped, going_on}
use Rattle.simulation.proofs.Runs.{run_follows}
use Rattle.simulation.specs.Ends.{start_progress, starts, never_stuck}
use Rattle.refusal.specs.declared.Refusal.{Refusal}
use Rattle.refusal.specs.declared.Refusal.TheVariants.{Lengths}
use Rattle.refusal.specs.Refusal.{told}
use Rattle.engine.specs.Engine.{lengths_fit, outcome_of, AnswerLeft, kept_answer, Runnable, Decided}
use Rattle.conclude.specs.End.{Concludes, Settles, RanOn, Settling, concluded}
use Rattle.conclude.specs.EndLaws.{ran_is, concludes}

-- ## The book

-- each element is as each read says, as that it is a byte
pub all_read : (P : ℕ → Type 0) (l : List ℕ) → ((i : ℕ) → P (get_or l i 0)) → All P l
all_read P [] h = tt
all_read P (x ∷ l) h = (h 0, all_read P l (λ i. h (suc i)))

pub runnable : (book : List ℕ) → All Byte book → bytes_refusal book ≡ None → words_refusal (words_of book) ≡ None → Runnable (words_of book)
runnable book bytes first rest =
    let unrefused : book_refusal book ≡ None = book_on book first ∙ rest in
    record {
      readable = record { one = words_some book first; most = words_most book first; contents = no_contents book bytes unrefused; bodies = no_bodies book bytes unrefused };
      no_steps = no_steps book bytes unrefused;
      unstuck = λ L n. never_stuck book bytes unrefused L n;
    }

-- ## The run

module _ (w : List ℕ) (h : Runnable w) (L A : ℕ) (short : L ≤ 16384) (m : List ℕ) where
  abbrev started : Ran
  started = record { progress = start_progress w; bindings = m; log = replicate L 0; index = replicate 8192 0; answer = replicate A 0 }

  abbrev state : State
  state = machine.run (machine w L) (counters w) (steps w) (step_count w)

  pub followed : Runs w L (step_count w) state (ran_steps w (step_count w) started)
  followed = run_follows w h.readable L short h.no_steps started (starts w L A m) refl (step_count w) (omega arith)

  -- a run that did not stop is one that the commit may go on from
  pub ran_on : (a : Ran) → a ≡ ran_steps w (step_count w) started → length a.log ≡ L → a.progress.at < 2 ^ 31 → RanOn w a.progress (take a.progress.state.used a.log) a.answer
  ran_on a e size small on = by (subst (Runs w L (step_count w) state) (sym e) followed)
    where
      by : Runs w L (step_count w) state a → Settles w a.progress (take a.progress.state.used a.log) a.answer
      by (sticking x) = absurd (h.unstuck L (step_count w) x)
      by (stopped x y z) = absurd (bool_clash (sym (ap goes_on on) ∙ x))
      by (going_on x y r) = record {
        state = state;
        index = a.index;
        bindings = a.bindings;
        words = a.log;
        is = subst (λ (n : ℕ). RunIs w n (step_count w) state a) (sym size) r;
        used = sym (take-take a.progress.state.used a.progress.state.used a.log (omega arith));
        short = omega arith;
        small = small;
      }

  pub run_concludes : (l : Lent) → l.log ≡ L → l.tables ≤ 16384 → l.answer ≡ A → (a : Ran) → a ≡ ran_steps w (step_count w) started → length a.answer ≡ A → (rows : List ℕ) → length rows ≡ l.tables
      → let c : Settling = concluded w a.progress a.log rows a.answer in Concludes w l c.outcome c.answer
  run_concludes l log_is few answer_is a e size rows rows-size =
      concludes w h.readable l (omega arith) few a rows rows-size (size ∙ sym answer_is)
      (subst (λ (s : State). Runs w l.log (step_count w) s a) (sym (ran_is w l)) (subst (λ (n : ℕ). Runs w n (step_count w) (machine.run (machine w n) (counters w) (steps w) (step_count w)) a) (sym log_is) (subst (Runs w L (step_count w) state) (sym e) followed)))
      (λ x. h.unstuck l.log (step_count w) (ap (λ (s : State). s.status) (sym (ran_is w l)) ∙ x))

-- ## The order of refusals

module _ (l : Lent) (book : List ℕ) (ws : List ℕ) where
  pub decided_14 : lengths_fit l.bindings l.index l.log l.tables ≡ false → Decided l book (Err Lengths) ws
  unfolding refusal
  decided_14 e = rw e

  module _ (fit : lengths_fit l.bindings l.index l.log l.tables ≡ true) where
    pub decided_book : (r : Refusal) → book_refusal book ≡ Some (told r) → Decided l book (Err r) ws
    unfolding refusal
    decided_book r e = rw (fit, e)

    no_book : book_refusal book ≡ None → refusal l book ≡ end_refusal l (first_step (words_of book)) (committed l book) (left l book)
    unfolding refusal
    no_book e = rw (fit, e)

    pub decided_run : book_refusal book ≡ None → (r : Result ℕ Refusal) → Concludes (words_of book) l r ws → Decided l book r ws
    decided_run e (Ok n) c = (no_book e ∙ c.0, c.1, c.2, c.3)
    decided_run e (Err r) c = no_book e ∙ c

-- ## What may be returned

arranged_same : (ts : List Table) → Arranged ts ts
arranged_same [] = tt
arranged_same (t ∷ ts) = (refl, refl, refl, same, arranged_same ts)

module _ (l : Lent) (book ws : List ℕ) where
  pub permitted : (r : Result ℕ Refusal) → Decided l book r ws → Permitted l book (outcome_of r (kept_answer r ws))
  unfolding outcome
  permitted (Ok n) d = (committed l book, arranged_same (committed l book), ap (take n) d.3 ∙ take_at (model.answer (committed l book) (left l book)) (replicate (l.answer - n) 0) n (sym d.1), rw d.0)
  permitted (Err r) d = rw d

  pub answer_left : (r : Result ℕ Refusal) → length ws ≡ l.answer → Decided l book r ws → AnswerLeft r l.answer (kept_answer r ws)
  answer_left (Ok n) size d = (d.2, size, ap (drop n) d.3 ∙ drop_at (model.answer (committed l book) (left l book)) (replicate (l.answer - n) 0) n (sym d.1))
  answer_left (Err r) size d = ap (λ (k : ℕ). replicate k 0) size
