-- From one call's contract to the next, in the functions of the engine.
use Rattle.std.specs.Prelude.{ℕ, ◌<◌, ◌≤◌, ◌≡◌, refl, Bool, true, false, ◌&&◌, List, eqb, leb, length, get_or, take, replicate, None, Result, Ok, Err}
use Rattle.std.proofs.lemmas.List.{length-replicate}
use Rattle.std.proofs.Common.{sym, ap, ◌∙◌, subst, arith, eq-eqb, le-leb, eqb-true, leb-true}
use Rattle.model.specs.Book.Contents.{step_count}
use Rattle.model.specs.Laws.Logic.{and_split}
use Rattle.model.specs.Book.Words.{Byte, bytes_refusal, words_of}
use Rattle.model.specs.Outcome.{Lent, words_refusal, book_refusal, Permitted}
use Rattle.refusal.specs.declared.Refusal.{Refusal}
use Rattle.refusal.specs.Refusal.{refusal_of}
use Rattle.admit.specs.BookLaws.{book_on}
use Rattle.execution.specs.Execution.{RunState}
use Rattle.run.specs.Progress.{Progress, Ran, ran_steps}
use Rattle.simulation.specs.Ends.{start_progress}
use Rattle.engine.specs.Engine.{lent_of, lengths_fit, Runnable, Decided, outcome_of, AnswerLeft, kept_answer}
use Rattle.conclude.specs.End.{Concludes, RanOn, Settling, concluded}
use Rattle.conclude.specs.SettleLaws.{concluded_used}
use Rattle.engine.specs.EngineLaws.{all_read, runnable, ran_on, run_concludes, decided_book, decided_run, permitted, answer_left}

-- ## The lengths

-- refusal 14 passes these lengths, and no others
module _ (bindings index log tables : ℕ) where
  abbrev pub Fit : Type 0
  Fit = (bindings ≡ 8192) × (index ≡ 8192) × (log ≤ 16384) × (tables ≤ 16384)

  pub fit_true : Fit → lengths_fit bindings index log tables ≡ true
  fit_true h = rw (eq-eqb bindings 8192 h.0, eq-eqb index 8192 h.1, le-leb log 16384 h.2, le-leb tables 16384 h.3)

  pub true_fit : lengths_fit bindings index log tables ≡ true → Fit
  true_fit e =
      let t = and_split (eqb bindings 8192 && eqb index 8192 && leb log 16384) (leb tables 16384) e in
      let u = and_split (eqb bindings 8192 && eqb index 8192) (leb log 16384) t.0 in
      let v = and_split (eqb bindings 8192) (eqb index 8192) u.0 in
      (eqb-true bindings 8192 v.0, eqb-true index 8192 v.1, leb-true log 16384 u.1, leb-true tables 16384 t.1)

  pub fit_false : (Fit → ⊥) → lengths_fit bindings index log tables ≡ false
  fit_false n = by (lengths_fit bindings index log tables) refl
    where
      by : (b : Bool) → lengths_fit bindings index log tables ≡ b → b ≡ false
      by true e = absurd (n (true_fit e))
      by false e = refl

-- zeros, as many as another number says, and as many as they are
pub zeros_as : (n k : ℕ) (ws : List ℕ) → ws ≡ replicate n 0 → n ≡ k → ws ≡ replicate k 0
zeros_as n k ws e same = e ∙ ap (λ (k : ℕ). replicate k 0) same

pub zeroed : (ws : List ℕ) (n : ℕ) → ws ≡ replicate n 0 → ws ≡ replicate (length ws) 0
zeroed ws n e = zeros_as n (length ws) ws e (sym (ap length e ∙ length-replicate n 0))

-- as many words as were lent
pub lent_same : (b i l t a b' i' l' t' a' : List ℕ) → length b ≡ length b' → length i ≡ length i' → length l ≡ length l' → length t ≡ length t' → length a ≡ length a' → lent_of b i l t a ≡ lent_of b' i' l' t' a'
lent_same b i l t a b' i' l' t' a' p q r s u = rw (p, q, r, s, u)

-- ## The book's words

module _ (book front : List ℕ) (is : front ≡ words_of book) (passed : bytes_refusal book ≡ None) {A : Type 0} (v : Result A Refusal) (told : refusal_of v ≡ words_refusal front) where
  book_told : book_refusal book ≡ refusal_of v
  book_told = book_on book passed ∙ ap words_refusal (sym is) ∙ sym told

  pub front_runnable : ((i : ℕ) → get_or book i 0 < 256) → (a : A) → v ≡ Ok a → Runnable front
  front_runnable bytes a e = subst Runnable (sym is) (runnable book (all_read Byte book bytes) passed (sym (book_on book passed) ∙ book_told ∙ ap refusal_of e))

  module _ (l : Lent) (ws : List ℕ) (fit : lengths_fit l.bindings l.index l.log l.tables ≡ true) where
    pub front_decided : (a : A) → v ≡ Ok a → (r : Result ℕ Refusal) → Concludes front l r ws → Decided l book r ws
    front_decided a e r c = decided_run l book ws fit (book_told ∙ ap refusal_of e) r (subst (λ (w : List ℕ). Concludes w l r ws) is c)

    pub front_refused : (r : Refusal) → v ≡ Err r → Decided l book (Err r) ws
    front_refused r e = decided_book l book ws fit r (book_told ∙ ap refusal_of e)

-- ## The run

module _ (w : List ℕ) (h : Runnable w) (bindings index log answer : List ℕ) (short : length log ≤ 16384) (index-zero : index ≡ replicate 8192 0) (log-zero : log ≡ replicate (length log) 0) (answer-zero : answer ≡ replicate (length answer) 0)
    (p : Progress) (start : p ≡ start_progress w)
    (a : Ran) (is : a ≡ ran_steps w (step_count w) (record { progress = p; bindings = bindings; log = log; index = index; answer = answer })) (log-size : length a.log ≡ length log) where
  -- all steps, from a fresh execution state and zeroed words
  from_start : a ≡ ran_steps w (step_count w) (record { progress = start_progress w; bindings = bindings; log = replicate (length log) 0; index = replicate 8192 0; answer = replicate (length answer) 0 })
  from_start = is
      ∙ ap (λ (p : Progress). ran_steps w (step_count w) (record { progress = p; bindings = bindings; log = log; index = index; answer = answer })) start
      ∙ ap (λ (l : List ℕ). ran_steps w (step_count w) (record { progress = start_progress w; bindings = bindings; log = l; index = index; answer = answer })) log-zero
      ∙ ap (λ (l : List ℕ). ran_steps w (step_count w) (record { progress = start_progress w; bindings = bindings; log = replicate (length log) 0; index = l; answer = answer })) index-zero
      ∙ ap (λ (l : List ℕ). ran_steps w (step_count w) (record { progress = start_progress w; bindings = bindings; log = replicate (length log) 0; index = replicate 8192 0; answer = l })) answer-zero

  -- by what the run leaves to be read
  module _ (x : RunState) (x_is : x ≡ a.progress.state) (used : List ℕ) (used_is : used ≡ take a.progress.state.used a.log) where
    abbrev left : Progress
    left = record { state = x; done = a.progress.done; at = a.progress.at; lengths = a.progress.lengths }

    pub may_conclude : a.progress.at ≤ 1048576 → RanOn w left used a.answer
    may_conclude at = rw (x_is, used_is) (ran_on w h (length log) (length answer) short bindings a from_start log-size (omega arith))

    concluded_left : (rows : List ℕ) → concluded w left used rows a.answer ≡ concluded w a.progress a.log rows a.answer
    concluded_left rows = rw (x_is, used_is) (concluded_used w a.progress a.log rows a.answer)

    pub book_concludes : length a.answer ≡ length answer → (rows : List ℕ) → length rows ≤ 16384 → (c : Settling) → c ≡ concluded w left used rows a.answer → Concludes w (lent_of bindings index log rows answer) c.outcome c.answer
    book_concludes answer-size rows few c e =
        subst (λ (c : Settling). Concludes w (lent_of bindings index log rows answer) c.outcome c.answer) (sym (e ∙ concluded_left rows))
        (run_concludes w h (length log) (length answer) short bindings (lent_of bindings index log rows answer) refl few refl a from_start answer-size rows refl)

-- what is concluded of some words is so of words that are equal to them
pub concludes_as : (w : List ℕ) (l : Lent) (r : Result ℕ Refusal) {ws us : List ℕ} → us ≡ ws → Concludes w l r ws → Concludes w l r us
concludes_as w l r e = subst (λ (x : List ℕ). Concludes w l r x) (sym e)

-- ## What is left

-- what was decided of words as long as those lent, and the answer that is kept
module _ (l lent : Lent) (book ws : List ℕ) (r : Result ℕ Refusal) (same : l ≡ lent) (d : Decided l book r ws) (left : List ℕ) (kept : left ≡ kept_answer r ws) where
  pub left_permitted : Permitted lent book (outcome_of r left)
  left_permitted = subst (λ (x : List ℕ). Permitted lent book (outcome_of r x)) (sym kept) (permitted lent book ws r (subst (λ (l : Lent). Decided l book r ws) same d))

  pub left_answer : length ws ≡ lent.answer → AnswerLeft r lent.answer left
  left_answer size = subst (AnswerLeft r lent.answer) (sym kept) (answer_left lent book ws r size (subst (λ (l : Lent). Decided l book r ws) same d))
