-- Each refusal comes under its own condition only, in the order of document 01, and a book with no fault is accepted.
use Prim.Native.Nat.{ℕ, suc, ◌+◌, ◌≤◌, ◌<◌}
use mathlib.Core.Path.{◌≡◌, refl, sym, ap, ◌∙◌, subst}
use mathlib.Core.Logic.{◌⊎◌, inl, inr, ◌≢◌, ◌↔◌}
use mathlib.Core.Bool.{Bool, true, false, ◌&&◌}
use Rattle.std.specs.Prelude.{Option, None, Some}
use mathlib.Core.List.{List, []}
use native.Mathlib.Omega.{arith}
use lib.Dec.{eqb, leb}
use borrow.Author.Tests.{ltb-true, lt-ltb, leb-true, leb-false, le-leb, eqb-true, eq-eqb}
use lib.ListN.{length}
use Rattle.model.specs.Basics.{found, ◌else◌, All}
use Rattle.model.specs.Book.Words.{Refusal, unless, Byte, words_of, bytes_refusal}
use Rattle.model.specs.Book.Contents.{count, contents_refusal, step_count, first_step}
use Rattle.model.specs.Book.Read.{body_refusal, bodies_refusal, steps, steps_refusal}
use Rattle.model.specs.Machine.State.{State, stuck}
use Rattle.model.specs.Machine.Functions.{apply}
use Rattle.model.specs.Answer.{answer, row_words}
use Rattle.model.specs.Outcome.{Lent, refused, accepted, lent_refusal, rules_refusal, words_refusal, book_refusal, committed_by, ended, end_refusal, left, committed, refusal, outcome}
use Rattle.model.specs.Claims.Refusals.{LentOk, BytesOk, after, final, InContents, InBody, InRule, InRun, Fault, lengths, bytes, contents, body, rule, unfit, in_run, tables_full, answer_full, AtBody, AtFault, stage_of, within, body_order, Before, Earlier, First, refusal_of, RefusalsExact, AcceptedExact}
use Rattle.model.specs.Laws.Logic.{and_split, and_join, none_some, some_inj, else_none, either, le_cases}
use Rattle.model.specs.Laws.Contents.{contents_ok}
use Rattle.model.proofs.Exact.{Exact, exact_unless, exact_first, fault_cases, of_lengths, of_bytes, of_contents, of_body, of_rule, of_unfit, of_run, of_tables, of_answer}
use Rattle.model.proofs.BodyFaults.{body_exact}
use Rattle.model.proofs.StageFaults.{contents_exact, steps_exact}
use Rattle.model.proofs.RuleFaults.{rules_exact}
use Rattle.model.proofs.RunFaults.{run_exact, run_same}
use Rattle.model.specs.Safety.Instance.{functions_fine}
use Rattle.model.specs.Safety.BookClaims.{own_steps_lem}
use Rattle.model.proofs.Safety.{demand3}

module _ (l : Lent) (book : List ℕ) (is_bytes : All Byte book) where
  abbrev w : List ℕ
  w = words_of book

  abbrev At : Fault → Type 0
  At = AtFault l book

  -- ## Stages

  -- no fault of a stage before n
  abbrev Clears : ℕ → Type 0
  Clears n = (g : Fault) → stage_of g < n → At g → ⊥

  -- what a stage draws is the first of its faults
  record Stage (n : ℕ) (o : Option Refusal) : Type 0 where
    clear : o ≡ None → (g : Fault) → stage_of g ≡ n → At g → ⊥
    first : (r : Refusal) → o ≡ Some r → (f : Fault) × (stage_of f ≡ n) × At f × (refusal_of book f ≡ r) × ((g : Fault) → stage_of g ≡ n → Before (within g) (within f) → At g → ⊥)

  -- by its own kind of fault
  module _ (n : ℕ) (A : Type 0) (make : A → Fault) (is_stage : (a : A) → stage_of (make a) ≡ n) (view : (P : Fault → Type 0) → ((a : A) → P (make a)) → (g : Fault) → stage_of g ≡ n → P g) where
    stage : (o : Option Refusal) → Exact A (λ a. within (make a)) (λ a. At (make a)) (λ a. refusal_of book (make a)) o → Stage n o
    stage o e = record {
      clear = λ q. view (λ g. At g → ⊥) (e.clear q);
      first = λ r q. let d = e.first r q in (make d.0, is_stage d.0, d.1, d.2, view (λ g. Before (within g) (within (make d.0)) → At g → ⊥) d.3);
    }

  -- the chain of refusals so far: drawn for the first fault of all, or for none
  record Chain (o : Option Refusal) : Type 0 where
    none_at : o ≡ None → (g : Fault) → At g → ⊥
    some_at : (r : Refusal) → o ≡ Some r → (f : Fault) × First l book f × (refusal_of book f ≡ r)

  -- one stage, and what comes after it
  chain : (n : ℕ) (o : Option Refusal) (k : Unit {0} → Option Refusal) → Clears n → Stage n o → (o ≡ None → Clears (suc n) → Chain (k tt)) → Chain (o else k)
  chain n o k c s h = by o refl
    where
      clears : o ≡ None → Clears (suc n)
      clears e g b = either (λ q. c g q) (λ q. s.clear e g q) (le_cases b)

      by : (x : Option Refusal) → o ≡ x → Chain (x else k)
      by None e = h e (clears e)
      by (Some r) e = record { none_at = λ q. absurd (none_some (sym q)); some_at = λ r' q. of r' (some_inj q) (s.first r e) }
        where
          of : (r' : Refusal) → r ≡ r' → (f : Fault) × (stage_of f ≡ n) × At f × (refusal_of book f ≡ r) × ((g : Fault) → stage_of g ≡ n → Before (within g) (within f) → At g → ⊥)
              → (f : Fault) × First l book f × (refusal_of book f ≡ r')
          of r' q d = (d.0, record { fault = d.2; before = λ g b. either (λ x. c g (omega (arith, x, d.1))) (λ x. d.4 g (x.0 ∙ d.1) x.1) b }, d.3 ∙ q)

  below_9 : (g : Fault) → stage_of g < 9
  below_9 lengths = omega arith
  below_9 bytes = omega arith
  below_9 (contents c) = omega arith
  below_9 (body i c) = omega arith
  below_9 (rule r j c) = omega arith
  below_9 (unfit k) = omega arith
  below_9 (in_run k c) = omega arith
  below_9 tables_full = omega arith
  below_9 answer_full = omega arith

  -- ## The nine stages

  lengths_stage : Stage 0 (lent_refusal l)
  lengths_stage = stage 0 (Unit {0}) (λ _. lengths) (λ _. refl) (λ P h. of_lengths P (h tt)) (lent_refusal l)
      (exact_unless (LentOk l) (eqb l.bindings 8192 && eqb l.index 8192 && leb l.log 16384 && leb l.tables 16384) 14 0
      (λ e. let a = and_split _ _ e in let b = and_split _ _ a.0 in let c = and_split _ _ b.0 in
      record { bindings = eqb-true _ _ c.0; index = eqb-true _ _ c.1; log = leb-true _ _ b.1; tables = leb-true _ _ a.1 })
      (λ o. and_join (and_join (and_join (eq-eqb _ _ o.bindings) (eq-eqb _ _ o.index)) (le-leb _ _ o.log)) (le-leb _ _ o.tables)))

  bytes_stage : Stage 1 (bytes_refusal book)
  bytes_stage = stage 1 (Unit {0}) (λ _. bytes) (λ _. refl) (λ P h. of_bytes P (h tt)) (bytes_refusal book)
      (exact_unless (BytesOk book) _ 1 0
      (λ e. let a = and_split _ _ e in let b = and_split _ _ a.0 in
      record { one = ltb-true _ _ b.0; most = leb-true _ _ b.1; fours = eqb-true _ _ a.1 })
      (λ o. and_join (and_join (lt-ltb _ _ o.one) (le-leb _ _ o.most)) (eq-eqb _ _ o.fours)))

  contents_stage : Stage 2 (contents_refusal w)
  contents_stage = stage 2 InContents contents (λ _. refl) of_contents (contents_refusal w) (contents_exact w)

  bodies_stage : contents_refusal w ≡ None → Stage 3 (bodies_refusal w)
  unfolding bodies_refusal
  bodies_stage e = stage 3 (ℕ × InBody) (λ p. body p.0 p.1) (λ _. refl) (λ P h. of_body P (λ i c. h (i, c))) (bodies_refusal w)
      (exact_first InBody body_order (AtBody w) (λ i c. refusal_of book (body i c)) (body_refusal w) (count w) (λ i h. body_exact w (contents_ok w e) i h))

  rules_stage : Stage 4 (rules_refusal w)
  rules_stage = stage 4 (ℕ × (ℕ × InRule)) (λ p. rule p.0 p.1.0 p.1.1) (λ _. refl) (λ P h. of_rule P (λ r j c. h (r, (j, c)))) (rules_refusal w)
      (rules_exact w)

  steps_stage : Stage 5 (steps_refusal w)
  steps_stage = stage 5 ℕ unfit (λ _. refl) of_unfit (steps_refusal w) (steps_exact w)

  -- after the reading
  module _ (unrefused : book_refusal book ≡ None) where
    unstuck : (after w (step_count w)).status ≢ stuck
    unfolding after
    unstuck = (demand3 book is_bytes unrefused (λ o call. apply) (λ o call f args v c e. functions_fine f args v c e) (λ _. true) (steps w) (own_steps_lem book is_bytes unrefused) (step_count w)).never_stuck

    run_stage : Stage 6 (ended (left l book).status (first_step w + length (left l book).answers))
    run_stage = stage 6 (ℕ × InRun) (λ p. in_run p.0 p.1) (λ _. refl) (λ P h. of_run P (λ k c. h (k, c))) _ (run_exact l w unstuck)

    -- after the run
    module _ (ran_on : ended (left l book).status (first_step w + length (left l book).answers) ≡ None) where
      same : left l book ≡ after w (step_count w)
      same = run_same l w unstuck ran_on

      -- a length against what is lent
      size_stage : (n m a b : ℕ) (f : Fault) → stage_of f ≡ n → ((P : Fault → Type 0) → P f → (g : Fault) → stage_of g ≡ n → P g) → (At f → b < a) → (b < a → At f) → within f ≡ [] → refusal_of book f ≡ record { number = m; place = 0 }
          → Stage n (unless (leb a b) m 0)
      size_stage n m a b f e view there back inner r = record {
        clear = λ q. view (λ g. At g → ⊥) (λ v. ex.clear q tt (λ h. omega (arith, h, there v)));
        first = λ r' q. let d = ex.first r' q in (f, e, back (not_le d.1), r ∙ d.2, view (λ g. Before (within g) (within f) → At g → ⊥) (λ h. absurd (subst (λ (x : List ℕ). Before x x → ⊥) (sym inner) (λ z. z) h)));
      }
        where
          ex : Exact (Unit {0}) (λ _. []) (λ _. a ≤ b → ⊥) (λ _. record { number = m; place = 0 }) (unless (leb a b) m 0)
          ex = exact_unless (a ≤ b) (leb a b) m 0 (λ q. leb-true a b q) (λ h. le-leb a b h)

          not_le : (a ≤ b → ⊥) → b < a
          not_le h = by (leb a b) refl
            where
              by : (x : Bool) → leb a b ≡ x → b < a
              by true q = absurd (h (leb-true a b q))
              by false q = leb-false a b q

      tables_stage : Stage 7 (unless (leb (row_words (committed l book)) l.tables) 15 0)
      tables_stage = subst (λ (s : State). Stage 7 (unless (leb (row_words (committed_by w s)) l.tables) 15 0)) (sym same)
          (size_stage 7 15 (row_words (final w)) l.tables tables_full refl of_tables (λ v. v) (λ v. v) refl refl)

      answer_stage : Stage 8 (unless (leb (length (answer (committed l book) (left l book))) l.answer) 16 0)
      answer_stage = subst (λ (s : State). Stage 8 (unless (leb (length (answer (committed_by w s) s)) l.answer) 16 0)) (sym same)
          (size_stage 8 16 (length (answer (final w) (after w (step_count w)))) l.answer answer_full refl of_answer (λ v. v) (λ v. v) refl refl)

  -- ## All of them

  flatten : (a b c d e : Option Refusal) (k : Unit {0} → Option Refusal) → ((a else λ _. b else λ _. c else λ _. d else λ _. e) else k) ≡ (a else λ _. b else λ _. c else λ _. d else λ _. e else k)
  flatten (Some r) b c d e k = refl
  flatten None (Some r) c d e k = refl
  flatten None None (Some r) d e k = refl
  flatten None None None (Some r) e k = refl
  flatten None None None None e k = refl

  last : (o : Option Refusal) → (o else λ _. None) ≡ o
  last None = refl
  last (Some r) = refl

  -- the run, 15 and 16
  concluded : book_refusal book ≡ None → Clears 6 → Chain (end_refusal l (first_step w) (committed l book) (left l book))
  unfolding end_refusal
  concluded u c6 =
      chain 6 _ _ c6 (run_stage u) (λ e6 c7.
      chain 7 _ _ c7 (tables_stage u e6) (λ e7 c8.
      subst Chain (last _) (chain 8 _ (λ _. None) c8 (answer_stage u e6) (λ e8 c9. record { none_at = λ _ g. c9 g (below_9 g); some_at = λ r q. absurd (none_some q) }))))

  whole : Chain (refusal l book)
  unfolding refusal book_refusal words_refusal
  whole =
      chain 0 (lent_refusal l) _ (λ g b. absurd (omega arith)) lengths_stage (λ e0 c1.
      subst Chain (sym (flatten (bytes_refusal book) (contents_refusal w) (bodies_refusal w) (rules_refusal w) (steps_refusal w) _))
      (chain 1 (bytes_refusal book) _ c1 bytes_stage (λ e1 c2.
      chain 2 (contents_refusal w) _ c2 contents_stage (λ e2 c3.
      chain 3 (bodies_refusal w) _ c3 (bodies_stage e2) (λ e3 c4.
      chain 4 (rules_refusal w) _ c4 rules_stage (λ e4 c5.
      chain 5 (steps_refusal w) _ c5 steps_stage (λ e5. concluded (rw (e1, e2, e3, e4, e5)))))))))

  -- what was refused
  refused_is : (r : Refusal) → outcome l book ≡ refused r → refusal l book ≡ Some r
  unfolding outcome
  refused_is r e = by (refusal l book) e
    where
      by : (o : Option Refusal) → found o refused (λ _. accepted (answer (committed l book) (left l book))) ≡ refused r → o ≡ Some r
      by None q = let z : ◌≡◌ {A = ℕ} 0 1 = cc in absurd (omega arith)
      by (Some r') q = let z : r' ≡ r = cc in ap Some z

  is_refused : (r : Refusal) → refusal l book ≡ Some r → outcome l book ≡ refused r
  unfolding outcome
  is_refused r e = rw e

  -- the first fault is only one
  only_first : (f g : Fault) → First l book f → First l book g → f ≡ g
  only_first f g a b = of (fault_cases f g)
    where
      of : (Earlier f g ⊎ Earlier g f) ⊎ (f ≡ g) → f ≡ g
      of (inl (inl e)) = absurd (b.before f e a.fault)
      of (inl (inr e)) = absurd (a.before g e b.fault)
      of (inr e) = e

  exact : (r : Refusal) → (outcome l book ≡ refused r) ↔ ((f : Fault) × First l book f × (refusal_of book f ≡ r))
  exact r = ((λ e. whole.some_at r (refused_is r e)), λ p. is_refused r (by (refusal l book) refl p))
    where
      by : (o : Option Refusal) → refusal l book ≡ o → (f : Fault) × First l book f × (refusal_of book f ≡ r) → refusal l book ≡ Some r
      by None e p = absurd (whole.none_at e p.0 p.1.fault)
      by (Some r') e p =
          let q = whole.some_at r' e in
          e ∙ ap Some (sym q.2 ∙ ap (refusal_of book) (only_first q.0 p.0 q.1 p.1) ∙ p.2)

  -- no fault, no refusal, and the log without end
  faultless : ((f : Fault) → At f → ⊥) → refusal l book ≡ None
  faultless h = by (refusal l book) refl
    where
      by : (o : Option Refusal) → refusal l book ≡ o → refusal l book ≡ None
      by None e = e
      by (Some r) e = let q = whole.some_at r e in absurd (h q.0 q.1.fault)

  accepts : ((f : Fault) → At f → ⊥) → outcome l book ≡ accepted (answer (final w) (after w (step_count w)))
  unfolding outcome refusal end_refusal
  accepts h =
      let e = faultless h in
      let u = unread e in
      let s = same u.0 u.1 in
      rw e (ap (λ (s : State). accepted (answer (committed_by w s) s)) s)
    where
      unread : refusal l book ≡ None → (book_refusal book ≡ None) × (ended (left l book).status (first_step w + length (left l book).answers) ≡ None)
      unread e =
          let a = else_none (lent_refusal l) _ e in
          let b = else_none (book_refusal book) _ a.1 in
          (b.0, (else_none (ended (left l book).status (first_step w + length (left l book).answers)) _ b.1).0)

pub refusals_exact : RefusalsExact
refusals_exact l book is_bytes r = exact l book is_bytes r

pub accepted_exact : AcceptedExact
accepted_exact l book is_bytes h = accepts l book is_bytes h
