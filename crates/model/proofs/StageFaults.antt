-- Refusals 2 and 11 are exact.
use Prim.Native.Nat.{ℕ, ◌+◌, ◌<◌}
use mathlib.Core.Path.{◌≡◌, sym, ◌∙◌}
use mathlib.Core.Logic.{◌⊎◌, inl, inr}
use mathlib.Core.Bool.{Bool, true, false, not, true≢false}
use Rattle.std.specs.Prelude.{None, Some}
use mathlib.Core.List.{List, [], ◌∷◌}
use native.Mathlib.Omega.{arith}
use lib.Dec.{eqb}
use borrow.Author.Tests.{eqb-true, eq-eqb, not-true, not-false}
use lib.ListN.{length}
use Rattle.model.specs.Basics.{found, least}
use Rattle.model.specs.Book.Words.{Refusal, unless}
use Rattle.model.specs.Book.Contents.{count, begins, entry_fits, count_fits, contents_refusal, step_count, first_step}
use Rattle.model.specs.Book.Read.{tables, rules, step, step_fits, steps_refusal}
use Rattle.model.specs.Claims.Refusals.{CountOk, EntryOk, EndOk, StepFits, InContents, counting, ending, entry, AtContents, place_of, contents, contents_order, Before}
use Rattle.model.specs.Laws.Logic.{none_some, seq_none, seq_some, else_none, else_some, either}
use Rattle.model.specs.Laws.Lists.{Least, least_none, least_some}
use Rattle.model.specs.Laws.Contents.{count_ok, ok_count, entry_ok, ok_entry}
use Rattle.model.specs.Laws.Steps.{step_true, true_step}
use Rattle.model.proofs.Exact.{Exact, exact_unless}

-- the least number that a test finds
pub exact_least : (p : ℕ → Bool) (n : ℕ) (At : ℕ → Type 0) (says : ℕ → Refusal) → ((k : ℕ) → p k ≡ true → At k) → ((k : ℕ) → At k → p k ≡ false → ⊥)
    → Exact ℕ (λ k. k ∷ []) (λ k. (k < n) × At k) says (found (least p n) (λ k. Some (says k)) (λ _. None))
exact_least p n At says yes' no' = record {
  clear = λ e k a. no' k a.1 (least_none p n (seq_none (least p n) says (λ _. None) e).0 k a.0);
  first = λ r e. of r (seq_some (least p n) says (λ _. None) r e);
}
  where
    at : (k : ℕ) → Least p n k → (r : Refusal) → says k ≡ r → (k : ℕ) × ((k < n) × At k) × (says k ≡ r) × ((j : ℕ) → Before (j ∷ []) (k ∷ []) → (j < n) × At j → ⊥)
    at k t r e = (k, (t.below, yes' k t.here), e, λ j b a. either (λ l. no' j a.1 (t.before j l)) (λ l. l.1) b)

    of : (r : Refusal) → ((k : ℕ) × (least p n ≡ Some k) × (says k ≡ r)) ⊎ ((least p n ≡ None) × (None ≡ Some r)) → (k : ℕ) × ((k < n) × At k) × (says k ≡ r) × ((j : ℕ) → Before (j ∷ []) (k ∷ []) → (j < n) × At j → ⊥)
    of r (inl q) = at q.0 (least_some p n q.0 q.1) r q.2
    of r (inr q) = absurd (none_some q.1)

module _ (w : List ℕ) where
  -- ## 2

  abbrev says_contents : InContents → Refusal
  says_contents c = record { number = 2; place = place_of w (contents c) }

  pub contents_exact : Exact InContents contents_order (AtContents w) says_contents (contents_refusal w)
  unfolding contents_refusal
  contents_exact = record { clear = λ e c v. none_at e c v; first = λ r e. of r (else_some (unless (count_fits w) 2 0) _ r e) }
    where
      counted : Exact (Unit {0}) (λ _. []) (λ _. CountOk w → ⊥) (λ _. record { number = 2; place = 0 }) (unless (count_fits w) 2 0)
      counted = exact_unless (CountOk w) (count_fits w) 2 0 (count_ok w) (ok_count w)

      ended : Exact (Unit {0}) (λ _. []) (λ _. EndOk w → ⊥) (λ _. record { number = 2; place = 0 }) (unless (eqb (begins w (count w)) (length w)) 2 0)
      ended = exact_unless (EndOk w) (eqb (begins w (count w)) (length w)) 2 0 (λ e. eqb-true _ _ e) (λ e. eq-eqb _ _ e)

      entries_clear : least (λ i. not (entry_fits w i)) (count w) ≡ None → (i : ℕ) → (i < count w) × (EntryOk w i → ⊥) → ⊥
      entries_clear e i v = v.1 (entry_ok w i (not-false _ (least_none (λ i. not (entry_fits w i)) (count w) e i v.0)))

      none_at : contents_refusal w ≡ None → (c : InContents) → AtContents w c → ⊥
      none_at e counting v = counted.clear (else_none (unless (count_fits w) 2 0) _ e).0 tt v
      none_at e (entry i) v = entries_clear (seq_none (least (λ i. not (entry_fits w i)) (count w)) _ _ (else_none (unless (count_fits w) 2 0) _ e).1).0 i v
      none_at e ending v = ended.clear (seq_none (least (λ i. not (entry_fits w i)) (count w)) _ _ (else_none (unless (count_fits w) 2 0) _ e).1).1 tt v

      Found : Refusal → Type 0
      Found r = (c : InContents) × AtContents w c × (says_contents c ≡ r) × ((d : InContents) → Before (contents_order d) (contents_order c) → AtContents w d → ⊥)

      of : (r : Refusal) → (unless (count_fits w) 2 0 ≡ Some r) ⊎ ((unless (count_fits w) 2 0 ≡ None)
          × (found (least (λ i. not (entry_fits w i)) (count w)) (λ i. Some (record { number = 2; place = i })) (λ _. unless (eqb (begins w (count w)) (length w)) 2 0) ≡ Some r)) → Found r
      of r (inl e) = let a = counted.first r e in (counting, a.1, a.2, before)
        where
          before : (d : InContents) → Before (contents_order d) (0 ∷ []) → AtContents w d → ⊥
          before counting b v = either (λ l. omega arith) (λ l. l.1) b
          before (entry i) b v = either (λ l. omega arith) (λ l. omega (arith, l.0)) b
          before ending b v = either (λ l. omega arith) (λ l. omega (arith, l.0)) b
      of r (inr (n, e)) = rest (seq_some (least (λ i. not (entry_fits w i)) (count w)) (λ i. record { number = 2; place = i }) _ r e)
        where
          at_entry : (i : ℕ) → Least (λ i. not (entry_fits w i)) (count w) i → record { number = 2; place = i } ≡ r → Found r
          at_entry i t q = (entry i, (t.below, λ o. true≢false (sym (ok_entry w i o) ∙ not-true _ t.here)), q, before)
            where
              before : (d : InContents) → Before (contents_order d) (1 ∷ i ∷ []) → AtContents w d → ⊥
              before counting b v = counted.clear n tt v
              before (entry j) (inl l) v = absurd (omega arith)
              before (entry j) (inr (z, inl l)) v = v.1 (entry_ok w j (not-false _ (t.before j l)))
              before (entry j) (inr (z, inr l)) v = l.1
              before ending b v = either (λ l. omega arith) (λ l. omega (arith, l.0)) b

          rest : ((i : ℕ) × (least (λ i. not (entry_fits w i)) (count w) ≡ Some i) × (record { number = 2; place = i } ≡ r)) ⊎ ((least (λ i. not (entry_fits w i)) (count w) ≡ None) × (unless (eqb (begins w (count w)) (length w)) 2 0 ≡ Some r)) → Found r
          rest (inl q) = at_entry q.0 (least_some (λ i. not (entry_fits w i)) (count w) q.0 q.1) q.2
          rest (inr q) = let a = ended.first r q.1 in (ending, a.1, a.2, before)
            where
              before : (d : InContents) → Before (contents_order d) (2 ∷ []) → AtContents w d → ⊥
              before counting b v = counted.clear n tt v
              before (entry j) b v = entries_clear q.0 j v
              before ending b v = either (λ l. omega arith) (λ l. l.1) b

  -- ## 11

  pub steps_exact : Exact ℕ (λ k. k ∷ []) (λ k. (k < step_count w) × (StepFits (tables w) (rules w) (step w k) → ⊥)) (λ k. record { number = 11; place = first_step w + k }) (steps_refusal w)
  unfolding steps_refusal
  steps_exact =
      exact_least (λ k. not (step_fits (tables w) (rules w) (step w k))) (step_count w) (λ k. StepFits (tables w) (rules w) (step w k) → ⊥) (λ k. record { number = 11; place = first_step w + k })
      (λ k e f. true≢false (sym (true_step (tables w) (rules w) (step w k) f) ∙ not-true _ e)) (λ k v e. v (step_true (tables w) (rules w) (step w k) (not-false _ e)))
