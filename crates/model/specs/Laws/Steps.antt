-- Refusal 11 with no test.
use Rattle.std.specs.Prelude.{ℕ, zero, suc, ◌+◌, ◌<◌, ◌≡◌, refl, true, not, ◌||◌, List, eqb, ltb, length, None}
use Rattle.std.proofs.Common.{arith, ltb-true, eqb-true, lt-ltb, eq-eqb}
use Rattle.std.proofs.lemmas.Bool.{not-false}
use Rattle.model.specs.Basics.{least}
use Rattle.model.specs.Book.Syntax.{Table, Rule, Step, batch, prediction}
use Rattle.model.specs.Book.Contents.{step_count, first_step}
use Rattle.model.specs.Book.Read.{tables, rules, step, step_fits, steps_refusal}
use Rattle.model.specs.Claims.Refusals.{StepFits}
use Rattle.model.specs.Laws.Logic.{and_split, and_join, or_cases, seq_none, either}
use Rattle.model.specs.Laws.Lists.{least_none}

module _ (ts : List Table) (rs : List Rule) where
  pub step_true : (s : Step) → step_fits ts rs s ≡ true → StepFits ts rs s
  step_true (batch r lanes columns) e =
      let p = and_split _ _ e in
      (eqb-true _ _ p.0, λ z. either (λ q. absurd (omega (arith, ltb-true 0 (length columns) q))) (λ q. eqb-true lanes 0 q) (or_cases (ltb 0 (length columns)) (eqb lanes 0) p.1))
  step_true (prediction t key vs) e = let p = and_split _ _ e in (eqb-true _ _ p.0, eqb-true _ _ p.1)

  pub true_step : (s : Step) → StepFits ts rs s → step_fits ts rs s ≡ true
  true_step (batch r lanes columns) p = and_join (eq-eqb _ _ p.0) (none_or (length columns) lanes p.1)
    where
      none_or : (n lanes : ℕ) → (n ≡ 0 → lanes ≡ 0) → ltb 0 n || eqb lanes 0 ≡ true
      none_or zero lanes h = rw (h refl)
      none_or (suc n) lanes h = rw (lt-ltb 0 (suc n) (omega arith))
  true_step (prediction t key vs) p = and_join (eq-eqb _ _ p.0) (eq-eqb _ _ p.1)

pub steps_ok : (w : List ℕ) → steps_refusal w ≡ None → (k : ℕ) → k < step_count w → StepFits (tables w) (rules w) (step w k)
unfolding steps_refusal
steps_ok w e k h =
    step_true (tables w) (rules w) (step w k)
    (not-false _ (least_none (λ k. not (step_fits (tables w) (rules w) (step w k))) (step_count w) (seq_none (least (λ k. not (step_fits (tables w) (rules w) (step w k))) (step_count w)) (λ k. record { number = 11; place = first_step w + k }) _ e).0 k h))
