-- Refusal 11, step by step.
use Rattle.std.specs.Prelude.{ℕ, ◌+◌, ◌*◌, ◌<◌, ◌≤◌, ◌≡◌, true, false, ◌&&◌, ◌||◌, List, eqb, ltb, length, None, Some}
use Rattle.std.proofs.Math.Path.{sym}
use Rattle.std.proofs.Common.{ap, ◌∙◌, arith}
use Rattle.std.proofs.Math.Bool.{not}
use Rattle.std.proofs.Math.ListN.{get_or}
use Rattle.model.specs.Book.Contents.{kind_of, first_of, table_count, rule_count, step_count, first_step}
use Rattle.model.specs.Book.Decode.{part, write_at, read_rule, read_batch, read_prediction, read_step}
use Rattle.model.specs.Book.Read.{tables, rules, step, step_fits, steps_refusal}
use Rattle.model.specs.Outcome.{rule_first}
use Rattle.model.specs.Laws.Logic.{either}
use Rattle.model.specs.Laws.Lists.{none_least, some_least, length_tab}
use Rattle.model.specs.Laws.Bodies.{length_part}
use Rattle.model.specs.Laws.Book.{Readable, keys_of, width_of}
use Rattle.model.specs.Laws.Kinds.{step_inside, step_kind_lem, batch_read, prediction_read}
use Rattle.model.specs.Laws.Book.{rule_is, table_keys, table_width}

module _ (w : List ℕ) (h : Readable w) (at : ℕ) where
  pub batch_test : get_or w at 0 < rule_count w
      → step_fits (tables w) (rules w) (read_batch w at) ≡ (eqb (get_or w (at + 2) 0) (get_or w (rule_first w (get_or w at 0)) 0) && (ltb 0 (get_or w (at + 2) 0) || eqb (get_or w (at + 1) 0) 0))
  unfolding read_batch read_rule
  batch_test l = rw (length_tab (λ c. part w (at + 3 + c * get_or w (at + 1) 0) (get_or w (at + 1) 0)) (get_or w (at + 2) 0), rule_is w (get_or w at 0) l)

  pub prediction_test : get_or w at 0 < table_count w → at + 2 + get_or w (at + 1) 0 ≤ length w
      → step_fits (tables w) (rules w) (read_prediction w at) ≡ (eqb (get_or w (at + 1) 0) (keys_of w (get_or w at 0)) && eqb (get_or w (at + 1) 0 + get_or w (at + 2 + get_or w (at + 1) 0) 0) (width_of w (get_or w at 0)))
  unfolding read_prediction
  prediction_test l m =
      let q = at + 2 + get_or w (at + 1) 0 in
      rw (length_part w (at + 2) (get_or w (at + 1) 0) m, length_tab (λ k. write_at w (q + 1 + 2 * k)) (get_or w q 0), table_width w (get_or w at 0) l, table_keys w (get_or w at 0) l)

-- step k, whose entry is e and whose body begins at `at`
module _ (w : List ℕ) (h : Readable w) (k e at : ℕ) (l : k < step_count w) (is : e ≡ first_step w + k) (begins : at ≡ first_of w e) where
  place : at ≡ first_of w (first_step w + k)
  place = begins ∙ ap (first_of w) is

  pub batch_here : kind_of w e ≡ 4 → (at ≤ 16384) × (get_or w at 0 < rule_count w)
  batch_here q =
      let s = step_inside w h.contents h.bodies k l in
      rw place (omega (arith, s.order, s.within, h.most), (batch_read w h.contents h.bodies k l (rw is at q)).rule)

  pub step_batch : kind_of w e ≡ 4 → read_batch w at ≡ step w k
  unfolding read_step
  step_batch q = rw (place, ← is, q)

  pub not_batch : (kind_of w e ≡ 4 → ⊥) → kind_of w e ≡ 5
  not_batch n = rw is (either (λ q. absurd (n (rw is q))) (λ q. q) (step_kind_lem w h.contents h.bodies k l))

  pub prediction_here : kind_of w e ≡ 5 → (at ≤ 16384) × (get_or w at 0 < table_count w) × (at + 2 + get_or w (at + 1) 0 ≤ length w)
  prediction_here q =
      let s = step_inside w h.contents h.bodies k l in
      let p = prediction_read w h.contents h.bodies k l (rw is at q) in
      rw place (omega (arith, s.order, s.within, h.most), p.table, omega (arith, p.fills, s.within))

  pub step_prediction : kind_of w e ≡ 5 → read_prediction w at ≡ step w k
  unfolding read_step
  step_prediction q = rw (place, ← is, q)

module _ (w : List ℕ) where
  pub steps_stop : (k : ℕ) → k < step_count w → ((i : ℕ) → i < k → step_fits (tables w) (rules w) (step w i) ≡ true) → step_fits (tables w) (rules w) (step w k) ≡ false → Some (record { number = 11; place = first_step w + k }) ≡ steps_refusal w
  unfolding steps_refusal
  steps_stop k l before here = sym (rw (some_least (λ k. not (step_fits (tables w) (rules w) (step w k))) (step_count w) k (record { below = l; here = rw here; before = λ j m. rw (before j m) })))

  pub steps_end : ((k : ℕ) → k < step_count w → step_fits (tables w) (rules w) (step w k) ≡ true) → None ≡ steps_refusal w
  unfolding steps_refusal
  steps_end h = sym (rw (none_least (λ k. not (step_fits (tables w) (rules w) (step w k))) (step_count w) (λ k l. rw (h k l))))
