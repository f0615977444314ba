-- The whole reading: a book that draws none of 2, 3, 6, 4, 5 and 11 reads to what demand 3 supposes.
use Prim.Native.Nat.{ℕ, zero, suc, ◌+◌, ◌*◌, ◌<◌, ◌≤◌}
use Rattle.std.specs.Prelude.{◌≡◌, ◌≢◌, List, None, Some, slice_get}
use Rattle.std.proofs.Common.{sym, ◌∙◌, arith}
use Rattle.std.proofs.Math.Path.{subst}
use Rattle.std.proofs.Math.ListN.{length, get_or}
use Rattle.model.specs.Basics.{All}
use Rattle.model.specs.Book.Syntax.{stale, Clean, Instr, Rule}
use Rattle.model.specs.Book.Contents.{count, kind_of, first_of, end_of, contents_refusal, table_count, counter_count, rule_count, step_count, first_rule, first_step}
use Rattle.model.specs.Book.Scan.{fine, Sizes, tag, tagged}
use Rattle.model.specs.Book.Decode.{write_of, write_at, read_table, read_counter, read_rule, read_batch, read_prediction, read_step}
use Rattle.model.specs.Book.Read.{drew3, drew6, drew4, repeated, rows_refusal, sizes, walk, body_refusal, bodies_refusal, tables, counters, rules, step, steps, steps_refusal}
use Rattle.model.specs.Claims.Refusals.{StepFits}
use Rattle.model.specs.Laws.Logic.{seq_none, either}
use Rattle.model.specs.Laws.Lists.{first_some_none, all_tab, length_tab}
use Rattle.model.specs.Laws.Steps.{steps_ok}
use Rattle.model.specs.Laws.Contents.{Inside}
use Rattle.model.specs.Laws.Kinds.{ok, table_kind, table_read, counter_read, rule_read, step_inside, step_kind_lem, batch_read, prediction_read}
use Rattle.model.specs.Laws.Scan.{clean_fine, BatchWords, PredictionWords}
use Rattle.model.specs.Check.{reads_of}
use Rattle.model.specs.Claims.Demand3.{Given, StepOk}
use Rattle.model.specs.Laws.Supposed.{TableOk, CleanConst, CounterOk}
use Rattle.model.specs.Laws.Bodies.{all_part, length_part, row_fits, not_stale, tag_fine, table_ok, rule_consts}

module _ (w : List ℕ) (words : (p : ℕ) → get_or w p 0 < 4294967296) (no_contents : contents_refusal w ≡ None) (no_bodies : bodies_refusal w ≡ None) where
  abbrev z : Sizes
  z = sizes w

  rows_clear : (i : ℕ) → i < count w → kind_of w i ≡ 1 → repeated (read_table w (first_of w i)) ≡ None
  unfolding body_refusal bodies_refusal
  rows_clear i h k =
      let a = seq_none (drew3 i (walk w i)) (λ x. x) _ (first_some_none (body_refusal w) (count w) no_bodies i h) in
      let b = seq_none (drew6 (walk w i)) (λ x. x) _ a.1 in
      let c = seq_none (drew4 (walk w i)) (λ x. x) _ b.1 in
      let d : rows_refusal w (first_of w i) ≡ None = rw k at c.1 in
      (seq_none (repeated (read_table w (first_of w i))) _ _ d).0

  table_at_lem : (t : ℕ) → t < table_count w → TableOk (read_table w (first_of w t))
  table_at_lem t l =
      let p = table_kind w no_contents no_bodies t l in
      let r = table_read w no_contents no_bodies t l in
      table_ok z w (end_of w t) words r.0.within (first_of w t) r.1 (rows_clear t p.0 p.1)

  pub tables_ok : All TableOk (tables w)
  unfolding tables
  tables_ok = all_tab TableOk (λ t. read_table w (first_of w t)) (table_count w) table_at_lem

  counter_at : (c : ℕ) → c < counter_count w → CounterOk (read_counter w (first_of w (table_count w + c)))
  unfolding read_counter
  counter_at c l = omega (arith, (counter_read w no_contents no_bodies c l).1.clean, words (first_of w (table_count w + c)))

  pub counters_ok : All CounterOk (counters w)
  unfolding counters
  counters_ok = all_tab CounterOk (λ c. read_counter w (first_of w (table_count w + c))) (counter_count w) counter_at

  abbrev Consts : Rule → Type 0
  Consts r = (j : ℕ) (ins : Instr) → slice_get r.instrs j ≡ Some ins → All CleanConst (reads_of ins)

  pub rule_at_lem : (r : ℕ) → r < rule_count w → Consts (read_rule w (first_of w (first_rule w + r)))
  rule_at_lem r l =
      let p = rule_read w no_contents no_bodies r l in
      rule_consts z w (end_of w (first_rule w + r)) words p.0.within (first_of w (first_rule w + r)) p.1

  pub rules_ok : All Consts (rules w)
  unfolding rules
  rules_ok = all_tab Consts (λ r. read_rule w (first_of w (first_rule w + r))) (rule_count w) rule_at_lem

  -- ## Steps

  module _ (no_steps : steps_refusal w ≡ None) where
    rule_number : length (rules w) ≡ rule_count w
    unfolding rules
    rule_number = length_tab _ (rule_count w)

    table_number : length (tables w) ≡ table_count w
    unfolding tables
    table_number = length_tab _ (table_count w)

    batch_ok : (end at : ℕ) → end ≤ length w → BatchWords z w end at → StepFits (tables w) (rules w) (read_batch w at) → StepOk (tables w) (rules w) (read_batch w at)
    unfolding read_batch
    batch_ok end at l b f = record {
      rule = omega (arith, b.rule, rule_number);
      count = f.0;
      sized = all_tab (λ c. length c ≡ get_or w (at + 1) 0) _ (get_or w (at + 2) 0) (λ c h. length_part w _ _ (fits c h));
      clean = all_tab (All Clean) _ (get_or w (at + 2) 0) (λ c h. all_part Clean w _ _ (fits c h) (λ k q. not_stale z w end words l _ (subst (λ (p : ℕ). get_or w p 0 ≢ stale) (omega arith) (b.clean (c * get_or w (at + 1) 0 + k) (omega (arith, row_fits c (get_or w (at + 2) 0) (get_or w (at + 1) 0) h))))));
      none = λ e. f.1 (f.0 ∙ e);
    }
      where
        fits : (c : ℕ) → c < get_or w (at + 2) 0 → at + 3 + c * get_or w (at + 1) 0 + get_or w (at + 1) 0 ≤ length w
        fits c h = omega (arith, row_fits c (get_or w (at + 2) 0) (get_or w (at + 1) 0) h, b.fills)

    given_at : (end : ℕ) → end ≤ length w → (t q : ℕ) → tag 1 2 t ≡ fine → tagged z t (get_or w q 0) ≡ fine → Given (write_of t (get_or w q 0))
    given_at end l zero q a b = absurd (omega (arith, (tag_fine 1 2 0 a).0))
    given_at end l (suc zero) q a b = not_stale z w end words l q (clean_fine _ b)
    given_at end l (suc (suc zero)) q a b = tt
    given_at end l (suc (suc (suc t))) q a b = absurd (omega (arith, (tag_fine 1 2 (suc (suc (suc t))) a).1))

    prediction_ok : (end at : ℕ) → end ≤ length w → PredictionWords z w end at → StepFits (tables w) (rules w) (read_prediction w at) → StepOk (tables w) (rules w) (read_prediction w at)
    unfolding read_prediction
    prediction_ok end at l b f = record {
      table = omega (arith, b.table, table_number);
      keys = f.0;
      vals = f.1;
      clean = all_part Clean w (at + 2) (get_or w (at + 1) 0) (omega (arith, b.fills)) (λ k q. not_stale z w end words l _ (b.clean k q));
      given = all_tab Given (λ k. write_at w (at + 2 + get_or w (at + 1) 0 + 1 + 2 * k)) (get_or w (at + 2 + get_or w (at + 1) 0) 0) (λ k q. given_at end l (get_or w (at + 2 + get_or w (at + 1) 0 + 1 + 2 * k) 0) (at + 2 + get_or w (at + 1) 0 + 1 + 2 * k + 1) (b.writes k q).0 (b.writes k q).1);
    }

    step_at : (k : ℕ) → k < step_count w → StepOk (tables w) (rules w) (step w k)
    unfolding read_step
    step_at k l = either
        (λ e. subst Fit (sym e) (batch_ok (end_of w i) (first_of w i) s.within (batch_read w no_contents no_bodies k l e)) fit)
        (λ e. subst Fit (sym e) (prediction_ok (end_of w i) (first_of w i) s.within (prediction_read w no_contents no_bodies k l e)) fit)
        (step_kind_lem w no_contents no_bodies k l)
      where
        i : ℕ
        i = first_step w + k

        Fit : ℕ → Type 0
        Fit m = StepFits (tables w) (rules w) (read_step w m (first_of w i)) → StepOk (tables w) (rules w) (read_step w m (first_of w i))

        s : Inside w (ok w no_contents no_bodies) (first_step w + k)
        s = step_inside w no_contents no_bodies k l

        fit : StepFits (tables w) (rules w) (step w k)
        fit = steps_ok w no_steps k l

    pub steps_all_ok : All (StepOk (tables w) (rules w)) (steps w)
    unfolding steps
    steps_all_ok = all_tab (StepOk (tables w) (rules w)) (step w) (step_count w) step_at
