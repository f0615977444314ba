-- The bodies of a book that draws none of refusals 2, 3, 6 and 4: each stands within the book, and has the words of its kind.
use Rattle.std.specs.Prelude.{ℕ, zero, suc, ◌+◌, ◌<◌, ◌≡◌, refl, ◌⊎◌, List, None}
use Rattle.std.proofs.Common.{sym, subst, inl, inr, arith}
use Rattle.model.specs.Book.Contents.{group, count, kind_of, first_of, end_of, contents_refusal, table_count, counter_count, rule_count, step_count, first_rule, first_step}
use Rattle.model.specs.Book.Scan.{Scan, bad, good, scan}
use Rattle.model.specs.Book.Read.{drew3, drew6, drew4, sizes, walk, body_refusal, bodies_refusal}
use Rattle.model.specs.Laws.Logic.{seq_none, none_some}
use Rattle.model.specs.Laws.Lists.{first_some_none}
use Rattle.model.specs.Laws.Contents.{ContentsOk, contents_ok, Inside, inside, is_table_lem, is_counter, is_rule, is_step_lem}
use Rattle.model.specs.Laws.Scan.{TableWords, CounterWords, RuleWords, BatchWords, PredictionWords, table_words_lem, counter_words, rule_words, batch_words_lem, prediction_words_lem}

-- nothing drawn
drew_none : (i : ℕ) (s : Scan) → drew3 i s ≡ None → drew6 s ≡ None → drew4 s ≡ None → (n : ℕ) × (s ≡ good n 0 0)
drew_none i bad a b c = absurd (none_some (sym a))
drew_none i (good n zero zero) a b c = (n, refl)
drew_none i (good n zero (suc q)) a b c = absurd (none_some (sym c))
drew_none i (good n (suc p) q) a b c = absurd (none_some (sym b))

group_1 : (k : ℕ) → group k ≡ 1 → k ≡ 1
group_1 zero e = absurd (omega arith)
group_1 (suc zero) e = refl
group_1 (suc (suc zero)) e = absurd (omega arith)
group_1 (suc (suc (suc zero))) e = absurd (omega arith)
group_1 (suc (suc (suc (suc zero)))) e = absurd (omega arith)
group_1 (suc (suc (suc (suc (suc zero))))) e = absurd (omega arith)
group_1 (suc (suc (suc (suc (suc (suc n)))))) e = absurd (omega arith)

group_2 : (k : ℕ) → group k ≡ 2 → k ≡ 2
group_2 zero e = absurd (omega arith)
group_2 (suc zero) e = absurd (omega arith)
group_2 (suc (suc zero)) e = refl
group_2 (suc (suc (suc zero))) e = absurd (omega arith)
group_2 (suc (suc (suc (suc zero)))) e = absurd (omega arith)
group_2 (suc (suc (suc (suc (suc zero))))) e = absurd (omega arith)
group_2 (suc (suc (suc (suc (suc (suc n)))))) e = absurd (omega arith)

group_3 : (k : ℕ) → group k ≡ 3 → k ≡ 3
group_3 zero e = absurd (omega arith)
group_3 (suc zero) e = absurd (omega arith)
group_3 (suc (suc zero)) e = absurd (omega arith)
group_3 (suc (suc (suc zero))) e = refl
group_3 (suc (suc (suc (suc zero)))) e = absurd (omega arith)
group_3 (suc (suc (suc (suc (suc zero))))) e = absurd (omega arith)
group_3 (suc (suc (suc (suc (suc (suc n)))))) e = absurd (omega arith)

group_4 : (k : ℕ) → group k ≡ 4 → (k ≡ 4) ⊎ (k ≡ 5)
group_4 zero e = absurd (omega arith)
group_4 (suc zero) e = absurd (omega arith)
group_4 (suc (suc zero)) e = absurd (omega arith)
group_4 (suc (suc (suc zero))) e = absurd (omega arith)
group_4 (suc (suc (suc (suc zero)))) e = inl refl
group_4 (suc (suc (suc (suc (suc zero))))) e = inr refl
group_4 (suc (suc (suc (suc (suc (suc n)))))) e = absurd (omega arith)

module _ (w : List ℕ) (no_contents : contents_refusal w ≡ None) (no_bodies : bodies_refusal w ≡ None) where
  pub ok : ContentsOk w
  ok = contents_ok w no_contents

  clear : (i : ℕ) → i < count w → (n : ℕ) × (walk w i ≡ good n 0 0)
  unfolding body_refusal bodies_refusal
  clear i h =
      let a = seq_none (drew3 i (walk w i)) (λ x. x) _ (first_some_none (body_refusal w) (count w) no_bodies i h) in
      let b = seq_none (drew6 (walk w i)) (λ x. x) _ a.1 in
      let c = seq_none (drew4 (walk w i)) (λ x. x) _ b.1 in
      drew_none i (walk w i) a.0 b.0 c.0

  -- the walk of a body of a known kind
  as_kind : (i k : ℕ) → i < count w → kind_of w i ≡ k → (n : ℕ) × (scan (end_of w i) w (sizes w) k (first_of w i) ≡ good n 0 0)
  as_kind i k h e = let c = clear i h in (c.0, subst (λ (k : ℕ). scan (end_of w i) w (sizes w) k (first_of w i) ≡ good c.0 0 0) e c.1)

  -- entry i is of kind k
  abbrev Body : (ℕ → ℕ → Type 0) → ℕ → Type 0
  Body Words i = Inside w ok i × Words (end_of w i) (first_of w i)

  pub table_kind : (t : ℕ) → t < table_count w → (t < count w) × (kind_of w t ≡ 1)
  table_kind t l = let p = is_table_lem w ok t l in (p.0, group_1 (kind_of w t) p.1)

  pub table_read : (t : ℕ) → t < table_count w → Body (TableWords (sizes w) w) t
  unfolding scan
  table_read t l =
      let p = table_kind t l in
      let s = inside w ok t p.0 in
      (s, table_words_lem (sizes w) w (end_of w t) (first_of w t) s.after s.order (as_kind t 1 p.0 p.1).1)

  pub counter_read : (c : ℕ) → c < counter_count w → Body (CounterWords (sizes w) w) (table_count w + c)
  unfolding scan
  counter_read c l =
      let i = table_count w + c in
      let p = is_counter w ok c l in
      let s = inside w ok i p.0 in
      (s, counter_words (sizes w) w (end_of w i) (first_of w i) s.after s.order (as_kind i 2 p.0 (group_2 (kind_of w i) p.1)).1)

  pub rule_read : (r : ℕ) → r < rule_count w → Body (RuleWords (sizes w) w) (first_rule w + r)
  unfolding scan
  rule_read r l =
      let i = first_rule w + r in
      let p = is_rule w ok r l in
      let s = inside w ok i p.0 in
      (s, rule_words (sizes w) w (end_of w i) (first_of w i) s.after s.order (as_kind i 3 p.0 (group_3 (kind_of w i) p.1)).1)

  module _ (k : ℕ) (l : k < step_count w) where
    abbrev i : ℕ
    i = first_step w + k

    pub step_inside : Inside w ok i
    step_inside = inside w ok i (is_step_lem w ok k l).0

    pub step_kind_lem : (kind_of w i ≡ 4) ⊎ (kind_of w i ≡ 5)
    step_kind_lem = group_4 (kind_of w i) (is_step_lem w ok k l).1

    pub batch_read : kind_of w i ≡ 4 → BatchWords (sizes w) w (end_of w i) (first_of w i)
    unfolding scan
    batch_read e = let s = step_inside in batch_words_lem (sizes w) w (end_of w i) (first_of w i) s.after s.order (as_kind i 4 (is_step_lem w ok k l).0 e).1

    pub prediction_read : kind_of w i ≡ 5 → PredictionWords (sizes w) w (end_of w i) (first_of w i)
    unfolding scan
    prediction_read e = let s = step_inside in prediction_words_lem (sizes w) w (end_of w i) (first_of w i) s.after s.order (as_kind i 5 (is_step_lem w ok k l).0 e).1
