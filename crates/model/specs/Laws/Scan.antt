-- A walk that is not bad moves forward, stays in the body, ends where the fields say, and if it drew nothing, every word passed its test.
use Rattle.std.specs.Prelude.{ℕ, zero, suc, ◌+◌, ◌*◌, ◌<◌, ◌≤◌, ◌≡◌, ◌≢◌, Bool, true, false, cond, eqb, ltb, leb, get_or}
use Rattle.std.proofs.Math.Path.{refl, ap, subst}
use Rattle.std.proofs.Common.{sym, ◌∙◌}
use mathlib.Core.List.{List, [], ◌∷◌}
use native.Mathlib.Omega.{arith}
use borrow.Author.Tests.{ltb-true, leb-true, eqb-true, eqb-false}
use Rattle.model.specs.Basics.{iter}
use Rattle.model.specs.Laws.Lists.{below_suc}
use Rattle.model.specs.Book.Layout.{Field, table, counter, function, dst, column, divider, entry, entries, writes}
use Rattle.model.specs.Machine.Functions.{function_count}
use Rattle.model.specs.Book.Scan.{Draw, fine, three, six, four, Scan, bad, good, ◌▹◌, earliest, mark, require, Sizes, any_word, below, up_to, clean, opcode, tag, tagged, step, finish, left, word, list, block, pair, field, walk, instr, scan_table, scan_counter, scan_rule, scan_batch, scan_prediction}
use Rattle.model.specs.Book.Syntax.{stale}
use Rattle.model.specs.Book.Decode.{after, past, fields_at, next, instr_place}

pub record Passed (end n : ℕ) (P : Type 0) (at p q at' p' q' : ℕ) : Type 0 where
  pub there : at' ≡ n
  pub onward : at ≤ at'
  pub inside : at' ≤ end
  pub clear : p' ≡ 0 → q' ≡ 0 → (p ≡ 0) × (q ≡ 0) × P

pub data Result (end n : ℕ) (P : Type 0) (at p q : ℕ) : Scan → Type 0 where
  is_bad : Result end n P at p q bad
  is_good : {at' p' q' : ℕ} → Passed end n P at p q at' p' q' → Result end n P at p q (good at' p' q')

-- from the word `at` on it reads to `g at`, and P holds there if nothing is drawn
abbrev pub Walks : (end : ℕ) (g : ℕ → ℕ) (P : ℕ → Type 0) (f : Scan → Scan) → Type 0
Walks end g P f = (at p q : ℕ) → 0 < at → at ≤ end → Result end (g at) (P at) at p q (f (good at p q))

earliest_not_0 : (p at : ℕ) → 0 < at → earliest p at ≡ 0 → ⊥
earliest_not_0 zero at h e = omega arith
earliest_not_0 (suc p) at h e = omega arith

module _ {end : ℕ} where
  map_result : {n m : ℕ} {P Q : Type 0} {at p q : ℕ} {s : Scan} → n ≡ m → (P → Q) → Result end n P at p q s → Result end m Q at p q s
  map_result e f is_bad = is_bad
  map_result e f (is_good r) = is_good (record { there = r.there ∙ e; onward = r.onward; inside = r.inside; clear = λ a b. let c = r.clear a b in (c.0, c.1, f c.2) })

  mark_result : (x : Draw) (at p q : ℕ) → 0 < at → at < end → Result end (at + 1) (x ≡ fine) at p q (mark x at p q)
  mark_result fine at p q h l = is_good (record { there = refl; onward = omega arith; inside = omega arith; clear = λ a b. (a, b, refl) })
  mark_result three at p q h l = is_bad
  mark_result six at p q h l = is_good (record { there = refl; onward = omega arith; inside = omega arith; clear = λ a b. absurd (earliest_not_0 p at h a) })
  mark_result four at p q h l = is_good (record { there = refl; onward = omega arith; inside = omega arith; clear = λ a b. absurd (earliest_not_0 q at h b) })

  require_result : {n : ℕ} {P : Type 0} {at p q : ℕ} (b : Bool) (s : Scan) → (b ≡ true → Result end n P at p q s) → Result end n P at p q (require b s)
  require_result true s f = f refl
  require_result false s f = is_bad

  join_passed : {n m : ℕ} {P Q : Type 0} {at p q at' p' q' : ℕ} {s : Scan} → Passed end n P at p q at' p' q' → Result end m Q at' p' q' s → Result end m (P × Q) at p q s
  join_passed r is_bad = is_bad
  join_passed r (is_good r') = is_good (record { there = r'.there; onward = omega (arith, r.onward, r'.onward); inside = r'.inside; clear = λ a b. let c = r'.clear a b in let d = r.clear c.0 c.1 in (d.0, d.1, (d.2, c.2)) })

  -- one walk, and then another from where the first ends
  then_result : {n m : ℕ} {P Q : Type 0} {at p q : ℕ} {s : Scan} (f : Scan → Scan) → 0 < at → Result end n P at p q s
      → ((p' q' : ℕ) → 0 < n → n ≤ end → Result end m Q n p' q' (f (good n p' q'))) → Result end m (P × Q) at p q (s ▹ f)
  then_result f h is_bad k = is_bad
  then_result {n = n} {m = m} {Q = Q} {at = at} f h (is_good {at'} {p'} {q'} r) k =
      let e : n ≡ at' = sym r.there in
      join_passed r (subst (λ (x : ℕ). Result end m Q x p' q' (f (good x p' q'))) e (k p' q' (omega (arith, r.onward, e)) (omega (arith, r.inside, e))))

  -- n times the same
  iter_result : (one : Scan → Scan) (g : ℕ → ℕ) (P : ℕ → Type 0) → one bad ≡ bad → Walks end g P one
      → (n : ℕ) → Walks end (λ at. iter (λ _. g) n at) (λ at. (k : ℕ) → k < n → P (iter (λ _. g) k at)) (iter (λ _. one) n)
  iter_result one g P b wk zero at p q h l = is_good (record { there = refl; onward = omega arith; inside = l; clear = λ a b. (a, b, λ k h. absurd (omega arith)) })
  iter_result one g P b wk (suc n) at p q h l =
      map_result refl (λ c. below_suc n c.0 c.1) (on (iter (λ _. one) n (good at p q)) (iter_result one g P b wk n at p q h l))
    where
      at_n : ℕ
      at_n = iter (λ _. g) n at

      Before : Type 0
      Before = (k : ℕ) → k < n → P (iter (λ _. g) k at)

      again : (s : Scan) → Result end at_n Before at p q s → s ▹ one ≡ one s
      again s is_bad = sym b
      again s (is_good r) = refl

      on : (s : Scan) → Result end at_n Before at p q s → Result end (g at_n) (Before × P at_n) at p q (one s)
      on s r = subst (Result end (g at_n) (Before × P at_n) at p q) (again s r) (then_result one h r (λ p' q' h' l'. wk at_n p' q' h' l'))

pub up_to_fine : {n : ℕ} (x : ℕ) → up_to n x ≡ fine → x ≤ n
up_to_fine {n} x e = by (leb x n) refl e
  where
    by : (b : Bool) → leb x n ≡ b → cond b fine three ≡ fine → x ≤ n
    by true q f = leb-true x n q
    by false q f = let u : ◌≡◌ {A = ℕ} 0 1 = cc in absurd (omega arith)

pub below_fine : {n : ℕ} (x : ℕ) → below n x ≡ fine → x < n
below_fine {n} x e = by (ltb x n) refl e
  where
    by : (b : Bool) → ltb x n ≡ b → cond b fine six ≡ fine → x < n
    by true q f = ltb-true x n q
    by false q f = let u : ◌≡◌ {A = ℕ} 0 1 = cc in absurd (omega arith)

pub clean_fine : (x : ℕ) → clean x ≡ fine → x ≢ stale
clean_fine x e = by (eqb x stale) refl e
  where
    by : (b : Bool) → eqb x stale ≡ b → cond b four fine ≡ fine → x ≢ stale
    by false q f = eqb-false x stale q
    by true q f = let u : ◌≡◌ {A = ℕ} 0 1 = cc in absurd (omega arith)

passed_clear : {end m n p q at p₀ q₀ : ℕ} {P : Type 0} → p ≡ 0 → q ≡ 0 → Result end m P at p₀ q₀ (good n p q) → P
passed_clear a b (is_good r) = (r.clear a b).2

cleared : {end m n at p₀ q₀ : ℕ} {P : Type 0} {s : Scan} → s ≡ good n 0 0 → Result end m P at p₀ q₀ s → P
cleared {end} {m} {n} {at} {p₀} {q₀} {P} e r = passed_clear refl refl (subst (Result end m P at p₀ q₀) e r)

module _ (z : Sizes) (w : List ℕ) (end : ℕ) where
  abbrev x : ℕ → ℕ
  x p = get_or w p 0

  pub word_walks : (d : ℕ → Draw) → Walks end (λ at. at + 1) (λ at. d (get_or w at 0) ≡ fine) (word end w d)
  unfolding step
  word_walks d at p q h l = require_result (ltb at end) _ (λ e. mark_result (d (get_or w at 0)) at p q h (ltb-true _ _ e))

  pub list_walks : (most : ℕ) (one : Scan → Scan) (g : ℕ → ℕ) (P : ℕ → Type 0) → one bad ≡ bad → Walks end g P one
      → Walks end (λ at. iter (λ _. g) (x at) (at + 1)) (λ at. (up_to most (x at) ≡ fine) × ((k : ℕ) → k < x at → P (iter (λ _. g) k (at + 1)))) (list end w most one)
  list_walks most one g P b wk at p q h l = then_result _ h (word_walks (up_to most) at p q h l) (λ p' q' h' l'. iter_result one g P b wk (x at) (at + 1) p' q' h' l')

  -- an entry or write value
  abbrev pub PairOk : ℕ → ℕ → ℕ → Type 0
  PairOk a b at = (tag a b (x at) ≡ fine) × (tagged z (x at) (x (at + 1)) ≡ fine)

  pub pair_walks : (a b : ℕ) → Walks end (λ at. at + 2) (PairOk a b) (pair end w z a b)
  unfolding pair
  pair_walks a b at p q h l = map_result (omega arith) (λ c. c) (then_result _ h (word_walks (tag a b) at p q h l) (λ p' q' h' l'. word_walks (tagged z (x at)) (at + 1) p' q' h' l'))

  twos : (k at : ℕ) → iter (λ _ p. p + 2) k at ≡ at + 2 * k
  twos zero at = omega arith
  twos (suc k) at = ap (λ (p : ℕ). p + 2) (twos k at) ∙ omega arith

  abbrev pub FieldOk : Field → ℕ → Type 0
  FieldOk table at = below z.tables (x at) ≡ fine
  FieldOk counter at = below z.counters (x at) ≡ fine
  FieldOk function at = below function_count (x at) ≡ fine
  FieldOk dst at = below 32 (x at) ≡ fine
  FieldOk column at = Unit {0}
  FieldOk divider at = Unit {0}
  FieldOk entry at = PairOk 0 1 at
  FieldOk entries at = (up_to 16 (x at) ≡ fine) × ((k : ℕ) → k < x at → PairOk 0 1 (at + 1 + 2 * k))
  FieldOk writes at = (up_to 16 (x at) ≡ fine) × ((k : ℕ) → k < x at → PairOk 0 3 (at + 1 + 2 * k))

  pairs_walk : (a b : ℕ) → Walks end (λ at. at + 1 + 2 * x at) (λ at. (up_to 16 (x at) ≡ fine) × ((k : ℕ) → k < x at → PairOk a b (at + 1 + 2 * k))) (list end w 16 (pair end w z a b))
  unfolding pair step
  pairs_walk a b at p q h l =
      map_result (twos (x at) (at + 1)) (λ c. (c.0, λ k l. subst (PairOk a b) (twos k (at + 1)) (c.1 k l)))
      (list_walks 16 (pair end w z a b) (λ at. at + 2) (PairOk a b) refl (pair_walks a b) at p q h l)

  pub field_walks : (f : Field) → Walks end (after w f) (FieldOk f) (field end w z f)
  unfolding after field
  field_walks table = word_walks (below z.tables)
  field_walks counter = word_walks (below z.counters)
  field_walks function = word_walks (below function_count)
  field_walks dst = word_walks (below 32)
  field_walks column = λ at p q h l. map_result refl (λ _. tt) (word_walks any_word at p q h l)
  field_walks divider = λ at p q h l. map_result refl (λ _. tt) (word_walks any_word at p q h l)
  field_walks entry = pair_walks 0 1
  field_walks entries = pairs_walk 0 1
  field_walks writes = pairs_walk 0 3

  abbrev pub FieldsOk : List Field → ℕ → Type 0
  FieldsOk [] at = Unit {0}
  FieldsOk (f ∷ fs) at = FieldOk f at × FieldsOk fs (after w f at)

  pub field_bad : (f : Field) → field end w z f bad ≡ bad
  unfolding field pair step
  field_bad table = refl
  field_bad counter = refl
  field_bad function = refl
  field_bad dst = refl
  field_bad column = refl
  field_bad divider = refl
  field_bad entry = refl
  field_bad entries = refl
  field_bad writes = refl

  pub walk_bad : (fs : List Field) → walk end w z fs bad ≡ bad
  unfolding walk
  walk_bad [] = refl
  walk_bad (f ∷ fs) = ap (walk end w z fs) (field_bad f) ∙ walk_bad fs

  walk_then : (fs : List Field) (s : Scan) → s ▹ walk end w z fs ≡ walk end w z fs s
  walk_then fs bad = sym (walk_bad fs)
  walk_then fs (good at p q) = refl

  pub walk_walks : (fs : List Field) → Walks end (past w fs) (FieldsOk fs) (walk end w z fs)
  unfolding past walk field pair step
  walk_walks [] at p q h l = is_good (record { there = refl; onward = omega arith; inside = l; clear = λ a b. (a, b, tt) })
  walk_walks (f ∷ fs) at p q h l = subst (Result end (past w fs (after w f at)) (FieldsOk (f ∷ fs) at) at p q) (walk_then fs (field end w z f (good at p q))) (then_result (walk end w z fs) h (field_walks f at p q h l) (λ p' q' h' l'. walk_walks fs (after w f at) p' q' h' l'))

  abbrev pub InstrOk : ℕ → Type 0
  InstrOk at = (opcode (x at) ≡ fine) × FieldsOk (fields_at w at) (at + 1)

  pub instr_walks : Walks end (next w) InstrOk (instr end w z)
  unfolding instr next
  instr_walks at p q h l = then_result _ h (word_walks opcode at p q h l) (λ p' q' h' l'. walk_walks (fields_at w at) (at + 1) p' q' h' l')

  -- ## The bodies

  ones : (k at : ℕ) → iter (λ _ p. p + 1) k at ≡ at + k
  ones zero at = omega arith
  ones (suc k) at = ap (λ (p : ℕ). p + 1) (ones k at) ∙ omega arith

  pub block_walks : (n : ℕ) → Walks end (λ at. at + n) (λ at. (at + n ≡ end) × ((k : ℕ) → k < n → clean (x (at + k)) ≡ fine)) (block end w n)
  unfolding step left
  block_walks n at p q h l =
      map_result (ones n at) (λ c. (c.0, λ k l. subst (λ (p : ℕ). clean (x p) ≡ fine) (ones k at) (c.1 k l)))
      (then_result (iter (λ _. word end w clean) n) h
      (require_result {n = at} {P = at + n ≡ end} (eqb (at + n) end) (good at p q) (λ e. is_good (record { there = refl; onward = omega arith; inside = l; clear = λ a b. (a, b, eqb-true _ _ e) })))
      (λ p' q' h' l'. iter_result (word end w clean) (λ p. p + 1) (λ at. clean (x at) ≡ fine) refl (word_walks clean) n at p' q' h' l'))

  cleans_walk : Walks end (λ at. at + 1 + x at) (λ at. (up_to 16 (x at) ≡ fine) × ((k : ℕ) → k < x at → clean (x (at + 1 + k)) ≡ fine)) (list end w 16 (word end w clean))
  unfolding step
  cleans_walk at p q h l =
      map_result (ones (x at) (at + 1)) (λ c. (c.0, λ k l. subst (λ (p : ℕ). clean (x p) ≡ fine) (ones k (at + 1)) (c.1 k l)))
      (list_walks 16 (word end w clean) (λ p. p + 1) (λ at. clean (x at) ≡ fine) refl (word_walks clean) at p q h l)

  pub finish_walks : Walks end (λ at. at) (λ at. at ≡ end) (finish end)
  unfolding finish
  finish_walks at p q h l = require_result (eqb at end) (good at p q) (λ e. is_good (record { there = refl; onward = omega arith; inside = l; clear = λ a b. (a, b, eqb-true _ _ e) }))

  start_walks : Walks end (λ at. at) (λ at. Unit {0}) (λ s. s)
  start_walks at p q h l = is_good (record { there = refl; onward = omega arith; inside = l; clear = λ a b. (a, b, tt) })

  pub record TableWords (at : ℕ) : Type 0 where
    pub keys : x at ≤ 8
    pub vals : x (at + 1) ≤ 8
    pub sum : 0 < x at + x (at + 1)
    pub merge : x (at + 2) < 4
    pub fills : at + 4 + x (at + 3) * (x at + x (at + 1)) ≡ end
    pub clean : (k : ℕ) → k < x (at + 3) * (x at + x (at + 1)) → x (at + 4 + k) ≢ stale

  pub record RuleWords (at : ℕ) : Type 0 where
    pub starts : x at ≤ 32
    pub count : x (at + 1) ≤ 64
    pub instrs : (j : ℕ) → j < x (at + 1) → InstrOk (instr_place w at j)
    pub fills : instr_place w at (x (at + 1)) ≡ end

  pub record CounterWords (at : ℕ) : Type 0 where
    pub clean : x at ≢ stale
    pub fills : at + 1 ≡ end

  pub record BatchWords (at : ℕ) : Type 0 where
    pub rule : x at < z.rules
    pub lanes : x (at + 1) ≤ 256
    pub columns : x (at + 2) ≤ 32
    pub fills : at + 3 + x (at + 2) * x (at + 1) ≡ end
    pub clean : (k : ℕ) → k < x (at + 2) * x (at + 1) → x (at + 3 + k) ≢ stale

  pub record PredictionWords (at : ℕ) : Type 0 where
    pub table : x at < z.tables
    pub keys : x (at + 1) ≤ 16
    pub clean : (k : ℕ) → k < x (at + 1) → x (at + 2 + k) ≢ stale
    pub vals : x (at + 2 + x (at + 1)) ≤ 16
    pub writes : (k : ℕ) → k < x (at + 2 + x (at + 1)) → PairOk 1 2 (at + 2 + x (at + 1) + 1 + 2 * k)
    pub fills : at + 2 + x (at + 1) + 1 + 2 * x (at + 2 + x (at + 1)) ≡ end

  module _ (at : ℕ) (h : 0 < at) (l : at ≤ end) where
    two : at + 1 + 1 ≡ at + 2
    two = omega arith

    pub table_words_lem : {n : ℕ} → scan_table end w z at ≡ good n 0 0 → TableWords at
    unfolding scan_table
    table_words_lem e =
        let c = cleared e (then_result _ h (then_result _ h (then_result _ h (then_result _ h (then_result _ h
        (word_walks (up_to 8) at 0 0 h l)
        (λ p q h l. word_walks (up_to 8) (at + 1) p q h l))
        (λ p q h l. require_result {n = at + 1 + 1} {P = 0 < x at + x (at + 1)} (ltb 0 (x at + x (at + 1))) (good (at + 1 + 1) p q) (λ e. is_good (record { there = refl; onward = omega arith; inside = l; clear = λ a b. (a, b, ltb-true _ _ e) }))))
        (λ p q h l. word_walks (below 4) (at + 1 + 1) p q h l))
        (λ p q h l. word_walks any_word (at + 1 + 1 + 1) p q h l))
        (λ p q h l. block_walks (x (at + 3) * (x at + x (at + 1))) (at + 1 + 1 + 1 + 1) p q h l)) in
        let four : at + 1 + 1 + 1 + 1 ≡ at + 4 = omega arith in
        record {
          keys = up_to_fine _ c.0.0.0.0.0;
          vals = up_to_fine _ c.0.0.0.0.1;
          sum = c.0.0.0.1;
          merge = below_fine _ (rw two at c.0.0.1);
          fills = rw four at c.1.0;
          clean = λ k l. clean_fine _ (subst (λ (p : ℕ). clean (x (p + k)) ≡ fine) four (c.1.1 k l));
        }

    pub counter_words : {n : ℕ} → scan_counter end w z at ≡ good n 0 0 → CounterWords at
    unfolding scan_counter
    counter_words e =
        let c = cleared e (then_result _ h (word_walks clean at 0 0 h l) (λ p q h l. finish_walks (at + 1) p q h l)) in
        record { clean = clean_fine _ c.0; fills = c.1 }

    pub rule_words : {n : ℕ} → scan_rule end w z at ≡ good n 0 0 → RuleWords at
    unfolding scan_rule instr step
    rule_words e =
        let c = cleared e (then_result _ h (then_result _ h (word_walks (up_to 32) at 0 0 h l)
        (λ p q h l. list_walks 64 (instr end w z) (next w) InstrOk refl instr_walks (at + 1) p q h l))
        (λ p q h l. finish_walks (iter (λ _. next w) (x (at + 1)) (at + 1 + 1)) p q h l)) in
        record {
          starts = up_to_fine _ c.0.0;
          count = up_to_fine _ c.0.1.0;
          instrs = λ j l. subst (λ (p : ℕ). InstrOk (iter (λ _. next w) j p)) two (c.0.1.1 j l);
          fills = subst (λ (p : ℕ). iter (λ _. next w) (x (at + 1)) p ≡ end) two c.1;
        }

    pub batch_words_lem : {n : ℕ} → scan_batch end w z at ≡ good n 0 0 → BatchWords at
    unfolding scan_batch
    batch_words_lem e =
        let c = cleared e (then_result _ h (then_result _ h (then_result _ h (word_walks (below z.rules) at 0 0 h l)
        (λ p q h l. word_walks (up_to 256) (at + 1) p q h l))
        (λ p q h l. word_walks (up_to 32) (at + 1 + 1) p q h l))
        (λ p q h l. block_walks (x (at + 2) * x (at + 1)) (at + 1 + 1 + 1) p q h l)) in
        let three : at + 1 + 1 + 1 ≡ at + 3 = omega arith in
        record {
          rule = below_fine _ c.0.0.0;
          lanes = up_to_fine _ c.0.0.1;
          columns = up_to_fine _ (rw two at c.0.1);
          fills = rw three at c.1.0;
          clean = λ k l. clean_fine _ (subst (λ (p : ℕ). clean (x (p + k)) ≡ fine) three (c.1.1 k l));
        }

    pub prediction_words_lem : {n : ℕ} → scan_prediction end w z at ≡ good n 0 0 → PredictionWords at
    unfolding scan_prediction field pair
    prediction_words_lem e =
        let c = cleared e (then_result _ h (then_result _ h (then_result _ h (word_walks (below z.tables) at 0 0 h l)
        (λ p q h l. cleans_walk (at + 1) p q h l))
        (λ p q h l. pairs_walk 1 2 (at + 1 + 1 + x (at + 1)) p q h l))
        (λ p q h l. finish_walks _ p q h l)) in
        record {
          table = below_fine _ c.0.0.0;
          keys = up_to_fine _ c.0.0.1.0;
          clean = λ k l. clean_fine _ (subst (λ (p : ℕ). clean (x (p + k)) ≡ fine) two (c.0.0.1.1 k l));
          vals = subst (λ (p : ℕ). x (p + x (at + 1)) ≤ 16) two (up_to_fine _ c.0.1.0);
          writes = subst (λ (p : ℕ). (k : ℕ) → k < x (p + x (at + 1)) → PairOk 1 2 (p + x (at + 1) + 1 + 2 * k)) two c.0.1.1;
          fills = subst (λ (p : ℕ). p + x (at + 1) + 1 + 2 * x (p + x (at + 1)) ≡ end) two c.1;
        }
