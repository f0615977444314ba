-- What the code of the contents leans on: the four parts of an entry's test, and how many of each group were seen.
use Prim.Native.Nat.{ℕ, zero, suc, ◌+◌, ◌*◌, ◌<◌, ◌≤◌}
use Rattle.std.specs.Prelude.{◌≡◌, Bool, true, false, cond, ◌&&◌, List, [], ◌∷◌, ◌++◌, eqb, ltb, leb, length, get_or, set, None, Some}
use Rattle.std.proofs.Math.Path.{refl, ap}
use Rattle.std.proofs.Common.{sym, ◌∙◌, subst, arith, add-one, get_or-set_same, get_or-set_other}
use Rattle.std.proofs.lemmas.List.{length-append, map-id}
use Rattle.std.proofs.lemmas.List.Elements.{filter-append}
use Rattle.std.proofs.lemmas.List.FromFn.{map-range_with_len_more}
use Rattle.std.proofs.Math.Bool.{not}
use borrow.Author.Tests.{lt-ltb, le-ltb, le-leb, lt-leb, eq-eqb, ne_eqb, eqb-true, eqb-false}
use Rattle.model.specs.Laws.Lists.{none_least, some_least}
use Rattle.std.specs.List.{filter, range_with_len}
use Rattle.model.specs.Basics.{how_many, when}
use Rattle.model.specs.Book.Contents.{group, most, count, group_of, first_of, members, begins, last_group, entry_fits, count_fits, contents_refusal, first_rule, first_step}
use Rattle.model.specs.Laws.Contents.{members_le}
use Rattle.contents.specs.declared.Contents.{Contents}
use Rattle.contents.specs.declared.kinds.KindGroup.{KindGroup}
use Rattle.contents.specs.declared.kinds.KindGroup.TheVariants.{Tables, Counters, Rules, Steps}
use Rattle.contents.specs.Contents.{ContentsOf}
use Rattle.contents.specs.Kinds.{group_number}
use Rattle.std.proofs.Math.Dec.{lit<}

-- the numbers of groups
pub some_number : (g : KindGroup) → 0 < group_number g
some_number Tables = lit< tt
some_number Counters = lit< tt
some_number Rules = lit< tt
some_number Steps = lit< tt

pub small_number : (g : KindGroup) → group_number g < 5
small_number Tables = lit< tt
small_number Counters = lit< tt
small_number Rules = lit< tt
small_number Steps = lit< tt

pub group_rest : (k : ℕ) → (0 < k → 5 < k) → 0 ≡ group k
group_rest zero h = refl
group_rest (suc zero) h = absurd (omega (arith, h (omega arith)))
group_rest (suc (suc zero)) h = absurd (omega (arith, h (omega arith)))
group_rest (suc (suc (suc zero))) h = absurd (omega (arith, h (omega arith)))
group_rest (suc (suc (suc (suc zero)))) h = absurd (omega (arith, h (omega arith)))
group_rest (suc (suc (suc (suc (suc zero))))) h = absurd (omega (arith, h (omega arith)))
group_rest (suc (suc (suc (suc (suc (suc n)))))) h = refl

pub most_rest : (k : ℕ) → (0 < k → 4 < k) → 0 ≡ most k
most_rest zero h = refl
most_rest (suc zero) h = absurd (omega (arith, h (omega arith)))
most_rest (suc (suc zero)) h = absurd (omega (arith, h (omega arith)))
most_rest (suc (suc (suc zero))) h = absurd (omega (arith, h (omega arith)))
most_rest (suc (suc (suc (suc zero)))) h = absurd (omega (arith, h (omega arith)))
most_rest (suc (suc (suc (suc (suc n))))) h = refl

-- the four parts of an entry's test, the first that fails
module _ (last g seen first end : ℕ) where
  abbrev Test : Bool
  Test = leb last g && ltb 0 g && leb seen (most g) && eqb first end

  pub falls : g < last → false ≡ Test
  falls h = rw (lt-leb last g h)

  pub unknown : last ≤ g → g ≡ 0 → false ≡ Test
  unknown h e = rw (le-leb last g h, le-ltb 0 g (omega arith))

  pub no_room : last ≤ g → (g ≡ 0 → ⊥) → most g < seen → false ≡ Test
  no_room h e m = rw (le-leb last g h, lt-ltb 0 g (omega arith), lt-leb seen (most g) m)

  pub by_place : last ≤ g → (g ≡ 0 → ⊥) → seen ≤ most g → eqb first end ≡ Test
  by_place h e m = rw (le-leb last g h, lt-ltb 0 g (omega arith), le-leb seen (most g) m)

module _ (w : List ℕ) where
  pub own_group : (i : ℕ) → members w (group_of w i) (suc i) ≡ suc (members w (group_of w i) i)
  unfolding members
  own_group i = rw (eq-eqb (group_of w i) (group_of w i) refl)

  pub other_group : (k i : ℕ) → (group_of w i ≡ k → ⊥) → members w k (suc i) ≡ members w k i
  unfolding members
  other_group k i h = rw (ne_eqb (group_of w i) k h)

  abbrev pub Counts : List ℕ → ℕ → Type 0
  Counts counts i = (k : ℕ) → k < 5 → get_or counts k 0 ≡ members w k i

  pub no_counts : Counts (0 ∷ 0 ∷ 0 ∷ 0 ∷ 0 ∷ []) 0
  unfolding members
  no_counts zero h = refl
  no_counts (suc zero) h = refl
  no_counts (suc (suc zero)) h = refl
  no_counts (suc (suc (suc zero))) h = refl
  no_counts (suc (suc (suc (suc zero)))) h = refl
  no_counts (suc (suc (suc (suc (suc k))))) h = absurd (omega arith)

  pub small_count : (counts : List ℕ) (i k : ℕ) → Counts counts i → k < 5 → i ≤ 128 → get_or counts k 0 ≤ 128
  small_count counts i k h l m = omega (arith, h k l, members_le w k i)

  pub more_counts : (counts : List ℕ) (i g seen : ℕ) → Counts counts i → length counts ≡ 5 → g < 5 → g ≡ group_of w i → seen ≡ get_or counts g 0 + 1 → Counts (set counts g seen) (i + 1)
  more_counts counts i g seen h n l e s k m = rw add-one (by (eqb k g) refl)
    where
      by : (b : Bool) → eqb k g ≡ b → get_or (set counts g seen) k 0 ≡ members w k (suc i)
      by true q =
          let kg = eqb-true k g q in
          rw (kg, get_or-set_same counts g seen 0 (omega arith), s, h g l, e) (omega (arith, own_group i))
      by false q = rw (get_or-set_other counts g k seen 0 (eqb-false k g q), h k m) (sym (other_group k i (λ p. eqb-false k g q (sym (e ∙ p)))))

  pub entry_test : (i last g seen first end : ℕ) (counts : List ℕ) → Counts counts i → g < 5 → last ≡ last_group w i → g ≡ group_of w i → seen ≡ get_or counts g 0 + 1 → first ≡ first_of w i → end ≡ begins w i → Test last g seen first end ≡ entry_fits w i
  unfolding entry_fits
  entry_test i last g seen first end counts h l a b c d e =
      let s : seen ≡ members w (group_of w i) (suc i) = c ∙ ap (λ (x : ℕ). x + 1) (h g l ∙ ap (λ (x : ℕ). members w x i) b) ∙ omega (arith, own_group i) in
      rw (s, a, b, d, e)

  -- the same of an entry of some group, and of one of none
  pub group_test : (i last : ℕ) (g : KindGroup) (seen first end : ℕ) (counts : List ℕ) → Counts counts i → last ≡ last_group w i → group_number g ≡ group_of w i → seen ≡ get_or counts (group_number g) 0 + 1 → first ≡ first_of w i → end ≡ begins w i → (leb last (group_number g) && leb seen (most (group_number g)) && eqb first end) ≡ entry_fits w i
  group_test i last g seen first end counts h a b c d e = by (leb last (group_number g)) ∙ entry_test i last (group_number g) seen first end counts h (small_number g) a b c d e
    where
      by : (r : Bool) → (r && leb seen (most (group_number g)) && eqb first end) ≡ (r && ltb 0 (group_number g) && leb seen (most (group_number g)) && eqb first end)
      by true = rw (lt-ltb 0 (group_number g) (some_number g))
      by false = refl

  pub no_group : (i : ℕ) → 0 ≡ group_of w i → entry_fits w i ≡ false
  unfolding entry_fits
  no_group i e = rw (← e) (by (leb (last_group w i) 0))
    where
      by : (r : Bool) → (r && false && leb (members w 0 (suc i)) (most 0) && eqb (first_of w i) (begins w i)) ≡ false
      by true = refl
      by false = refl

  pub count_true : 0 < count w → count w ≤ 128 → 1 + 3 * count w ≤ length w → count_fits w ≡ true
  unfolding count_fits
  count_true a b c = rw (lt-ltb _ _ a, le-leb _ _ b, le-leb _ _ c)

  pub count_0 : count w ≡ 0 → count_fits w ≡ false
  unfolding count_fits
  count_0 e = rw (le-ltb 0 (count w) (omega arith))

  pub count_129 : 0 < count w → 128 < count w → count_fits w ≡ false
  unfolding count_fits
  count_129 a e = rw (lt-ltb _ _ a, lt-leb _ _ e)

  pub count_past : 0 < count w → count w ≤ 128 → length w < 1 + 3 * count w → count_fits w ≡ false
  unfolding count_fits
  count_past a b c = rw (lt-ltb _ _ a, le-leb _ _ b, lt-leb _ _ c)

  pub refuse_count : count_fits w ≡ false → Some (record { number = 2; place = 0 }) ≡ contents_refusal w
  unfolding contents_refusal
  refuse_count e = rw e

  pub refuse_entry : count_fits w ≡ true → (i : ℕ) → i < count w → ((j : ℕ) → j < i → entry_fits w j ≡ true) → entry_fits w i ≡ false → Some (record { number = 2; place = i }) ≡ contents_refusal w
  unfolding contents_refusal
  refuse_entry c i l before here = rw (c, some_least (λ i. not (entry_fits w i)) (count w) i (record { below = l; here = rw here; before = λ j h. rw (before j h) }))

  pub refuse_end : count_fits w ≡ true → ((j : ℕ) → j < count w → entry_fits w j ≡ true) → (begins w (count w) ≡ length w → ⊥) → Some (record { number = 2; place = 0 }) ≡ contents_refusal w
  unfolding contents_refusal
  refuse_end c all e = rw (c, none_least (λ i. not (entry_fits w i)) (count w) (λ j h. rw (all j h)), ne_eqb _ _ e)

  pub pass : count_fits w ≡ true → ((j : ℕ) → j < count w → entry_fits w j ≡ true) → begins w (count w) ≡ length w → None ≡ contents_refusal w
  unfolding contents_refusal
  pass c all e = rw (c, none_least (λ i. not (entry_fits w i)) (count w) (λ j h. rw (all j h)), eq-eqb _ _ e)

-- ## Counting one group

module _ (w : List ℕ) (g i : ℕ) where
  pub count_yes : (c : ℕ) → c ≡ members w g i → group_of w i ≡ g → c + 1 ≡ members w g (i + 1)
  count_yes c h e =
      let o = subst (λ (k : ℕ). members w k (suc i) ≡ suc (members w k i)) e (own_group w i) in
      let m : c + 1 ≡ members w g (suc i) = omega arith in
      m ∙ ap (λ (k : ℕ). members w g k) (sym (add-one i))

  pub count_no : (c : ℕ) → c ≡ members w g i → (group_of w i ≡ g → ⊥) → c ≡ members w g (i + 1)
  count_no c h e = rw add-one (h ∙ sym (other_group w g i e))

  pub count_small : (c : ℕ) → c ≡ members w g i → i ≤ 128 → c ≤ 128
  count_small c h l = omega (arith, h, members_le w g i)

pub none_counted : (w : List ℕ) (g : ℕ) → 0 ≡ members w g 0
unfolding members
none_counted w g = refl

one_more : (n : ℕ) → range_with_len 0 (suc n) ≡ range_with_len 0 n ++ (n ∷ [])
one_more n =
    let e : suc n ≡ n + 1 = omega arith in
    ap (range_with_len 0) e ∙ sym (map-id (range_with_len 0 (n + 1))) ∙ map-range_with_len_more (λ x. x) 0 n n (omega arith) ∙ ap (λ (l : List ℕ). l ++ (n ∷ [])) (map-id (range_with_len 0 n))

-- those that pass among the first n numbers
how_many_pass : (p : ℕ → Bool) (n : ℕ) → length (filter p (range_with_len 0 n)) ≡ how_many p n
how_many_pass p zero = refl
how_many_pass p (suc n) = ap (λ (l : List ℕ). length (filter p l)) (one_more n) ∙ rw (filter-append p, length-append, how_many_pass p n) (by (p n))
  where
    by : (b : Bool) → how_many p n + length (cond b (n ∷ []) []) ≡ when b suc (how_many p n)
    by true = omega arith
    by false = omega arith

pub counted : (w : List ℕ) (g n : ℕ) → length (filter (λ i. eqb (group_of w i) g) (range_with_len 0 n)) ≡ members w g n
unfolding members
counted w g n = how_many_pass (λ i. eqb (group_of w i) g) n

-- ## What `first_rule` and `first_step` answer

module _ {w : List ℕ} {c : Contents} (h : ContentsOf w c) {r : ℕ} where
  pub first_rule_is : r ≡ c.tables + c.counters → r ≡ first_rule w
  first_rule_is e = omega (arith, h.tables, h.counters)

  pub first_step_is : r ≡ c.tables + c.counters + c.rules → r ≡ first_step w
  first_step_is e = omega (arith, h.tables, h.counters, h.rules)
