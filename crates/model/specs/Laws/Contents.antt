-- The contents: refusal 2 with no search, which entries are tables, counters, rules and steps, and that each body stands within the book.
use Prim.Native.Nat.{ℕ, zero, suc, ◌+◌, ◌-◌, ◌<◌, ◌≤◌}
use Rattle.std.specs.Prelude.{◌≡◌, Bool, List, length, None}
use Rattle.std.proofs.Math.Path.{refl, subst}
use Rattle.std.proofs.Common.{sym, ap, ◌∙◌, le_refl, lit≤}
use Rattle.std.proofs.Math.Bool.{true, false, not}
use native.Mathlib.Omega.{arith}
use Rattle.std.proofs.Math.Dec.{eqb, leb}
use borrow.Author.Tests.{ltb-true, leb-true, leb-false, eqb-true, eqb-false, lt-ltb, le-leb, lt-leb, eq-eqb, ne_eqb, not-false}
use Rattle.model.specs.Basics.{when, least, how_many}
use Rattle.model.specs.Book.Words.{unless}
use Rattle.model.specs.Book.Contents.{group, most, count, kind_of, group_of, first_of, end_of, members, begins, entry_fits, count_fits, contents_refusal, table_count, counter_count, rule_count, step_count, first_rule, first_step}
use Rattle.model.specs.Claims.Refusals.{CountOk, EntryOk, EndOk}
use Rattle.model.specs.Laws.Logic.{and_split, and_join, seq_none, unless_none, either, le_cases}
use Rattle.model.specs.Laws.Lists.{below_suc, least_none}

-- ## Contents without fault

pub record ContentsOk (w : List ℕ) : Type 0 where
  pub counted : CountOk w
  pub entries : (i : ℕ) → i < count w → EntryOk w i
  pub ends : EndOk w

module _ (w : List ℕ) where
  pub members_le : (k i : ℕ) → members w k i ≤ i
  unfolding members
  members_le k zero = omega arith
  members_le k (suc i) = by (eqb (group_of w i) k) (members_le k i)
    where
      by : (b : Bool) → members w k i ≤ i → when b suc (members w k i) ≤ suc i
      by true h = omega arith
      by false h = omega arith

  pub count_ok : count_fits w ≡ true → CountOk w
  unfolding count_fits
  count_ok e =
      let p = and_split _ _ e in
      let q = and_split _ _ p.0 in
      record { one = ltb-true _ _ q.0; most = leb-true _ _ q.1; inside = leb-true _ _ p.1 }

  pub ok_count : CountOk w → count_fits w ≡ true
  unfolding count_fits
  ok_count r = and_join (and_join (lt-ltb _ _ r.one) (le-leb _ _ r.most)) (le-leb _ _ r.inside)

  pub entry_ok : (i : ℕ) → entry_fits w i ≡ true → EntryOk w i
  unfolding entry_fits
  entry_ok i e =
      let p = and_split _ _ e in
      let q = and_split _ _ p.0 in
      let r = and_split _ _ q.0 in
      record { rises = leb-true _ _ r.0; known = ltb-true _ _ r.1; room = leb-true _ _ q.1; follows = eqb-true _ _ p.1 }

  pub ok_entry : (i : ℕ) → EntryOk w i → entry_fits w i ≡ true
  unfolding entry_fits
  ok_entry i r = and_join (and_join (and_join (le-leb _ _ r.rises) (lt-ltb _ _ r.known)) (le-leb _ _ r.room)) (eq-eqb _ _ r.follows)

  pub contents_ok : contents_refusal w ≡ None → ContentsOk w
  unfolding contents_refusal
  contents_ok e =
      let p = seq_none (unless (count_fits w) 2 0) _ _ e in
      let q = seq_none (least (λ i. not (entry_fits w i)) (count w)) _ _ p.1 in
      record {
        counted = count_ok (unless_none (count_fits w) 2 0 p.0);
        entries = λ i h. entry_ok i (not-false _ (least_none (λ i. not (entry_fits w i)) (count w) q.0 i h));
        ends = eqb-true _ _ (unless_none _ 2 0 q.1);
      }

-- ## How many

module _ (p : ℕ → Bool) where
  many_yes : (n : ℕ) → p n ≡ true → how_many p (suc n) ≡ suc (how_many p n)
  many_yes n e = rw e

  many_no : (n : ℕ) → p n ≡ false → how_many p (suc n) ≡ how_many p n
  many_no n e = rw e

  many_all : (n : ℕ) → ((i : ℕ) → i < n → p i ≡ true) → how_many p n ≡ n
  many_all zero h = refl
  many_all (suc n) h = many_yes n (h n (omega arith)) ∙ ap suc (many_all n (λ i l. h i (omega arith)))

  many_none : (n : ℕ) → ((i : ℕ) → i < n → p i ≡ false) → how_many p n ≡ 0
  many_none zero h = refl
  many_none (suc n) h = many_no n (h n (omega arith)) ∙ many_none n (λ i l. h i (omega arith))

  -- where it holds of a front part only, the count is where the part ends
  record Front (n : ℕ) : Type 0 where
    yes' : (i : ℕ) → i < how_many p n → p i ≡ true
    no' : (i : ℕ) → how_many p n ≤ i → i < n → p i ≡ false

  front : (n : ℕ) → ((i j : ℕ) → i < j → j < n → p j ≡ true → p i ≡ true) → Front n
  front zero down = record { yes' = λ i l. absurd (omega arith); no' = λ i h l. absurd (omega arith) }
  front (suc n) down = by (p n) refl (front n (λ i j h l. down i j h (omega arith)))
    where
      by : (b : Bool) → p n ≡ b → Front n → Front (suc n)
      by true e f =
          let all : (i : ℕ) → i < n → p i ≡ true = λ i l. down i n l (omega arith) e in
          let m : how_many p (suc n) ≡ suc n = many_yes n e ∙ ap suc (many_all n all) in
          record { yes' = λ i l. below_suc {P = λ i. p i ≡ true} n all e i (omega (arith, m)); no' = λ i h l. absurd (omega (arith, m)) }
      by false e f =
          let m : how_many p (suc n) ≡ how_many p n = many_no n e in
          record { yes' = λ i l. f.yes' i (omega (arith, m)); no' = λ i h l. either (λ q. f.no' i (omega (arith, m)) q) (λ q. subst (λ (i : ℕ). p i ≡ false) (sym q) e) (le_cases l) }

-- those up to suc k are those up to k, and k
many_sum : (g : ℕ → ℕ) (k n : ℕ) → how_many (λ i. leb (g i) (suc k)) n ≡ how_many (λ i. leb (g i) k) n + how_many (λ i. eqb (g i) (suc k)) n
many_sum g k zero = omega arith
many_sum g k (suc n) = by (leb (g n) k) refl (eqb (g n) (suc k)) refl (many_sum g k n)
  where
    A : ℕ → Bool
    A i = leb (g i) (suc k)

    B : ℕ → Bool
    B i = leb (g i) k

    C : ℕ → Bool
    C i = eqb (g i) (suc k)

    by : (b : Bool) → leb (g n) k ≡ b → (c : Bool) → eqb (g n) (suc k) ≡ c → how_many A n ≡ how_many B n + how_many C n → how_many A (suc n) ≡ how_many B (suc n) + how_many C (suc n)
    by true e c f h = let l = leb-true (g n) k e in omega (arith, h, many_yes A n (le-leb (g n) (suc k) (omega arith)), many_yes B n e, many_no C n (ne_eqb (g n) (suc k) (λ q. omega arith)))
    by false e true f h = omega (arith, h, many_yes A n (le-leb (g n) (suc k) (omega (arith, eqb-true (g n) (suc k) f))), many_no B n e, many_yes C n f)
    by false e false f h = let l = leb-false (g n) k e in let m = eqb-false (g n) (suc k) f in omega (arith, h, many_no A n (lt-leb (g n) (suc k) (omega arith)), many_no B n e, many_no C n f)

-- ## Which entry is which

at_most_4 : (kind : ℕ) → group kind ≤ 4
at_most_4 zero = lit≤ tt
at_most_4 (suc zero) = lit≤ tt
at_most_4 (suc (suc zero)) = lit≤ tt
at_most_4 (suc (suc (suc zero))) = lit≤ tt
at_most_4 (suc (suc (suc (suc zero)))) = lit≤ tt
at_most_4 (suc (suc (suc (suc (suc zero))))) = lit≤ tt
at_most_4 (suc (suc (suc (suc (suc (suc n)))))) = lit≤ tt

module _ (w : List ℕ) (ok : ContentsOk w) where
  abbrev g : ℕ → ℕ
  g i = group_of w i

  abbrev n : ℕ
  n = count w

  rises : (i : ℕ) → suc i < n → g i ≤ g (suc i)
  rises i h = (ok.entries (suc i) h).rises

  sorted : (i d : ℕ) → i + d < n → g i ≤ g (i + d)
  sorted i zero h = subst (λ (j : ℕ). g i ≤ g j) (omega arith) (le_refl (g i))
  sorted i (suc d) h =
      let a = sorted i d (omega arith) in
      let b = rises (i + d) (omega arith) in
      let e : suc (i + d) ≡ i + suc d = omega arith in
      subst (λ (j : ℕ). g i ≤ g j) e (omega arith)

  up_to : ℕ → ℕ
  up_to k = how_many (λ i. leb (g i) k) n

  front_k : (k : ℕ) → Front (λ i. leb (g i) k) n
  front_k k = front (λ i. leb (g i) k) n (λ i j h l e. le-leb _ _ (down i j h l (leb-true _ _ e)))
    where
      down : (i j : ℕ) → i < j → j < n → g j ≤ k → g i ≤ k
      down i j h l e =
          let q : i + (j - i) ≡ j = omega arith in
          let s = subst (λ (m : ℕ). g i ≤ g m) q (sorted i (j - i) (omega arith)) in
          omega arith

  up_0 : up_to 0 ≡ 0
  unfolding up_to
  up_0 = many_none (λ i. leb (g i) 0) n (λ i l. lt-leb (g i) 0 (ok.entries i l).known)

  up_4 : up_to 4 ≡ n
  unfolding up_to
  up_4 = many_all (λ i. leb (g i) 4) n (λ i l. le-leb (g i) 4 (at_most_4 (kind_of w i)))

  up_suc : (k : ℕ) → up_to (suc k) ≡ up_to k + members w (suc k) n
  unfolding up_to members
  up_suc k = many_sum g k n

  -- entries from `up_to k` up to `up_to (suc k)` are of group suc k
  between : (k i : ℕ) → up_to k ≤ i → i < up_to (suc k) → i < n → g i ≡ suc k
  unfolding up_to
  between k i a b l =
      let p = leb-true (g i) (suc k) ((front_k (suc k)).yes' i b) in
      let q = leb-false (g i) k ((front_k k).no' i a l) in
      omega arith

  up_1 : up_to 1 ≡ table_count w
  up_1 = omega (arith, up_suc 0, up_0)

  up_2 : up_to 2 ≡ first_rule w
  up_2 = omega (arith, up_suc 1, up_1)

  up_3 : up_to 3 ≡ first_step w
  up_3 = omega (arith, up_suc 2, up_2)

  pub all_entries : first_step w + step_count w ≡ n
  all_entries = omega (arith, up_suc 3, up_3, up_4)

  pub is_table_lem : (t : ℕ) → t < table_count w → (t < n) × (g t ≡ 1)
  is_table_lem t h = let l : t < n = omega (arith, all_entries) in (l, between 0 t (omega (arith, up_0)) (omega (arith, up_1)) l)

  pub is_counter : (c : ℕ) → c < counter_count w → (table_count w + c < n) × (g (table_count w + c) ≡ 2)
  is_counter c h = let l : table_count w + c < n = omega (arith, all_entries) in (l, between 1 _ (omega (arith, up_1)) (omega (arith, up_2)) l)

  pub is_rule : (r : ℕ) → r < rule_count w → (first_rule w + r < n) × (g (first_rule w + r) ≡ 3)
  is_rule r h = let l : first_rule w + r < n = omega (arith, all_entries) in (l, between 2 _ (omega (arith, up_2)) (omega (arith, up_3)) l)

  pub is_step_lem : (k : ℕ) → k < step_count w → (first_step w + k < n) × (g (first_step w + k) ≡ 4)
  is_step_lem k h = let l : first_step w + k < n = omega (arith, all_entries) in (l, between 3 _ (omega (arith, up_3)) (omega (arith, up_4, all_entries)) l)

  -- ## Where the bodies stand

  on : (i : ℕ) → i < n → begins w i ≤ begins w (suc i)
  on i h = omega (arith, (ok.entries i h).follows)

  reach : (i d : ℕ) → i + d ≤ n → begins w i ≤ begins w (i + d)
  reach i zero h = let e : i ≡ i + 0 = omega arith in subst (λ (j : ℕ). begins w i ≤ begins w j) e (le_refl (begins w i))
  reach i (suc d) h =
      let a = reach i d (omega arith) in
      let b = on (i + d) (omega arith) in
      let e : suc (i + d) ≡ i + suc d = omega arith in
      subst (λ (j : ℕ). begins w i ≤ begins w j) e (omega arith)

  pub record Inside (i : ℕ) : Type 0 where
    pub after : 0 < first_of w i
    pub order : first_of w i ≤ end_of w i
    pub within : end_of w i ≤ length w

  pub inside : (i : ℕ) → i < n → Inside i
  inside i h =
      let z : 0 < begins w 0 = omega arith in
      let a = subst (λ (j : ℕ). begins w 0 ≤ begins w j) (the_sum 0 i) (reach 0 i (omega arith)) in
      let q : suc i + (n - suc i) ≡ n = omega arith in
      let b = subst (λ (j : ℕ). begins w (suc i) ≤ begins w j) q (reach (suc i) (n - suc i) (omega arith)) in
      let f = (ok.entries i h).follows in
      record { after = omega arith; order = omega arith; within = omega (arith, ok.ends) }
    where
      the_sum : (a i : ℕ) → 0 + i ≡ i
      the_sum a i = omega arith

-- no group has more entries than it may
module _ (w : List ℕ) (ok : ContentsOk w) where
  pub members_most : (g n : ℕ) → n ≤ count w → members w g n ≤ most g
  unfolding members
  members_most g zero h = omega arith
  members_most g (suc n) h = by (eqb (group_of w n) g) refl (members_most g n (omega arith))
    where
      by : (b : Bool) → eqb (group_of w n) g ≡ b → members w g n ≤ most g → when b suc (members w g n) ≤ most g
      by false e before = before
      by true e before =
          let q : group_of w n ≡ g = eqb-true _ _ e in
          let r : members w g (suc n) ≤ most g = subst (λ (x : ℕ). members w x (suc n) ≤ most x) q (ok.entries n (omega arith)).room in
          subst (λ (b : Bool). when b suc (members w g n) ≤ most g) e r
