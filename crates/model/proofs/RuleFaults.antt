-- Refusals 8, 7, 10 and 9 are exact: the first instruction at fault, and of its faults the first in that order.
use Prim.Native.Nat.{ℕ, zero, suc, ◌<◌}
use mathlib.Core.Path.{◌≡◌, refl, sym, ap, ◌∙◌, subst}
use mathlib.Core.Bool.{Bool, true, false, true≢false}
use Rattle.std.specs.Prelude.{Option, None, Some, slice_get}
use mathlib.Core.List.{List, [], ◌∷◌}
use native.Mathlib.Omega.{arith}
use lib.Dec.{T}
use lib.ListN.{length}
use Rattle.model.specs.Basics.{found, first_some, all, All}
use Rattle.model.specs.Book.Syntax.{Instr, Rule}
use Rattle.model.specs.Book.Words.{Refusal}
use Rattle.model.specs.Book.Contents.{rule_count}
use Rattle.model.specs.Book.Decode.{read_rule, instr_place}
use Rattle.model.specs.Book.Read.{tables}
use Rattle.model.specs.Check.{reads_of, held_of, sizes_of, columns_of, Fits, IsKnown, NotHeld, Below, Known, fits?, known?, free?, below?, refuse, check_instr, bound?, placed, check_at, check}
use Rattle.model.specs.Machine.Functions.{arity}
use Rattle.model.specs.Outcome.{rule_first, rule_refusal, rules_refusal}
use Rattle.model.specs.Claims.Refusals.{InRule, size, unbound, held_out, column, AtRule, number_of, rule, rule_order, Before}
use Rattle.model.specs.Laws.Logic.{none_some, some_inj, either, at_length, at_below}
use Rattle.model.specs.Safety.CheckExact.{all→All, All→all, fits→, →fits, known→, →known, free→, →free, below→, →below, bound→, →bound}
use Rattle.model.proofs.Exact.{Exact, exact_map, exact_first}

-- ## One instruction

-- what a test tells
pub record Tells (b : Bool) (C : Type 0) : Type 0 where
  pub yes' : b ≡ true → C
  pub back : C → b ≡ true

tells_all : {A : Type 0} (P : A → Type 0) (f : A → Bool) → ((x : A) → T (f x) → P x) → ((x : A) → P x → T (f x)) → (xs : List A) → Tells (all f xs) (All P xs)
tells_all P f there back' xs = record { yes' = λ e. all→All P f there xs (subst T (sym e) tt); back = λ a. is_true (all f xs) (All→all P f back' xs a) }
  where
    is_true : (b : Bool) → T b → b ≡ true
    is_true true t = refl
    is_true false t = absurd t

-- a number at a place
abbrev drawn : ℕ → Option ℕ → Option Refusal
drawn place o = found o (λ n. Some (record { number = n; place = place })) (λ _. None)

-- four tests in a row, each with what it is to fail it
module _ (At : InRule → Type 0) (place : ℕ) (C : InRule → Type 0) (fails : (c : InRule) → (C c → ⊥) → At c) (holds : (c : InRule) → At c → C c → ⊥) where
  abbrev says : InRule → Refusal
  says c = record { number = number_of (rule 0 0 c); place = place }

  abbrev Is : Option ℕ → Type 0
  Is o = Exact InRule rule_order At says (drawn place o)

  no' : (c : InRule) (b : Bool) → b ≡ false → Tells b (C c) → C c → ⊥
  no' c b e t h = true≢false (sym (t.back h) ∙ e)

  tests : (a b c d : Bool) → Tells a (C size) → Tells b (C unbound) → Tells c (C held_out) → Tells d (C column) → Is (refuse a 8 (refuse b 7 (refuse c 10 (refuse d 9 None))))
  tests false b c d ta tb tc td = record { clear = λ e. absurd (none_some (sym e)); first = λ r e. (size, fails size (no' size false refl ta), some_inj e, before) }
    where
      before : (x : InRule) → Before (rule_order x) (0 ∷ []) → At x → ⊥
      before size l v = either (λ q. omega arith) (λ q. q.1) l
      before unbound l v = either (λ q. omega arith) (λ q. omega (arith, q.0)) l
      before held_out l v = either (λ q. omega arith) (λ q. omega (arith, q.0)) l
      before column l v = either (λ q. omega arith) (λ q. omega (arith, q.0)) l
  tests true false c d ta tb tc td = record { clear = λ e. absurd (none_some (sym e)); first = λ r e. (unbound, fails unbound (no' unbound false refl tb), some_inj e, before) }
    where
      before : (x : InRule) → Before (rule_order x) (1 ∷ []) → At x → ⊥
      before size l v = holds size v (ta.yes' refl)
      before unbound l v = either (λ q. omega arith) (λ q. q.1) l
      before held_out l v = either (λ q. omega arith) (λ q. omega (arith, q.0)) l
      before column l v = either (λ q. omega arith) (λ q. omega (arith, q.0)) l
  tests true true false d ta tb tc td = record { clear = λ e. absurd (none_some (sym e)); first = λ r e. (held_out, fails held_out (no' held_out false refl tc), some_inj e, before) }
    where
      before : (x : InRule) → Before (rule_order x) (2 ∷ []) → At x → ⊥
      before size l v = holds size v (ta.yes' refl)
      before unbound l v = holds unbound v (tb.yes' refl)
      before held_out l v = either (λ q. omega arith) (λ q. q.1) l
      before column l v = either (λ q. omega arith) (λ q. omega (arith, q.0)) l
  tests true true true false ta tb tc td = record { clear = λ e. absurd (none_some (sym e)); first = λ r e. (column, fails column (no' column false refl td), some_inj e, before) }
    where
      before : (x : InRule) → Before (rule_order x) (3 ∷ []) → At x → ⊥
      before size l v = holds size v (ta.yes' refl)
      before unbound l v = holds unbound v (tb.yes' refl)
      before held_out l v = holds held_out v (tc.yes' refl)
      before column l v = either (λ q. omega arith) (λ q. q.1) l
  tests true true true true ta tb tc td = record { clear = λ e c v. clear c v; first = λ r e. absurd (none_some e) }
    where
      clear : (c : InRule) → At c → ⊥
      clear size v = holds size v (ta.yes' refl)
      clear unbound v = holds unbound v (tb.yes' refl)
      clear held_out v = holds held_out v (tc.yes' refl)
      clear column v = holds column v (td.yes' refl)

-- ## A rule, and the rules

-- a search through an index, and then what is made of the find
first_map : {A B : Type 0} (g : A → B) (f : ℕ → Option A) (n : ℕ) → found (first_some f n) (λ a. Some (g a)) (λ _. None) ≡ first_some (λ i. found (f i) (λ a. Some (g a)) (λ _. None)) n
first_map g f zero = refl
first_map {A} {B} g f (suc n) = by (first_some f n) (first_map g f n)
  where
    by : (o : Option A) → found o (λ a. Some (g a)) (λ _. None) ≡ first_some (λ i. found (f i) (λ a. Some (g a)) (λ _. None)) n
        → found (found o Some (λ _. f n)) (λ a. Some (g a)) (λ _. None) ≡ found (first_some (λ i. found (f i) (λ a. Some (g a)) (λ _. None)) n) Some (λ _. found (f n) (λ a. Some (g a)) (λ _. None))
    by None e = rw (← e)
    by (Some a) e = rw (← e)

module _ (w : List ℕ) where
  -- what must hold of an instruction
  abbrev Must : Rule → ℕ → Instr → InRule → Type 0
  Must R j ins size = All Fits (sizes_of (tables w) arity ins)
  Must R j ins unbound = All (IsKnown (Known R j)) (reads_of ins)
  Must R j ins held_out = All NotHeld (held_of ins)
  Must R j ins column = All Below (columns_of (tables w) arity ins)

  module _ (r : ℕ) where
    abbrev R : Rule
    R = read_rule w (rule_first w r)

    -- instruction j of the rule at fault
    abbrev Fails : ℕ → InRule → Type 0
    Fails j c = (ins : Instr) × (slice_get R.instrs j ≡ Some ins) × (Must R j ins c → ⊥)

    abbrev says_at : ℕ → InRule → Refusal
    says_at j c = record { number = number_of (rule r j c); place = instr_place w (rule_first w r) j }

    abbrev draws : ℕ → Option Refusal
    draws j = found (check_at (tables w) arity R j) (λ e. Some (record { number = e.0; place = instr_place w (rule_first w r) e.1 })) (λ _. None)

    same_number : (j : ℕ) (c : InRule) → number_of (rule 0 0 c) ≡ number_of (rule r j c)
    same_number j size = refl
    same_number j unbound = refl
    same_number j held_out = refl
    same_number j column = refl

    draws_is : (j : ℕ) (ins : Instr) → slice_get R.instrs j ≡ Some ins → drawn (instr_place w (rule_first w r) j) (check_instr (tables w) arity (bound? R j) ins) ≡ draws j
    draws_is j ins e = rw e (by (check_instr (tables w) arity (bound? R j) ins))
      where
        by : (o : Option ℕ) → drawn (instr_place w (rule_first w r) j) o ≡ found {B = Option Refusal} (placed j o) (λ e. Some (record { number = e.0; place = instr_place w (rule_first w r) e.1 })) (λ _. None)
        by None = refl
        by (Some n) = refl

    instr_exact : (j : ℕ) → j < length R.instrs → Exact InRule rule_order (Fails j) (says_at j) (draws j)
    unfolding check_instr
    instr_exact j l =
        let x = at_length R.instrs j l in
        let ins = x.0 in
        let e = tests (Fails j) (instr_place w (rule_first w r) j) (Must R j ins)
        (λ c f. (ins, x.1, f)) (λ c v h. v.2 (subst (λ (i : Instr). Must R j i c) (some_inj (sym x.1 ∙ v.1)) h))
        (all fits? (sizes_of (tables w) arity ins)) (all (known? (bound? R j)) (reads_of ins)) (all free? (held_of ins)) (all below? (columns_of (tables w) arity ins))
        (tells_all Fits fits? fits→ →fits (sizes_of (tables w) arity ins))
        (tells_all (IsKnown (Known R j)) (known? (bound? R j)) (known→ (Known R j) (bound? R j) (bound→ R j)) (→known (Known R j) (bound? R j) (→bound R j)) (reads_of ins))
        (tells_all NotHeld free? free→ →free (held_of ins)) (tells_all Below below? below→ →below (columns_of (tables w) arity ins)) in
        subst (Exact InRule rule_order (Fails j) (says_at j)) (draws_is j ins x.1)
        (record { clear = e.clear; first = λ r' q. let f = e.first r' q in (f.0, f.1, ap (λ (n : ℕ). record { number = n; place = instr_place w (rule_first w r) j }) (sym (same_number j f.0)) ∙ f.2, f.3) })

    rule_exact : Exact (ℕ × InRule) (λ p. p.0 ∷ rule_order p.1) (λ p. (p.0 < length R.instrs) × Fails p.0 p.1) (λ p. says_at p.0 p.1) (rule_refusal w r)
    unfolding rule_refusal check
    rule_exact =
        subst (Exact (ℕ × InRule) (λ p. p.0 ∷ rule_order p.1) (λ p. (p.0 < length R.instrs) × Fails p.0 p.1) (λ p. says_at p.0 p.1))
        (sym (first_map (λ (e : ℕ × ℕ). record { number = e.0; place = instr_place w (rule_first w r) e.1 }) (check_at (tables w) arity R) (length R.instrs)))
        (exact_first InRule rule_order Fails says_at draws (length R.instrs) instr_exact)

  -- said as the claim says it
  to_rule : (r j : ℕ) (c : InRule) → r < rule_count w → Fails r j c → AtRule w r j c
  to_rule r j size l v = (l, v.0, v.1, v.2)
  to_rule r j unbound l v = (l, v.0, v.1, v.2)
  to_rule r j held_out l v = (l, v.0, v.1, v.2)
  to_rule r j column l v = (l, v.0, v.1, v.2)

  of_rule : (r j : ℕ) (c : InRule) → AtRule w r j c → (r < rule_count w) × ((j < length (R r).instrs) × Fails r j c)
  of_rule r j size v = (v.0, (at_below (R r).instrs j v.2, (v.1, v.2, v.3)))
  of_rule r j unbound v = (v.0, (at_below (R r).instrs j v.2, (v.1, v.2, v.3)))
  of_rule r j held_out v = (v.0, (at_below (R r).instrs j v.2, (v.1, v.2, v.3)))
  of_rule r j column v = (v.0, (at_below (R r).instrs j v.2, (v.1, v.2, v.3)))

  pub rules_exact : Exact (ℕ × (ℕ × InRule)) (λ p. p.0 ∷ p.1.0 ∷ rule_order p.1.1) (λ p. AtRule w p.0 p.1.0 p.1.1) (λ p. says_at p.0 p.1.0 p.1.1) (rules_refusal w)
  unfolding rules_refusal
  rules_exact =
      exact_map (ℕ × (ℕ × InRule)) (λ p. p.0 ∷ p.1.0 ∷ rule_order p.1.1) (λ p. (p.0 < rule_count w) × ((p.1.0 < length (R p.0).instrs) × Fails p.0 p.1.0 p.1.1)) (λ p. AtRule w p.0 p.1.0 p.1.1) (λ p. says_at p.0 p.1.0 p.1.1) (rules_refusal w)
      (λ p v. to_rule p.0 p.1.0 p.1.1 v.0 v.1.1) (λ p v. of_rule p.0 p.1.0 p.1.1 v)
      (exact_first (ℕ × InRule) (λ p. p.0 ∷ rule_order p.1) (λ r p. (p.0 < length (R r).instrs) × Fails r p.0 p.1) (λ r p. says_at r p.0 p.1) (rule_refusal w) (rule_count w) (λ r l. rule_exact r))
