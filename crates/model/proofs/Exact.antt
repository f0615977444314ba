-- What it is for a refusal to be exact, and how exact refusals follow one another.
use Prim.Native.Nat.{ℕ, ◌<◌}
use mathlib.Core.Path.{◌≡◌, refl, sym, ap, ◌∙◌, subst}
use mathlib.Core.Logic.{◌⊎◌, inl, inr}
use mathlib.Core.Bool.{Bool, true, true≢false}
use Rattle.std.specs.Prelude.{Option, None, Some}
use mathlib.Core.List.{List, [], ◌∷◌}
use native.Mathlib.Decide.{dec_lt}
use native.Mathlib.Omega.{arith}
use lib.ListN.{get_or}
use Rattle.model.specs.Basics.{first_some}
use Rattle.model.specs.Book.Words.{Refusal, unless}
use Rattle.model.specs.Claims.Refusals.{InContents, counting, ending, entry, InBody, layout, absent, mark, repeat, InRule, size, unbound, held_out, column, InRun, log_full, counter_spent, Fault, lengths, bytes, contents, body, rule, unfit, in_run, tables_full, answer_full, stage_of, within, Before, Earlier}
use Rattle.model.specs.Laws.Logic.{unless_none, unless_some, either}
use Rattle.model.specs.Laws.Lists as lists
use Rattle.model.specs.Laws.Lists.{first_some_none, first_some_some}

-- a refusal is drawn where something of A is at fault, and then says the first such
pub record Exact (A : Type 0) (rank : A → List ℕ) (At : A → Type 0) (says : A → Refusal) (o : Option Refusal) : Type 0 where
  pub clear : o ≡ None → (a : A) → At a → ⊥
  pub first : (r : Refusal) → o ≡ Some r → (a : A) × At a × (says a ≡ r) × ((b : A) → Before (rank b) (rank a) → At b → ⊥)

-- with the fault said in other words
pub exact_map : (A : Type 0) (rank : A → List ℕ) (At At' : A → Type 0) (says : A → Refusal) (o : Option Refusal) → ((a : A) → At a → At' a) → ((a : A) → At' a → At a) → Exact A rank At says o → Exact A rank At' says o
exact_map A rank At At' says o f g e = record {
  clear = λ q a h. e.clear q a (g a h);
  first = λ r q. let d = e.first r q in (d.0, f d.0 d.1, d.2, λ b l h. d.3 b l (g b h));
}

-- a single test
pub exact_unless : (C : Type 0) (b : Bool) (n p : ℕ) → (b ≡ true → C) → (C → b ≡ true) → Exact (Unit {0}) (λ _. []) (λ _. C → ⊥) (λ _. record { number = n; place = p }) (unless b n p)
exact_unless C b n p yes' back = record {
  clear = λ e a h. h (yes' (unless_none b n p e));
  first = λ r e. let q = unless_some b n p r e in (tt, (λ c. true≢false (sym (back c) ∙ q.0)), q.1, λ a h. absurd h);
}

-- the first of n refusals
pub exact_first : (A : Type 0) (rank : A → List ℕ) (At : ℕ → A → Type 0) (says : ℕ → A → Refusal) (f : ℕ → Option Refusal) (n : ℕ) → ((i : ℕ) → i < n → Exact A rank (At i) (says i) (f i))
    → Exact (ℕ × A) (λ p. p.0 ∷ rank p.1) (λ p. (p.0 < n) × At p.0 p.1) (λ p. says p.0 p.1) (first_some f n)
exact_first A rank At says f n h = record {
  clear = λ e p a. (h p.0 a.0).clear (first_some_none f n e p.0 a.0) p.1 a.1;
  first = λ r e. of r (first_some_some f n r e);
}
  where
    of : (r : Refusal) → lists.First f n r
        → (p : ℕ × A) × ((p.0 < n) × At p.0 p.1) × (says p.0 p.1 ≡ r) × ((q : ℕ × A) → Before (q.0 ∷ rank q.1) (p.0 ∷ rank p.1) → (q.0 < n) × At q.0 q.1 → ⊥)
    of r t =
        let d = (h t.index t.below).first r t.here in (
          (t.index, d.0),
          (t.below, d.1),
          d.2,
          λ q b a.
              either (λ l. (h q.0 a.0).clear (t.before q.0 l) q.1 a.1)
              (λ e. d.3 q.1 e.1 (subst (λ (i : ℕ). At i q.1) e.0 a.1)) b,
        )

-- ## The order of faults

pub before_cases : (a b : List ℕ) → (Before a b ⊎ Before b a) ⊎ (a ≡ b)
before_cases [] [] = inr refl
before_cases [] (y ∷ ys) = inl (inl tt)
before_cases (x ∷ xs) [] = inl (inr tt)
before_cases (x ∷ xs) (y ∷ ys) = elim (dec_lt x y) [ yes p ↦ inl (inl (inl p)) | no p ↦ elim (dec_lt y x) [ yes q ↦ inl (inr (inl q)) | no q ↦ same (omega arith) (before_cases xs ys) ] ]
  where
    same : x ≡ y → (Before xs ys ⊎ Before ys xs) ⊎ (xs ≡ ys) → (Before (x ∷ xs) (y ∷ ys) ⊎ Before (y ∷ ys) (x ∷ xs)) ⊎ (x ∷ xs ≡ y ∷ ys)
    same e (inl (inl p)) = inl (inl (inr (e, p)))
    same e (inl (inr p)) = inl (inr (inr (sym e, p)))
    same e (inr q) = inr (cc)

-- the fault of a stage and a place within it
abbrev at : List ℕ → ℕ → ℕ
at l i = get_or l i 0

fault_at : ℕ → List ℕ → Fault
fault_at n l =
    get_or {A = List ℕ → Fault}
    ((λ l. lengths)
    ∷ (λ l. bytes)
    ∷ (λ l. contents (get_or (counting ∷ entry (at l 1) ∷ ending ∷ []) (at l 0) counting))
    ∷ (λ l. body (at l 0) (get_or (layout ∷ absent (at l 2) ∷ mark (at l 2) ∷ repeat (at l 2) ∷ []) (at l 1) layout))
    ∷ (λ l. rule (at l 0) (at l 1) (get_or (size ∷ unbound ∷ held_out ∷ column ∷ []) (at l 2) size))
    ∷ (λ l. unfit (at l 0))
    ∷ (λ l. in_run (at l 0) (get_or (log_full ∷ counter_spent ∷ []) (at l 1) log_full))
    ∷ (λ l. tables_full)
    ∷ (λ l. answer_full)
    ∷ [])
    n (λ l. lengths) l

is_fault : (f : Fault) → fault_at (stage_of f) (within f) ≡ f
unfolding fault_at
is_fault lengths = refl
is_fault bytes = refl
is_fault (contents counting) = refl
is_fault (contents (entry i)) = refl
is_fault (contents ending) = refl
is_fault (body i layout) = refl
is_fault (body i (absent p)) = refl
is_fault (body i (mark p)) = refl
is_fault (body i (repeat row)) = refl
is_fault (rule r j size) = refl
is_fault (rule r j unbound) = refl
is_fault (rule r j held_out) = refl
is_fault (rule r j column) = refl
is_fault (unfit k) = refl
is_fault (in_run k log_full) = refl
is_fault (in_run k counter_spent) = refl
is_fault tables_full = refl
is_fault answer_full = refl

pub fault_cases : (f g : Fault) → (Earlier f g ⊎ Earlier g f) ⊎ (f ≡ g)
fault_cases f g = of (before_cases (stage_of f ∷ within f) (stage_of g ∷ within g))
  where
    of : (Earlier f g ⊎ Earlier g f) ⊎ (stage_of f ∷ within f ≡ stage_of g ∷ within g) → (Earlier f g ⊎ Earlier g f) ⊎ (f ≡ g)
    of (inl e) = inl e
    of (inr e) =
        let s : stage_of f ≡ stage_of g = cc in
        let w : within f ≡ within g = cc in
        inr (sym (is_fault f) ∙ ap (λ (n : ℕ). fault_at n (within f)) s ∙ ap (fault_at (stage_of g)) w ∙ is_fault g)

-- what holds of each fault of a stage
module _ (P : Fault → Type 0) where
  at_stage : (n : ℕ) → ((l : List ℕ) → P (fault_at n l)) → (g : Fault) → stage_of g ≡ n → P g
  at_stage n h g e = subst P (is_fault g) (subst (λ (m : ℕ). P (fault_at m (within g))) (sym e) (h (within g)))

  pub of_lengths : P lengths → (g : Fault) → stage_of g ≡ 0 → P g
  unfolding fault_at
  of_lengths h = at_stage 0 (λ l. h)

  pub of_bytes : P bytes → (g : Fault) → stage_of g ≡ 1 → P g
  unfolding fault_at
  of_bytes h = at_stage 1 (λ l. h)

  pub of_contents : ((c : InContents) → P (contents c)) → (g : Fault) → stage_of g ≡ 2 → P g
  unfolding fault_at
  of_contents h = at_stage 2 (λ l. h _)

  pub of_body : ((i : ℕ) (c : InBody) → P (body i c)) → (g : Fault) → stage_of g ≡ 3 → P g
  unfolding fault_at
  of_body h = at_stage 3 (λ l. h _ _)

  pub of_rule : ((r j : ℕ) (c : InRule) → P (rule r j c)) → (g : Fault) → stage_of g ≡ 4 → P g
  unfolding fault_at
  of_rule h = at_stage 4 (λ l. h _ _ _)

  pub of_unfit : ((k : ℕ) → P (unfit k)) → (g : Fault) → stage_of g ≡ 5 → P g
  unfolding fault_at
  of_unfit h = at_stage 5 (λ l. h _)

  pub of_run : ((k : ℕ) (c : InRun) → P (in_run k c)) → (g : Fault) → stage_of g ≡ 6 → P g
  unfolding fault_at
  of_run h = at_stage 6 (λ l. h _ _)

  pub of_tables : P tables_full → (g : Fault) → stage_of g ≡ 7 → P g
  unfolding fault_at
  of_tables h = at_stage 7 (λ l. h)

  pub of_answer : P answer_full → (g : Fault) → stage_of g ≡ 8 → P g
  unfolding fault_at
  of_answer h = at_stage 8 (λ l. h)
