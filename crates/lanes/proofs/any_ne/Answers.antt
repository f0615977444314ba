-- The pairs that `any` has compared agree (`all_agree`), or the one that decides differs (`one_differs`).
use Rattle.std.proofs.Common.{◌≡◌, ◌≢◌, refl, ℕ, zero, suc, ◌<◌, Bool, true, false, ◌||◌, List, [], ◌∷◌, get_or, length, min, sym, zero-add, eq-eqb, ne_eqb, arith, rules, tests}
use Rattle.std.specs.Bool.{MatchBool}
use Rattle.std.specs.List.{AllWithin, HoldsAt, range_with_len}
use Rattle.std.proofs.lemmas.Iterator.{cases_from_any, YieldsList-from_range}
use Rattle.std.proofs.lemmas.List.{take_min, drop_min}
use Rattle.std.proofs.lemmas.List.FromFn.{length-range_with_len, get_or-range_with_len}
use Rattle.model.specs.Machine.Steps.{any_ne}
use Rattle.lanes.proofs.any_ne.Goals as goal

abbrev pairs : (xs ys : List ℕ) → ℕ
pairs xs ys = min (length xs) (length ys)

all_agree : (xs ys : List ℕ) → ((k : ℕ) → k < length xs → k < length ys → get_or xs k 0 ≡ get_or ys k 0) → any_ne xs ys ≡ false
all_agree [] ys h = refl
all_agree (x ∷ xs) [] h = refl
all_agree (x ∷ xs) (y ∷ ys) h = rw (eq-eqb x y (h 0 (omega arith) (omega arith))) (all_agree xs ys (λ k l m. h (suc k) (omega arith) (omega arith)))

one_differs : (xs ys : List ℕ) (k : ℕ) → k < length xs → k < length ys → get_or xs k 0 ≢ get_or ys k 0 → any_ne xs ys ≡ true
one_differs [] ys k h l d = absurd (omega arith)
one_differs (x ∷ xs) [] k h l d = absurd (omega arith)
one_differs (x ∷ xs) (y ∷ ys) zero h l d = rw (ne_eqb x y d)
one_differs (x ∷ xs) (y ∷ ys) (suc k) h l d = rw (one_differs xs ys k (omega arith) (omega arith) d, or_true _)
  where
    or_true : (b : Bool) → (b || true) ≡ true
    or_true true = refl
    or_true false = refl

module _ (xs ys : List ℕ) (n : ℕ) (is : n ≡ pairs xs ys) where
  abbrev Same : ℕ → Type 0
  Same k = get_or xs k 0 ≡ get_or ys k 0

  abbrev Other : ℕ → Type 0
  Other k = get_or xs k 0 ≢ get_or ys k 0

  decided : (r : Bool) → MatchBool r ((k : ℕ) × (k < length (range_with_len 0 n)) × HoldsAt Other (range_with_len 0 n) k) (AllWithin Same (range_with_len 0 n) 0 (length (range_with_len 0 n))) → r ≡ any_ne xs ys
  decided true (k, l, not) =
      let m : k < n = omega (arith, length-range_with_len 0 n) in
      sym (one_differs xs ys k (omega arith) (omega arith) (rw (get_or-range_with_len, zero-add) at (not 0)))
  decided false all = sym (all_agree xs ys (λ k l m. let h : k < n = omega arith in rw (get_or-range_with_len, zero-add) at (all k 0 (omega arith) (omega (arith, length-range_with_len 0 n)))))

pub returns : goal.returns
returns c =
    let d = c.args.divider in
    let ops = c.args.ops.now in
    let xs = c.split_at.result.0.now in
    let ys = c.split_at.result.1.now in
    let n : ℕ = c.min-2.result in
    let is = c.min-2.ensures in
    let sides = c.split_at.ensures in
    rw (← take_min d ops, ← drop_min d ops, ← c.min.ensures, ← sides.front, ← sides.back) (decided xs ys n is _ (cases_from_any _ _ _ (Other xs ys n is) (Same xs ys n is) c.any.ensures.ran (YieldsList-from_range 0 n n (cc) (omega arith)) (λ x q k. search (rules, tests)) (λ x q k. search (rules, tests))))
