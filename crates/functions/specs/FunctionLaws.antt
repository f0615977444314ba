-- Laws of the model's functions: how many arguments each takes, that it answers on no other number of them, and what stands past the last number.
use Rattle.std.specs.Prelude.{ℕ, ◌-◌, ◌<◌, ◌≤◌, ◌≡◌, refl, ◌≢◌, Bool, true, false, List, [], ◌∷◌, eqb, length, get_or, set, Option, None, Some}
use Rattle.std.proofs.Common.{ap, ◌∙◌, arith, eqb→eq, eqb-true, eq-eqb, ne_eqb, get_or-set_other}
use Rattle.std.proofs.lemmas.Bool.{eqb-false}
use Rattle.std.proofs.Math.ListN.{get_or-eq_default}
use Rattle.model.specs.Basics.{only}
use Rattle.model.specs.Laws.Logic.{All-get_or, only_some}
use Rattle.model.specs.Machine.Functions.{Function, of_one, of_two, functions, function_count, no_function, function_of, takes, on_first, answers, arity, apply}

-- ## How many arguments

pub all_two : (f : ℕ) → f ≢ 6 → arity f ≡ 2
all_two f h =
    rw (← get_or-set_other functions 6 f no_function no_function h)
    (All-get_or (λ g. takes g ≡ 2) (set functions 6 no_function) f no_function (refl, (refl, (refl, (refl, (refl, (refl, (refl, (refl, tt)))))))) refl)

answers_fit : (g : Function) (args : List ℕ) (w : ℕ) → answers g args ≡ Some w → length args ≡ takes g
answers_fit g args w e = eqb→eq (length args) (takes g) (only_some (eqb (length args) (takes g)) (on_first g args) e).0

-- on one argument the band alone answers
pub only_band : (f a w : ℕ) → apply f (a ∷ []) ≡ Some w → f ≡ 6
only_band f a w e = by (eqb f 6) refl
  where
    by : (b : Bool) → eqb f 6 ≡ b → f ≡ 6
    by true d = eqb-true f 6 d
    by false d = absurd (omega (arith, answers_fit (function_of f) (a ∷ []) w e, all_two f (eqb-false f 6 d)))

-- ## What the code comes to

pub some_argument : (f : ℕ) → 0 < arity f
some_argument f = by (function_of f)
  where
    by : (g : Function) → 0 < takes g
    by (of_one g) = omega arith
    by (of_two g) = omega arith

-- function k, on as many arguments as it takes
pub answered : (f k : ℕ) (l : List ℕ) (o : Option ℕ) → f ≡ k → length l ≡ arity f → o ≡ on_first (function_of k) l → o ≡ apply f l
answered f k l o e m p = rw (m, e, eq-eqb (arity k) (arity k) refl) p

-- y is the last of them
pub answered_by_two : (f k : ℕ) (g : ℕ → ℕ → Option ℕ) (l : List ℕ) (o : Option ℕ) → f ≡ k → length l ≡ arity f → function_of k ≡ of_two g → o ≡ g (get_or l 0 0) (get_or l (length l - 1) 0) → o ≡ apply f l
answered_by_two f k g l o e m t p =
    let two : length l - 1 ≡ 1 = ap (λ (n : ℕ). n - 1) (m ∙ ap arity e ∙ ap takes t) in
    answered f k l o e m (rw (t, ← two) p)

pub other_counts : (f : ℕ) (l : List ℕ) → length l ≢ arity f → apply f l ≡ None
other_counts f l m = rw (ne_eqb (length l) (arity f) m)

only_none : (b : Bool) → only {A = ℕ} b None ≡ None
only_none true = refl
only_none false = refl

pub no_function_lem : (f : ℕ) (args : List ℕ) → function_count ≤ f → apply f args ≡ None
no_function_lem f args h = rw (get_or-eq_default functions no_function {n = f} h) (only_none (eqb (length args) 2))
