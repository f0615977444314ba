-- The functions 0 to 7 answer no stale mark, as demand 3 supposes.
use Rattle.std.specs.Prelude.{ℕ, ◌+◌, ◌-◌, ◌≡◌, Bool, true, false, cond, List, T, eqb, leb, ltb, length, get_or, Some}
use Rattle.std.proofs.Common.{arith, subst, leb→le}
use Rattle.model.specs.Basics.{only, All}
use Rattle.model.specs.Book.Syntax.{Clean}
use Rattle.model.specs.Machine.Functions.{band, Function, of_one, of_two, functions, no_function, function_of, answers, apply}
use Rattle.model.specs.Laws.Logic.{some_inj, none_some, only_some, All-get_or}

abbrev Fine : Function → Type 0
Fine (of_one g) = (a w : ℕ) → Clean a → g a ≡ Some w → Clean w
Fine (of_two g) = (a b w : ℕ) → Clean a → Clean b → g a b ≡ Some w → Clean w

only_fine : (t : Bool) (x w : ℕ) → only t (Some x) ≡ Some w → (T t → Clean x) → Clean w
only_fine t x w e h = let p = only_some t (Some x) e in subst Clean (some_inj p.1) (h p.0)

cond_clean : (t : Bool) (x y : ℕ) → Clean x → Clean y → Clean (cond t x y)
cond_clean true x y p q = p
cond_clean false x y p q = q

band_fine : (p w : ℕ) → Clean p → band p ≡ Some w → Clean w
band_fine p w c e = only_fine (leb p 100) _ w e (λ t. cond_clean (leb p 49) 0 _ (omega arith) (cond_clean (leb p 79) 1 2 (omega arith) (omega arith)))

all_fine : All Fine functions
all_fine = (
  (λ a b w ca cb e. only_fine (leb (a + b) 4294967294) (a + b) w e (λ t. omega (arith, leb→le (a + b) 4294967294 t))),
  (
    (λ a b w ca cb e. only_fine (leb b a) (a - b) w e (λ t. omega arith)),
    (
      (λ a b w ca cb e. only_fine (ltb a b) a w e (λ t. ca)),
      (
        (λ a b w ca cb e. only_fine (leb a b) a w e (λ t. ca)),
        (
          (λ a b w ca cb e. subst Clean (some_inj e) (omega arith)),
          (
            (λ a b w ca cb e. subst Clean (some_inj e) (omega arith)),
            (
              band_fine,
              (
                (λ a b w ca cb e. subst Clean (some_inj e) (omega arith)),
                tt,
              ),
            ),
          ),
        ),
      ),
    ),
  ),
)

clean_at : (args : List ℕ) → All Clean args → (i : ℕ) → Clean (get_or args i 0)
clean_at args c i = All-get_or Clean args i 0 c (omega arith)

answers_fine : (g : Function) → Fine g → (args : List ℕ) (w : ℕ) → All Clean args → answers g args ≡ Some w → Clean w
answers_fine (of_one g) h args w c e = h _ w (clean_at args c 0) (only_some (eqb (length args) 1) _ e).1
answers_fine (of_two g) h args w c e = h _ _ w (clean_at args c 0) (clean_at args c 1) (only_some (eqb (length args) 2) _ e).1

pub functions_fine : (f : ℕ) (args : List ℕ) (w : ℕ) → All Clean args → apply f args ≡ Some w → Clean w
functions_fine f = answers_fine (function_of f) (All-get_or Fine functions f no_function all_fine (λ a b w p q e. absurd (none_some e)))
