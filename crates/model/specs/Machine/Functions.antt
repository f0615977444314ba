-- The functions 0 to 7 that stand in for `ExternalFunction`.
use Rattle.std.specs.Prelude.{ℕ, ◌+◌, ◌-◌, min, max, Bool, cond, List, [], ◌∷◌, eqb, ltb, leb, length, get_or, Option, None, Some}
use Rattle.model.specs.Basics.{only}
use Rattle.model.specs.Book.Syntax.{Table, Rule}
use Rattle.model.specs.Machine.State.{Env}

abbrev pub band : ℕ → Option ℕ
band p = only (leb p 100) (Some (cond (leb p 49) 0 (cond (leb p 79) 1 2)))

-- what a function answers, by how many arguments it takes
pub data Function : Type 0 where
  of_one : (ℕ → Option ℕ) → Function
  of_two : (ℕ → ℕ → Option ℕ) → Function

-- by number
abbrev pub functions : List Function
functions =
    of_two (λ a b. only (leb (a + b) 4294967294) (Some (a + b)))
    ∷ of_two (λ a b. only (leb b a) (Some (a - b)))
    ∷ of_two (λ a b. only (ltb a b) (Some a))
    ∷ of_two (λ a b. only (leb a b) (Some a))
    ∷ of_two (λ a b. Some (min a b))
    ∷ of_two (λ a b. Some (max a b))
    ∷ of_one band
    ∷ of_two (λ a b. Some ((a - b) + (b - a)))
    ∷ []

abbrev pub function_count : ℕ
function_count = length functions

-- past the last number stands one that never answers; no book that is run names it
abbrev pub no_function : Function
no_function = of_two (λ a b. None)

abbrev pub function_of : ℕ → Function
function_of f = get_or functions f no_function

abbrev pub takes : Function → ℕ
takes (of_one g) = 1
takes (of_two g) = 2

-- on the first words of a list
abbrev pub on_first : Function → List ℕ → Option ℕ
on_first (of_one g) l = g (get_or l 0 0)
on_first (of_two g) l = g (get_or l 0 0) (get_or l 1 0)

-- an answer on just as many arguments as it takes
abbrev pub answers : Function → List ℕ → Option ℕ
answers g args = only (eqb (length args) (takes g)) (on_first g args)

abbrev pub arity : ℕ → ℕ
arity f = takes (function_of f)

abbrev pub apply : ℕ → List ℕ → Option ℕ
apply f = answers (function_of f)

-- a book's tables and rules with these functions
abbrev pub with_functions : List Table → List Rule → (ℕ → Bool) → Env
with_functions ts rs room = record { tables = ts; rules = rs; arity = arity; answer = λ o call. apply; room = room }
