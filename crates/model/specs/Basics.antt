-- Small combinators that the definitions share. Each is lazy in its branches: a branch is a function or a folded call.
use Rattle.std.specs.Prelude.{ℕ, zero, suc, Bool, true, false, ◌&&◌, List, [], ◌∷◌, ◌++◌, eqb, Option, None, Some}

-- n turns from the front: turn 0 first. A loop `for i in 0..n` has the invariant `state ≡ iter f i start`
abbrev pub iter : {A : Type 0} → (ℕ → A → A) → ℕ → A → A
iter f zero s = s
iter f (suc n) s = f n (iter f n s)

abbrev pub when : {A : Type 0} → Bool → (A → A) → A → A
when true f s = f s
when false f s = s

-- what was found goes to the first function, else the second answers
abbrev pub found : {A B : Type 0} → Option A → (A → B) → (Unit {0} → B) → B
found None f g = g tt
found (Some a) f g = f a

-- an answer that is there only where a test passes
abbrev pub only : {A : Type 0} → Bool → Option A → Option A
only true o = o
only false o = None

-- the first answer, else what comes next
infixr 15 ◌else◌
abbrev pub ◌else◌ : {A : Type 0} → Option A → (Unit {0} → Option A) → Option A
o else k = found o Some k

-- ## Lists

abbrev pub first : {A : Type 0} → List A → Option A
first [] = None
first (x ∷ xs) = Some x

abbrev pub join : {A : Type 0} → List (List A) → List A
join [] = []
join (l ∷ ls) = l ++ join ls

abbrev pub keep_if : {A : Type 0} → Bool → A → List A → List A
keep_if true x xs = x ∷ xs
keep_if false x xs = xs

abbrev pub eq_list : List ℕ → List ℕ → Bool
eq_list [] [] = true
eq_list [] (y ∷ ys) = false
eq_list (x ∷ xs) [] = false
eq_list (x ∷ xs) (y ∷ ys) = eqb x y && eq_list xs ys

abbrev pub all : {A : Type 0} → (A → Bool) → List A → Bool
all f [] = true
all f (x ∷ xs) = f x && all f xs

abbrev pub All : {A : Type 0} → (A → Type 0) → List A → Type 0
All P [] = Unit {0}
All P (x ∷ xs) = P x × All P xs

-- R x y for each x that stands before y
abbrev pub AllPairs : {A : Type 0} → (A → A → Type 0) → List A → Type 0
AllPairs R [] = Unit {0}
AllPairs R (x ∷ xs) = All (R x) xs × AllPairs R xs

-- ## By an index from 0

-- the first of f 0 .. f (n - 1) that is there; nothing past it is computed
abbrev pub first_some : {A : Type 0} → (ℕ → Option A) → ℕ → Option A
first_some f n = iter (λ i o. found o Some (λ _. f i)) n None

abbrev pub least : (ℕ → Bool) → ℕ → Option ℕ
least p n = first_some (λ i. only (p i) (Some i)) n

abbrev pub how_many : (ℕ → Bool) → ℕ → ℕ
how_many p n = iter (λ i. when (p i) suc) n 0

unfoldable pub tab : {A : Type 0} → (ℕ → A) → ℕ → List A
tab f zero = []
tab f (suc n) = tab f n ++ (f n ∷ [])
