-- Laws of the small combinators: tests, options, `All`, `AllPairs`.
use Rattle.std.specs.Prelude.{ℕ, zero, suc, ◌<◌, ◌≡◌, refl, ◌⊎◌, Bool, true, false, ◌&&◌, ◌||◌, not, List, [], ◌∷◌, ◌++◌, T, eqb, length, get_or, set, Option, None, Some, slice_get}
use Rattle.std.proofs.Common.{not-suc-le-zero, le_of_suc-le-suc, arith, sym, subst, inl, inr, eqb→eq}
use Rattle.std.proofs.Math.Decide.{dec_lt}
use Rattle.std.proofs.lemmas.Bool.{false≢true}
use Rattle.std.proofs.Math.Dec.{eqb_refl}
use Rattle.model.specs.Book.Words.{Refusal, unless}
use Rattle.model.specs.Basics.{when, found, only, ◌else◌, eq_list, All, AllPairs}

-- ## Tests

pub and_T : (a b : Bool) → T (a && b) → T a × T b
and_T true b t = (tt, t)
and_T false b t = absurd t

pub T_and : (a b : Bool) → T a → T b → T (a && b)
T_and true b p q = q
T_and false b p q = p

pub or_T : (a b : Bool) → T (a || b) → T a ⊎ T b
or_T true b t = inl tt
or_T false b t = inr t

pub or_l : (a b : Bool) → T a → T (a || b)
or_l true b t = tt
or_l false b t = absurd t

pub or_r : (a b : Bool) → T b → T (a || b)
or_r true b t = tt
or_r false b t = t

pub T-cases : (b : Bool) → T b ⊎ T (not b)
T-cases true = inl tt
T-cases false = inr tt

pub eq_list→eq : (xs ys : List ℕ) → T (eq_list xs ys) → xs ≡ ys
eq_list→eq [] [] t = refl
eq_list→eq [] (y ∷ ys) t = absurd t
eq_list→eq (x ∷ xs) [] t = absurd t
eq_list→eq (x ∷ xs) (y ∷ ys) t =
    let p = and_T (eqb x y) (eq_list xs ys) t in
    let hd : x ≡ y = eqb→eq x y p.0 in
    let tl : xs ≡ ys = eq_list→eq xs ys p.1 in
    cc

pub eq_list_refl : (xs : List ℕ) → T (eq_list xs xs)
eq_list_refl [] = tt
eq_list_refl (x ∷ xs) = T_and (eqb x x) (eq_list xs xs) (eqb_refl x) (eq_list_refl xs)

pub eq_list_eq : (a b : List ℕ) → eq_list a b ≡ true → a ≡ b
eq_list_eq a b e = eq_list→eq a b (subst T (sym e) tt)

pub eq_eq_list : (a b : List ℕ) → a ≡ b → eq_list a b ≡ true
eq_eq_list a b e = rw (← e) (T_true (eq_list a a) (eq_list_refl a))
  where
    T_true : (x : Bool) → T x → x ≡ true
    T_true true t = refl
    T_true false t = absurd t

pub and_split : (a b : Bool) → a && b ≡ true → (a ≡ true) × (b ≡ true)
and_split true b e = (refl, e)
and_split false b e = absurd (false≢true e)

pub and_join : {a b : Bool} → a ≡ true → b ≡ true → a && b ≡ true
and_join p q = rw (p, q)

pub or_cases : (a b : Bool) → a || b ≡ true → (a ≡ true) ⊎ (b ≡ true)
or_cases true b e = inl refl
or_cases false b e = inr e

-- ## Options

pub some_inj : {A : Type 0} {a b : A} → Some a ≡ Some b → a ≡ b
some_inj e = cc

pub none_some : {A : Type 0} {a : A} → ◌≡◌ {A = Option A} None (Some a) → ⊥
none_some {A} {a} e = let z : ◌≡◌ {A = ℕ} 0 1 = cc in omega arith

-- what a branch gives has P if each case has it
pub found_ind : {A B : Type 0} (P : B → Type 0) (o : Option A) (f : A → B) (g : Unit {0} → B) → ((a : A) → o ≡ Some a → P (f a)) → (o ≡ None → P (g tt)) → P (found o f g)
found_ind P None f g h k = k refl
found_ind P (Some a) f g h k = h a refl

pub when_ind : {A : Type 0} (P : A → Type 0) (b : Bool) (f : A → A) (s : A) → (T b → P (f s)) → P s → P (when b f s)
when_ind P true f s h k = h tt
when_ind P false f s h k = k

pub only_some : {A : Type 0} (b : Bool) (o : Option A) {a : A} → only b o ≡ Some a → T b × (o ≡ Some a)
only_some true o e = (tt, e)
only_some false o e = absurd (none_some e)

pub only_T : {A : Type 0} (b : Bool) (o : Option A) → T b → only b o ≡ o
only_T true o t = refl
only_T false o t = absurd t

pub only_yes : {A : Type 0} (b : Bool) (a x : A) → only b (Some a) ≡ Some x → (b ≡ true) × (a ≡ x)
only_yes true a x e = (refl, some_inj e)
only_yes false a x e = absurd (none_some e)

pub only_no : {A : Type 0} (b : Bool) (a : A) → only b (Some a) ≡ None → b ≡ false
only_no true a e = absurd (none_some (sym e))
only_no false a e = refl

-- one answer, else another
module _ {A B : Type 0} where
  pub seq_none : (o : Option A) (f : A → B) (k : Unit {0} → Option B) → found o (λ a. Some (f a)) k ≡ None → (o ≡ None) × (k tt ≡ None)
  seq_none None f k e = (refl, e)
  seq_none (Some a) f k e = absurd (none_some (sym e))

  pub seq_some : (o : Option A) (f : A → B) (k : Unit {0} → Option B) (b : B) → found o (λ a. Some (f a)) k ≡ Some b → ((a : A) × (o ≡ Some a) × (f a ≡ b)) ⊎ ((o ≡ None) × (k tt ≡ Some b))
  seq_some None f k b e = inr (refl, e)
  seq_some (Some a) f k b e = inl (a, refl, some_inj e)

pub else_none : {A : Type 0} (o : Option A) (k : Unit {0} → Option A) → (o else k) ≡ None → (o ≡ None) × (k tt ≡ None)
else_none o k e = seq_none o (λ x. x) k e

pub else_some : {A : Type 0} (o : Option A) (k : Unit {0} → Option A) (a : A) → (o else k) ≡ Some a → (o ≡ Some a) ⊎ ((o ≡ None) × (k tt ≡ Some a))
else_some None k a e = inr (refl, e)
else_some (Some b) k a e = inl e

pub unless_none : (b : Bool) (n p : ℕ) → unless b n p ≡ None → b ≡ true
unless_none true n p e = refl
unless_none false n p e = absurd (none_some (sym e))

pub unless_some : (b : Bool) (n p : ℕ) (r : Refusal) → unless b n p ≡ Some r → (b ≡ false) × (record { number = n; place = p } ≡ r)
unless_some true n p r e = absurd (none_some e)
unless_some false n p r e = (refl, some_inj e)

-- ## Lists

pub All-map : {A : Type 0} {P Q : A → Type 0} → ((x : A) → P x → Q x) → (xs : List A) → All P xs → All Q xs
All-map f [] h = tt
All-map f (x ∷ xs) h = (f x h.0, All-map f xs h.1)

pub All-append : {A : Type 0} (P : A → Type 0) (xs ys : List A) → All P xs → All P ys → All P (xs ++ ys)
All-append P [] ys h k = k
All-append P (x ∷ xs) ys h k = (h.0, All-append P xs ys h.1 k)

pub All-left : {A : Type 0} (P : A → Type 0) (xs ys : List A) → All P (xs ++ ys) → All P xs
All-left P [] ys h = tt
All-left P (x ∷ xs) ys h = (h.0, All-left P xs ys h.1)

pub All-right : {A : Type 0} (P : A → Type 0) (xs ys : List A) → All P (xs ++ ys) → All P ys
All-right P [] ys h = h
All-right P (x ∷ xs) ys h = All-right P xs ys h.1

pub All-at : {A : Type 0} (P : A → Type 0) (xs : List A) (i : ℕ) {x : A} → All P xs → slice_get xs i ≡ Some x → P x
All-at P [] i h e = absurd (none_some e)
All-at P (y ∷ xs) zero h e = subst P (some_inj e) h.0
All-at P (y ∷ xs) (suc i) h e = All-at P xs i h.1 e

pub All-get_or : {A : Type 0} (P : A → Type 0) (xs : List A) (i : ℕ) (d : A) → All P xs → P d → P (get_or xs i d)
All-get_or P [] i d h p = p
All-get_or P (x ∷ xs) zero d h p = h.0
All-get_or P (x ∷ xs) (suc i) d h p = All-get_or P xs i d h.1 p

pub All-set : {A : Type 0} (P : A → Type 0) (xs : List A) (i : ℕ) (a : A) → All P xs → P a → All P (set xs i a)
All-set P [] i a h p = tt
All-set P (x ∷ xs) zero a h p = (p, h.1)
All-set P (x ∷ xs) (suc i) a h p = (h.0, All-set P xs i a h.1 p)

pub AllPairs-snoc : {A : Type 0} (R : A → A → Type 0) (xs : List A) (y : A) → AllPairs R xs → All (λ x. R x y) xs → AllPairs R (xs ++ (y ∷ []))
AllPairs-snoc R [] y h k = (tt, tt)
AllPairs-snoc R (x ∷ xs) y h k = (All-append (R x) xs (y ∷ []) h.0 (k.0, tt), AllPairs-snoc R xs y h.1 k.1)

pub at_length : {A : Type 0} (xs : List A) (i : ℕ) → i < length xs → (x : A) × (slice_get xs i ≡ Some x)
at_length [] i h = absurd (not-suc-le-zero h)
at_length (x ∷ xs) zero h = (x, refl)
at_length (x ∷ xs) (suc i) h = at_length xs i (le_of_suc-le-suc h)

pub at_below : {A : Type 0} (xs : List A) (i : ℕ) {x : A} → slice_get xs i ≡ Some x → i < length xs
at_below [] i e = absurd (none_some e)
at_below (x ∷ xs) zero e = omega arith
at_below (x ∷ xs) (suc i) e = let h = at_below xs i e in omega arith

pub All-all : {A : Type 0} (P : A → Type 0) (xs : List A) → ((x : A) → P x) → All P xs
All-all P [] h = tt
All-all P (x ∷ xs) h = (h x, All-all P xs h)

pub either : {A B C : Type 0} → (A → C) → (B → C) → A ⊎ B → C
either f g (inl a) = f a
either f g (inr b) = g b

pub le_cases : {m n : ℕ} → m < suc n → (m < n) ⊎ (m ≡ n)
le_cases {m} {n} h = elim (dec_lt m n) [ yes p ↦ inl p | no p ↦ inr (omega arith) ]

pub nil_cons : {A : Type 0} {x : A} {xs : List A} → ◌≡◌ {A = List A} [] (x ∷ xs) → ⊥
nil_cons {A} {x} {xs} e = let z : ◌≡◌ {A = ℕ} 0 1 = cc in omega arith

pub when_cases : {A : Type 0} (P : A → Type 0) (b : Bool) (f : A → A) (s : A) → (T b → P (f s)) → (T (not b) → P s) → P (when b f s)
when_cases P true f s h k = h tt
when_cases P false f s h k = k tt

pub All-zip : {A : Type 0} {P Q R : A → Type 0} → ((x : A) → P x → Q x → R x) → (xs : List A) → All P xs → All Q xs → All R xs
All-zip f [] p q = tt
All-zip f (x ∷ xs) p q = (f x p.0 q.0, All-zip f xs p.1 q.1)

-- each pair of places
module _ {A : Type 0} (R : A → A → Type 0) (d : A) where
  each : (x : A) (m : List A) → ((j : ℕ) → j < length m → R x (get_or m j d)) → All (R x) m
  each x [] k = tt
  each x (y ∷ m) k = (k 0 (omega arith), each x m (λ j q. k (suc j) (omega arith)))

  pub all_pairs : (l : List A) → ((i j : ℕ) → i < j → j < length l → R (get_or l i d) (get_or l j d)) → AllPairs R l
  all_pairs [] h = tt
  all_pairs (x ∷ l) h = (each x l (λ j q. h 0 (suc j) (omega arith) (omega arith)), all_pairs l (λ i j p q. h (suc i) (suc j) (omega arith) (omega arith)))
