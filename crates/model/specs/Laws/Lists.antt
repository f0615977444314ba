-- Laws of the searches by an index, and of lists made by one.
use Rattle.std.specs.Prelude.{ℕ, zero, suc, ◌<◌, ◌≡◌, refl, Bool, true, false, [], ◌∷◌, ◌++◌, length, get_or, Option, None, Some}
use Rattle.std.proofs.Common.{sym, ap, ◌∙◌, subst, arith, length-append}
use Rattle.std.proofs.Math.ListN.{get_or-append}
use Rattle.std.proofs.Math.Seq.{get_or-append_seam}
use Rattle.model.specs.Basics.{only, All, first_some, least, tab}
use Rattle.model.specs.Laws.Logic.{none_some, only_yes, only_no, else_none, else_some, either, le_cases, All-append}

-- what holds below n and at n holds below suc n
pub below_suc : {P : ℕ → Type 0} (n : ℕ) → ((i : ℕ) → i < n → P i) → P n → (i : ℕ) → i < suc n → P i
below_suc {P} n all here i h = either (all i) (λ e. subst P (sym e) here) (le_cases h)

module _ {A : Type 0} where
  -- the first that answers, said with no loop
  pub record First (f : ℕ → Option A) (n : ℕ) (a : A) : Type 0 where
    pub index : ℕ
    pub below : index < n
    pub here : f index ≡ Some a
    pub before : (j : ℕ) → j < index → f j ≡ None

  module _ (f : ℕ → Option A) where
    pub first_some_none : (n : ℕ) → first_some f n ≡ None → (i : ℕ) → i < n → f i ≡ None
    first_some_none zero e i h = absurd (omega arith)
    first_some_none (suc n) e i h = below_suc {P = λ i. f i ≡ None} n (first_some_none n (else_none (first_some f n) (λ _. f n) e).0) (else_none (first_some f n) (λ _. f n) e).1 i h

    pub none_first_some : (n : ℕ) → ((i : ℕ) → i < n → f i ≡ None) → first_some f n ≡ None
    none_first_some zero h = refl
    none_first_some (suc n) h = rw (none_first_some n (λ i l. h i (omega arith))) (h n (omega arith))

    pub first_some_some : (n : ℕ) (a : A) → first_some f n ≡ Some a → First f n a
    first_some_some zero a e = absurd (none_some e)
    first_some_some (suc n) a e = either (λ e'. longer (first_some_some n a e')) new (else_some (first_some f n) (λ _. f n) a e)
      where
        longer : First f n a → First f (suc n) a
        longer r = record { index = r.index; below = omega arith; here = r.here; before = r.before }

        new : (first_some f n ≡ None) × (f n ≡ Some a) → First f (suc n) a
        new p = record { index = n; below = omega arith; here = p.1; before = first_some_none n p.0 }

    pub some_first_some : (n : ℕ) (a : A) → First f n a → first_some f n ≡ Some a
    some_first_some zero a r = absurd (omega (arith, r.below))
    some_first_some (suc n) a r = either (λ l. rw (some_first_some n a (record { index = r.index; below = l; here = r.here; before = r.before }))) at_end (le_cases r.below)
      where
        at_end : r.index ≡ n → first_some f (suc n) ≡ Some a
        at_end e = rw (none_first_some n (λ i l. r.before i (omega arith))) (rw e at r.here)

-- ## The least

pub record Least (p : ℕ → Bool) (n i : ℕ) : Type 0 where
  pub below : i < n
  pub here : p i ≡ true
  pub before : (j : ℕ) → j < i → p j ≡ false

module _ (p : ℕ → Bool) (n : ℕ) where
  pub least_none : least p n ≡ None → (i : ℕ) → i < n → p i ≡ false
  least_none e i h = only_no (p i) i (first_some_none (λ i. only (p i) (Some i)) n e i h)

  pub none_least : ((i : ℕ) → i < n → p i ≡ false) → least p n ≡ None
  none_least h = none_first_some (λ i. only (p i) (Some i)) n (λ i l. rw (h i l))

  pub least_some : (i : ℕ) → least p n ≡ Some i → Least p n i
  least_some i e = of (first_some_some (λ i. only (p i) (Some i)) n i e)
    where
      of : First (λ i. only (p i) (Some i)) n i → Least p n i
      of r =
          let q = only_yes (p r.index) r.index i r.here in
          record { below = rw q.1 at r.below; here = rw q.1 at q.0; before = λ j l. only_no (p j) j (r.before j (rw (← q.1) at l)) }

  pub some_least : (i : ℕ) → Least p n i → least p n ≡ Some i
  some_least i r = some_first_some (λ i. only (p i) (Some i)) n i (record { index = i; below = r.below; here = rw r.here; before = λ j l. rw (r.before j l) })

-- ## Lists by an index

pub all_tab : {A : Type 0} (P : A → Type 0) (f : ℕ → A) (n : ℕ) → ((i : ℕ) → i < n → P (f i)) → All P (tab f n)
unfolding tab
all_tab P f zero h = tt
all_tab P f (suc n) h = All-append P (tab f n) (f n ∷ []) (all_tab P f n (λ i l. h i (omega arith))) (h n (omega arith), tt)

pub length_tab : {A : Type 0} (f : ℕ → A) (n : ℕ) → length (tab f n) ≡ n
unfolding tab
length_tab f zero = refl
length_tab f (suc n) = length-append (tab f n) (f n ∷ []) ∙ omega (arith, length_tab f n)

pub get_or_tab : {A : Type 0} (f : ℕ → A) (n i : ℕ) (d : A) → i < n → get_or (tab f n) i d ≡ f i
unfolding tab
get_or_tab f zero i d h = absurd (omega arith)
get_or_tab f (suc n) i d h = either (λ l. before l (get_or_tab f n i d l)) last (le_cases h)
  where
    last : i ≡ n → get_or (tab f (suc n)) i d ≡ f i
    last e = rw e (ap (λ (k : ℕ). get_or (tab f n ++ (f n ∷ [])) k d) (sym (length_tab f n)) ∙ get_or-append_seam (tab f n) (f n) [] d)

    before : i < n → get_or (tab f n) i d ≡ f i → get_or (tab f (suc n)) i d ≡ f i
    before l e = get_or-append (tab f n) (f n ∷ []) d i (omega (arith, length_tab f n)) ∙ e
