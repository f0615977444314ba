-- An array made from its indices by a closure that no call changes.
use Rattle.std.specs.Prelude.{ℕ, zero, suc, ◌+◌, ◌<◌, ◌≡◌, refl, Bool, false, List, get_or}
use Rattle.std.specs.Array.{IsFromFnResult, IsFromFnResultFrom}
use Rattle.std.specs.Fn.{Mut, Called}
use Rattle.std.proofs.Common.{sym, subst, ◌∙◌, arith, ext_get_or}
use Rattle.model.specs.Basics.{tab}
use Rattle.model.specs.Laws.Lists.{length_tab, get_or_tab}
use Rattle.mask.specs.Masks.{both}

module _ {F B : Type 0} (g : Mut F (ℕ × Unit {0}) B) (h : ℕ → B) (f : F) (call : (i : ℕ) (y : B) (p : F) → Called g f (i, tt) y p → (y ≡ h i) × (p ≡ f)) where
  from_place : (ys : List B) (d : B) (i n k j : ℕ) (p : F) → p ≡ f → IsFromFnResultFrom g p ys i n → k < n → i + k ≡ j → get_or ys j d ≡ h j
  from_place ys d i zero k j p e m l at = absurd (omega arith)
  from_place ys d i (suc n) zero j p e m l at =
      let one = call i m.1 m.0 (subst (λ (x : F). Called g x (i, tt) m.1 m.0) e m.3) in
      let here : j ≡ i = omega arith in
      rw here (m.2.1 d ∙ one.0)
  from_place ys d i (suc n) (suc k) j p e m l at =
      let one = call i m.1 m.0 (subst (λ (x : F). Called g x (i, tt) m.1 m.0) e m.3) in
      from_place ys d (i + 1) n k j m.0 one.1 m.4 (omega arith) (omega arith)

  pub made : (ys : List B) (d : B) (n : ℕ) → IsFromFnResult g f ys n → ys ≡ tab h n
  made ys d n m =
      ext_get_or d ys (tab h n) (m.long ∙ sym (length_tab h n))
      (λ i l. let k : i < n = omega (arith, m.long) in from_place ys d 0 n i i f refl m.each k (omega arith) ∙ sym (get_or_tab h n i d k))

module _ {F : Type 0} (g : Mut F (ℕ × Unit {0}) Bool) (f : Bool → Bool → Bool) (a b : List Bool) (c : F) (call : (i : ℕ) (y : Bool) (p : F) → Called g c (i, tt) y p → (y ≡ f (get_or a i false) (get_or b i false)) × (p ≡ c)) where
  pub made_by_both : (ys : List Bool) → IsFromFnResult g c ys 256 → ys ≡ both f a b
  unfolding both
  made_by_both ys m = made g (λ i. f (get_or a i false) (get_or b i false)) c call ys false 256 m
