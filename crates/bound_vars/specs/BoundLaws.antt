-- The variables bound at the start, and one more.
use Rattle.std.specs.Prelude.{ℕ, ◌≤◌, ◌≡◌, refl, Bool, true, false, ◌||◌, List, eqb, ltb, length, get_or, Option, None, Some}
use Rattle.std.proofs.Common.{sym, ◌∙◌, arith, length-set, get_or-set_same, get_or-set_other, ltb-true, ltb-false, le-ltb, eqb-true}
use Rattle.std.proofs.Math.Bool.{or-true, or-false}
use Rattle.std.proofs.Math.ListN.{get_or-eq_default}
use Rattle.std.proofs.lemmas.Bool.{eqb-false}
use Rattle.model.specs.Check.{is_dst}
use Rattle.model.specs.Laws.Lists.{length_tab, get_or_tab}
use Rattle.bound_vars.specs.declared.Bound.{Bound}
use Rattle.instr.specs.Stands.{IsVariable}
use Rattle.bound_vars.specs.Bound.{has, first_bound, binding}

pub past_32 : (b : List Bool) (v : ℕ) → length b ≡ 32 → 32 ≤ v → false ≡ get_or b v false
past_32 b v n h = sym (get_or-eq_default b false {n = v} (omega arith))

-- ## The variables bound at the start, and one more

pub has_first : (n : ℕ) → n ≤ 32 → (v : ℕ) → has (first_bound n) v ≡ ltb v n
has_first n l v = by (ltb v 32) refl
  where
    by : (b : Bool) → ltb v 32 ≡ b → has (first_bound n) v ≡ ltb v n
    by true e = get_or_tab (λ v. ltb v n) 32 v false (ltb-true v 32 e)
    by false e =
        let m = ltb-false v 32 e in
        sym (past_32 (first_bound n).known v (length_tab (λ v. ltb v n) 32) m) ∙ sym (le-ltb v n (omega arith))

pub length_first : (n : ℕ) → length (first_bound n).known ≡ 32
length_first n = length_tab (λ v. ltb v n) 32

pub length_binding : (d : Option ℕ) (b : Bound) → length b.known ≡ 32 → length (binding d b).known ≡ 32
length_binding None b n = n
length_binding (Some v) b n = length-set b.known v true ∙ n

pub has_binding : (d : Option ℕ) (b : Bound) → IsVariable d → length b.known ≡ 32 → (v : ℕ) → has (binding d b) v ≡ has b v || is_dst d v
has_binding None b l n v = sym (or-false (has b v))
has_binding (Some x) b l n v = by (eqb v x) refl
  where
    by : (c : Bool) → eqb v x ≡ c → has (binding (Some x) b) v ≡ has b v || c
    by true e = rw (eqb-true v x e) (get_or-set_same b.known x true false (omega arith) ∙ sym (or-true (has b x)))
    by false e = get_or-set_other b.known x v true false (eqb-false v x e) ∙ sym (or-false (has b v))
