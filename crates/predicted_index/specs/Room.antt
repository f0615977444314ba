-- A probe never runs out of slots while fewer than 8192 are busy.
use Rattle.std.specs.Prelude.{ℕ, zero, suc, ◌+◌, ◌-◌, ◌%◌, ◌<◌, ◌≡◌, refl, Bool, List, [], ◌∷◌, length, get_or, set, replicate}
use Rattle.std.proofs.Common.{sym, ◌∙◌, arith}
use Rattle.predicted_index.specs.declared.Slot.TheVariants.{Hit, Free, Full}
use Rattle.predicted_index.specs.Index.{after, slot_from, probed}
use Rattle.predicted_index.specs.Right.{one_if_busy, busy_count}
use Rattle.predicted_index.specs.IndexLaws.{after_mod, slot_cases, slot_shift, turn_free, turn_hit, turn_on}

pub none_busy : (n : ℕ) → busy_count (replicate n 0) ≡ 0
unfolding busy_count
none_busy zero = refl
none_busy (suc n) = omega (arith, none_busy n)

busy_one : (x : ℕ) → (x ≡ 0 → ⊥) → one_if_busy x ≡ 1
busy_one zero n = absurd (n refl)
busy_one (suc x) n = refl

all_busy : (l : List ℕ) → ((s : ℕ) → s < length l → get_or l s 0 ≡ 0 → ⊥) → busy_count l ≡ length l
unfolding busy_count
all_busy [] h = refl
all_busy (x ∷ l) h = omega (arith, busy_one x (h 0 (omega arith)), all_busy l (λ s k. h (suc s) (omega arith)))

-- a store at a free slot makes one busy slot more
pub busy_more : (l : List ℕ) (t v : ℕ) → t < length l → get_or l t 0 ≡ 0 → (v ≡ 0 → ⊥) → busy_count (set l t v) ≡ busy_count l + 1
unfolding busy_count
busy_more [] t v h e n = absurd (omega arith)
busy_more (x ∷ l) zero v h e n = rw e (omega (arith, busy_one v n))
busy_more (x ∷ l) (suc t) v h e n = omega (arith, busy_more l t v (omega arith) e n)

slot_mod : (h j : ℕ) → h < 8192 → slot_from h j ≡ (h + j) % 8192
unfolding slot_from
slot_mod h zero l = omega arith
slot_mod h (suc j) l =
    let e : slot_from h j ≡ (h + j) % 8192 = slot_mod h j l in
    after_mod (slot_from h j) (omega arith) ∙ omega arith

-- a probe that finds no slot has met busy slots alone
full_busy : (ix : List ℕ) (m : ℕ → Bool) (f s : ℕ) → probed ix m f s ≡ Full → (j : ℕ) → j < f → get_or ix (slot_from s j) 0 ≡ 0 → ⊥
unfolding slot_from
full_busy ix m zero s p j k z = omega arith
full_busy ix m (suc f) s p zero k z = let g : Free s ≡ Full = sym (turn_free ix m f s z) ∙ p in let q : ◌≡◌ {A = ℕ} 0 1 = cc in omega arith
full_busy ix m (suc f) s p (suc j) k z =
    slot_cases ⊥ ix m s
    (λ e. let g : Free s ≡ Full = sym (turn_free ix m f s e) ∙ p in let q : ◌≡◌ {A = ℕ} 0 1 = cc in omega arith)
    (λ b y. let g : Hit (get_or ix s 0 - 1) ≡ Full = sym (turn_hit ix m f s b y) ∙ p in let q : ◌≡◌ {A = ℕ} 0 1 = cc in omega arith)
    (λ b n. full_busy ix m f (after s) (sym (turn_on ix m f s b n) ∙ p) j (omega arith) (rw (slot_shift s j) z))

-- so with a slot to spare it finds one
pub never_full : (ix : List ℕ) (m : ℕ → Bool) (h : ℕ) → h < 8192 → length ix ≡ 8192 → busy_count ix < 8192 → probed ix m 8192 h ≡ Full → ⊥
never_full ix m h l n c p =
    let all : (s : ℕ) → s < length ix → get_or ix s 0 ≡ 0 → ⊥ = λ s k z.
    let j : ℕ = (s + 8192 - h) % 8192 in
    let e : slot_from h j ≡ s = slot_mod h j l ∙ omega arith in
    full_busy ix m 8192 h p j (omega arith) (rw e z) in
    omega (arith, all_busy ix all)
