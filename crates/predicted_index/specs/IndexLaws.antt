-- Probes of an index, for any home and any question: what stands on a chain is met, and a store at the free slot that was met keeps every chain.
use Rattle.std.specs.Prelude.{ℕ, zero, suc, ◌+◌, ◌-◌, ◌%◌, ◌<◌, ◌≤◌, ◌≡◌, refl, Bool, true, false, ◌&&◌, List, ◌⊎◌, eqb, ltb, leb, length, get_or, take, set}
use Rattle.std.proofs.Common.{sym, ap, ◌∙◌, inl, inr, ⊎_elim, arith, get_or-set_same, get_or-set_other, ne_eqb, eq-eqb, eqb-true, ltb-true}
use Rattle.std.proofs.lemmas.Bool.{eqb-false}
use Rattle.std.proofs.lemmas.Bool.Decides.{nat_tests}
use Rattle.std.proofs.Math.Seq.{length-take-le}
use Rattle.model.specs.Basics.{eq_list}
use Rattle.model.specs.Book.Decode.{part}
use Rattle.tables.specs.Tables.{front, same_words}
use Rattle.tables.specs.TablesLaws.{front_taken}
use Rattle.predicted_index.specs.declared.Slot.{Slot}
use Rattle.predicted_index.specs.declared.Slot.TheVariants.{Hit, Free, Full}
use Rattle.predicted_index.specs.Index.{after, slot_from, probed, answers, slot_of, Chain}

pub bool_cases : (b : Bool) → (b ≡ true) ⊎ (b ≡ false)
bool_cases true = inl refl
bool_cases false = inr refl

pub eq_cases : (a b : ℕ) → (a ≡ b) ⊎ (a ≡ b → ⊥)
eq_cases a b = ⊎_elim (λ (t : eqb a b ≡ true). inl (eqb-true a b t)) (λ (f : eqb a b ≡ false). inr (eqb-false a b f)) (bool_cases (eqb a b))

pub slot_shift : (h j : ℕ) → slot_from (after h) j ≡ after (slot_from h j)
unfolding slot_from
slot_shift h zero = refl
slot_shift h (suc j) = ap after (slot_shift h j)

pub after_mod : (s : ℕ) → s < 8192 → after s ≡ (s + 1) % 8192
unfolding after
after_mod s h = grind (arith, nat_tests)

-- the slot after the one that is j after h
pub slot_next : (h j : ℕ) → after ((h + j) % 8192) ≡ (h + (j + 1)) % 8192
slot_next h j = after_mod ((h + j) % 8192) (omega arith) ∙ omega arith

-- a slot is free, or its word answers, or the probe goes on
pub slot_cases : (P : Type 0) (ix : List ℕ) (m : ℕ → Bool) (s : ℕ) → (get_or ix s 0 ≡ 0 → P) → ((get_or ix s 0 ≡ 0 → ⊥) → m (get_or ix s 0) ≡ true → P) → ((get_or ix s 0 ≡ 0 → ⊥) → m (get_or ix s 0) ≡ false → P) → P
slot_cases P ix m s free hit on =
    ⊎_elim free (λ (b : get_or ix s 0 ≡ 0 → ⊥). ⊎_elim (hit b) (on b) (bool_cases (m (get_or ix s 0)))) (eq_cases (get_or ix s 0) 0)

module _ (ix : List ℕ) (m : ℕ → Bool) (f s : ℕ) where
  pub turn_free : get_or ix s 0 ≡ 0 → probed ix m (suc f) s ≡ Free s
  unfolding probed
  turn_free e = rw (eq-eqb _ _ e)

  pub turn_hit : (get_or ix s 0 ≡ 0 → ⊥) → m (get_or ix s 0) ≡ true → probed ix m (suc f) s ≡ Hit (get_or ix s 0 - 1)
  unfolding probed
  turn_hit b y = rw (ne_eqb _ _ b, y)

  pub turn_on : (get_or ix s 0 ≡ 0 → ⊥) → m (get_or ix s 0) ≡ false → probed ix m (suc f) s ≡ probed ix m f (after s)
  unfolding probed
  turn_on b n = rw (ne_eqb _ _ b, n)

-- ## A key cut to its words

pub slot_of_taken : (home : ℕ → List ℕ → ℕ) (ix log : List ℕ) (t : ℕ) (key : List ℕ) (k : ℕ) → k ≤ length key → slot_of home ix log t (take k key) (length (take k key)) ≡ slot_of home ix log t key k
unfolding slot_of answers same_words
slot_of_taken home ix log t key k h =
    let n : length (take k key) ≡ k = length-take-le k key h in
    let found : ℕ → List ℕ → Slot = λ m f. probed ix (λ v. leb (v + 1 + m) (length log) && eqb (get_or log v 0) t && eq_list (part log (v + 1) m) f) 8192 (home t f) in
    ap (found (length (take k key))) (front_taken key k h) ∙ ap (λ (m : ℕ). found m (front key k)) n

-- ## The turns of the loop that probes, with n - j slots left

module _ (ix : List ℕ) (m : ℕ → Bool) (n j s : ℕ) (l : j < n) where
  left : n - j ≡ suc (n - (j + 1))
  left = omega arith

  pub probe_free : get_or ix s 0 ≡ 0 → probed ix m (n - j) s ≡ Free s
  probe_free e = rw left (turn_free ix m (n - (j + 1)) s e)

  pub probe_hit : (get_or ix s 0 ≡ 0 → ⊥) → m (get_or ix s 0) ≡ true → probed ix m (n - j) s ≡ Hit (get_or ix s 0 - 1)
  probe_hit b y = rw left (turn_hit ix m (n - (j + 1)) s b y)

  pub probe_on : (get_or ix s 0 ≡ 0 → ⊥) → m (get_or ix s 0) ≡ false → probed ix m (n - j) s ≡ probed ix m (n - (j + 1)) (after s)
  probe_on b y = rw left (turn_on ix m (n - (j + 1)) s b y)

pub probe_none : (ix : List ℕ) (m : ℕ → Bool) (n j s : ℕ) → n - j ≡ 0 → probed ix m (n - j) s ≡ Full
unfolding probed
probe_none ix m n j s e = rw e

pub ruleset probing = (slot_next, probe_free, probe_hit, probe_on, probe_none)

-- ## What a probe has met

-- a word that answers
pub record HitAt (ix : List ℕ) (m : ℕ → Bool) (p : ℕ) : Type 0 where
  pub slot : ℕ
  pub busy : get_or ix slot 0 ≡ 0 → ⊥
  pub yes : m (get_or ix slot 0) ≡ true
  pub is : get_or ix slot 0 - 1 ≡ p

pub hit_at : (ix : List ℕ) (m : ℕ → Bool) (f s p : ℕ) → probed ix m f s ≡ Hit p → HitAt ix m p
unfolding probed
hit_at ix m zero s p h = let z : ◌≡◌ {A = ℕ} 0 1 = cc in absurd (omega arith)
hit_at ix m (suc f) s p h =
    slot_cases (HitAt ix m p) ix m s
    (λ e. let g : Free s ≡ Hit p = sym (turn_free ix m f s e) ∙ h in let z : ◌≡◌ {A = ℕ} 0 1 = cc in absurd (omega arith))
    (λ b y. let g : Hit (get_or ix s 0 - 1) ≡ Hit p = sym (turn_hit ix m f s b y) ∙ h in record { slot = s; busy = b; yes = y; is = cc })
    (λ b n. hit_at ix m f (after s) p (sym (turn_on ix m f s b n) ∙ h))

-- a free slot
pub record FreeAt (ix : List ℕ) (f s t : ℕ) : Type 0 where
  pub steps : ℕ
  pub few : steps < f
  pub there : slot_from s steps ≡ t
  pub free : get_or ix t 0 ≡ 0
  pub busy : (i : ℕ) → i < steps → get_or ix (slot_from s i) 0 ≡ 0 → ⊥

free_step : (ix : List ℕ) (f s t : ℕ) → (get_or ix s 0 ≡ 0 → ⊥) → FreeAt ix f (after s) t → FreeAt ix (suc f) s t
unfolding slot_from
free_step ix f s t b r = record { steps = suc r.steps; few = omega arith; there = sym (slot_shift s r.steps) ∙ r.there; free = r.free; busy = go }
  where
    go : (i : ℕ) → i < suc r.steps → get_or ix (slot_from s i) 0 ≡ 0 → ⊥
    go zero k = b
    go (suc i) k = rw (← slot_shift s i) (r.busy i (omega arith))

pub free_at : (ix : List ℕ) (m : ℕ → Bool) (f s t : ℕ) → probed ix m f s ≡ Free t → FreeAt ix f s t
unfolding slot_from probed
free_at ix m zero s t h = let z : ◌≡◌ {A = ℕ} 0 1 = cc in absurd (omega arith)
free_at ix m (suc f) s t h =
    slot_cases (FreeAt ix (suc f) s t) ix m s
    (λ e. let g : Free s ≡ Free t = sym (turn_free ix m f s e) ∙ h in let q : s ≡ t = cc in record { steps = 0; few = omega arith; there = q; free = ap (λ (x : ℕ). get_or ix x 0) (sym q) ∙ e; busy = λ i k. absurd (omega arith) })
    (λ b y. let g : Hit (get_or ix s 0 - 1) ≡ Free t = sym (turn_hit ix m f s b y) ∙ h in let z : ◌≡◌ {A = ℕ} 0 1 = cc in absurd (omega arith))
    (λ b n. free_step ix f s t b (free_at ix m f (after s) t (sym (turn_on ix m f s b n) ∙ h)))

-- ## What stands on a chain is met

-- a probe that passes a word that answers is a hit, here or before
met : (ix : List ℕ) (m : ℕ → Bool) (f s j t : ℕ) → j < f → (get_or ix (slot_from s j) 0 ≡ 0 → ⊥) → m (get_or ix (slot_from s j) 0) ≡ true → ((i : ℕ) → i < j → get_or ix (slot_from s i) 0 ≡ 0 → ⊥) → probed ix m f s ≡ Free t → ⊥
unfolding slot_from
met ix m zero s j t l b y busy p = omega arith
met ix m (suc f) s zero t l b y busy p = let g : Hit (get_or ix s 0 - 1) ≡ Free t = sym (turn_hit ix m f s b y) ∙ p in let z : ◌≡◌ {A = ℕ} 0 1 = cc in omega arith
met ix m (suc f) s (suc j) t l b y busy p =
    slot_cases ⊥ ix m s
    (busy 0 (omega arith))
    (λ c h. let g : Hit (get_or ix s 0 - 1) ≡ Free t = sym (turn_hit ix m f s c h) ∙ p in let z : ◌≡◌ {A = ℕ} 0 1 = cc in omega arith)
    (λ c n. met ix m f (after s) j t (omega arith) (rw (slot_shift s j) b) (rw (slot_shift s j) y) (λ i k. rw (slot_shift s i) (busy (suc i) (omega arith))) (sym (turn_on ix m f s c n) ∙ p))

-- so a free slot says that no such word stands on a chain from there
pub not_free : (ix : List ℕ) (m : ℕ → Bool) (h v j t : ℕ) → Chain ix h v j → (v ≡ 0 → ⊥) → m v ≡ true → probed ix m 8192 h ≡ Free t → ⊥
not_free ix m h v j t c nz y p = met ix m 8192 h j t c.short (rw c.holds nz) (rw c.holds y) c.busy p

-- ## A store at a free slot

module _ (ix : List ℕ) (t w : ℕ) (inside : t < length ix) (nz : w ≡ 0 → ⊥) where
  still_busy : (s : ℕ) → (get_or ix s 0 ≡ 0 → ⊥) → get_or (set ix t w) s 0 ≡ 0 → ⊥
  still_busy s b =
      ⊎_elim
      (λ (e : s ≡ t). rw (e, get_or-set_same ix t w 0 inside) nz)
      (λ (n : s ≡ t → ⊥). rw (get_or-set_other ix t s w 0 n) b)
      (eq_cases s t)

  pub chain_kept : (h v j : ℕ) → get_or ix t 0 ≡ 0 → (v ≡ 0 → ⊥) → Chain ix h v j → Chain (set ix t w) h v j
  chain_kept h v j free vz c =
      let x : (slot_from h j ≡ t → ⊥) = λ q. vz (sym c.holds ∙ ap (λ (y : ℕ). get_or ix y 0) q ∙ free) in
      record { short = c.short; holds = get_or-set_other ix t (slot_from h j) w 0 x ∙ c.holds; busy = λ i k. still_busy (slot_from h i) (c.busy i k) }

  pub chain_new : (h : ℕ) (r : FreeAt ix 8192 h t) → Chain (set ix t w) h w r.steps
  chain_new h r = record { short = r.few; holds = rw r.there (get_or-set_same ix t w 0 inside); busy = λ i k. still_busy (slot_from h i) (r.busy i k) }

-- ## A free slot is a slot

after_below : (s : ℕ) → after s < 8192
unfolding after
after_below s =
    ⊎_elim
    (λ (t : ltb (s + 1) 8192 ≡ true). rw t (ltb-true (s + 1) 8192 t))
    (λ (f : ltb (s + 1) 8192 ≡ false). rw f (omega arith))
    (bool_cases (ltb (s + 1) 8192))

slot_below : (h j : ℕ) → h < 8192 → slot_from h j < 8192
unfolding slot_from
slot_below h zero l = l
slot_below h (suc j) l = after_below (slot_from h j)

pub free_below : (ix : List ℕ) (m : ℕ → Bool) (h t : ℕ) → h < 8192 → probed ix m 8192 h ≡ Free t → t < 8192
free_below ix m h t l p = let r = free_at ix m 8192 h t p in rw r.there at (slot_below h r.steps l)
