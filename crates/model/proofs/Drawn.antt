-- What a walk over a body drew: refusals 3, 6 and 4 are exact, and 5.
use Prim.Native.Nat.{ℕ, zero, suc, ◌+◌, ◌≤◌, ◌<◌}
use mathlib.Core.Path.{◌≡◌, refl, ◌∙◌, subst}
use mathlib.Core.Bool.{Bool, true, false, not, cond, false≢true}
use Rattle.std.specs.Prelude.{Some, slice_get}
use mathlib.Core.List.{List, [], ◌∷◌, map}
use native.Mathlib.Numerals.{add-one}
use native.Mathlib.Omega.{arith}
use lib.Dec.{eqb, ltb}
use borrow.Author.Tests.{ltb-false, eqb-true, le-ltb}
use lib.ListN.{length, get_or}
use lib.Seq.{drop-cons}
use Rattle.model.specs.Book.Syntax.{stale}
use Rattle.model.specs.Book.Scan.{fine, six, four, good, earliest, mark}
use Rattle.model.specs.Book.Decode.{part}
use Rattle.model.specs.Claims.Grammar.{Role, plain, one_of, kept, Word, Missing, Stale}
use Rattle.model.specs.Laws.Logic.{none_some, some_inj}
use Rattle.model.proofs.Parses.{by_role, pass, Stands}

-- ## The first word at fault

abbrev missing? : Role → ℕ → Bool
missing? plain x = false
missing? (one_of n) x = not (ltb x n)
missing? kept x = false

abbrev stale? : Role → ℕ → Bool
stale? plain x = false
stale? (one_of n) x = false
stale? kept x = eqb x stale

abbrev pub is_missing : Word → Bool
is_missing m = missing? m.role m.word

abbrev pub is_stale : Word → Bool
is_stale m = stale? m.role m.word

-- the place of the first that a test finds, or 0
unfoldable pub first_place : (Word → Bool) → ℕ → List Word → ℕ
first_place t at [] = 0
first_place t at (m ∷ ms) = cond (t m) at (first_place t (at + 1) ms)

-- what was drawn before, else what is drawn now
abbrev or_now : ℕ → ℕ → ℕ
or_now zero b = b
or_now (suc a) b = suc a

now_earliest : (p at b : ℕ) → 0 < at → or_now (earliest p at) b ≡ or_now p at
now_earliest zero zero b h = absurd (omega arith)
now_earliest zero (suc at) b h = refl
now_earliest (suc p) at b h = refl

pub pass_draws : (ms : List Word) (at p q : ℕ) → 0 < at → pass ms (good at p q) ≡ good (at + length ms) (or_now p (first_place is_missing at ms)) (or_now q (first_place is_stale at ms))
unfolding pass first_place
pass_draws [] at p q h = cc (nothing p, nothing q, sum)
  where
    nothing : (a : ℕ) → or_now a 0 ≡ a
    nothing zero = refl
    nothing (suc a) = refl

    sum : at + 0 ≡ at
    sum = omega arith
pass_draws (m ∷ ms) at p q h = go m.role m.word (pass_draws ms (at + 1))
  where
    more : at + 1 + length ms ≡ at + suc (length ms)
    more = omega arith

    go : (r : Role) (x : ℕ) → ((p q : ℕ) → 0 < at + 1 → pass ms (good (at + 1) p q) ≡ good (at + 1 + length ms) (or_now p (first_place is_missing (at + 1) ms)) (or_now q (first_place is_stale (at + 1) ms)))
        → pass ms (mark (by_role r x) at p q) ≡ good (at + suc (length ms)) (or_now p (cond (missing? r x) at (first_place is_missing (at + 1) ms))) (or_now q (cond (stale? r x) at (first_place is_stale (at + 1) ms)))
    go plain x ih = ih p q (omega arith) ∙ cc more
    go (one_of n) x ih = by (ltb x n)
      where
        by : (b : Bool) → pass ms (mark (cond b fine six) at p q) ≡ good (at + suc (length ms)) (or_now p (cond (not b) at (first_place is_missing (at + 1) ms))) (or_now q (first_place is_stale (at + 1) ms))
        by true = ih p q (omega arith) ∙ cc more
        by false = ih (earliest p at) q (omega arith) ∙ cc (now_earliest p at (first_place is_missing (at + 1) ms) h, more)
    go kept x ih = by (eqb x stale)
      where
        by : (b : Bool) → pass ms (mark (cond b four fine) at p q) ≡ good (at + suc (length ms)) (or_now p (first_place is_missing (at + 1) ms)) (or_now q (cond b at (first_place is_stale (at + 1) ms)))
        by true = ih p (earliest q at) (omega arith) ∙ cc (now_earliest q at (first_place is_stale (at + 1) ms) h, more)
        by false = ih p q (omega arith) ∙ cc more

module _ (t : Word → Bool) where
  pub place_none : (ms : List Word) (at : ℕ) → 0 < at → first_place t at ms ≡ 0 → (k : ℕ) (m : Word) → slice_get ms k ≡ Some m → t m ≡ false
  unfolding first_place
  place_none [] at h e k m g = absurd (none_some g)
  place_none (x ∷ ms) at h e k m g = by (t x) refl k g (λ e' k' g'. place_none ms (at + 1) (omega arith) e' k' m g') e
    where
      by : (b : Bool) → t x ≡ b → (k : ℕ) → slice_get (x ∷ ms) k ≡ Some m → (first_place t (at + 1) ms ≡ 0 → (k : ℕ) → slice_get ms k ≡ Some m → t m ≡ false) → cond b at (first_place t (at + 1) ms) ≡ 0 → t m ≡ false
      by true q k g ih e = absurd (omega (arith, e))
      by false q zero g ih e = subst (λ (y : Word). t y ≡ false) (some_inj g) q
      by false q (suc k) g ih e = ih e k g

  -- the word at a place, and none before it
  pub record FirstAt (ms : List Word) (at p : ℕ) : Type 0 where
    pub index : ℕ
    pub here : Word
    pub there : slice_get ms index ≡ Some here
    pub holds : t here ≡ true
    pub is_place : p ≡ at + index
    pub before : (j : ℕ) (m : Word) → j < index → slice_get ms j ≡ Some m → t m ≡ false

  pub place_some : (ms : List Word) (at p : ℕ) → 0 < p → first_place t at ms ≡ p → FirstAt ms at p
  unfolding first_place
  place_some [] at p h e = absurd (omega (arith, e))
  place_some (x ∷ ms) at p h e = by (t x) refl (place_some ms (at + 1) p h) e
    where
      by : (b : Bool) → t x ≡ b → (first_place t (at + 1) ms ≡ p → FirstAt ms (at + 1) p) → cond b at (first_place t (at + 1) ms) ≡ p → FirstAt (x ∷ ms) at p
      by true q ih e = record { index = 0; here = x; there = refl; holds = q; is_place = omega (arith, e); before = λ j m l. absurd (omega arith) }
      by false q ih e =
          let r = ih e in
          record { index = suc r.index; here = r.here; there = r.there; holds = r.holds; is_place = omega (arith, r.is_place); before = λ j m l g. earlier r j m l g }
        where
          earlier : (r : FirstAt ms (at + 1) p) (j : ℕ) (m : Word) → j < suc r.index → slice_get (x ∷ ms) j ≡ Some m → t m ≡ false
          earlier r zero m l g = subst (λ (y : Word). t y ≡ false) (some_inj g) q
          earlier r (suc j) m l g = r.before j m (omega arith) g

-- ## The tests and what they say

missing_yes : (r : Role) (x : ℕ) → missing? r x ≡ true → (n : ℕ) × (r ≡ one_of n) × (n ≤ x)
missing_yes plain x e = absurd (false≢true e)
missing_yes kept x e = absurd (false≢true e)
missing_yes (one_of n) x e = (n, refl, ltb-false x n (borrow.Author.Tests.not-true (ltb x n) e))

pub is_missing_lem : (m : Word) → is_missing m ≡ true → Missing m
is_missing_lem m e = missing_yes m.role m.word e

pub missing_is : (m : Word) → Missing m → is_missing m ≡ true
missing_is m h = rw (h.1, le-ltb m.word h.0 h.2)

stale_yes : (r : Role) (x : ℕ) → stale? r x ≡ true → (r ≡ kept) × (x ≡ stale)
stale_yes plain x e = absurd (false≢true e)
stale_yes (one_of n) x e = absurd (false≢true e)
stale_yes kept x e = (refl, eqb-true x stale e)

pub is_stale_lem : (m : Word) → is_stale m ≡ true → Stale m
is_stale_lem m e = stale_yes m.role m.word e

pub stale_is : (m : Word) → Stale m → is_stale m ≡ true
stale_is m h = rw (h.0, h.1)

-- ## Words in the book

pub stands_part : (w : List ℕ) (ms : List Word) (p : ℕ) → Stands w p ms → p + length ms ≤ length w → map (λ (m : Word). m.word) ms ≡ part w p (length ms)
stands_part w [] p s h = refl
stands_part w (m ∷ ms) p s h =
    let l : p < length w = omega arith in
    rw (drop-cons w p 0 l, ← add-one p) (cc (s.0, stands_part w ms (p + 1) s.1 (omega arith)))

pub part_stands : (w : List ℕ) (ms : List Word) (p : ℕ) → p + length ms ≤ length w → map (λ (m : Word). m.word) ms ≡ part w p (length ms) → Stands w p ms
part_stands w [] p h e = tt
part_stands w (m ∷ ms) p h e =
    let l : p < length w = omega arith in
    let f : m.word ∷ map (λ (m : Word). m.word) ms ≡ get_or w p 0 ∷ part w (p + 1) (length ms) = e ∙ rw (drop-cons w p 0 l, ← add-one p) in
    (cc, part_stands w ms (p + 1) (omega arith) (cc))
