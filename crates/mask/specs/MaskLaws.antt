-- Laws of masks: what a lane is after each operation, and each operation on the marks of a batch.
use Rattle.std.specs.Prelude.{ℕ, zero, suc, ◌+◌, ◌-◌, ◌≤◌, ◌<◌, max, ◌≡◌, refl, ◌⊎◌, Bool, true, false, ◌||◌, not, cond, List, [], ◌∷◌, ◌++◌, eqb, ltb, length, get_or, set, replicate}
use Rattle.std.proofs.Common.{sym, ap, ◌∙◌, inl, inr, arith, add-one, length-append, length-set, ext_get_or, lt-ltb, le-ltb}
use Rattle.std.proofs.Math.Decide.{dec_lt}
use Rattle.std.proofs.Math.Dec.{eqb-suc-zero}
use Rattle.std.proofs.lemmas.List.{length-replicate, get_or-replicate, set-append_left}
use Rattle.std.proofs.Math.ListN.{get_or-eq_default}
use Rattle.model.specs.Basics.{when, how_many, tab}
use Rattle.model.specs.Machine.Steps.{any_live}
use Rattle.model.specs.Laws.Logic.{either, le_cases, when_ind}
use Rattle.model.specs.Laws.Lists.{length_tab, get_or_tab}
use Rattle.model.specs.Laws.Iter.{iter_keeps, iter_agree, iter_rest}
use Rattle.words.specs.Filled.{filled, filled_more, filled_all, get_or_filled}
use Rattle.mask.specs.Masks.{padded, first_lanes, both, count, past_last, end}

lt_or_le : (i n : ℕ) → (i < n) ⊎ (n ≤ i)
lt_or_le i n = elim (dec_lt i n) [ yes p ↦ inl p | no p ↦ inr (omega arith) ]

-- ## What a lane is

pub has_first : (n i : ℕ) → i < 256 → get_or (first_lanes n) i false ≡ ltb i n
unfolding first_lanes
has_first n i h = get_or_tab (λ i. ltb i n) 256 i false h

pub none_first : (i : ℕ) → i < 256 → get_or (first_lanes 0) i false ≡ false
none_first i h = has_first 0 i h ∙ le-ltb i 0 (omega arith)

pub has_both : (f : Bool → Bool → Bool) (a b : List Bool) (i : ℕ) → i < 256 → get_or (both f a b) i false ≡ f (get_or a i false) (get_or b i false)
unfolding both
has_both f a b i h = get_or_tab (λ i. f (get_or a i false) (get_or b i false)) 256 i false h

none_false : (k i : ℕ) → get_or (replicate k false) i false ≡ false
none_false zero i = refl
none_false (suc k) zero = refl
none_false (suc k) (suc i) = none_false k i

pub has_padded : (l : List Bool) (i : ℕ) → get_or (padded l) i false ≡ get_or l i false
unfolding padded
has_padded l i = more l (256 - length l) i
  where
    more : (l : List Bool) (k i : ℕ) → get_or (l ++ replicate k false) i false ≡ get_or l i false
    more [] k i = none_false k i
    more (b ∷ l) k zero = refl
    more (b ∷ l) k (suc i) = more l k i

-- ## The marks of a batch

pub length_padded : (l : List Bool) → length l ≤ 256 → length (padded l) ≡ 256
unfolding padded
length_padded l h = simp (length-append, length-replicate) (omega arith)

-- a mask whose lanes are those of l
pub is_padded : (m l : List Bool) → length l ≤ 256 → length m ≡ 256 → ((i : ℕ) → i < 256 → get_or m i false ≡ get_or l i false) → m ≡ padded l
is_padded m l h e at = ext_get_or false m (padded l) (e ∙ sym (length_padded l h)) (λ i k. at i (omega arith) ∙ sym (has_padded l i))

pub set_padded : (l : List Bool) (i : ℕ) (b : Bool) → i < length l → set (padded l) i b ≡ padded (set l i b)
unfolding padded
set_padded l i b h = rw (length-set, set-append_left l (replicate (256 - length l) false) i b h)

all_true : (n i : ℕ) → get_or (replicate n true) i false ≡ ltb i n
all_true n i = either (λ h. get_or-replicate n i true false h ∙ sym (lt-ltb i n h)) (λ h. get_or-eq_default (replicate n true) false {n = i} (rw length-replicate h) ∙ sym (le-ltb i n h)) (lt_or_le i n)

pub first_padded : (n : ℕ) → n ≤ 256 → first_lanes n ≡ padded (replicate n true)
unfolding first_lanes
first_padded n h = is_padded (first_lanes n) (replicate n true) (rw length-replicate h) (length_tab (λ i. ltb i n) 256) (λ i k. has_first n i k ∙ sym (all_true n i))

-- none of n lanes
pub none_padded : (n : ℕ) → n ≤ 256 → first_lanes 0 ≡ padded (replicate n false)
unfolding first_lanes
none_padded n h = is_padded (first_lanes 0) (replicate n false) (rw length-replicate h) (length_tab (λ i. ltb i 0) 256) (λ i k. none_first i k ∙ sym (none_false n i))

pub both_padded : (f : Bool → Bool → Bool) (a b : List Bool) (n : ℕ) → f false false ≡ false → length a ≡ n → length b ≡ n → n ≤ 256 → both f (padded a) (padded b) ≡ padded (tab (λ i. f (get_or a i false) (get_or b i false)) n)
unfolding both
both_padded f a b n e ha hb h = is_padded (both f (padded a) (padded b)) (tab g n) (rw length_tab h) (length_tab (λ i. f (get_or (padded a) i false) (get_or (padded b) i false)) 256) same
  where
    g : ℕ → Bool
    g i = f (get_or a i false) (get_or b i false)

    past : (i : ℕ) → n ≤ i → g i ≡ get_or (tab g n) i false
    past i k = rw (get_or-eq_default a false {n = i} (omega arith), get_or-eq_default b false {n = i} (omega arith), get_or-eq_default (tab g n) false {n = i} (rw length_tab k)) e

    same : (i : ℕ) → i < 256 → get_or (both f (padded a) (padded b)) i false ≡ get_or (tab g n) i false
    same i k = has_both f (padded a) (padded b) i k ∙ rw (has_padded a i, has_padded b i) (either (λ l. sym (get_or_tab g n i false l)) (past i) (lt_or_le i n))

-- ## How many, and whether any

pub how_many_le : (p : ℕ → Bool) (n : ℕ) → how_many p n ≤ n
how_many_le p zero = omega arith
how_many_le p (suc n) = up (p n) (how_many p n) (how_many_le p n)
  where
    up : (b : Bool) (x : ℕ) → x ≤ n → when b suc x ≤ suc n
    up true x h = omega arith
    up false x h = omega arith

pub count_padded : (l : List Bool) → length l ≤ 256 → count (padded l) ≡ how_many (λ i. get_or l i false) (length l)
unfolding count
count_padded l h =
    ap (λ (n : ℕ). how_many (λ i. get_or (padded l) i false) n) (length_padded l h)
    ∙ iter_agree (λ i. when (get_or (padded l) i false) suc) (λ i. when (get_or l i false) suc) 256 0 (λ i a _. rw has_padded)
    ∙ sym (iter_rest (λ i. when (get_or l i false) suc) (length l) 256 0 (how_many (λ i. get_or l i false) (length l)) refl h (λ i k. rw (get_or-eq_default l false {n = i} k)))

pub any_padded : (l : List Bool) → any_live (padded l) ≡ any_live l
unfolding padded
any_padded l = more l (256 - length l)
  where
    more : (l : List Bool) (k : ℕ) → any_live (l ++ replicate k false) ≡ any_live l
    more [] zero = refl
    more [] (suc k) = more [] k
    more (b ∷ l) k = ap (λ (c : Bool). b || c) (more l k)

-- ## The last live lane

past_last_le : (p : ℕ → Bool) (n : ℕ) → past_last p n ≤ n
past_last_le p n = iter_keeps (λ e. e ≤ n) (λ i. when (p i) (λ _. suc i)) n 0 (omega arith) (λ i e h k. when_ind (λ e. e ≤ n) (p i) (λ _. suc i) e (λ _. h) k)

none_past : (p : ℕ → Bool) (n i : ℕ) → i < n → past_last p n ≤ i → p i ≡ false
none_past p zero i h k = absurd (omega arith)
none_past p (suc n) i h k = by (p n) refl k (none_past p n i)
  where
    by : (b : Bool) → p n ≡ b → when b (λ _. suc n) (past_last p n) ≤ i → (i < n → past_last p n ≤ i → p i ≡ false) → p i ≡ false
    by true e k below = absurd (omega arith)
    by false e k below = either (λ l. below l k) (λ l. rw l e) (le_cases h)

last_true : (p : ℕ → Bool) (n i : ℕ) → past_last p n ≡ suc i → p i ≡ true
last_true p zero i e = absurd (omega arith)
last_true p (suc n) i e = by (p n) refl e (last_true p n i)
  where
    by : (b : Bool) → p n ≡ b → when b (λ _. suc n) (past_last p n) ≡ suc i → (past_last p n ≡ suc i → p i ≡ true) → p i ≡ true
    by true t e below = let q : n ≡ i = omega arith in rw q at t
    by false t e below = below e

pub end_le : (l : List Bool) → end l ≤ length l
unfolding end
end_le l = past_last_le (λ i. get_or l i false) (length l)

-- the lane before it is live
pub end_live : (l : List Bool) (i : ℕ) → end l ≡ suc i → get_or l i false ≡ true
unfolding end
end_live l i e = last_true (λ i. get_or l i false) (length l) i e

-- from it on no lane is
pub end_past : (l : List Bool) (i : ℕ) → end l ≤ i → get_or l i false ≡ false
unfolding end
end_past l i h = either (λ k. none_past (λ i. get_or l i false) (length l) i k h) (λ k. get_or-eq_default l false {n = i} k) (lt_or_le i (length l))

any_at : (l : List Bool) (i : ℕ) → get_or l i false ≡ true → any_live l ≡ true
any_at [] i e = e
any_at (b ∷ l) zero e = rw e
any_at (true ∷ l) (suc i) e = refl
any_at (false ∷ l) (suc i) e = any_at l i e

any_none : (l : List Bool) → ((i : ℕ) → get_or l i false ≡ false) → any_live l ≡ false
any_none [] h = refl
any_none (b ∷ l) h = rw (h 0) (any_none l (λ i. h (suc i)))

-- it is 0 where no lane is live
pub end_none : (l : List Bool) → eqb (end l) 0 ≡ not (any_live l)
end_none l = by (end l) refl
  where
    by : (e : ℕ) → end l ≡ e → eqb e 0 ≡ not (any_live l)
    by zero q = rw (any_none l (λ i. end_past l i (omega arith)))
    by (suc i) q = rw (any_at l i (end_live l i q)) (eqb-suc-zero i)

-- told by the last live lane, or by lane 0, which is not live where none is
pub end_by : (l : List Bool) (i : ℕ) → i ≡ end l - 1 → cond (get_or l i false) (i + 1) 0 ≡ end l
end_by l i h = by (end l) refl h
  where
    by : (e : ℕ) → end l ≡ e → i ≡ e - 1 → cond (get_or l i false) (i + 1) 0 ≡ e
    by zero q h = rw (end_past l i (omega arith))
    by (suc e) q h = rw (end_live l i (omega arith)) (omega arith)

-- ## The loops

-- a turn of a loop that puts f of two masks in place of the first
pub both_turn : (f : Bool → Bool → Bool) (a b cur : List Bool) (i : ℕ) → cur ≡ filled (λ k. f (get_or a k false) (get_or b k false)) i a → i < length a
    → set cur i (f (get_or cur i false) (get_or b i false)) ≡ filled (λ k. f (get_or a k false) (get_or b k false)) (i + 1) a
both_turn f a b cur i e h =
    let g : ℕ → Bool = λ (k : ℕ). f (get_or a k false) (get_or b k false) in
    rw (e, get_or_filled g i a false) (filled_more g i a false h)

pub both_all : (f : Bool → Bool → Bool) (a b cur : List Bool) (i : ℕ) → cur ≡ filled (λ k. f (get_or a k false) (get_or b k false)) i a → length a ≡ 256 → i ≡ 256 → cur ≡ both f a b
unfolding both
both_all f a b cur i e n h =
    let g : ℕ → Bool = λ (k : ℕ). f (get_or a k false) (get_or b k false) in
    let k : i ≡ length a = omega arith in
    e ∙ rw k (filled_all g a) ∙ ap (tab g) n

-- a turn of the loop that finds the last live lane
pub last_turn : (p : ℕ → Bool) (i last : ℕ) → last ≡ past_last p i - 1 → max last (cond (p i) i 0) ≡ past_last p (i + 1) - 1
last_turn p i last h = rw add-one (by (p i))
  where
    by : (b : Bool) → max last (cond b i 0) ≡ when b (λ _. suc i) (past_last p i) - 1
    by true = omega (arith, past_last_le p i)
    by false = omega arith
