-- The index holds the chains of its rows.
use Rattle.std.specs.Prelude.{◌≡◌, ℕ, zero, suc, ◌+◌, ◌-◌, ◌<◌, ◌≤◌, Bool, true, false, ◌≢◌, List, length, take, drop, replicate, ◌==◌, nat_le, slice_index, slice_index_or, slice_set, refl}
use Rattle.std.proofs.Math.Path.{sym, subst}
use Rattle.std.proofs.Common.{ap, ◌∙◌, add-one, arith, length-set, get_or-set_same, get_or-set_other, eqb-true, leb-true}
use Rattle.std.proofs.Math.Decide.{dec_lt}
use Rattle.std.proofs.Math.ListN.{length-replicate}
use Rattle.std.proofs.Math.Nat.{add-sub_cancel_left}
use Rattle.std.proofs.lemmas.List.{get_or-replicate}
use Rattle.std.proofs.lemmas.Bool.{eqb-false}
use Rattle.model.specs.Laws.Logic.{either, le_cases, and_split}
use Rattle.hash_index.specs.FoldLaws.{words_at}
use Rattle.hash_index.specs.Index.{home_of, home_at, end_of, added, indexed, Tails, serves}
use Rattle.hash_index.specs.Chains.{First, Last, none, some, first_other, first_kept, first_new, first_past, last_other, last_new, last_none}

pub end_head : (last h : ℕ) → last ≡ 0 → h ≡ end_of last h
end_head last h e = rw e

pub end_link : (last h : ℕ) → last ≢ 0 → 2047 + last ≡ end_of last h
end_link zero h n = absurd (n refl)
end_link (suc l) h n = omega arith

pub serves_few : (rows : ℕ) → serves rows ≡ true → rows ≤ 16384
serves_few rows e = leb-true rows 16384 (and_split (nat_le 32 rows) (nat_le rows 16384) e).1

-- ## Homes

-- of the first words of a key, and of words among others
pub home_front : (key : List ℕ) (k : ℕ) → k ≤ length key → home_of (take k key) ≡ home_at key 0 k
home_front key k h = ap home_of (words_at key 0 k (omega arith))

pub home_part : (w : List ℕ) (at k : ℕ) → at + k ≤ length w → home_of (take (at + k - at) (drop at w)) ≡ home_at w at k
home_part w at k h = rw (add-sub_cancel_left at k) (ap home_of (words_at w at k h))

-- ## The tails

pub tails_none : Tails 0 (replicate 18432 0)
tails_none = record { size = length-replicate {A = ℕ} 18432 0; below = λ h lt. omega (arith, get_or-replicate {A = ℕ} 18432 (1024 + h) 0 0 (omega arith)) }

-- one row more
pub tails_more : (n h : ℕ) (x : List ℕ) → Tails n x → h < 1024 → Tails (n + 1) (added n h x)
unfolding added
tails_more n h x t lt = record {
  size = length-set (slice_set x (1024 + h) (n + 1)) (end_of (slice_index x (1024 + h)) h) (n + 1) ∙ length-set x (1024 + h) (n + 1) ∙ t.size;
  below = λ g m. below g m (slice_index x (1024 + h));
}
  where
    apart : (g l : ℕ) → g < 1024 → 1024 + g ≢ end_of l h
    apart g zero m q = omega arith
    apart g (suc l) m q = omega arith

    by : (g : ℕ) → g < 1024 → (b : Bool) → (g == h) ≡ b → slice_index (slice_set x (1024 + h) (n + 1)) (1024 + g) ≤ n + 1
    by g m true e = let q : 1024 + g ≡ 1024 + h = omega (arith, eqb-true g h e) in rw q (omega (arith, get_or-set_same x (1024 + h) (n + 1) 0 (omega (arith, t.size))))
    by g m false e = omega (arith, get_or-set_other x (1024 + h) (1024 + g) (n + 1) 0 (λ q. eqb-false g h e (omega arith)), t.below g m)

    below : (g : ℕ) → g < 1024 → (l : ℕ) → slice_index (slice_set (slice_set x (1024 + h) (n + 1)) (end_of l h) (n + 1)) (1024 + g) ≤ n + 1
    below g m l = rw (get_or-set_other (slice_set x (1024 + h) (n + 1)) (end_of l h) (1024 + g) (n + 1) 0 (apart g l m)) (by g m (g == h) refl)

-- ## The chains

module _ (home : ℕ → ℕ) where
  -- the index of the first n rows
  pub record Right (n : ℕ) (x : List ℕ) : Type 0 where
    pub size : length x ≡ 18432
    pub heads : (h : ℕ) → h < 1024 → First home n h 0 (slice_index x h)
    pub tails : (h : ℕ) → h < 1024 → Last home n h (slice_index x (1024 + h))
    pub links : (j : ℕ) → j < n → First home n (home j) (suc j) (slice_index x (2048 + j))
    pub free : (j : ℕ) → n ≤ j → j < 16384 → slice_index x (2048 + j) ≡ 0

  -- ## One row more

  module _ (n : ℕ) (x : List ℕ) (r : Right n x) (few : n < 16384) (small : home n < 1024) where
    abbrev h₀ : ℕ
    h₀ = home n

    abbrev mid : List ℕ
    mid = slice_set x (1024 + h₀) (n + 1)

    module _ (e : ℕ) (bound : e < 18432) (apart : (h : ℕ) → h < 1024 → e ≢ 1024 + h) where
      abbrev y : List ℕ
      y = slice_set mid e (n + 1)

      -- any other word is as it was
      other : (p : ℕ) → p ≢ e → p ≢ 1024 + h₀ → slice_index y p ≡ slice_index x p
      other p a b = get_or-set_other mid e p (n + 1) 0 a ∙ get_or-set_other x (1024 + h₀) p (n + 1) 0 b

      at_end : slice_index_or y e 0 ≡ suc n
      at_end = get_or-set_same mid e (n + 1) 0 (omega (arith, length-set x (1024 + h₀) (n + 1), r.size)) ∙ add-one n

      at_tail : slice_index_or y (1024 + h₀) 0 ≡ suc n
      at_tail = get_or-set_other mid e (1024 + h₀) (n + 1) 0 (λ q. apart h₀ small (sym q)) ∙ get_or-set_same x (1024 + h₀) (n + 1) 0 (omega (arith, r.size)) ∙ add-one n

      new_tails : (h : ℕ) → h < 1024 → Last home (suc n) h (slice_index y (1024 + h))
      new_tails h lt = by (home n == h) refl
        where
          by : (b : Bool) → (home n == h) ≡ b → Last home (suc n) h (slice_index y (1024 + h))
          by true q = let z : home n ≡ h = eqb-true (home n) h q in subst (λ (k : ℕ). Last home (suc n) k (slice_index y (1024 + k))) z (subst (Last home (suc n) (home n)) (sym at_tail) (last_new home n (home n) refl))
          by false q = subst (Last home (suc n) h) (sym (other (1024 + h) (λ z. apart h lt (sym z)) (λ z. eqb-false (home n) h q (omega arith)))) (last_other home (r.tails h lt) (eqb-false (home n) h q))

      size_kept : length y ≡ 18432
      size_kept = length-set mid e (n + 1) ∙ length-set x (1024 + h₀) (n + 1) ∙ r.size

      -- a home that is not the new row's
      new_first : (h i p : ℕ) → home n ≢ h → p ≢ e → p ≢ 1024 + h₀ → First home n h i (slice_index x p) → First home (suc n) h i (slice_index y p)
      new_first h i p o a b f = subst (First home (suc n) h i) (sym (other p a b)) (first_other home f o)

      old_first : (h i p : ℕ) → p ≢ e → p ≢ 1024 + h₀ → First home n h i (slice_index x p) → (l : ℕ) → i ≤ l → l < n → home l ≡ h → First home (suc n) h i (slice_index y p)
      old_first h i p a b f l le lt q = subst (First home (suc n) h i) (sym (other p a b)) (first_kept home f l le lt q)

      -- the new row has no row after it, nor has a place past it
      new_free : (j : ℕ) → n ≤ j → j < 16384 → 2048 + j ≢ e → slice_index y (2048 + j) ≡ 0
      new_free j le lt a = other (2048 + j) a (λ q. omega arith) ∙ r.free j le lt

      new_link : 2048 + n ≢ e → First home (suc n) (home n) (suc n) (slice_index y (2048 + n))
      new_link a = subst (First home (suc n) (home n) (suc n)) (sym (new_free n (omega arith) few a)) (first_past home (suc n) (home n))

    -- its chain was empty
    empty_right : ((j : ℕ) → 0 ≤ j → j < n → home j ≢ home n) → Right (suc n) (slice_set mid h₀ (n + 1))
    empty_right f =
        let bound : h₀ < 18432 = omega arith in
        let apart : (h : ℕ) → h < 1024 → h₀ ≢ 1024 + h = λ h lt q. omega arith in
        record {
          size = size_kept h₀ bound apart;
          heads = λ h lt. head h lt (home n == h) refl;
          tails = new_tails h₀ bound apart;
          links = λ j lt. either (λ l. new_first h₀ bound apart (home j) (suc j) (2048 + j) (λ q. f j (omega arith) l (sym q)) (λ q. omega arith) (λ q. omega arith) (r.links j l)) (λ q. subst (λ (k : ℕ). First home (suc n) (home k) (suc k) (slice_index (slice_set mid h₀ (n + 1)) (2048 + k))) (sym q) (new_link h₀ bound apart (λ z. omega arith))) (le_cases lt);
          free = λ j le lt. new_free h₀ bound apart j (omega arith) lt (λ q. omega arith);
        }
      where
        head : (h : ℕ) → h < 1024 → (b : Bool) → (home n == h) ≡ b → First home (suc n) h 0 (slice_index (slice_set mid h₀ (n + 1)) h)
        head h lt true q =
            let z : home n ≡ h = eqb-true (home n) h q in
            subst (λ (k : ℕ). First home (suc n) k 0 (slice_index (slice_set mid h₀ (n + 1)) k)) z (subst (First home (suc n) (home n) 0) (sym (at_end h₀ (omega arith) (λ h lt q. omega arith))) (first_new home f (omega arith) refl))
        head h lt false q = new_first h₀ (omega arith) (λ h lt q. omega arith) h 0 h (eqb-false (home n) h q) (λ z. eqb-false (home n) h q (sym z)) (λ z. omega arith) (r.heads h lt)

    -- row l was its last
    longer_right : (l : ℕ) → l < n → home l ≡ home n → ((x : ℕ) → suc l ≤ x → x < n → home x ≢ home n) → Right (suc n) (slice_set mid (2048 + l) (n + 1))
    longer_right l lt₀ same f =
        let bound : 2048 + l < 18432 = omega arith in
        let apart : (h : ℕ) → h < 1024 → 2048 + l ≢ 1024 + h = λ h lt q. omega arith in
        record {
          size = size_kept (2048 + l) bound apart;
          heads = λ h lt. head h lt (home n == h) refl;
          tails = new_tails (2048 + l) bound apart;
          links = λ j lt. either (λ m. link j m (home n == home j) refl) (λ q. subst (λ (k : ℕ). First home (suc n) (home k) (suc k) (slice_index (slice_set mid (2048 + l) (n + 1)) (2048 + k))) (sym q) (new_link (2048 + l) bound apart (λ z. omega arith))) (le_cases lt);
          free = λ j le lt. new_free (2048 + l) bound apart j (omega arith) lt (λ q. omega arith);
        }
      where
        head : (h : ℕ) → h < 1024 → (b : Bool) → (home n == h) ≡ b → First home (suc n) h 0 (slice_index (slice_set mid (2048 + l) (n + 1)) h)
        head h lt true q = old_first (2048 + l) (omega arith) (λ h lt q. omega arith) h 0 h (λ z. omega arith) (λ z. omega arith) (r.heads h lt) l (omega arith) lt₀ (same ∙ eqb-true (home n) h q)
        head h lt false q = new_first (2048 + l) (omega arith) (λ h lt q. omega arith) h 0 h (eqb-false (home n) h q) (λ z. omega arith) (λ z. omega arith) (r.heads h lt)

        -- row j is before l, or is l
        chained : (j : ℕ) → j < n → home n ≡ home j → (b : Bool) → (j == l) ≡ b → First home (suc n) (home j) (suc j) (slice_index (slice_set mid (2048 + l) (n + 1)) (2048 + j))
        chained j lt q true e =
            let z : j ≡ l = eqb-true j l e in
            subst (First home (suc n) (home j) (suc j)) (sym (ap (λ (k : ℕ). slice_index (slice_set mid (2048 + l) (n + 1)) (2048 + k)) z ∙ at_end (2048 + l) (omega arith) (λ h lt q. omega arith)))
            (first_new home (λ x le m w. f x (omega arith) m (w ∙ sym q)) lt q)
        chained j lt q false e =
            let before : j < l = elim (dec_lt j l) [ yes m ↦ m | no m ↦ absurd (f j (omega (arith, eqb-false j l e)) lt (sym q)) ] in
            old_first (2048 + l) (omega arith) (λ h lt q. omega arith) (home j) (suc j) (2048 + j) (λ z. omega arith) (λ z. omega arith) (r.links j lt) l before lt₀ (same ∙ q)

        link : (j : ℕ) → j < n → (b : Bool) → (home n == home j) ≡ b → First home (suc n) (home j) (suc j) (slice_index (slice_set mid (2048 + l) (n + 1)) (2048 + j))
        link j lt true q = chained j lt (eqb-true (home n) (home j) q) (j == l) refl
        link j lt false q = new_first (2048 + l) (omega arith) (λ h lt q. omega arith) (home j) (suc j) (2048 + j) (eqb-false (home n) (home j) q) (λ z. eqb-false (home n) (home j) q (sym (ap home (same_row j z) ∙ same))) (λ z. omega arith) (r.links j lt)
          where
            same_row : (j : ℕ) → 2048 + j ≡ 2048 + l → j ≡ l
            same_row j z = omega arith

    right_more : Right (suc n) (added n (home n) x)
    unfolding added
    right_more = by (slice_index x (1024 + home n)) (r.tails (home n) small)
      where
        by : (v : ℕ) → Last home n (home n) v → Right (suc n) (slice_set mid (end_of v (home n)) (n + 1))
        by v (none f) = empty_right f
        by v (some l lt e f) = longer_right l lt e f

  zero_at : (p : ℕ) → p < 18432 → ◌≡◌ {A = ℕ} 0 (slice_index (replicate 18432 0) p)
  zero_at p lt = sym (get_or-replicate 18432 p 0 0 lt)

  -- ## All rows

  pub indexed_right : (n : ℕ) → n ≤ 16384 → ((j : ℕ) → home j < 1024) → Right n (indexed home n)
  unfolding indexed
  indexed_right zero few small = record {
    size = length-replicate {A = ℕ} 18432 0;
    heads = λ h lt. subst (First home 0 h 0) (zero_at h (omega arith)) (first_past home 0 h);
    tails = λ h lt. subst (Last home 0 h) (zero_at (1024 + h) (omega arith)) (last_none home h);
    links = λ j lt. absurd (omega arith);
    free = λ j le lt. sym (zero_at (2048 + j) (omega arith));
  }
  indexed_right (suc n) few small = right_more n (indexed home n) (indexed_right n (omega arith) small) few (small n)

  -- what adding a row asks for
  pub indexed_tails : (n : ℕ) → ((j : ℕ) → home j < 1024) → Tails n (indexed home n)
  unfolding indexed
  indexed_tails zero small = tails_none
  indexed_tails (suc n) small = subst (λ (k : ℕ). Tails k (added n (home n) (indexed home n))) (add-one n) (tails_more n (home n) (indexed home n) (indexed_tails n small) (small n))
