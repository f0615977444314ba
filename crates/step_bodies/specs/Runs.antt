-- Lists one after the other, and words that are put one after the other into others.
use Rattle.std.specs.Prelude.{ℕ, zero, suc, ◌+◌, ◌<◌, ◌≤◌, ◌≡◌, List, [], ◌∷◌, ◌++◌, length, set}
use Rattle.std.proofs.Math.Path.{refl}
use Rattle.std.proofs.Common.{sym, ap, ◌∙◌, append_assoc, append-nil, add-zero, add-one, arith, length-append}
use Rattle.std.proofs.lemmas.List.Edits.{sets, sets-eq}
use Rattle.std.proofs.Math.Seq.{paste, take-length}
use Rattle.model.specs.Basics.{tab, join}
use Rattle.model.specs.Laws.Logic.{either, le_cases}

-- f 0, then f 1, .. then f (n - 1)
unfoldable pub runs : (ℕ → List ℕ) → ℕ → List ℕ
runs f n = join (tab f n)

module _ {A : Type 0} where
  pub join_append : (ks ls : List (List A)) → join (ks ++ ls) ≡ join ks ++ join ls
  join_append [] ls = refl
  join_append (k ∷ ks) ls = ap (λ (x : List A). k ++ x) (join_append ks ls) ∙ sym (append_assoc k (join ks) (join ls))

  pub join_snoc : (ls : List (List A)) (l : List A) → join (ls ++ (l ∷ [])) ≡ join ls ++ l
  join_snoc ls l = join_append ls (l ∷ []) ∙ ap (λ (x : List A). join ls ++ x) (append-nil l)

module _ (f : ℕ → List ℕ) where
  pub runs_none : runs f 0 ≡ []
  unfolding runs tab
  runs_none = refl

  pub runs_suc : (n : ℕ) → runs f (suc n) ≡ runs f n ++ f n
  unfolding runs tab
  runs_suc n = join_snoc (tab f n) (f n)

  pub length_suc : (n : ℕ) → length (runs f (suc n)) ≡ length (runs f n) + length (f n)
  length_suc n = ap length (runs_suc n) ∙ length-append (runs f n) (f n)

  -- what comes before is no longer than the whole
  pub runs_le : (i n : ℕ) → i ≤ n → length (runs f i) ≤ length (runs f n)
  runs_le i zero h = let e : i ≡ 0 = omega arith in rw e (omega arith)
  runs_le i (suc n) h = either (λ l. omega (arith, runs_le i n (omega arith), length_suc n)) (λ e. rw e (omega arith)) (le_cases {m = i} {n = suc n} (omega arith))

  pub runs_fits : (i n : ℕ) → i < n → length (runs f i) + length (f i) ≤ length (runs f n)
  runs_fits i n h = omega (arith, length_suc i, runs_le (suc i) n h)

-- ## Words put into others

pub sets_append : (xs ys l : List ℕ) (at : ℕ) → sets (sets l at xs) (at + length xs) ys ≡ sets l at (xs ++ ys)
sets_append [] ys l at = ap (λ (k : ℕ). sets l k ys) (add-zero at)
sets_append (x ∷ xs) ys l at =
    let e : at + suc (length xs) ≡ suc at + length xs = omega arith in
    ap (λ (k : ℕ). sets (sets (set l at x) (suc at) xs) k ys) e ∙ sets_append xs ys (set l at x) (suc at)

pub put_cons : (x : ℕ) (xs l : List ℕ) (at : ℕ) → sets (set l at x) (at + 1) xs ≡ sets l at (x ∷ xs)
put_cons x xs l at = rw add-one

-- three words and two lists; p is the word past the first list
pub put_three : (x y z : ℕ) (xs ys l : List ℕ) (at p : ℕ) → p ≡ at + 3 + length xs → sets (sets (set (set (set l at x) (at + 1) y) (at + 2) z) (at + 3) xs) p ys ≡ sets l at (x ∷ y ∷ z ∷ xs ++ ys)
put_three x y z xs ys l at p e =
    let one : at + 1 ≡ suc at = omega arith in
    let two : at + 2 ≡ suc (suc at) = omega arith in
    let three : at + 3 ≡ suc (suc (suc at)) = omega arith in
    let q : p ≡ suc (suc (suc at)) + length xs = omega arith in
    rw (q, one, two, three) (sets_append xs ys (set (set (set l at x) (suc at) y) (suc (suc at)) z) (suc (suc (suc at))))

pub put_four : (x y z u : ℕ) (xs l : List ℕ) (at : ℕ) → sets (set (set (set (set l at x) (at + 1) y) (at + 2) z) (at + 3) u) (at + 4) xs ≡ sets l at (x ∷ y ∷ z ∷ u ∷ xs)
put_four x y z u xs l at =
    let one : at + 1 ≡ suc at = omega arith in
    let two : at + 2 ≡ suc (suc at) = omega arith in
    let three : at + 3 ≡ suc (suc (suc at)) = omega arith in
    let four : at + 4 ≡ suc (suc (suc (suc at))) = omega arith in
    rw (one, two, three, four)

pub paste_sets : (l : List ℕ) (at : ℕ) (xs : List ℕ) → at + length xs ≤ length l → paste l at xs (length xs) ≡ sets l at xs
paste_sets l at xs h = rw (take-length xs) (sym (sets-eq xs l at h))

-- ## A loop that puts f i at its turn i; `at` is the word of f 0 and p that of f i

module _ (f : ℕ → List ℕ) (at : ℕ) where
  pub put_none : (l : List ℕ) → l ≡ sets l at (runs f 0)
  put_none l = rw (runs_none f)

  pub end_none : at ≡ at + length (runs f 0)
  end_none = rw (runs_none f) (omega arith)

  pub put_more : (i : ℕ) (l cur next : List ℕ) (p : ℕ) → cur ≡ sets l at (runs f i) → p ≡ at + length (runs f i) → next ≡ sets cur p (f i) → next ≡ sets l at (runs f (i + 1))
  put_more i l cur next p e q h =
      h ∙ ap (λ (x : List ℕ). sets x p (f i)) e ∙ ap (λ (k : ℕ). sets (sets l at (runs f i)) k (f i)) q
      ∙ sets_append (runs f i) (f i) l at
      ∙ ap (sets l at) (sym (runs_suc f i)) ∙ rw add-one

  pub end_more : (i p q : ℕ) → p ≡ at + length (runs f i) → q ≡ p + length (f i) → q ≡ at + length (runs f (i + 1))
  end_more i p q e h = rw add-one (omega (arith, length_suc f i))

  pub put_fits : (i n p m : ℕ) → i < n → p ≡ at + length (runs f i) → at + length (runs f n) ≤ m → p + length (f i) ≤ m
  put_fits i n p m h e g = omega (arith, runs_fits f i n h)
