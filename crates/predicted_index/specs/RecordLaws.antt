-- One record more: by its place, among the predicted rows of a key, and counted.
use Rattle.std.specs.Prelude.{ℕ, zero, suc, ◌+◌, ◌*◌, ◌<◌, ◌≤◌, ◌≡◌, refl, Bool, true, false, ◌&&◌, List, [], ◌∷◌, ◌++◌, ◌⊎◌, eqb, length, get_or, take, None, Some, slice_get}
use Rattle.std.proofs.Common.{sym, ap, ◌∙◌, inl, inr, ⊎_elim, arith, eqb-true}
use Rattle.model.specs.Basics.{first, keep_if, eq_list, All}
use Rattle.model.specs.Machine.State.{Record, log_words}
use Rattle.model.specs.Machine.Values.{is_row, predicted_rows}
use Rattle.model.specs.Answer.{flag}
use Rattle.model.specs.Laws.Logic.{none_some, some_inj, and_split, eq_list_eq}
use Rattle.predicted_index.specs.Right.{predicted_count, Whole}

-- ## By place

module _ {A : Type 0} where
  pub at_append : (xs ys : List A) (n : ℕ) (x : A) → slice_get xs n ≡ Some x → slice_get (xs ++ ys) n ≡ Some x
  at_append [] ys n x e = absurd (none_some e)
  at_append (y ∷ xs) ys zero x e = e
  at_append (y ∷ xs) ys (suc n) x e = at_append xs ys n x e

  pub at_last : (xs : List A) (x : A) → slice_get (xs ++ (x ∷ [])) (length xs) ≡ Some x
  at_last [] x = refl
  at_last (y ∷ xs) x = at_last xs x

  pub at_here : (xs : List A) (n : ℕ) (d : A) → n < length xs → slice_get xs n ≡ Some (get_or xs n d)
  at_here [] n d h = absurd (omega arith)
  at_here (x ∷ xs) zero d h = refl
  at_here (x ∷ xs) (suc n) d h = at_here xs n d (omega arith)

  pub at_past : (xs : List A) (n : ℕ) → length xs ≤ n → slice_get xs n ≡ None
  at_past [] n h = refl
  at_past (x ∷ xs) zero h = absurd (omega arith)
  at_past (x ∷ xs) (suc n) h = at_past xs n (omega arith)

  -- what stands in a longer list stood in the list, or is the last
  pub at_cases : (xs : List A) (l : A) (n : ℕ) (x : A) → slice_get (xs ++ (l ∷ [])) n ≡ Some x → (slice_get xs n ≡ Some x) ⊎ ((n ≡ length xs) × (l ≡ x))
  at_cases [] l zero x e = inr (refl, some_inj e)
  at_cases [] l (suc n) x e = absurd (none_some e)
  at_cases (y ∷ xs) l zero x e = inl e
  at_cases (y ∷ xs) l (suc n) x e = ⊎_elim inl (λ (p : (n ≡ length xs) × (l ≡ x)). inr (ap suc p.0, p.1)) (at_cases xs l n x e)

-- ## The predicted rows of a key

module _ (k t : ℕ) (key : List ℕ) where
  pub is_row_lem : (r : Record) → is_row k t key r ≡ true → (r.kind ≡ 2) × (r.table ≡ t) × (take k r.words ≡ key)
  is_row_lem r y =
      let p = and_split (eqb r.kind 2 && eqb r.table t) (eq_list (take k r.words) key) y in
      let q = and_split (eqb r.kind 2) (eqb r.table t) p.0 in
      (eqb-true _ _ q.0, eqb-true _ _ q.1, eq_list_eq _ _ p.1)

  pub rows_more : (rs : List Record) (r : Record) → predicted_rows k t key (rs ++ (r ∷ [])) ≡ predicted_rows k t key rs ++ keep_if (is_row k t key r) r.words []
  rows_more [] r = refl
  rows_more (s ∷ rs) r = by (is_row k t key s) (rows_more rs r)
    where
      by : (b : Bool) → predicted_rows k t key (rs ++ (r ∷ [])) ≡ predicted_rows k t key rs ++ keep_if (is_row k t key r) r.words [] → keep_if b s.words (predicted_rows k t key (rs ++ (r ∷ []))) ≡ keep_if b s.words (predicted_rows k t key rs) ++ keep_if (is_row k t key r) r.words []
      by true e = ap (λ (l : List (List ℕ)). s.words ∷ l) e
      by false e = e

  -- none, where no record is one
  pub no_rows : (rs : List Record) → ((n : ℕ) (r : Record) → slice_get rs n ≡ Some r → is_row k t key r ≡ false) → predicted_rows k t key rs ≡ []
  no_rows [] h = refl
  no_rows (s ∷ rs) h = rw (h 0 s refl) (no_rows rs (λ n r e. h (suc n) r e))

  -- the only one, where a record is one
  pub only_row : (rs : List Record) (n : ℕ) (r : Record) → slice_get rs n ≡ Some r → is_row k t key r ≡ true → length (predicted_rows k t key rs) ≤ 1 → first (predicted_rows k t key rs) ≡ Some r.words
  only_row [] n r e y l = absurd (none_some e)
  only_row (s ∷ rs) zero r e y l = let q : s ≡ r = some_inj e in rw (q, y)
  only_row (s ∷ rs) (suc n) r e y l = by (is_row k t key s) (only_row rs n r e y) l
    where
      none_left : (l : List (List ℕ)) → length l ≤ 0 → l ≡ []
      none_left [] h = refl
      none_left (x ∷ l) h = absurd (omega arith)

      by : (b : Bool) → (length (predicted_rows k t key rs) ≤ 1 → first (predicted_rows k t key rs) ≡ Some r.words) → length (keep_if b s.words (predicted_rows k t key rs)) ≤ 1 → first (keep_if b s.words (predicted_rows k t key rs)) ≡ Some r.words
      by false on g = on g
      by true on g = absurd (none_some (ap first (sym (none_left (predicted_rows k t key rs) (omega arith))) ∙ on (omega arith)))

-- ## Counted

pub count_more : (rs : List Record) (r : Record) → predicted_count (rs ++ (r ∷ [])) ≡ predicted_count rs + flag (eqb r.kind 2)
unfolding predicted_count
count_more [] r = omega arith
count_more (s ∷ rs) r = omega (arith, count_more rs r)

-- a predicted row takes at least 3 words of the log
pub count_words : (keys_of : ℕ → ℕ) (rs : List Record) → All (Whole keys_of) rs → 3 * predicted_count rs ≤ log_words rs
unfolding predicted_count
count_words keys_of [] h = omega arith
count_words keys_of (r ∷ rs) h = by (eqb r.kind 2) refl (count_words keys_of rs h.1)
  where
    by : (b : Bool) → eqb r.kind 2 ≡ b → 3 * predicted_count rs ≤ log_words rs → 3 * (flag b + predicted_count rs) ≤ 2 + length r.words + log_words rs
    by true e i = omega (arith, h.0.word (eqb-true r.kind 2 e))
    by false e i = omega arith
