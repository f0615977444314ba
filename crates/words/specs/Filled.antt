-- A list of which the first n elements are replaced by f 0 .. f (n - 1): a loop that stores f i at i, for i from 0, takes `filled f i l` to `filled f (i + 1) l`.
use Rattle.std.specs.Prelude.{◌≡◌, length, set, drop, take, get_or, replicate}
use Rattle.std.proofs.Math.Path.{refl, ap}
use Rattle.std.proofs.Common.{sym, ◌∙◌, add-one, arith, length-append, length-drop, drop-cons, take_at, length-take-le, get_or-append-add, get_or-drop, ext_get_or}
use mathlib.Core.List.{List, [], ◌∷◌, ◌++◌, append-nil}
use Prim.Native.Nat.{ℕ, zero, suc, ◌+◌, ◌-◌, ◌*◌, ◌<◌, ◌≤◌}
use Rattle.std.proofs.Math.Decide.{dec_lt}
use Rattle.std.proofs.Math.ListN.{get_or-append}
use Rattle.std.proofs.lemmas.List.{length-replicate, get_or-replicate, drop-replicate}
use Rattle.std.proofs.Math.Seq.{drop-length, set_at, append_snoc, length_front}
use Rattle.model.specs.Basics.{tab}
use Rattle.model.specs.Laws.Lists.{length_tab, get_or_tab}

module _ {A : Type 0} where
  abbrev pub filled : (ℕ → A) → ℕ → List A → List A
  filled f n l = tab f n ++ drop n l

  pub filled_none : (f : ℕ → A) (l : List A) → l ≡ filled f 0 l
  unfolding tab
  filled_none f l = refl

  filled_suc : (f : ℕ → A) (n : ℕ) (l : List A) (d : A) → n < length l → set (filled f n l) n (f n) ≡ filled f (suc n) l
  unfolding tab
  filled_suc f n l d h = rw (drop-cons l n d, set_at (tab f n) (get_or l n d) (drop (suc n) l) (f n) n (length_tab f n)) (sym (append_snoc (tab f n) (f n) (drop (suc n) l)))

  pub filled_more : (f : ℕ → A) (n : ℕ) (l : List A) (d : A) → n < length l → set (filled f n l) n (f n) ≡ filled f (n + 1) l
  filled_more f n l d h = rw add-one (filled_suc f n l d h)

  pub filled_all : (f : ℕ → A) (l : List A) → filled f (length l) l ≡ tab f (length l)
  filled_all f l = rw drop-length (append-nil (tab f (length l)))

  pub length_filled : (f : ℕ → A) (n : ℕ) (l : List A) → n ≤ length l → length (filled f n l) ≡ length l
  length_filled f n l h = simp (length-append, length_tab, length-drop) (omega arith)

  -- what a callee left of a part &mut d[..n], handed on as &d[..n]
  pub front_again : (n : ℕ) (e d : List A) → length e ≡ n → take n (e ++ drop n d) ≡ e
  front_again n e d h = take_at e (drop n d) n h

  pub part_fits : (k n m : ℕ) (d : List A) → n ≤ length d → k * n ≤ m → k * length (take n d) ≤ m
  part_fits k n m d h g = rw (length-take-le n d h) g

  -- a part that was lent and came back, as long as it was, is as long a part still
  pub part_again : (n : ℕ) (e d : List A) → length e ≡ length (take n d) → n ≤ length d → n ≤ length (e ++ drop n d)
  part_again n e d h g = rw (length_front d e n h) g

  pub part_count : (n : ℕ) (e d : List A) → length e ≡ length (take n d) → n ≤ length d → n ≡ length (take n (e ++ drop n d))
  part_count n e d h g = sym (length-take-le n (e ++ drop n d) (part_again n e d h g))

  pub part_is : (n : ℕ) (e d : List A) → length e ≡ length (take n d) → n ≤ length d → take n (e ++ drop n d) ≡ e
  part_is n e d h g = take_at e (drop n d) n (h ∙ length-take-le n d g)

  -- what stands at n and beyond is as it was
  get_or_past : (f : ℕ → A) (n i : ℕ) (l : List A) (d : A) → n ≤ i → get_or (filled f n l) i d ≡ get_or l i d
  get_or_past f n i l d h =
      let e : i ≡ length (tab f n) + (i - n) = omega (arith, length_tab f n) in
      let g : n + (i - n) ≡ i = omega arith in
      ap (λ (k : ℕ). get_or (filled f n l) k d) e ∙ get_or-append-add (tab f n) (drop n l) (i - n) d ∙ get_or-drop n l (i - n) d ∙ ap (λ (k : ℕ). get_or l k d) g

  pub get_or_filled : (f : ℕ → A) (n : ℕ) (l : List A) (d : A) → get_or (filled f n l) n d ≡ get_or l n d
  get_or_filled f n l d = get_or_past f n n l d (omega arith)

  -- where f is what stands at n and beyond, all are replaced
  pub filled_rest : (f : ℕ → A) (n : ℕ) (l : List A) (d : A) → n ≤ length l → ((i : ℕ) → n ≤ i → i < length l → get_or l i d ≡ f i) → filled f n l ≡ tab f (length l)
  filled_rest f n l d h rest = ext_get_or d (filled f n l) (tab f (length l)) (length_filled f n l h ∙ sym (length_tab f (length l))) (λ i k. at i (omega (arith, length_filled f n l h)) ∙ sym (get_or_tab f (length l) i d (omega (arith, length_filled f n l h))))
    where
      at : (i : ℕ) → i < length l → get_or (filled f n l) i d ≡ f i
      at i k = elim (dec_lt i n) [ yes p ↦ get_or-append (tab f n) (drop n l) d i (omega (arith, length_tab f n)) ∙ get_or_tab f n i d p | no p ↦ get_or_past f n i l d (omega arith) ∙ rest i (omega arith) k ]

  -- where f is x from n on, as many x as are left come after the first n
  pub tab_rest : (f : ℕ → A) (n m : ℕ) (x : A) → n ≤ m → ((i : ℕ) → n ≤ i → f i ≡ x) → tab f n ++ replicate (m - n) x ≡ tab f m
  tab_rest f n m x h rest =
      let long = length-replicate m x in
      rw (← drop-replicate n m x)
      (filled_rest f n (replicate m x) x (omega arith) (λ i p q. get_or-replicate m i x x (omega arith) ∙ sym (rest i p)) ∙ ap (tab f) long)

  -- a turn of a loop that fills: cur is the list before the turn, and v is what is stored at i
  pub filled_turn : (f : ℕ → A) (i : ℕ) (l cur : List A) (v d : A) → cur ≡ filled f i l → v ≡ f i → i < length l → set cur i v ≡ filled f (i + 1) l
  filled_turn f i l cur v d h e n = ap (λ (x : List A). set x i v) h ∙ ap (λ (x : A). set (filled f i l) i x) e ∙ filled_more f i l d n

  pub tab_agree : (f g : ℕ → A) (n : ℕ) → ((i : ℕ) → i < n → f i ≡ g i) → tab f n ≡ tab g n
  unfolding tab
  tab_agree f g zero h = refl
  tab_agree f g (suc n) h =
      ap (λ (l : List A). l ++ (f n ∷ [])) (tab_agree f g n (λ i k. h i (omega arith)))
      ∙ ap (λ (x : A). tab g n ++ (x ∷ [])) (h n (omega arith))
