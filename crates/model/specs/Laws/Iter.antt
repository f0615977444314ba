-- Laws of loops: a state that goes through n turns, and tests that a chain of `match` arms has failed.
use Rattle.std.specs.Prelude.{ℕ, zero, suc, ◌+◌, ◌≤◌, ◌<◌, ◌≡◌, refl}
use Rattle.std.proofs.Common.{sym, ap, ◌∙◌, add-one, arith}
use Rattle.model.specs.Basics.{iter}
use Rattle.model.specs.Laws.Logic.{either, le_cases}

module _ {A : Type 0} where
  -- one turn more
  pub iter_more : (f : ℕ → A → A) (i : ℕ) (s now next : A) → now ≡ iter f i s → next ≡ f i now → next ≡ iter f (i + 1) s
  iter_more f i s now next h e = rw add-one (e ∙ ap (f i) h)

  -- what holds at the start and is kept by each turn
  pub iter_keeps : (P : A → Type 0) (f : ℕ → A → A) (n : ℕ) (s : A) → P s → ((i : ℕ) (a : A) → i < n → P a → P (f i a)) → P (iter f n s)
  iter_keeps P f zero s p h = p
  iter_keeps P f (suc n) s p h = h n (iter f n s) (omega arith) (iter_keeps P f n s p (λ i a l. h i a (omega arith)))

  -- turns that agree
  pub iter_agree : (f g : ℕ → A → A) (n : ℕ) (s : A) → ((i : ℕ) (a : A) → i < n → f i a ≡ g i a) → iter f n s ≡ iter g n s
  iter_agree f g zero s h = refl
  iter_agree f g (suc n) s h = h n (iter f n s) (omega arith) ∙ ap (g n) (iter_agree f g n s (λ i a l. h i a (omega arith)))

  -- turns that change nothing any more can be left out
  pub iter_rest : (f : ℕ → A → A) (k n : ℕ) (s now : A) → now ≡ iter f k s → k ≤ n → ((i : ℕ) → k ≤ i → f i now ≡ now) → now ≡ iter f n s
  iter_rest f k zero s now e h stay = let z : k ≡ 0 = omega arith in e ∙ ap (λ (j : ℕ). iter f j s) z
  iter_rest f k (suc n) s now e h stay =
      either (λ l. sym (stay n (omega arith)) ∙ ap (f n) (iter_rest f k n s now e (omega arith) stay)) (λ q. e ∙ ap (λ (j : ℕ). iter f j s) q) (le_cases {m = k} {n = suc n} (omega arith))

  -- a state that no turn changes: for an early return
  pub iter_stop : (f : ℕ → A → A) (k n : ℕ) (s now : A) → now ≡ iter f k s → k ≤ n → ((i : ℕ) → f i now ≡ now) → now ≡ iter f n s
  iter_stop f k n s now e h stay = iter_rest f k n s now e h (λ i _. stay i)

-- not 0, not 1, .. not n: above n. For the last arm of a match
pub above : (n x : ℕ) → (0 < x → n < x) → (x ≡ suc n → ⊥) → 0 < x → suc n < x
above n x h ne p = let q = h p in omega arith
