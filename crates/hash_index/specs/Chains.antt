-- The rows of one home among the first n: the first from a row on, and the last. A row is told by its number plus 1, none by 0.
use Rattle.std.specs.Prelude.{◌≡◌, ℕ, suc, ◌<◌, ◌≤◌, ◌≢◌}
use Rattle.std.proofs.Common.{arith}
use Rattle.model.specs.Laws.Logic.{either, le_cases}

module _ (home : ℕ → ℕ) where
  -- no row from i on has the home h
  abbrev pub Free : (n h i : ℕ) → Type 0
  Free n h i = (x : ℕ) → i ≤ x → x < n → home x ≢ h

  pub data First (n h i : ℕ) : ℕ → Type 0 where
    none : Free n h i → First n h i 0
    some : (j : ℕ) → i ≤ j → j < n → home j ≡ h → Free j h i → First n h i (suc j)

  pub data Last (n h : ℕ) : ℕ → Type 0 where
    none : Free n h 0 → Last n h 0
    some : (j : ℕ) → j < n → home j ≡ h → Free n h (suc j) → Last n h (suc j)

  free_more : {n h i : ℕ} → Free n h i → home n ≢ h → Free (suc n) h i
  free_more f other x le lt = either (f x le) (λ e. rw e other) (le_cases lt)

  -- ## One row more

  pub first_other : {n h i v : ℕ} → First n h i v → home n ≢ h → First (suc n) h i v
  first_other (none f) other = none (free_more f other)
  first_other (some j le lt e f) other = some j le (omega arith) e f

  -- there is one already
  pub first_kept : {n h i v : ℕ} → First n h i v → (l : ℕ) → i ≤ l → l < n → home l ≡ h → First (suc n) h i v
  first_kept (none f) l le lt e = absurd (f l le lt e)
  first_kept (some j le lt e f) l _ _ _ = some j le (omega arith) e f

  pub first_new : {n h i : ℕ} → Free n h i → i ≤ n → home n ≡ h → First (suc n) h i (suc n)
  first_new {n} f le e = some n le (omega arith) e f

  pub first_past : (n h : ℕ) → First n h n 0
  first_past n h = none (λ x le lt. absurd (omega arith))

  pub last_other : {n h v : ℕ} → Last n h v → home n ≢ h → Last (suc n) h v
  last_other (none f) other = none (free_more f other)
  last_other (some j lt e f) other = some j (omega arith) e (free_more f other)

  pub last_new : (n h : ℕ) → home n ≡ h → Last (suc n) h (suc n)
  last_new n h e = some n (omega arith) e (λ x le lt. absurd (omega arith))

  pub last_none : (h : ℕ) → Last 0 h 0
  last_none h = none (λ x le lt. absurd (omega arith))
