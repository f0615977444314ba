-- Sums of f 0 .. f (n - 1).
use Rattle.std.specs.Prelude.{ℕ, zero, suc, ◌+◌, ◌*◌, ◌<◌, ◌≤◌, ◌≡◌, refl}
use Rattle.std.proofs.Common.{sym, ◌∙◌, add-zero, add-suc, add-one, arith}
use Rattle.model.specs.Laws.Logic.{either, le_cases}

unfoldable pub sum : (ℕ → ℕ) → ℕ → ℕ
sum f zero = 0
sum f (suc n) = sum f n + f n

pub sum_none : (f : ℕ → ℕ) → sum f 0 ≡ 0
unfolding sum
sum_none f = refl

pub sum_suc : (f : ℕ → ℕ) (n : ℕ) → sum f (suc n) ≡ sum f n + f n
unfolding sum
sum_suc f n = refl

-- a turn of a loop that sums
pub sum_turn : (f : ℕ → ℕ) (i s x : ℕ) → s ≡ sum f i → x ≡ s + f i → x ≡ sum f (i + 1)
sum_turn f i s x e h = rw add-one (omega (arith, sum_suc f i))

pub sum_agree : (f g : ℕ → ℕ) (n : ℕ) → ((i : ℕ) → i < n → f i ≡ g i) → sum f n ≡ sum g n
sum_agree f g zero h = sum_none f ∙ sym (sum_none g)
sum_agree f g (suc n) h = omega (arith, sum_suc f n, sum_suc g n, sum_agree f g n (λ i l. h i (omega arith)), h n (omega arith))

pub sum_le : (f : ℕ → ℕ) (i n : ℕ) → i ≤ n → sum f i ≤ sum f n
sum_le f i zero h = let e : i ≡ 0 = omega arith in rw e (omega arith)
sum_le f i (suc n) h = either (λ l. omega (arith, sum_le f i n (omega arith), sum_suc f n)) (λ e. rw e (omega arith)) (le_cases {m = i} {n = suc n} (omega arith))

-- one of them is within the sum, past those before it
pub sum_fits : (f : ℕ → ℕ) (i n : ℕ) → i < n → sum f i + f i ≤ sum f n
sum_fits f i n h = omega (arith, sum_suc f i, sum_le f (suc i) n h)

-- the first a, then b more
pub sum_split : (f : ℕ → ℕ) (a b : ℕ) → sum f (a + b) ≡ sum f a + sum (λ i. f (a + i)) b
sum_split f a zero = rw (add-zero a, sum_none (λ i. f (a + i))) (omega arith)
sum_split f a (suc b) = rw (add-suc a b, sum_suc f (a + b), sum_suc (λ i. f (a + i)) b, sum_split f a b) (omega arith)

pub sum_const : (c n : ℕ) → sum (λ _. c) n ≡ n * c
sum_const c zero = sum_none (λ _. c) ∙ omega arith
sum_const c (suc n) = omega (arith, sum_suc (λ _. c) n, sum_const c n)

pub sum_more : (c : ℕ) (f : ℕ → ℕ) (n : ℕ) → sum (λ i. c + f i) n ≡ n * c + sum f n
sum_more c f zero = omega (arith, sum_none f, sum_none (λ i. c + f i))
sum_more c f (suc n) = omega (arith, sum_suc f n, sum_suc (λ i. c + f i) n, sum_more c f n)
