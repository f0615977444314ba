-- The words of a part, copied to the front of zeros, as a loop that reads them one by one leaves them.
use Rattle.std.specs.Prelude.{ℕ, zero, suc, ◌+◌, ◌≤◌, ◌≡◌, refl, List, ◌++◌, length, get_or, drop, replicate}
use Rattle.std.proofs.Common.{arith, ext_get_or}
use Rattle.std.proofs.Math.Decide.{dec_lt}
use Rattle.std.proofs.lemmas.Grind.{common_steps}
use Rattle.model.specs.Book.Decode.{part}
use Rattle.model.specs.Laws.Lists.{length_tab, get_or_tab}
use Rattle.words.specs.Filled.{filled, length_filled}

zeros : (m i : ℕ) → get_or (replicate {A = ℕ} m 0) i 0 ≡ 0
zeros zero i = refl
zeros (suc m) zero = refl
zeros (suc m) (suc i) = zeros m i

here : (w : List ℕ) (f : ℕ → ℕ) (at n m i : ℕ) → ((i : ℕ) → f i ≡ get_or w (at + i) 0) → get_or (part w at n ++ drop (length (part w at n)) (replicate m 0)) i 0 ≡ get_or (filled f n (replicate m 0)) i 0
here w f at n m i e = elim (dec_lt i n) [
  | no q ↦ grind (arith, common_steps, zeros, length_tab)
  | yes q ↦ grind (arith, common_steps, zeros, length_tab, get_or_tab, e)
]

pub copied : (w : List ℕ) (at n m : ℕ) (front there : List ℕ) → n ≤ m → front ≡ there → there ≡ part w at n → front ++ drop (length there) (replicate m 0) ≡ filled (λ i. get_or w (at + i) 0) n (replicate m 0)
copied w at n m front there h e p =
    rw (e, p) (ext_get_or 0 _ _ (grind (arith, common_steps, length_filled)) (λ i l. here w (λ i. get_or w (at + i) 0) at n m i (λ i. refl)))
