-- What a chain over a range of numbers gives, where the range has one more.
use Rattle.std.proofs.Common.{◌≡◌, ◌+◌, ℕ, suc, map, subst, add-one, arith}
use Rattle.std.specs.List as list
use Rattle.std.specs.List.{range_with_len}
use Rattle.std.proofs.lemmas.List.FromFn.{sum_by-map-range_with_len_more}

pub sum_more : (f : ℕ → ℕ) (n : ℕ) → list.sum (map f (range_with_len 0 (suc n))) ≡ list.sum (map f (range_with_len 0 n)) + f n
sum_more f n = subst (λ (k : ℕ). list.sum (map f (range_with_len 0 k)) ≡ list.sum (map f (range_with_len 0 n)) + f n) (add-one n) (sum_by-map-range_with_len_more (λ x. x) f 0 n n (omega arith))
