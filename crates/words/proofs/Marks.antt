-- Marks of which the first n are set, as `fill` leaves them.
use Rattle.std.specs.Prelude.{ℕ, ◌≤◌, ◌<◌, ◌≡◌, min, true, false, ◌++◌, ltb, drop, replicate}
use Rattle.std.proofs.Common.{sym, ap, ◌∙◌, arith, ext_get_or, lt-ltb, le-ltb}
use Rattle.std.proofs.lemmas.List.{length-replicate, get_or-replicate}
use mathlib.Core.List.{List}
use mathlib.Core.Bool.{Bool}
use Rattle.model.specs.Basics.{tab}
use Rattle.model.specs.Laws.Lists.{length_tab, get_or_tab}
use Rattle.words.specs.Filled.{filled_rest}

all_below : (n k : ℕ) → k ≤ n → replicate k true ≡ tab (λ i. ltb i n) k
all_below n k h =
    let f : ℕ → Bool = λ (i : ℕ). ltb i n in
    ext_get_or false (replicate k true) (tab f k) (length-replicate k true ∙ sym (length_tab f k))
    (λ i l. let m : i < k = omega (arith, length-replicate k true) in get_or-replicate k i true false m ∙ sym (get_or_tab f k i false m ∙ lt-ltb i n (omega arith)))

pub marks_below : (n m k : ℕ) (front : List Bool) → k ≡ min n m → front ≡ replicate k true → front ++ drop k (replicate m false) ≡ tab (λ i. ltb i n) m
marks_below n m k front h e =
    let f : ℕ → Bool = λ (i : ℕ). ltb i n in
    let long = length-replicate m false in
    rw (e, all_below n k (omega arith))
    (filled_rest f k (replicate m false) false (omega arith) (λ i p q. get_or-replicate m i false false (omega arith) ∙ sym (le-ltb i n (omega arith))) ∙ ap (tab f) long)
