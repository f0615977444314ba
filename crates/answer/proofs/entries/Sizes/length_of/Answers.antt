-- The chain's sum is `sum` of the lengths of the first n entries (`sum_range`), which is small (`small_sum`).
use Rattle.std.proofs.Common.{◌≡◌, ◌+◌, ◌^◌, ◌<◌, ℕ, zero, suc, map, sym, ap, ◌∙◌, arith, rules}
use Rattle.std.specs.List as list
use Rattle.std.specs.List.{range_with_len}
use Rattle.std.proofs.lemmas.Iterator.{YieldsList-from_map, YieldsList-from_range}
use Rattle.std.proofs.lemmas.Iterator.Consumers.{sum_from_yields_List, fits_from_yields_list}
use Rattle.words.specs.Ranges.{sum_more}
use Rattle.answer.specs.LayoutLaws.{small_sum}
use Rattle.answer.specs.Layout.{entry_at}
use Rattle.answer.specs.Sums.{sum, sum_none, sum_suc}
use Rattle.answer.proofs.entries.Sizes.length_of.Goals as goal

sum_range : (f : ℕ → ℕ) (n : ℕ) → list.sum (map f (range_with_len 0 n)) ≡ sum f n
sum_range f zero = sym (sum_none f)
sum_range f (suc n) = sum_more f n ∙ ap (λ (s : ℕ). s + f n) (sum_range f n) ∙ sym (sum_suc f n)

pub sum-requires-clause-fits : goal.sum-requires-clause-fits
sum-requires-clause-fits c =
    let a = c.args in
    let s = a.self in
    let f : ℕ → ℕ = λ (i : ℕ). (entry_at s.words.now s.counts.now s.lengths.now s.used s.contents i).length in
    let small : list.sum (map f (range_with_len 0 a.n)) < 2 ^ 64 = omega (arith, sum_range f a.n, small_sum s.words.now s.counts.now s.lengths.now s.used s.contents s.small a.n c.requires) in
    fits_from_yields_list c.map.result (2 ^ 64) (YieldsList-from_map _ f (YieldsList-from_range 0 _ a.n c.map.ensures.source (omega arith)) c.map.ensures.closure (λ x r q k. search rules)) small

pub returns : goal.returns
returns c =
    let a = c.args in
    let s = a.self in
    let f : ℕ → ℕ = λ (i : ℕ). (entry_at s.words.now s.counts.now s.lengths.now s.used s.contents i).length in
    sum_from_yields_List c.map.result _ c.sum.ensures.ran (YieldsList-from_map _ f (YieldsList-from_range 0 _ a.n c.map.ensures.source (omega arith)) c.map.ensures.closure (λ x r q k. search rules)) ∙ sum_range f a.n
