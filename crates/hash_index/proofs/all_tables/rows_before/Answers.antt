-- The chain's sum is `rows_before` (`sum_range`), and small, since a table has fewer than 2 ^ 32 rows (`sum_small`).
use Rattle.std.proofs.Common.{◌≡◌, ◌+◌, ◌*◌, ◌^◌, ◌<◌, ◌≤◌, ℕ, List, zero, suc, map, ap, ◌∙◌, arith, rules, refl}
use Rattle.std.specs.List as list
use Rattle.std.specs.List.{range_with_len}
use Rattle.std.proofs.lemmas.Iterator.{YieldsList-from_map, YieldsList-from_range}
use Rattle.std.proofs.lemmas.Iterator.Consumers.{sum_from_yields_List, fits_from_yields_list}
use Rattle.model.specs.Book.Contents.{first_of}
use Rattle.words.specs.Ranges.{sum_more}
use Rattle.tables.specs.Tables.{info_of}
use Rattle.hash_index.specs.Book.{rows_before}
use Rattle.hash_index.proofs.all_tables.rows_before.Goals as goal

module _ (w : List ℕ) where
  abbrev rows_in : ℕ → ℕ
  rows_in t = (info_of w t).rows

  sum_range : (n : ℕ) → list.sum (map rows_in (range_with_len 0 n)) ≡ rows_before w n
  unfolding rows_before
  sum_range zero = refl
  sum_range (suc n) = sum_more rows_in n ∙ ap (λ (s : ℕ). s + rows_in n) (sum_range n)

  sum_small : ((t : ℕ) → rows_in t ≤ 4294967295) → (n : ℕ) → rows_before w n ≤ n * 4294967295
  unfolding rows_before
  sum_small few zero = omega arith
  sum_small few (suc n) = omega (arith, sum_small few n, few n)

pub sum-requires-clause-fits : goal.sum-requires-clause-fits
sum-requires-clause-fits c =
    let a = c.args in
    let f = rows_in a.words.now in
    let small : list.sum (map f (range_with_len 0 a.n)) < 2 ^ 64 = omega (arith, c.requires, sum_range a.words.now a.n, sum_small a.words.now (λ t. omega (arith, c.type_inv.words (first_of a.words.now t + 3))) a.n) in
    fits_from_yields_list c.map.result (2 ^ 64) (YieldsList-from_map _ f (YieldsList-from_range 0 _ a.n c.map.ensures.source (omega arith)) c.map.ensures.closure (λ x r q k. search rules)) small

pub returns : goal.returns
returns c =
    let a = c.args in
    let f = rows_in a.words.now in
    sum_from_yields_List c.map.result _ c.sum.ensures.ran (YieldsList-from_map _ f (YieldsList-from_range 0 _ a.n c.map.ensures.source (omega arith)) c.map.ensures.closure (λ x r q k. search rules)) ∙ sum_range a.words.now a.n
