-- The words that `all` has compared are the key's: all of them (`same_all`), or the one that decides is not (`same_not`).
use Rattle.std.proofs.Common.{◌≡◌, ℕ, ◌<◌, ◌≤◌, ◌+◌, Bool, true, false, List, get_or, length, sym, zero-add, arith, rules, tests}
use Rattle.std.specs.Bool.{MatchBool}
use Rattle.std.specs.List.{AllWithin, HoldsAt, range_with_len}
use Rattle.std.proofs.lemmas.Iterator.{cases_from_all, YieldsList-from_range}
use Rattle.std.proofs.lemmas.List.FromFn.{length-range_with_len, get_or-range_with_len}
use Rattle.tables.specs.Tables.{same_words}
use Rattle.tables.specs.TablesLaws.{same_all, same_not}
use Rattle.tables.proofs.same_words.Goals as goal

module _ (w : List ℕ) (at : ℕ) (key : List ℕ) (k : ℕ) (fits : at + k ≤ length w) where
  abbrev Same : ℕ → Type 0
  Same i = get_or w (at + i) 0 ≡ get_or key i 0

  decided : (r : Bool) → MatchBool r (AllWithin Same (range_with_len 0 k) 0 (length (range_with_len 0 k))) ((j : ℕ) × (j < length (range_with_len 0 k)) × HoldsAt (λ i. Same i → ⊥) (range_with_len 0 k) j) → r ≡ same_words w at key k
  decided true all = sym (same_all w at key k fits (λ i l. rw (get_or-range_with_len, zero-add) at (all i 0 (omega arith) (omega (arith, length-range_with_len 0 k)))))
  decided false (j, l, not) =
      let m : j < k = omega (arith, length-range_with_len 0 k) in
      sym (same_not w at key k j m (rw (get_or-range_with_len, zero-add) at (not 0)))

pub returns : goal.returns
returns c =
    let a = c.args in
    let k : ℕ = length a.key.now in
    let same : ℕ → Type 0 = Same a.rows.now a.at a.key.now k c.requires in
    decided a.rows.now a.at a.key.now k c.requires _ (cases_from_all _ _ _ same (λ i. same i → ⊥) c.all.ensures.ran (YieldsList-from_range 0 k k (cc) (omega arith)) (λ x q k. search (rules, tests)) (λ x q k. search (rules, tests)))
