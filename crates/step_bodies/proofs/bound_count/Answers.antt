-- The chain counts those that are true of all 32, which is `how_many` by induction over the first n of them (`counted`).
use Rattle.std.proofs.Common.{◌≡◌, ◌+◌, ◌≤◌, ℕ, zero, suc, Bool, true, false, cond, List, length, get_or, take, refl, sym, ap, ◌∙◌, add-one, arith, rules, tests}
use Rattle.std.specs.List.{filter}
use Rattle.std.proofs.Math.Seq.{take-length}
use Rattle.std.proofs.lemmas.List.Filters.{length-filter_more}
use Rattle.std.proofs.lemmas.Iterator.{YieldsList-from_slice}
use Rattle.std.proofs.lemmas.Iterator.Consumers.{YieldsList-from_filter, count_from_yields_List}
use Rattle.model.specs.Basics.{when, how_many}
use Rattle.step_bodies.proofs.bound_count.Goals as goal

one_more : (b : Bool) (n : ℕ) → n + cond b 1 0 ≡ when b suc n
one_more true n = omega arith
one_more false n = omega arith

counted : (bs : List Bool) (n : ℕ) → n ≤ length bs → length (filter (λ b. b) (take n bs)) ≡ how_many (λ v. get_or bs v false) n
counted bs zero h = refl
counted bs (suc n) h =
    let more : length (filter (λ b. b) (take (suc n) bs)) ≡ length (filter (λ b. b) (take n bs)) + cond (get_or bs n false) 1 0 = rw (← add-one n) (length-filter_more (λ b. b) bs n false h) in
    more ∙ ap (λ (k : ℕ). k + cond (get_or bs n false) 1 0) (counted bs n (omega arith)) ∙ one_more (get_or bs n false) (how_many (λ v. get_or bs v false) n)

pub returns : goal.returns
returns c =
    let known = c.args.bound.known in
    let all : length known ≡ 32 = search rules in
    count_from_yields_List c.filter.result _ c.count.ensures.ran (YieldsList-from_filter _ (λ b. b) (YieldsList-from_slice known cc) c.filter.ensures.closure (λ x r q k. search (rules, tests)))
    ∙ ap (λ (bs : List Bool). length (filter (λ b. b) bs)) (sym (take-length known))
    ∙ ap (λ (n : ℕ). length (filter (λ b. b) (take n known))) all
    ∙ counted known 32 (omega arith)
