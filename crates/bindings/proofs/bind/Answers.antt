-- The copied words are the first 256 of the column, the cleared ones the rest of its place; the two together are `bound` (`bound_front`).
use Rattle.std.proofs.Common.{◌≡◌, ℕ, ◌*◌, List, take, min, sym, ap, ◌∙◌, arith, take_all, take-take, length-take}
use Rattle.std.proofs.Math.Decide.{dec_lt}
use Rattle.bindings.specs.ColumnLaws.{bound_front}
use Rattle.bindings.proofs.bind.Goals as goal

take_least : (n k : ℕ) (l : List ℕ) → take (min n k) l ≡ take k (take n l)
take_least n k l =
    elim (dec_lt n k) [
      | yes h ↦ let e : min n k ≡ n = omega arith in rw e (sym (take_all k (take n l) (omega (arith, length-take n l))))
      | no h ↦ let e : min n k ≡ k = omega arith in rw e (sym (take-take k n l (omega arith)))
    ]

pub returns : goal.returns
returns c =
    let a = c.args in
    let front = c.part-front in
    let words = front.result.now in
    let is : words ≡ take 256 (take a.lanes a.column.now) = front.ensures ∙ rw c.min.ensures (take_least a.lanes 256 a.column.now) in
    bound_front _ _ _ _ words _ _ (ap (λ (v : ℕ). 256 * v) c.from-at.ensures) is c.copy.ensures (c.fill.ensures.after (λ y e. e)) c.requires
