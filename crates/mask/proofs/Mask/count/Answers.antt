-- After each turn n is how many lanes are live so far, which is no more than there are (`how_many_le`).
use mathlib.Core.Path.{◌≡◌}
use native.Mathlib.Omega.{arith}
use lib.ListN.{length}
use Rattle.mask.specs.Masks.{count}
use Rattle.mask.specs.MaskLaws.{how_many_le}
use borrow.Author.Rules.{rules}
use Rattle.mask.proofs.Mask.count.Goals as goal

pub overflow_add-n : goal.overflow_add-n
overflow_add-n c = grind (arith, how_many_le)

pub returns : goal.returns
unfolding count
returns c =
    let l = c.loop-live in
    let m = c.args.self.live in
    let n : length m ≡ 256 = search rules in
    let e : l.live-index ≡ length m = omega arith in
    rw e at l.invariant
