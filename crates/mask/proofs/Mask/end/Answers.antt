-- After i turns `last` is the last live one of i lanes, or 0 for none (`last_turn`); at the end lane 0 is told from none by its mark (`end_by`).
use Prim.Native.Nat.{ℕ, ◌+◌}
use mathlib.Core.Path.{◌∙◌, ◌≡◌}
use mathlib.Core.Bool.{false, cond}
use native.Mathlib.Omega.{arith}
use lib.ListN.{length, get_or}
use Rattle.mask.specs.Masks.{end}
use Rattle.mask.specs.MaskLaws.{end_by, last_turn}
use borrow.Author.Rules.{rules}
use Rattle.mask.proofs.Mask.end.Goals as goal
use Rattle.mask.proofs.Mask.end.Goals.{After-loop-i, then-live, else-live}

pub loop-i-preserved : goal.loop-i-preserved
loop-i-preserved c =
    let l = c.loop-i in
    let m = c.args.self.live in
    let marked : c.if-live.max ≡ cond (get_or m l.i false) l.i 0 =
    elim c.if-live.branch [ then-live w ↦ rw w.if-live.true w.max-is | else-live w ↦ rw w.if-live.false w.max-is ]
    in
    (omega arith, c.max-last.ensures ∙ rw marked (last_turn (λ k. get_or m k false) l.i l.last l.invariant.1))

at_end : (c : After-loop-i) (at : ℕ) → at ≡ c.loop-i.last → cond (get_or c.args.self.live at false) (at + 1) 0 ≡ end c.args.self.live
unfolding end
at_end c at h =
    let l = c.loop-i in
    let m = c.args.self.live in
    let n : length m ≡ 256 = search rules in
    let e : l.i ≡ length m = omega arith in
    end_by m at (h ∙ rw e at l.invariant.1)

pub returns-then-self-at-clause-is : goal.returns-then-self-at-clause-is
returns-then-self-at-clause-is c = rw c.if-self-at.true at (at_end (goal.at.returns-then-self-at-clause-is c).After-loop-i _ c.from-at.ensures)

pub returns-else-self-at-clause-is : goal.returns-else-self-at-clause-is
returns-else-self-at-clause-is c = rw c.if-self-at.false at (at_end (goal.at.returns-else-self-at-clause-is c).After-loop-i _ c.from-at.ensures)
