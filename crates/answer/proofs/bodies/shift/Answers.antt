-- After i turns the last i of the n words stand d words further on, all else as it was (`moved_turn`); at the end i is n, and all n are moved (`moved_all`).
use Rattle.answer.specs.Moved.{moved_none, moved_turn, moved_all}
use native.Mathlib.Omega.{arith}
use mathlib.Core.Path.{◌≡◌, ◌∙◌}
use Rattle.answer.proofs.bodies.shift.Goals as goal

pub loop-i-init : goal.loop-i-init
loop-i-init c = moved_none c.args.answer.now c.args.n c.args.d c.requires

pub loop-i-preserved : goal.loop-i-preserved
loop-i-preserved c =
    let a = c.args in
    let l = c.loop-i in
    moved_turn a.answer.now a.n a.d c.requires l.i l.answer l.invariant c.loop-i-test.true

pub returns : goal.returns
returns c =
    let a = c.args in
    let l = c.loop-i in
    let e : l.i ≡ a.n = omega arith in
    l.invariant ∙ rw e (moved_all a.answer.now a.n a.d c.requires)
