-- After k turns at most k steps are done, with at most 8483 k body words; at the end k is the step count, 64 at most.
use Prim.Native.Nat.{◌<◌}
use mathlib.Core.Path.{◌≡◌}
use native.Mathlib.Omega.{arith}
use Rattle.model.specs.Book.Contents.{step_count}
use Rattle.model.specs.Laws.Book.{few_steps}
use Rattle.run.specs.Progress.{ran_steps}
use Rattle.run.proofs.run_each.Goals as goal

pub run_next-requires : goal.run_next-requires
run_next-requires c =
    let b = c.args.indexed.book in
    let l = c.loop in
    let k : l.counter < step_count b.words.now = omega (arith, c.loop-test.true, c.step_count-end.ensures, b.contained.steps) in
    let few = few_steps b.words.now b.readable in
    (omega arith, record { done = omega arith; at = omega arith })

pub returns : goal.returns
unfolding ran_steps
returns c =
    let b = c.args.indexed.book in
    let l = c.loop in
    let e : l.counter ≡ step_count b.words.now = omega (arith, c.loop-test.false, c.step_count-end.ensures, b.contained.steps) in
    let few = few_steps b.words.now b.readable in
    record { is = rw (← e) l.invariant.4; fits = (omega arith, omega arith); same = (l.invariant.0, l.invariant.1) }
