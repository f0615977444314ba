-- After j turns p is the place of instruction j, which is small and stands there (`here`); the rule's number of instructions is n (`many_is`).
use Prim.Native.Nat.{ℕ, ◌+◌}
use mathlib.Core.Path.{◌≡◌, refl, ap, ◌∙◌}
use native.Mathlib.Omega.{arith}
use lib.ListN.{get_or}
use Rattle.instr.specs.Instr.{instr_at}
use Rattle.rules.specs.RuleLaws.{At, many, small_here, stands_here}
use Rattle.action.proofs.run_instrs.Goals as goal
use Rattle.action.proofs.run_instrs.Goals.{After-size_at-n, In-loop}

-- how many instructions it has
many_is : (c : After-size_at-n) → c.size_at-n.result ≡ many c.args.indexed.book.words.now c.args.r
many_is c = c.size_at-n.ensures.0 ∙ ap (λ (x : ℕ). get_or c.args.indexed.book.words.now (x + 1) 0) c.rule-first.ensures.0

-- the instruction at p
here : (c : In-loop) → c.size_at-n.result ≡ many c.args.indexed.book.words.now c.args.r → At c.args.indexed.book.words.now c.args.r c.loop.counter c.loop.p (instr_at c.args.indexed.book.words.now c.loop.p)
here c n = record { readable = c.args.indexed.book.readable; rule = c.requires; below = omega (arith, n, c.loop-test.true); place = c.loop.invariant.0; is = refl }

pub run_next-requires : goal.run_next-requires
run_next-requires c =
    let x = here (goal.at.run_next-requires c).In-loop (many_is (goal.at.run_next-requires c).After-size_at-n) in
    (small_here x, stands_here x)

pub next-p-requires : goal.next-p-requires
next-p-requires c = small_here (here (goal.at.next-p-requires c).In-loop (many_is (goal.at.next-p-requires c).After-size_at-n))
