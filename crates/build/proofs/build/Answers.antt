-- A counter that is spent at k leaves what was built before it (`left_early`); else at the end k is the count. Both have 16 words at most (`built_up_fits`).
use Rattle.std.proofs.Common.{ℕ, List, ◌≡◌, sym, subst, Result, Ok, Err, MatchResult, ◌≤◌, arith}
use Rattle.args.specs.declared.Args.{Args}
use Rattle.counter.specs.declared.Counters.{Counters}
use Rattle.build.specs.declared.Building.{Building}
use Rattle.build.specs.Build.{built_up}
use Rattle.build.specs.BuildLaws.{built_up_fits, left_early}
use Rattle.build.proofs.build.Goals as goal

-- a row that is built up, whole or not, has 16 words at most
short : (w m : List ℕ) (i : ℕ) (key : Args) (at n : ℕ) (cs : Counters) (r : Result Building Building) → key.count ≤ 16 → r ≡ built_up w m i key at n cs → MatchResult r (λ b. b.row.count ≤ 16) (λ b. b.row.count ≤ 16)
short w m i key at n cs r h is = subst (λ (x : Result Building Building). MatchResult x (λ b. b.row.count ≤ 16) (λ b. b.row.count ≤ 16)) (sym is) (built_up_fits m i w key at n cs h)

pub returns-in_default-clause-is : goal.returns-in_default-clause-is
returns-in_default-clause-is c =
    let a = c.args in
    let l = c.loop-k in
    rw c.in_default.ensures.spent (left_early a.view.bindings.now a.lane.0 a.view.words.now a.key a.vals.at a.vals.count l.k a.counters l.b c.loop-k-test.true l.invariant (rw (c.write_at-v.ensures, c.place.ensures) at (sym c.in_default.ensures.is)))

pub returns-in_default-clause-fits : goal.returns-in_default-clause-fits
returns-in_default-clause-fits c =
    let a = c.args in
    short a.view.words.now a.view.bindings.now a.lane.0 a.key a.vals.at a.vals.count a.counters (Err c.write.new.b) c.requires.1 (returns-in_default-clause-is c)

pub returns-clause-is : goal.returns-clause-is
unfolding built_up
returns-clause-is c =
    let e : c.loop-k.k ≡ c.args.vals.count = omega arith in
    rw (← e) c.loop-k.invariant

pub returns-clause-fits : goal.returns-clause-fits
returns-clause-fits c =
    let a = c.args in
    short a.view.words.now a.view.bindings.now a.lane.0 a.key a.vals.at a.vals.count a.counters (Ok c.loop-k.b) c.requires.1 (returns-clause-is c)
