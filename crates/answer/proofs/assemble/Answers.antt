-- All words of the log left are used, so the answer is made of them (`take-length`). `total` is `whole_length` (`whole_sum`), and the numbers are small (`small`); by the test it is over and the words stay, or the rest is what `fill` ensures.
use Prim.Native.Nat.{ℕ, ◌+◌, ◌*◌, ◌<◌, ◌≤◌}
use mathlib.Core.Path.{◌≡◌, ◌∙◌, ap, sym, refl}
use native.Mathlib.Omega.{arith}
use borrow.Author.Tests.{le-leb, lt-leb}
use lib.ListN.{length, take}
use Rattle.std.proofs.Math.Seq.{take-length}
use Rattle.model.specs.Laws.Book.{few_entries}
use Rattle.std.specs.Prelude.{List, Ok}
use Rattle.answer.specs.Layout.{results_of, Enough, Results, Small, whole_length, assembled, assembled_length}
use Rattle.answer.specs.LayoutLaws.{contents_is, small_sum}
use Rattle.answer.specs.AssembledLaws.{small, whole_sum}
use Rattle.answer.proofs.assemble.Goals as goal
use Rattle.answer.proofs.assemble.Goals.{After-length_of, After-of}

-- what the answer is made of
abbrev results : After-of → Results
results c =
    let a = c.args in
    results_of a.words.now a.done.counts a.tables.now a.left.counters.next a.lengths.now (take a.page.now.at a.page.now.words.now) a.left.changed a.left.log.now

enough_here : (c : After-of) → Enough (results c) c.args.page.now.at c.args.page.now.words.now
enough_here c = rw (take-length c.args.left.log.now) at c.requires.1

-- the numbers are small
small_here : (c : After-of) → Small c.args.words.now c.args.done.counts c.args.lengths.now (length c.args.left.log.now) c.of.result
small_here c = small (results c) c.args.page.now.at c.args.page.now.words.now (enough_here c) c.requires.0 c.of.result (contents_is c.of.ensures)

-- the sum is the whole
total_is : (c : After-length_of) → 1 + 3 * c.bodies-n.result + c.length_of.result ≡ whole_length (results_of c.args.words.now c.args.done.counts c.args.tables.now c.args.left.counters.next c.args.lengths.now (take c.args.page.now.at c.args.page.now.words.now) c.args.left.changed c.args.left.log.now)
total_is c =
    let a = c.args in
    let at : ℕ = a.page.now.at in
    let front : List ℕ = a.page.now.words.now in
    let enough : Enough (results_of a.words.now a.done.counts a.tables.now a.left.counters.next a.lengths.now (take at front) a.left.changed a.left.log.now) at front = rw (take-length a.left.log.now) at c.requires.1 in
    rw (c.length_of.ensures, c.bodies-n.ensures) (whole_sum _ at front enough c.of.result (contents_is c.of.ensures))

pub of-requires : goal.of-requires
of-requires c =
    let pre = c.requires in
    few_entries c.args.words.now pre.0

pub invariant_of-sizes : goal.invariant_of-sizes
invariant_of-sizes c =
    let at = (goal.at.invariant_of-sizes c).After-of in
    record { contained = at.of.ensures; small = small_here at }

pub overflow_add-total-2 : goal.overflow_add-total-2
overflow_add-total-2 c =
    let a = c.args in
    let s = small_here (goal.at.overflow_add-total-2 c).After-of in
    omega (arith, s.tables, s.counters, s.steps, c.bodies-n.ensures, c.length_of.ensures, small_sum a.words.now a.done.counts a.lengths.now (length a.left.log.now) c.of.result s c.bodies-n.result (omega (arith, c.bodies-n.ensures)))

pub returns-then-page-total : goal.returns-then-page-total
unfolding assembled assembled_length
returns-then-page-total c =
    let a = c.args in
    let at = goal.at.returns-then-page-total c in
    let r : Results = results at.After-of in
    let h : length a.page.now.words.now < whole_length r = rw (← total_is at.After-length_of) c.if-page-total.true in
    rw (take-length a.left.log.now, lt-leb (whole_length r) (length a.page.now.words.now) h) record { same = record { words = refl; size = refl }; words = refl; length = refl; place = refl }

pub fill-requires : goal.fill-requires
fill-requires c =
    let at = goal.at.fill-requires c in
    let r : Results = results at.After-of in
    let h : whole_length r ≤ length c.args.page.now.words.now = rw (← total_is at.After-length_of) c.if-page-total.false in
    let s = small_here at.After-of in
    (refl, omega (arith, s.counters), enough_here at.After-of, h)

pub returns : goal.returns
unfolding assembled assembled_length
returns c =
    let a = c.args in
    let at = goal.at.returns c in
    let r : Results = results at.After-of in
    let total = total_is at.After-length_of in
    let h : whole_length r ≤ length a.page.now.words.now = rw (← total) c.if-page-total.false in
    rw (take-length a.left.log.now, le-leb (whole_length r) (length a.page.now.words.now) h) record { same = c.fill.ensures.same; words = c.fill.ensures.words; length = ap (λ (n : ℕ). Ok n) total; place = c.fill.ensures.place ∙ sym total }
