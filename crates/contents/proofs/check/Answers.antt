-- The first i entries fit, and `last`, `end` and `counts` tell of them (`more_counts`); `fits` is the model's test (`group_test`), and an entry of no group does not pass it (`no_group`); each return has its own law.
use Prim.Native.Nat.{ℕ, ◌+◌}
use mathlib.Core.Path.{◌≡◌, refl, sym, ap, ◌∙◌}
use native.Mathlib.Numerals.{add-one}
use native.Mathlib.Omega.{arith}
use borrow.Author.Count.{below_more}
use lib.ListN.{get_or, length-set}
use Rattle.std.proofs.Common.{get_or-set_same}
use Rattle.std.specs.Prelude.{Some}
use Rattle.refusal.specs.Refusal.{refusal_of, handed_on}
use Rattle.model.specs.Book.Contents.{group, group_of, begins, entry_fits}
use Rattle.contents.specs.Kinds.{group_number, number_of}
use Rattle.contents.specs.ContentsLaws.{small_count, more_counts, group_test, no_group, count_true, refuse_entry, refuse_end, pass}
use Rattle.contents.proofs.check.Goals as goal
use Rattle.contents.proofs.check.Goals.{After-fits}

-- the entry's test, as the code has it before the branch
fit : (c : After-fits) → c.fits.result ≡ entry_fits c.args.words.now c.loop-i.i
fit c =
    let l = c.loop-i in
    let k = c.number-k in
    let e : group_number c.in_ok-g.g ≡ group_of c.args.words.now l.i = ap number_of (sym c.in_ok-g.ensures.ok_part) ∙ c.group.ensures ∙ ap group c.kind_of.ensures in
    let s = get_or-set_same l.counts k.result (get_or l.counts k.result 0 + 1) 0 (omega arith) ∙ ap (λ (n : ℕ). get_or l.counts n 0 + 1) k.ensures.0 in
    c.fits.ensures ∙ group_test c.args.words.now l.i _ _ _ _ _ l.counts l.invariant.2 l.invariant.0 e s c.first_of.ensures.0 l.invariant.1

pub returns-in_err-g : goal.returns-in_err-g
returns-in_err-g c =
    let w = c.args.words.now in
    let l = c.loop-i in
    let none = c.in_err-g.ensures.ok_part in
    let told : refusal_of c.from_residual.result ≡ Some (record { number = 2; place = l.i }) = handed_on _ _ c.from_residual.ensures.1 ∙ ap refusal_of c.in_err-g.ensures.value ∙ rw none in
    told ∙ refuse_entry w (count_true w (omega arith) (omega arith) (omega arith)) l.i (omega arith) l.invariant.3 (no_group w l.i (ap number_of (sym none) ∙ c.group.ensures ∙ ap group c.kind_of.ensures))

pub overflow_add-counts : goal.overflow_add-counts
overflow_add-counts c =
    let l = c.loop-i in
    omega (arith, small_count c.args.words.now l.counts l.i c.number-k.result l.invariant.2 (omega arith) (omega arith))

pub returns-then-not-fits : goal.returns-then-not-fits
returns-then-not-fits c =
    let w = c.args.words.now in
    let l = c.loop-i in
    refuse_entry w (count_true w (omega arith) (omega arith) (omega arith)) l.i (omega arith) l.invariant.3 (sym (fit (goal.at.returns-then-not-fits c).After-fits) ∙ c.if-not-fits.true)

pub loop-i-preserved : goal.loop-i-preserved
loop-i-preserved c =
    let w = c.args.words.now in
    let l = c.loop-i in
    let k = c.number-k in
    let e : group_number c.in_ok-g.g ≡ group_of w l.i = ap number_of (sym c.in_ok-g.ensures.ok_part) ∙ c.group.ensures ∙ ap group c.kind_of.ensures in
    (rw add-one e, rw add-one c.end_of-end.ensures.0, more_counts w l.counts l.i _ _ l.invariant.2 l.invariant.4 k.ensures.1 (k.ensures.0 ∙ e) refl, below_more _ _ l.invariant.3 (sym (fit (goal.at.loop-i-preserved c).After-fits) ∙ c.if-not-fits.false), length-set l.counts _ _ ∙ l.invariant.4)

pub returns-then-end-words : goal.returns-then-end-words
returns-then-end-words c =
    let w = c.args.words.now in
    let l = c.loop-i in
    let e : l.i ≡ get_or w 0 0 = omega arith in
    pass w (count_true w (omega arith) (omega arith) (omega arith)) (rw e at l.invariant.3) (ap (begins w) (sym e) ∙ sym l.invariant.1 ∙ c.if-end-words.true)

pub returns-else-end-words : goal.returns-else-end-words
returns-else-end-words c =
    let w = c.args.words.now in
    let l = c.loop-i in
    let e : l.i ≡ get_or w 0 0 = omega arith in
    refuse_end w (count_true w (omega arith) (omega arith) (omega arith)) (rw e at l.invariant.3) (λ q. c.if-end-words.false (l.invariant.1 ∙ ap (begins w) e ∙ q))
