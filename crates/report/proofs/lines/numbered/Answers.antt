-- After i turns the lines of i entries are written and counted (`numbered_more`), and an entry has one at most (`one_line`).
use Rattle.std.proofs.Common.{arith, ◌≡◌}
use Rattle.model.specs.Book.Contents.{count}
use Rattle.report.specs.LinesLaws.{numbered_none, numbered_more, one_line, few_lines}
use Rattle.report.proofs.lines.numbered.Goals as goal

pub loop-i-init : goal.loop-i-init
loop-i-init c = numbered_none _ _

pub entry-requires : goal.entry-requires
entry-requires c =
    let few = few_lines c.args.words.now c.args.family c.loop-i.i in
    (omega (arith, c.size_at-i-end.ensures.1), omega (arith, few, c.loop-i.invariant.count))

pub overflow_add-number : goal.overflow_add-number
overflow_add-number c =
    let a = c.args in
    let l = c.loop-i in
    omega (arith, few_lines a.words.now a.family l.i, l.invariant.count, c.size_at-i-end.ensures.1, c.from-number.ensures, c.entry.ensures.count, one_line a.words.now a.family l.number l.i)

pub loop-i-preserved : goal.loop-i-preserved
loop-i-preserved c = rw c.from-number.ensures (numbered_more _ _ c.loop-i.invariant c.entry.ensures)

pub returns : goal.returns
returns c =
    let e : c.loop-i.i ≡ count c.args.words.now = omega (arith, c.size_at-i-end.ensures.0) in
    rw (← e) c.loop-i.invariant.page
