-- By the calls' contracts table and key are those of `row_answered`, so `row_of` gives it; that the table may be searched is `asked_table`.
use native.Mathlib.Omega.{arith}
use Rattle.step.specs.StepsLaws.{asked_table}
use Rattle.step.proofs.row_answered.Goals as goal

pub row_of-requires : goal.row_of-requires
row_of-requires c =
    let a = c.args.asked in
    let b = a.indexed in
    let there = asked_table b.book.readable a.asks b.indexed in
    rw c.table.ensures (there, omega (arith, there.stands.few))
