-- By the calls' contracts row and key are those of `asked_row`, so `predict_val` gives it; the list and the key are short (`Asks`), and that the table may be searched is `asked_table`.
use Rattle.args.specs.Args.{words_at}
use Rattle.step.specs.StepsLaws.{asked_table}
use Rattle.step.proofs.run_prediction.Goals as goal

pub invariant_of-want-clause-short : goal.invariant_of-want-clause-short
invariant_of-want-clause-short c = rw c.vals.ensures c.args.asked.asks.vals

pub invariant_of-want-clause-few : goal.invariant_of-want-clause-few
unfolding words_at
invariant_of-want-clause-few c = rw c.key.ensures c.args.asked.asks.key

pub predict_val-requires : goal.predict_val-requires
predict_val-requires c =
    let a = c.args.asked in
    let b = a.indexed in
    rw c.table.ensures (asked_table b.book.readable a.asks b.indexed)
