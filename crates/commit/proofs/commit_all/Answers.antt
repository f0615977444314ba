-- After t turns the rows are those after t tables (`iter_more`), and the used words are within them (`table_fits`).
use mathlib.Core.Path.{ap}
use mathlib.Core.Bool.{false}
use native.Mathlib.Omega.{arith}
use lib.ListN.{replicate}
use borrow.Author.Rules.{rules}
use Rattle.model.specs.Laws.Iter.{iter_more}
use Rattle.commit.specs.Commit.{Left, table_committed, committed_rows}
use Rattle.commit.specs.TableLaws.{table_fits}
use Rattle.commit.proofs.commit_all.Goals as goal

pub loop-t-preserved : goal.loop-t-preserved
loop-t-preserved g c =
    let a = c.args in
    let l = c.loop-t in
    let r = c.commit_table.ensures.rows in
    let before : Left = record { words = l.rows; result = l.done } in
    let f = table_fits a.words.now a.log.now l.t before (c.requires.4 l.t c.loop-t-test.true) (omega arith) in
    (omega (arith, ap (λ (x : Left). x.result.used) r, f.1), iter_more (table_committed a.words.now a.log.now) l.t (record { words = a.rows.now; result = record { counts = replicate 16 0; used = 0; over = false } }) before _ l.invariant.1 r)

pub returns : goal.returns
unfolding committed_rows
returns g c = search rules
