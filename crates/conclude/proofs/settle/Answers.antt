-- All words of the log left are used (`take-length`). By whether a row had no room: refusal 15 (`settled_over`); or `enough_here` gives what `assemble` requires, and what it leaves is `settled_answer`.
use mathlib.Core.Path.{refl, ◌∙◌}
use native.Mathlib.Omega.{arith}
use Rattle.std.proofs.Math.Seq.{take-length}
use Rattle.model.specs.Laws.Book.{few_tables}
use Rattle.commit.specs.BookLaws.{ready_table}
use Rattle.execution.specs.Execution.{left_state}
use Rattle.run.specs.Progress.{as_progress}
use Rattle.conclude.specs.SettleLaws.{settled_over, settled_answer, enough_here, short_log}
use Rattle.conclude.proofs.settle.Goals as goal

pub commit-done-requires : goal.commit-done-requires
commit-done-requires c =
    let a = c.args in
    let pre = c.requires in
    let n = c.table_count.ensures ∙ a.book.contained.tables in
    (omega (arith, n, few_tables a.book.words.now a.book.readable), short_log a.book.words.now (as_progress a.p.now (left_state a.left)) a.left.log.now a.p.now.page.now.words.now refl pre.1, omega (arith, pre.0), λ t l. ready_table a.book.words.now a.book.readable.contents a.book.readable.bodies t (omega (arith, n)))

pub returns-then-done-clause-is : goal.returns-then-done-clause-is
returns-then-done-clause-is c =
    let table-count = c.table_count in
    let a = c.args in
    let pre = c.requires in
    let commit = c.commit-done in
    settled_over a.book.words.now (as_progress a.p.now (left_state a.left)) a.left.log.now a.tables.now a.p.now.page.now.words.now _ (table-count.ensures ∙ a.book.contained.tables) (record { words = commit.new.rows; result = commit.result }) (rw (take-length a.left.log.now) commit.ensures) c.if-done.true

pub assemble-requires : goal.assemble-requires
assemble-requires c =
    let table-count = c.table_count in
    let pre = c.requires in
    let a = c.args in
    let commit = c.commit-done in
    let if1 = c.if-done in
    (a.book.readable, enough_here a.book.words.now (as_progress a.p.now (left_state a.left)) a.left.log.now a.tables.now a.p.now.page.now.words.now _ (table-count.ensures ∙ a.book.contained.tables) (record { words = commit.new.rows; result = commit.result }) (rw (take-length a.left.log.now) commit.ensures) if1.false a.book.readable pre.0 commit.auto.rows pre.1)

pub returns-clause-is : goal.returns-clause-is
returns-clause-is c =
    let table-count = c.table_count in
    let a = c.args in
    let pre = c.requires in
    let commit = c.commit-done in
    let if1 = c.if-done in
    let assemble = c.assemble in
    settled_answer a.book.words.now (as_progress a.p.now (left_state a.left)) a.left.log.now a.tables.now a.p.now.page.now.words.now _ (table-count.ensures ∙ a.book.contained.tables) (record { words = commit.new.rows; result = commit.result }) (rw (take-length a.left.log.now) commit.ensures) if1.false assemble.result assemble.new.page.words.now assemble.ensures.length assemble.ensures.words
