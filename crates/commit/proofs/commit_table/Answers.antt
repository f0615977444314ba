-- `keep` leaves `kept` of the rows begun, `insert_rows` leaves `inserted` of that, and the fields that are set make `ended` of it.
use mathlib.Core.Path.{◌≡◌, ap, ◌∙◌}
use borrow.Author.Rules.{rules}
use Rattle.tables.specs.Tables.{info_of}
use Rattle.commit.specs.TableRows.{rows_of}
use Rattle.commit.specs.Walk.{inserted}
use Rattle.commit.specs.Commit.{Left, kept, begun, ended, table_committed, as_left}
use Rattle.commit.proofs.commit_table.Goals as goal

pub returns-clause-rows : goal.returns-clause-rows
unfolding table_committed
returns-clause-rows c =
    let a = c.args in
    let w = a.changes.words.now in
    let log = a.changes.log.now in
    let i = info_of w a.t.0 in
    let before : Left = as_left a.rows.now a.done.now in
    let old : rows_of c.keep.new.rows ≡ kept w log a.t.0 i i.rows (begun before) = rw c.info_of.ensures at c.keep.ensures.rows.rows in
    let its : c.keep.new.rows.info ≡ i = c.keep.ensures.rows.same_info ∙ c.info_of.ensures in
    let all : rows_of c.insert_rows.new.rows ≡ inserted w log a.t.0 i (kept w log a.t.0 i i.rows (begun before)) = rw (old, its) at c.insert_rows.ensures.rows in
    let done : ◌≡◌ {A = Left} (ended a.t.0 before (rows_of c.insert_rows.new.rows)) (ended a.t.0 before (inserted w log a.t.0 i (kept w log a.t.0 i i.rows (begun before)))) = ap (ended a.t.0 before) all in
    search (rules, done)
