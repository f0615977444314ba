-- The four words and the rows past them, put there one after the other, are `table_words` (`appends_more`).
use Rattle.std.proofs.Math.Nat.{add-sub_cancel_left}
use Rattle.answer.specs.Layout.{rows_length}
use Rattle.step_bodies.specs.Page.{appends_more}
use Rattle.answer.proofs.entries.Sizes.write_table.Goals as goal

pub returns : goal.returns
returns c =
    let a = c.args in
    let e = add-sub_cancel_left a.from (rows_length a.self.words.now a.self.counts.now a.table.0) in
    let f = c.first_of-body.ensures.0 in
    let sizes = appends_more (appends_more (appends_more c.push.ensures c.push-2.ensures) c.push-3.ensures) c.push-4.ensures in
    rw (c.rows_length-n.ensures, e, c.word.ensures, c.word-2.ensures, c.word-3.ensures, c.word-4.ensures, f, c.from-t.ensures) at (appends_more sizes c.write.ensures)
