-- After t turns the index has the rows of t tables, and `first` is their number (by definition); what `add_rows` requires: `before_within`, `book_tails`.
use Rattle.std.proofs.Common.{arith}
use Rattle.hash_index.specs.BookLaws.{before_within, book_tails}
use Rattle.hash_index.proofs.all_tables.build_all.Goals as goal

pub add_rows-requires : goal.add_rows-requires
add_rows-requires c =
    let pre = c.requires in
    let lt = c.loop-t-test.true in
    let w = c.args.words.now in
    let l = c.loop-t in
    let i = c.info_of-info.ensures in
    (rw (i, l.invariant.0) (omega (arith, before_within w c.args.n l.t lt, pre.2)), rw (l.invariant.0, l.invariant.1) (book_tails w l.t).below)
