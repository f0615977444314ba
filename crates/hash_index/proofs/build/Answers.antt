use Rattle.std.proofs.Common.{sym, ap, ◌∙◌, subst, arith}
use Rattle.hash_index.specs.Index.{rows_added, TailsBelow}
use Rattle.hash_index.specs.IndexLaws.{tails_none}
use Rattle.hash_index.specs.BookLaws.{rows_alone}
use Rattle.hash_index.proofs.build.Goals as goal

pub add_rows-requires : goal.add_rows-requires
add_rows-requires c = let p = c.requires in (omega (arith, p.0), subst (TailsBelow 0) (sym p.1) tails_none.below)

pub returns : goal.returns
returns c =
    let pre = c.requires in
    let a = c.args in
    c.add_rows.ensures ∙ ap (rows_added a.rows.words.now a.rows.info 0 a.rows.info.rows) pre.1 ∙ rows_alone a.rows.words.now a.rows.info a.rows.info.rows
