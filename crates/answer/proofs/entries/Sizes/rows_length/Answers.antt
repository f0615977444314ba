-- The product is what the rows of a table have, and they fit (`small_rows`).
use Rattle.std.proofs.Common.{◌≡◌, ◌*◌, refl, arith}
use Rattle.answer.specs.Layout.{rows_length}
use Rattle.answer.specs.LayoutLaws.{small_rows}
use Rattle.answer.proofs.entries.Sizes.rows_length.Goals as goal

pub overflow_mul-result : goal.overflow_mul-result
overflow_mul-result c =
    let s = c.args.self in
    let t = c.args.table.0 in
    let e : c.size_at-n.result * c.info_of-info.result.width ≡ rows_length s.words.now s.counts.now t = rw (c.size_at-n.ensures.0, c.info_of-info.ensures, c.from-t.ensures) refl in
    omega (arith, e, small_rows s.words.now s.counts.now s.lengths.now s.used s.contents s.small t c.requires)
