-- The rows of a table fit (`small_rows`).
use Rattle.answer.specs.LayoutLaws.{small_rows}
use Rattle.std.specs.Prelude.{◌<◌}
use native.Mathlib.Omega.{arith}
use Rattle.answer.proofs.entries.Sizes.entry_at.Goals as goal

pub rows_length-n-requires : goal.rows_length-n-requires
rows_length-n-requires c =
    let s = c.args.self in
    omega (arith, s.small.tables, c.table_count-counters.ensures, c.if-i-counters.true)

pub overflow_add-result : goal.overflow_add-result
overflow_add-result c =
    let s = c.args.self in
    let table : c.args.i < s.contents.tables = omega (arith, c.table_count-counters.ensures, c.if-i-counters.true) in
    omega (arith, c.rows_length-n.ensures, small_rows s.words.now s.counts.now s.lengths.now s.used s.contents s.small c.args.i table)
