-- The rows are few enough to index (`serves_few`), and each table stands (`table_stands`).
use mathlib.Core.Path.{refl, sym, ◌∙◌}
use native.Mathlib.Omega.{arith}
use Rattle.model.specs.Laws.Book.{few_tables}
use Rattle.hash_index.specs.IndexLaws.{serves_few}
use Rattle.action.specs.ActLaws.{table_stands}
use Rattle.run.proofs.run_steps.Goals as goal

pub build_all-requires : goal.build_all-requires
build_all-requires c =
    let b = c.args.book in
    let w = b.words.now in
    let n = c.table_count-tables.ensures ∙ b.contained.tables in
    let few = serves_few c.rows_before.result (sym c.serves.ensures ∙ c.if-serves.true) in
    (rw n (few_tables w b.readable), λ t l. table_stands w b.readable t (omega (arith, l, n)), rw c.rows_before.ensures at few, refl)
