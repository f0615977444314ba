-- The rows are few enough for an index (`few_rows`), and what `build` leaves is that of all rows.
use native.Mathlib.Omega.{arith}
use Rattle.commit.specs.RowLaws.{few_rows}
use Rattle.commit.proofs.rows.TableRows.build.Goals as goal

pub build-requires : goal.build-requires
build-requires c =
    let r = c.args.self.now in
    rw c.table.ensures.1 (omega (arith, few_rows r.sound.some r.stand, r.few), c.requires)

pub returns : goal.returns
returns c = (c.args.self.now.few, rw (c.table.ensures.0, c.table.ensures.1) at c.build.ensures)
