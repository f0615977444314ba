use native.Mathlib.Omega.{arith}
use mathlib.Core.Path.{sym}
use Rattle.reader.specs.BodyLaws.{table_empty, table_wide}
use Rattle.reader.specs.Values.{sizes_of}
use Rattle.reader.proofs.scan.Body.table.Goals as goal
use Rattle.reader.proofs.scan.Body.table.Goals.{then-width-eq0-via-then-width-eq0, then-width-eq0-via-else-width-eq0+then-width-gt16}

pub returns-then-width-eq0 : goal.returns-then-width-eq0
returns-then-width-eq0 c =
    let b = c.args.self in
    elim c.then-width-eq0.branch [
      | then-width-eq0-via-then-width-eq0 w ↦ sym (table_empty b.end b.words.now (sizes_of b.sizes) b.first (omega arith))
      | then-width-eq0-via-else-width-eq0+then-width-gt16 w ↦ sym (table_wide b.end b.words.now (sizes_of b.sizes) b.first (omega arith))
    ]
