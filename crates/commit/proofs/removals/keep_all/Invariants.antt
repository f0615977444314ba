use Prim.Native.Nat.{◌*◌, ◌≤◌}
use mathlib.Core.Path.{◌≡◌}
use lib.ListN.{length, drop}
use Rattle.std.specs.Slice.Iter.{chunks_exact_rest, chunks_exact_size}
use Rattle.commit.specs.Commit.{spared}
use Rattle.commit.specs.TableRows.{rows_of, Leaves}
use Rattle.commit.proofs.removals.keep_all.Given as goal

abbrev pub invariant-loop-row : goal.invariant-loop-row
invariant-loop-row l =
    let width = l.initial.rows.info.width in
    let n = length l.yielded in
    (n * width ≤ length l.old) × (chunks_exact_size l.row-iterator ≡ width) × (chunks_exact_rest l.row-iterator ≡ drop (n * width) l.old)
    × Leaves l.initial.rows l.rows (spared l.removed.rows.words.now l.removed.rows.info l.old 0 width n (rows_of l.initial.rows))
