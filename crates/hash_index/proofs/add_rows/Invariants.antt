use Rattle.std.proofs.Common.{◌≡◌, ◌+◌}
use Rattle.hash_index.specs.Index.{rows_added, Tails}
use Rattle.hash_index.proofs.add_rows.Given as goal

abbrev pub invariant-loop-i : goal.invariant-loop-i
invariant-loop-i l = Tails (l.first + l.i) l.index × (l.index ≡ rows_added l.rows.words.now l.rows.info l.first l.i l.initial.index)
