use Rattle.std.proofs.Common.{◌≡◌}
use Rattle.hash_index.specs.Book.{rows_before, book_indexed}
use Rattle.hash_index.proofs.all_tables.build_all.Given as goal

abbrev pub invariant-loop-t : goal.invariant-loop-t
invariant-loop-t l = (l.first ≡ rows_before l.words l.t) × (l.index ≡ book_indexed l.words l.t)
