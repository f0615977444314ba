use mathlib.Core.Path.{◌≡◌}
use lib.ListN.{length}
use Prim.Native.Nat.{◌+◌, ◌-◌, ◌%◌}
use Rattle.predicted_index.specs.Index.{probed, answers}
use Rattle.predicted_index.proofs.get.Given as goal

abbrev pub invariant-loop-j : goal.invariant-loop-j
invariant-loop-j l = probed l.index (answers l.log l.table.0 l.key (length l.key)) 8192 l.home ≡ probed l.index (answers l.log l.table.0 l.key (length l.key)) (8192 - l.j) ((l.home + l.j) % 8192)
