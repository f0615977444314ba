use Prim.Native.Nat.{◌≤◌}
use mathlib.Core.Path.{◌≡◌}
use mathlib.Core.Bool.{false}
use lib.ListN.{length, replicate}
use Rattle.model.specs.Basics.{iter}
use Rattle.commit.specs.Commit.{Left, table_committed}
use Rattle.commit.proofs.commit_all.Given as goal

abbrev pub invariant-loop-t : goal.invariant-loop-t
invariant-loop-t g l =
    (l.done.used ≤ length l.initial.rows)
    × (◌≡◌ {A = Left} (record { words = l.rows; result = l.done }) (iter (table_committed l.words l.fn.log) l.t (record { words = l.initial.rows; result = record { counts = replicate 16 0; used = 0; over = false } })))
