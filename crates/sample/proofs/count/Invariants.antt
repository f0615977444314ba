use Rattle.std.proofs.Common.{◌≤◌}
use Rattle.sample.proofs.count.Given as goal

abbrev pub invariant-loop : goal.invariant-loop
invariant-loop l = l.right ≤ l.counter
