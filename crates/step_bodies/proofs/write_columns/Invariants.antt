use Rattle.std.specs.Prelude.{false, get_or}
use Rattle.step_bodies.specs.Page.{Appends}
use Rattle.step_bodies.specs.Steps.{column_words}
use Rattle.step_bodies.specs.Runs.{runs}
use Rattle.step_bodies.proofs.write_columns.Given as goal

abbrev pub invariant-loop-v : goal.invariant-loop-v
invariant-loop-v l = Appends l.initial.page l.page (runs (λ v. column_words l.bindings l.lanes (get_or l.fn.bound.known v false) v) l.v)
