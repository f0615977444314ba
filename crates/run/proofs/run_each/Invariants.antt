use Prim.Native.Nat.{◌*◌, ◌≤◌}
use mathlib.Core.Path.{◌≡◌}
use Rattle.model.specs.Basics.{iter}
use Rattle.predict.specs.Predict.{SameWords}
use Rattle.run.specs.Progress.{SameAnswer, ran_next, as_ran}
use Rattle.run.proofs.run_each.Given as goal

abbrev pub invariant-loop : goal.invariant-loop
invariant-loop l =
    SameWords l.initial.run l.run
    × SameAnswer l.initial.p l.p
    × (l.p.done ≤ l.counter)
    × (l.p.page.now.at ≤ 8483 * l.counter)
    × (as_ran l.p l.run l.bindings ≡ iter (λ _. ran_next l.indexed.book.words.now) l.counter (as_ran l.initial.p l.initial.run l.initial.bindings))
