use mathlib.Core.Path.{◌≡◌}
use Rattle.model.specs.Basics.{iter}
use Rattle.rules.specs.RuleLaws.{place_of}
use Rattle.predict.specs.Predict.{SameWords}
use Rattle.action.specs.Run.{ran_next, as_running}
use Rattle.action.proofs.run_instrs.Given as goal

abbrev pub invariant-loop : goal.invariant-loop
invariant-loop l =
    let w = l.indexed.book.words.now in
    (l.p ≡ place_of w l.r l.counter)
    × SameWords l.initial.run l.run
    × (as_running l.batch l.run l.bindings ≡ iter (λ k. ran_next w (place_of w l.r k)) l.counter (as_running l.initial.batch l.initial.run l.initial.bindings))
