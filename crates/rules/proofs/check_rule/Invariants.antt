use mathlib.Core.Path.{◌≡◌}
use lib.ListN.{length}
use Rattle.model.specs.Check.{bound?}
use Rattle.rules.specs.RuleLaws.{many, rule_of, place_of, Passed}
use Rattle.bound_vars.specs.Bound.{has}
use Rattle.rules.proofs.check_rule.Given as goal

abbrev pub invariant-loop : goal.invariant-loop
invariant-loop l =
    let w = l.book.words.now in
    (l.n ≡ many w l.r) × (l.p ≡ place_of w l.r l.counter) × (has l.bound ≡ bound? (rule_of w l.r) l.counter) × (length l.bound.known ≡ 32) × Passed w l.r l.counter
