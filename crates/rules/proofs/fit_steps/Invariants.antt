use Prim.Native.Nat.{ℕ, ◌<◌}
use mathlib.Core.Bool.{true}
use mathlib.Core.Path.{◌≡◌}
use Rattle.model.specs.Book.Read.{tables, rules as book_rules, step, step_fits}
use Rattle.rules.proofs.fit_steps.Given as goal

abbrev pub invariant-loop-k : goal.invariant-loop-k
invariant-loop-k l =
    let w = l.book.words.now in
    (i : ℕ) → i < l.k → step_fits (tables w) (book_rules w) (step w i) ≡ true
