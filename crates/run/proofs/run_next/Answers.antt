-- The step is the next one, few as there are (`few_steps`); one whose kind is no batch's is a prediction (`not_batch`).
use mathlib.Core.Path.{◌≡◌, ap}
use native.Mathlib.Omega.{arith}
use borrow.Author.Rules.{rules}
use Rattle.std.specs.Prelude.{Some}
use Rattle.model.specs.Book.Contents.{kind_of}
use Rattle.model.specs.Laws.Book.{few_steps}
use Rattle.contents.specs.Kinds.{kind_by}
use Rattle.contents.specs.KindLaws.{is_batch}
use Rattle.contents.specs.declared.kinds.Kind.TheVariants.{Batch}
use Rattle.step.specs.Steps.{IsStep}
use Rattle.step.specs.StepsLaws.{asks_here}
use Rattle.run.specs.ProgressLaws.{not_batch}
use Rattle.run.proofs.run_next.Goals as goal
use Rattle.run.proofs.run_next.Goals.{After-step-i}

pub step-i-requires : goal.step-i-requires
step-i-requires c =
    let b = c.args.indexed.book in
    omega (arith, c.requires.0, few_steps b.words.now b.readable)

here : (c : After-step-i) → IsStep c.args.indexed.book.words.now c.step-i.result
here c = record { number = c.args.p.now.done; below = c.requires.0; entry = c.step-i.ensures.0 }

pub batch_step-requires : goal.batch_step-requires
batch_step-requires c =
    let b = c.args.indexed.book in
    let s = here (goal.at.batch_step-requires c).After-step-i in
    let e : kind_by (kind_of b.words.now c.step-i.result) ≡ Some Batch = search rules in
    (s, is_batch _ e, c.requires.1)

pub invariant_of-asked : goal.invariant_of-asked
invariant_of-asked c =
    let b = c.args.indexed.book in
    let s = here (goal.at.invariant_of-asked c).After-step-i in
    let e : kind_by (kind_of b.words.now c.step-i.result) ≡ Some Batch → ⊥ = search rules in
    record { asks = rw c.first_of.ensures.0 (asks_here b.readable s (not_batch b.readable s (λ n. e (ap kind_by n)))) }
