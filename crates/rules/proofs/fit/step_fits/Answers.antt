-- By the kind: a batch at `at` is what the model reads as step k (`step_batch`); else the step is a prediction (`not_batch`), and likewise (`step_prediction`).
use mathlib.Core.Path.{◌≡◌, ap, ◌∙◌}
use Rattle.model.specs.Book.Contents.{kind_of}
use Rattle.model.specs.Book.Read.{tables, rules as book_rules, step_fits}
use Rattle.contents.specs.Kinds.{kind_by}
use Rattle.contents.specs.KindLaws.{is_batch}
use Rattle.contents.specs.declared.kinds.Kind.TheVariants.{Batch}
use Rattle.std.specs.Prelude.{Some}
use borrow.Author.Rules.{rules}
use Rattle.rules.specs.StepLaws.{batch_here, not_batch, prediction_here, step_prediction}
use Rattle.rules.proofs.fit.step_fits.Goals as goal
use Rattle.rules.proofs.fit.step_fits.Goals.{Else-eq}

pub batch_fits-requires : goal.batch_fits-requires
batch_fits-requires c =
    let b = c.args.book in
    let at = c.first_of-at in
    let e : kind_by (kind_of b.words.now c.step-i.result) ≡ Some Batch = search rules in
    batch_here b.words.now b.readable c.args.k _ at.result c.requires c.step-i.ensures.0 at.ensures.0 (is_batch _ e)

-- where the entry is none of a batch
its_kind : (c : Else-eq) → kind_of c.args.book.words.now c.step-i.result ≡ 5
its_kind c =
    let b = c.args.book in
    let at = c.first_of-at in
    let e : kind_by (kind_of b.words.now c.step-i.result) ≡ Some Batch → ⊥ = search rules in
    not_batch b.words.now b.readable c.args.k _ at.result c.requires c.step-i.ensures.0 at.ensures.0 (λ q. e (ap kind_by q))

pub prediction_fits-requires : goal.prediction_fits-requires
prediction_fits-requires c =
    let b = c.args.book in
    let at = c.first_of-at in
    prediction_here b.words.now b.readable c.args.k _ at.result c.requires c.step-i.ensures.0 at.ensures.0 (its_kind c)

pub returns-else-eq : goal.returns-else-eq
returns-else-eq c =
    let b = c.args.book in
    let w = b.words.now in
    let at = c.first_of-at in
    c.prediction_fits.ensures ∙ ap (step_fits (tables w) (book_rules w)) (step_prediction w b.readable c.args.k _ at.result c.requires c.step-i.ensures.0 at.ensures.0 (its_kind (goal.at.returns-else-eq c).Else-eq))
