-- By the family and the kind, as `entry_line` goes by them: in each arm one line is written (`written_one`), or none (`written_none`).
use Rattle.std.proofs.Common.{◌≡◌, ℕ, List, [], refl, sym, ap, ◌∙◌}
use Rattle.std.specs.Prelude.{Some, None}
use Rattle.model.specs.Book.Contents.{kind_of}
use Rattle.contents.specs.declared.kinds.BodyKind.TheVariants as kind
use Rattle.contents.specs.BodyKinds.{kind_by}
use Rattle.contents.specs.BodyKindLaws.{number_of_kind, other_number, no_number}
use Rattle.report.specs.declared.lines.Family.{Family}
use Rattle.report.specs.declared.lines.Family.TheVariants.{Steps, Tables, Counters}
use Rattle.report.specs.Text.{line_bytes}
use Rattle.report.specs.Lines.{entry_line}
use Rattle.report.specs.Page.{written_none, written_one}
use Rattle.report.proofs.lines.entry.Goals as goal

no_line : (w : List ℕ) (k i : ℕ) → kind_by (kind_of w i) ≡ None → (f : Family) → entry_line w f k i ≡ []
unfolding entry_line
no_line w k i e Steps = rw (no_number _ e kind.Batch, no_number _ e kind.Prediction) refl
no_line w k i e Tables = rw (no_number _ e kind.Table) refl
no_line w k i e Counters = rw (no_number _ e kind.Counter) refl

pub returns-in_default : goal.returns-in_default
returns-in_default c = rw (no_line c.args.words.now c.args.number c.args.i (rw (← c.kind_of.ensures) (sym c.in_default.ensures)) c.args.family) (written_none _ _)

pub returns-in_default-2 : goal.returns-in_default-2
unfolding entry_line
returns-in_default-2 c =
    let d = c.in_default-2 in
    let e = sym c.in-Ok.ensures in
    rw (d.is-0, ← c.kind_of.ensures, other_number _ _ kind.Batch e d.not-Batch-1, other_number _ _ kind.Prediction e d.not-Prediction-1) (written_none _ _)

pub returns-in_default-2-2 : goal.returns-in_default-2-2
unfolding entry_line
returns-in_default-2-2 c =
    let d = c.in_default-2 in
    rw (d.is-0, ← c.kind_of.ensures, other_number _ _ kind.Table (sym c.in-Ok.ensures) d.not-Table-1) (written_none _ _)

pub returns-in_default-2-3 : goal.returns-in_default-2-3
unfolding entry_line
returns-in_default-2-3 c =
    let d = c.in_default-2 in
    rw (d.is-0, ← c.kind_of.ensures, other_number _ _ kind.Counter (sym c.in-Ok.ensures) d.not-Counter-1) (written_none _ _)

pub returns-in-Steps-Batch : goal.returns-in-Steps-Batch
unfolding entry_line line_bytes
returns-in-Steps-Batch c =
    let d = c.in-Steps-Batch in
    rw (d.is-0, ← c.kind_of.ensures, number_of_kind c.kind_of.result kind.Batch (sym c.in-Ok.ensures ∙ ap Some d.is-1), ← c.body-body.ensures, ← c.word.ensures) (written_one _ c.line.ensures)

pub returns-in-Steps-Prediction : goal.returns-in-Steps-Prediction
unfolding entry_line line_bytes
returns-in-Steps-Prediction c =
    let d = c.in-Steps-Prediction in
    rw (d.is-0, ← c.kind_of.ensures, number_of_kind c.kind_of.result kind.Prediction (sym c.in-Ok.ensures ∙ ap Some d.is-1), ← c.body-body.ensures, ← c.rest.ensures) (written_one _ c.line-in-Steps-Prediction.ensures)

pub returns-in-Tables-Table : goal.returns-in-Tables-Table
unfolding entry_line line_bytes
returns-in-Tables-Table c =
    let d = c.in-Tables-Table in
    rw (d.is-0, ← c.kind_of.ensures, number_of_kind c.kind_of.result kind.Table (sym c.in-Ok.ensures ∙ ap Some d.is-1), ← c.body-body.ensures, ← c.word-in-Tables-Table.ensures) (written_one _ c.line-in-Tables-Table.ensures)

pub returns-in-Counters-Counter : goal.returns-in-Counters-Counter
unfolding entry_line line_bytes
returns-in-Counters-Counter c =
    let d = c.in-Counters-Counter in
    rw (d.is-0, ← c.kind_of.ensures, number_of_kind c.kind_of.result kind.Counter (sym c.in-Ok.ensures ∙ ap Some d.is-1), ← c.body-body.ensures, ← c.word-in-Counters-Counter.ensures) (written_one _ c.line-in-Counters-Counter.ensures)
