-- After i turns `at` is the word of row i, and no row before it has the key; a row that has it is the first (`found_at`).
use mathlib.Core.Path.{◌≡◌, sym, ap, ◌∙◌}
use mathlib.Core.Bool.{false}
use native.Mathlib.Omega.{arith}
use Rattle.std.specs.Prelude.{Some}
use Rattle.model.specs.Laws.Logic.{either, le_cases}
use Rattle.tables.specs.Tables.{same_words, row_at}
use Rattle.tables.specs.TablesLaws.{next_row, found_at, same_taken}
use Rattle.tables.proofs.Rows.find.Goals as goal

pub returns-then-same_words : goal.returns-then-same_words
returns-then-same_words c =
    let a = c.args in
    let l = c.loop-i in
    let here = same_taken a.self.words.now (row_at a.self.info l.i) a.key.now a.self.info.keys c.requires in
    let same = rw l.invariant.0 at c.same_words.ensures in
    ap Some l.invariant.0 ∙ found_at a.self.words.now a.self.info a.key.now l.i c.loop-i-test.true l.invariant.1 (sym here ∙ sym same ∙ c.if-same_words.true)

pub loop-i-preserved : goal.loop-i-preserved
loop-i-preserved c =
    let a = c.args in
    let l = c.loop-i in
    let same = rw l.invariant.0 at c.same_words.ensures in
    let missed : same_words a.self.words.now (row_at a.self.info l.i) a.key.now a.self.info.keys ≡ false = sym (same_taken a.self.words.now (row_at a.self.info l.i) a.key.now a.self.info.keys c.requires) ∙ sym same ∙ c.if-same_words.false in
    (omega (arith, l.invariant.0, next_row l.i a.self.info.width), λ j h. either (l.invariant.1 j) (λ (e : j ≡ l.i). rw e missed) (le_cases (omega arith)))
