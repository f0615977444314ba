-- `decide` gets zeros, as many as were lent (`lent_same`), so its outcome is permitted (`left_permitted`, `left_answer`).
use mathlib.Core.Path.{refl, ◌∙◌}
use Rattle.engine.specs.Engine.{lent_of}
use Rattle.engine.specs.CodeLaws.{lent_same, left_permitted, left_answer}
use Rattle.engine.proofs.run.Goals as goal

pub returns-clause-outcome : goal.returns-clause-outcome
returns-clause-outcome c =
    let a = c.args in
    let d = c.decide-outcome in
    let lent = lent_of a.bindings.now a.index.now a.log.now a.tables.now a.answer.now in
    let same = lent_same c.clear.new.buf c.clear-2.new.buf c.clear-3.new.buf a.tables.now c.clear-4.new.buf a.bindings.now a.index.now a.log.now a.tables.now a.answer.now c.clear.auto.buf c.clear-2.auto.buf c.clear-3.auto.buf refl c.clear-4.auto.buf in
    left_permitted _ lent a.book.now d.new.answer d.result same d.ensures _ c.keep_or_clear.ensures

pub returns-clause-answer : goal.returns-clause-answer
returns-clause-answer c =
    let a = c.args in
    let d = c.decide-outcome in
    let lent = lent_of a.bindings.now a.index.now a.log.now a.tables.now a.answer.now in
    let same = lent_same c.clear.new.buf c.clear-2.new.buf c.clear-3.new.buf a.tables.now c.clear-4.new.buf a.bindings.now a.index.now a.log.now a.tables.now a.answer.now c.clear.auto.buf c.clear-2.auto.buf c.clear-3.auto.buf refl c.clear-4.auto.buf in
    left_answer _ lent a.book.now d.new.answer d.result same d.ensures _ c.keep_or_clear.ensures (d.auto.answer ∙ c.clear-4.auto.buf)
