-- If the row at i repeats, it is the first that does (`refuse_row`); at the end none does (`pass_rows`).
use mathlib.Core.Path.{◌≡◌, sym, ◌∙◌}
use native.Mathlib.Omega.{arith}
use Rattle.reader.specs.Places.{RowAt}
use Rattle.reader.specs.RowLaws.{refuse_row, pass_rows}
use Rattle.reader.proofs.rows.first_repeat.Goals as goal

pub returns-then-is_repeat : goal.returns-then-is_repeat
returns-then-is_repeat c =
    let a = c.args in
    let l = c.loop-i in
    let row : RowAt a.table.rows.info l.i c.row_at-own.result = record { below = omega arith; is_own = c.row_at-own.ensures } in
    λ at e. refuse_row a.table.rows.words.now a.table.rows.info at e l.i c.row_at-own.result row l.invariant (sym c.if-is_repeat.true ∙ c.is_repeat.ensures l.i row)

pub returns : goal.returns
returns c =
    let a = c.args in
    let l = c.loop-i in
    let all : l.i ≡ a.table.rows.info.rows = omega arith in
    λ at e. pass_rows a.table.rows.words.now a.table.rows.info at e (rw all at l.invariant)
