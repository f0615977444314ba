-- After t turns t tables are put there (`runs_turn`), the next has room (`runs_room`), and `from` is past their rows (`sum_turn`); at the end t is how many tables there are.
use Rattle.std.proofs.Common.{◌+◌, ◌≡◌, ◌<◌, ℕ, List, sym, ap, arith}
use Rattle.answer.specs.Layout.{rows_length, table_words}
use Rattle.answer.specs.Sums.{sum, sum_none, sum_turn, sum_fits}
use Rattle.step_bodies.specs.Page.{runs_start, runs_turn, runs_room}
use Rattle.answer.proofs.entries.Sizes.write_tables.Goals as goal

pub loop-t-init : goal.loop-t-init
loop-t-init c = (sym (sum_none _), runs_start _ _)

pub write_table-requires : goal.write_table-requires
write_table-requires c =
    let a = c.args in
    let s = a.self in
    let l = c.loop-t in
    let p = c.requires in
    let n = s.contents.tables in
    let table : l.t < n = omega (arith, c.table_count-t-end.ensures) in
    let h = sum_fits (rows_length s.words.now s.counts.now) l.t n table in
    let f : ℕ → List ℕ = λ (k : ℕ). table_words s.words.now s.counts.now a.rows.now (sum (rows_length s.words.now s.counts.now) k) k in
    (omega (arith, table), omega (arith, h, p.0, l.invariant.0), rw l.invariant.0 (runs_room f {n = n} table p.1 l.invariant.1))

pub overflow_add-from : goal.overflow_add-from
overflow_add-from c =
    let a = c.args in
    let s = a.self in
    let l = c.loop-t in
    let table : l.t < s.contents.tables = omega (arith, c.table_count-t-end.ensures) in
    omega (arith, sum_fits (rows_length s.words.now s.counts.now) l.t s.contents.tables table, s.small.rows, l.invariant.0, c.rows_length-from.ensures)

pub loop-t-preserved : goal.loop-t-preserved
loop-t-preserved c =
    let s = c.args.self in
    let l = c.loop-t in
    (sum_turn (rows_length s.words.now s.counts.now) l.t l.from _ l.invariant.0 (ap (λ (x : ℕ). l.from + x) c.rows_length-from.ensures), runs_turn _ l.invariant.1 (rw l.invariant.0 at c.write_table.ensures))

pub returns : goal.returns
returns c =
    let a = c.args in
    let s = a.self in
    let e : c.loop-t.t ≡ s.contents.tables = omega (arith, c.table_count-t-end.ensures) in
    rw (← e) c.loop-t.invariant.1
