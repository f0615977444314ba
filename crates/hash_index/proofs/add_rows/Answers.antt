-- The words lent are row i's key, so the row is added at its home (`home_part`): one more row (`iter_more`), and one more for the tails (`tails_more`).
use Rattle.std.proofs.Common.{◌≡◌, ℕ, ◌+◌, ◌≤◌, length, ap, ◌∙◌, arith}
use Rattle.model.specs.Laws.Iter.{iter_more}
use Rattle.tables.specs.Tables.{row_at}
use Rattle.tables.specs.TablesLaws.{row_within}
use Rattle.hash_index.specs.Index.{home_in, added, rows_added}
use Rattle.hash_index.specs.IndexLaws.{tails_more, home_part}
use Rattle.hash_index.specs.SearchLaws.{row_home_below}
use Rattle.hash_index.proofs.add_rows.Goals as goal

pub loop-i-preserved : goal.loop-i-preserved
unfolding rows_added
loop-i-preserved c =
    let a = c.args in
    let l = c.loop-i in
    let w = a.rows.words.now in
    let t = a.rows.info in
    let within : row_at t l.i + t.keys ≤ length w = omega (arith, a.rows.stands.rows, a.rows.stands.keys, row_within l.i t.rows t.width c.loop-i-test.true) in
    let home : c.home.result ≡ home_in w t l.i = rw c.row_at-at.ensures at c.home.ensures.0 ∙ home_part w (row_at t l.i) t.keys within in
    let is : c.add.new.index ≡ added (a.first + l.i) (home_in w t l.i) l.index = c.add.ensures ∙ ap (λ (h : ℕ). added (a.first + l.i) h l.index) home in
    let next : a.first + (l.i + 1) ≡ a.first + l.i + 1 = omega arith in
    (rw (is, next) (tails_more (a.first + l.i) (home_in w t l.i) l.index l.invariant.0 (row_home_below w t l.i)), iter_more (λ i. added (a.first + i) (home_in w t i)) l.i a.index.now l.index c.add.new.index l.invariant.1 is)
