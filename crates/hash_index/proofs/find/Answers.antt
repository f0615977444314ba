-- No row before the one that p tells has the key (`standing`); if that row has it, it is the first (`first_row`), and where p is 0 none has (`none_left`). What the index is made of is known to be there alone, and each answer has at most one proof.
use Rattle.std.specs.Prelude.{◌≡◌, ◌≤◌, length, Some}
use Rattle.std.proofs.Common.{ap, ◌∙◌, arith}
use Rattle.std.proofs.Math.Logic.{∥∥₁_elim, ∥∥₁_map}
use Rattle.std.proofs.Props.{props}
use Rattle.tables.specs.TablesLaws.{found_nothing}
use Rattle.hash_index.specs.IndexLaws.{home_front}
use Rattle.hash_index.specs.SearchLaws.{reached_head, none_left, standing, first_row, has_length}
use Rattle.hash_index.proofs.find.Goals as goal

pub bounds-index-home : goal.bounds-index-home
bounds-index-home c =
    let a = c.args in
    let size : length a.index.now ≡ 18432 = ∥∥₁_elim c.requires.0 (search props) (has_length a.rows.words.now a.rows.info a.key.now a.first a.index.now) in
    omega (arith, c.home.ensures.1, size)

pub loop-p-init : goal.loop-p-init
loop-p-init c =
    let a = c.args in
    ∥∥₁_map c.requires.0 (λ h. (h, rw (c.home.ensures.0, home_front a.key.now a.rows.info.keys c.requires.1) (reached_head a.rows.words.now a.rows.info a.key.now a.first a.index.now h)))

pub returns-in-Some : goal.returns-in-Some
returns-in-Some c =
    let a = c.args in
    let l = c.loop-p in
    let r = c.in-Some.ensures in
    ap Some r.1 ∙ ∥∥₁_elim l.invariant (search props) (λ x. first_row a.rows.words.now a.rows.info a.key.now a.first a.index.now x.0 l.p (standing a.rows.words.now a.rows.info a.key.now a.first a.index.now x.0 l.p x.1 c.loop-p-test.true) r.0)

pub bounds-index-p : goal.bounds-index-p
bounds-index-p c =
    let a = c.args in
    let l = c.loop-p in
    let size : length a.index.now ≡ 18432 = ∥∥₁_elim c.requires.0 (search props) (has_length a.rows.words.now a.rows.info a.key.now a.first a.index.now) in
    let below : l.p ≤ 16384 = ∥∥₁_elim l.invariant (search props) (λ x. (standing a.rows.words.now a.rows.info a.key.now a.first a.index.now x.0 l.p x.1 c.loop-p-test.true).below) in
    omega (arith, below, size)

pub loop-p-smaller : goal.loop-p-smaller
loop-p-smaller c =
    let a = c.args in
    let l = c.loop-p in
    ∥∥₁_elim l.invariant (search props) (λ x. (standing a.rows.words.now a.rows.info a.key.now a.first a.index.now x.0 l.p x.1 c.loop-p-test.true).less)

pub loop-p-preserved : goal.loop-p-preserved
loop-p-preserved c =
    let a = c.args in
    let l = c.loop-p in
    ∥∥₁_map l.invariant (λ x. (x.0, (standing a.rows.words.now a.rows.info a.key.now a.first a.index.now x.0 l.p x.1 c.loop-p-test.true).on c.in_default.ensures))

pub returns : goal.returns
returns c =
    let a = c.args in
    let l = c.loop-p in
    ∥∥₁_elim l.invariant (search props) (λ x. found_nothing a.rows.words.now a.rows.info a.key.now (none_left a.rows.words.now a.rows.info a.key.now a.first a.index.now x.0 (rw c.loop-p-test.false at x.1)))
