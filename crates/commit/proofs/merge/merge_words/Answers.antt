-- After i turns the first i words are merged and the others old, so a turn reads an old word (`merge_turn`); all of them are those merged (`merge_all`).
use lib.ListN.{length}
use mathlib.Core.Path.{◌≡◌, refl, ap, ◌∙◌}
use native.Mathlib.Omega.{arith}
use lib.Seq.{sets}
use Rattle.model.specs.Basics.{tab}
use Rattle.commit.specs.MergeRule.{merge_by}
use Rattle.commit.specs.MergeLaws.{merge_turn, merge_all}
use Rattle.commit.proofs.merge.merge_words.Goals as goal

pub loop-i-init : goal.loop-i-init
unfolding tab
loop-i-init c = refl

pub loop-i-preserved : goal.loop-i-preserved
loop-i-preserved c =
    let a = c.args in
    let l = c.loop-i in
    merge_turn (merge_by a.rule) a.rows.now a.at a.new.now l.i l.rows _ l.invariant c.merge.ensures

pub returns : goal.returns
returns c =
    let a = c.args in
    let e : c.loop-i.i ≡ length a.new.now = omega arith in
    rw e at c.loop-i.invariant ∙ ap (sets a.rows.now a.at) (merge_all (merge_by a.rule) a.rows.now a.at a.new.now c.requires)
