use mathlib.Core.Path.{◌≡◌}
use lib.Seq.{sets}
use Rattle.model.specs.Basics.{tab}
use Rattle.commit.specs.MergeRule.{merge_by}
use Rattle.commit.specs.MergeLaws.{merged_word}
use Rattle.commit.proofs.merge.merge_words.Given as goal

abbrev pub invariant-loop-i : goal.invariant-loop-i
invariant-loop-i l = l.rows ≡ sets l.initial.rows l.at (tab (merged_word (merge_by l.rule) l.initial.rows l.at l.new) l.i)
