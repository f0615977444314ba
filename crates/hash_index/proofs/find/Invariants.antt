use Rattle.hash_index.specs.SearchLaws.{left, Searching}
use Rattle.hash_index.proofs.find.Given as goal

abbrev pub invariant-loop-p : goal.invariant-loop-p
invariant-loop-p l = Searching l.rows.words.now l.rows.info l.key l.first l.index l.p

abbrev pub decreases-loop-p : goal.decreases-loop-p
decreases-loop-p l = left l.p
