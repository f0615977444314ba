use Rattle.record_log.specs.Places.{Walks}
use Rattle.commit.specs.Walk.{insert_row}
use Rattle.commit.specs.TableRows.{rows_of}
use Rattle.commit.specs.NotedRows.{SameNoted}
use Rattle.commit.proofs.records.Changes.insert_all.Given as goal

abbrev pub invariant-loop-p : goal.invariant-loop-p
invariant-loop-p l =
    let log = l.self.log.now in
    let old = l.initial.rows in
    SameNoted old l.rows × Walks l.self.words.now log (insert_row log l.t.0 old.rows.now.info) (rows_of old.rows.now) l.p-iterator (rows_of l.rows.rows.now)
