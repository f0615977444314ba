-- The loop has come to a record with these rows (`walks_more` for a turn); after the last they are the walk's (`walks_end`).
use mathlib.Core.Path.{◌≡◌, ap, sym, subst, ◌∙◌}
use mathlib.Core.Bool.{true}
use Prim.Native.Nat.{◌+◌, ◌≤◌}
use native.Mathlib.Omega.{arith}
use lib.ListN.{length}
use Rattle.tables.specs.declared.TableInfo.{TableInfo}
use Rattle.record_log.specs.Places.{record_end, walks_more, walks_end}
use Rattle.record_log.specs.Walk.{is_insertion}
use Rattle.record_log.specs.WalkLaws.{end_after, insertion_end}
use Rattle.commit.specs.Walk.{insert_row, inserted}
use Rattle.commit.specs.TableRows.{rows_of}
use Rattle.commit.specs.NotedRows.{same_noted_more}
use Rattle.commit.proofs.records.Changes.insert_all.Goals as goal
use Rattle.commit.proofs.records.Changes.insert_all.Goals.{In-Some}

-- the row of a record that is put ends within the log
fits : (c : In-Some) → is_insertion c.args.self.log.now c.args.t.0 c.in-Some.p ≡ true → c.in-Some.p + 2 + c.args.rows.now.rows.now.info.width ≤ length c.args.self.log.now
fits c e =
    let a = c.args in
    omega (arith, (record_end c.loop-p.invariant.1 c.in-Some.ensures.steps).1, insertion_end a.self.words.now a.self.log.now c.in-Some.p a.t.0 e, ap (λ (i : TableInfo). i.width) c.requires)

pub insert-requires : goal.insert-requires
insert-requires c =
    let l = c.loop-p in
    let log = c.args.self.log.now in (
      omega (arith, (record_end l.invariant.1 c.in-Some.ensures.steps).1, end_after c.args.self.words.now log c.in-Some.p),
      subst (λ (i : TableInfo). is_insertion log c.args.t.0 c.in-Some.p ≡ true → c.in-Some.p + 2 + i.width ≤ length log) (sym l.invariant.0.info) (fits (goal.at.insert-requires c).In-Some),
    )

pub loop-p-preserved : goal.loop-p-preserved
loop-p-preserved c =
    let a = c.args in
    let l = c.loop-p in
    let i = l.invariant in
    let r = c.insert.ensures in
    (same_noted_more i.0 r.same, walks_more i.1 c.in-Some.ensures.steps (r.rows ∙ ap (λ (t : TableInfo). insert_row a.self.log.now a.t.0 t c.in-Some.p (rows_of l.rows.rows.now)) i.0.info))

pub returns : goal.returns
unfolding inserted
returns c =
    let i = c.loop-p.invariant in
    record { same = i.0; rows = walks_end i.1 c.in-None.ensures.steps }
