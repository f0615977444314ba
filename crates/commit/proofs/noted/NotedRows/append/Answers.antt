-- A row without room leaves the index as it is (`uncounted`); else `add` makes it that of one row more (`append_indexed`).
use Prim.Native.Nat.{ℕ}
use mathlib.Core.Path.{◌≡◌, sym, ap, ◌∙◌, subst}
use native.Mathlib.Omega.{arith}
use Rattle.std.specs.Option.{option_copied_mut}
use Rattle.tables.specs.declared.TableInfo.{TableInfo}
use Rattle.hash_index.specs.Index.{home_at, added}
use Rattle.hash_index.specs.IndexLaws.{home_front}
use Rattle.commit.specs.TableRows.{rows_of}
use Rattle.commit.specs.Indexed.{index_for, IndexedRows}
use Rattle.commit.specs.IndexedLaws.{same_indexed, uncounted, row_counted, append_tails, append_indexed, Counted}
use Rattle.commit.proofs.noted.NotedRows.append.Goals as goal
use Rattle.commit.proofs.noted.NotedRows.append.Goals.{In-Some}

pub invariant_of-self : goal.invariant_of-self
invariant_of-self c =
    let a = c.args.self.now in
    let r = a.rows.now in
    let s' = rows_of c.append.new.self in
    let e = c.append.ensures.0 in
    let same = uncounted r.info r.sound c.args.row.now c.requires (rows_of r) r.stand (sym c.append.ensures.1 ∙ c.if-not-append.true) ∙ ap (index_for r.info) (sym e.rows) in
    record { indexed = subst (λ (i : TableInfo). IndexedRows i s' (option_copied_mut a.index.now)) (sym e.same_info) (same_indexed r.info (rows_of r) s' c.append.new.self.few same (option_copied_mut a.index.now) a.indexed) }

counted : (c : In-Some) → let r = c.args.self.now.rows.now in
    Counted r.info r.sound c.args.row.now c.requires (rows_of r) r.stand
counted c = sym c.append.ensures.1 ∙ c.if-not-append.false

-- the index before
before : (c : In-Some) → c.in-Some.index.now ≡ index_for c.args.self.now.rows.now.info (rows_of c.args.self.now.rows.now)
before c = (rw c.in-Some.is at c.args.self.now.indexed).1

pub add-requires : goal.add-requires
add-requires c =
    let r = c.args.self.now.rows.now in
    let k = (goal.at.add-requires c).In-Some in
    let n = counted k in
    let t = append_tails r.info r.sound c.args.row.now c.requires (rows_of r) r.stand n c.in-Some.index.now (before k) in
    (omega (arith, row_counted r.info r.sound c.args.row.now c.requires (rows_of r) r.stand n, r.few), c.home.ensures.1, t.below c.home.result c.home.ensures.1)

pub invariant_of-self-in-Some : goal.invariant_of-self-in-Some
invariant_of-self-in-Some c =
    let r = c.args.self.now.rows.now in
    let row = c.args.row.now in
    let s' = rows_of c.append.new.self in
    let e = c.append.ensures.0 in
    let k = (goal.at.invariant_of-self-in-Some c).In-Some in
    let home : c.home.result ≡ home_at row 0 r.info.keys = rw e.same_info at c.home.ensures.0 ∙ home_front row r.info.keys (omega (arith, r.sound.keys, c.requires)) in
    let is = c.add.ensures
    ∙ ap (λ (h : ℕ). added r.part.count h c.in-Some.index.now) home
    ∙ append_indexed r.info r.sound row c.requires (rows_of r) r.stand (counted k) c.in-Some.index.now (before k)
    ∙ ap (index_for r.info) (sym e.rows)
    ∙ ap (λ (i : TableInfo). index_for i s') (sym e.same_info) in
    record { indexed = (c.append.new.self.few, is) }
