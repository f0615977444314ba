-- By what was found: a row is merged, which leaves all keys and so the index (`merge_indexed`); where there is none, it is appended.
use mathlib.Core.Path.{◌≡◌, refl, sym, ap, ◌∙◌, subst}
use native.Mathlib.Omega.{arith}
use lib.ListN.{take}
use Rattle.std.specs.Option.{option_copied_mut}
use Rattle.tables.specs.declared.TableInfo.{TableInfo}
use Rattle.tables.specs.Tables.{found_row}
use Rattle.tables.specs.TablesLaws.{found_within, found_taken}
use Rattle.commit.specs.Rows.{new_info, put_row}
use Rattle.commit.specs.TableRows.{rows_of}
use Rattle.commit.specs.Indexed.{index_for, IndexedRows}
use Rattle.commit.specs.IndexedLaws.{same_indexed, merge_indexed}
use Rattle.commit.proofs.noted.NotedRows.put.Goals as goal
use Rattle.commit.proofs.noted.NotedRows.put.Goals.{After-find}

-- what is found by the row
found_is : (c : After-find) → let r = c.args.self.now.rows.now in
    found_row r.words.now (new_info r.info r.part) c.args.row.now ≡ c.find.result
found_is c =
    let r = c.args.self.now.rows.now in
    sym (found_taken r.words.now (new_info r.info r.part) c.args.row.now (omega (arith, r.sound.keys, c.requires))) ∙ sym c.find.ensures

-- the row that was found stands among the rows
pub merge-requires : goal.merge-requires
merge-requires c =
    let r = c.args.self.now.rows.now in
    (omega (arith, found_within r.words.now (new_info r.info r.part) (take r.info.keys c.args.row.now) c.in-Some.p (sym c.find.ensures ∙ c.in-Some.is), r.stand.used, r.stand.within), c.requires)

pub invariant_of-self : goal.invariant_of-self
invariant_of-self c =
    let a = c.args.self.now in
    let r = a.rows.now in
    let row = c.args.row.now in
    let s' = rows_of c.merge.new.self in
    let e = c.merge.ensures in
    let same = merge_indexed r.info r.sound row c.requires (rows_of r) r.stand (take r.info.keys row) c.in-Some.p (sym c.find.ensures ∙ c.in-Some.is) ∙ ap (index_for r.info) (sym e.rows) in
    record { indexed = subst (λ (i : TableInfo). IndexedRows i s' (option_copied_mut a.index.now)) (sym e.same_info) (same_indexed r.info (rows_of r) s' c.merge.new.self.few same (option_copied_mut a.index.now) a.indexed) }

pub returns-in-Some : goal.returns-in-Some
unfolding put_row
returns-in-Some c =
    let e = c.merge.ensures in
    record {
      same = record { rows = refl; words = e.same_words; info = e.same_info; index = refl; some = refl };
      rows = rw (found_is (goal.at.returns-in-Some c).After-find ∙ c.in-Some.is) e.rows;
    }

pub returns-in-None : goal.returns-in-None
unfolding put_row
returns-in-None c =
    let e = c.append.ensures in
    record { same = e.same; rows = rw (found_is (goal.at.returns-in-None c).After-find ∙ c.in-None.is) e.rows }
