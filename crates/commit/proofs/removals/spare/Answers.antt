-- The old rows, which stand alone, are spared as where they stand (`spared_alone`), with an index and without.
use Prim.Native.Nat.{ℕ, ◌+◌, ◌-◌, ◌*◌, ◌/◌}
use mathlib.Core.List.{List}
use mathlib.Core.Path.{◌≡◌, refl, ap, ◌∙◌}
use native.Mathlib.Omega.{arith}
use lib.ListN.{length, take, drop}
use Rattle.std.proofs.Math.Nat.{add-sub_cancel_left}
use Rattle.tables.specs.declared.TableInfo.{TableInfo}
use Rattle.commit.specs.Walk.{key_table}
use Rattle.commit.specs.Commit.{spared}
use Rattle.commit.specs.TableRows.{rows_of}
use Rattle.commit.specs.TableLaws.{spared_alone}
use Rattle.commit.proofs.removals.spare.Goals as goal
use Rattle.commit.proofs.removals.spare.Goals.{Start}

alone : (c : Start) (gone : List ℕ) (t : TableInfo) → let a = c.args in
    let i = a.rows.now.info in
    let old = take (i.at + i.rows * i.width - i.at) (drop i.at a.words.now) in
    spared gone t old 0 i.width (length old / i.width) (rows_of a.rows.now) ≡ spared gone t a.words.now i.at i.width i.rows (rows_of a.rows.now)
alone c gone t =
    let a = c.args in
    let i = a.rows.now.info in
    let s = rows_of a.rows.now in
    let p = c.requires.0 in
    ap (λ (x : ℕ). spared gone t (take x (drop i.at a.words.now)) 0 i.width (length (take x (drop i.at a.words.now)) / i.width) s) (add-sub_cancel_left i.at (i.rows * i.width))
    ∙ spared_alone gone t a.words.now i.at i.width i.rows s p.some p.stands.rows

-- a key has two words besides it, so there are not too many
pub build-requires : goal.build-requires
build-requires c =
    let keys = c.args.keys.now in
    (rw c.table-removed.ensures.1 (omega (arith, keys.room.fits, keys.room.few)), refl)

pub returns-then-serves : goal.returns-then-serves
returns-then-serves c =
    let r = c.keep_all.ensures in
    let keys = c.args.keys.now in
    record { same_words = r.same_words; same_info = r.same_info; rows = rw (c.alone.ensures.0, c.alone.ensures.1, c.table-removed.ensures.0, c.table-removed.ensures.1) at r.rows ∙ alone (goal.at.returns-then-serves c).Start (take (keys.count * keys.width) keys.words.now) (key_table keys.width keys.count) }

pub returns-else-serves : goal.returns-else-serves
returns-else-serves c =
    let r = c.keep_all-else-serves.ensures in
    let keys = c.args.keys.now in
    record { same_words = r.same_words; same_info = r.same_info; rows = rw (c.alone-else-serves.ensures.0, c.alone-else-serves.ensures.1, c.table-removed.ensures.0, c.table-removed.ensures.1) at r.rows ∙ alone (goal.at.returns-else-serves c).Start (take (keys.count * keys.width) keys.words.now) (key_table keys.width keys.count) }
