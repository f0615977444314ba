-- What the loops over rows and tables lean on.
use Rattle.std.specs.Prelude.{ℕ, ◌+◌, ◌-◌, ◌*◌, ◌/◌, ◌<◌, ◌≤◌, ◌≡◌, refl, Bool, true, false, cond, List, length, take, drop}
use Rattle.std.proofs.Common.{ap, ◌∙◌, arith, take-take, drop-drop, zero-add}
use Rattle.std.proofs.Math.Nat.{mul-div_cancel}
use Rattle.std.proofs.lemmas.List.{drop-take}
use Rattle.model.specs.Book.Decode.{part}
use Rattle.model.specs.Laws.Iter.{iter_keeps, iter_agree}
use Rattle.model.specs.Laws.Bodies.{length_part}
use Rattle.tables.specs.declared.TableInfo.{TableInfo}
use Rattle.tables.specs.Tables.{info_of, row_at, found_row, RowsStand}
use Rattle.tables.specs.TablesLaws.{front_take, row_within}
use Rattle.commit.specs.Rows.{Rows, Sound, Stand, appended}
use Rattle.commit.specs.RowLaws.{Keeps, append_keeps}
use Rattle.commit.specs.Walk.{removed, removed_keys, key_table, is_there, inserted}
use Rattle.commit.specs.WalkLaws.{inserted_keeps}
use Rattle.commit.specs.KeyLaws.{among, among_removed}
use Rattle.commit.specs.Commit.{Left, keep_row, kept, spare_row, spared, begun, table_committed}

-- a row that is kept unless b says that it is removed
unless_keeps : (row : List ℕ) {width : ℕ} → length row ≡ width → (s : Rows) → Stand width s → (b : Bool) → Keeps width s (cond b s (appended row s))
unless_keeps row len s st true = (st, refl)
unless_keeps row len s st false = append_keeps row len s st

keep_keeps : (w log : List ℕ) (t : ℕ) (i : TableInfo) (at : ℕ) (s : Rows) → at + i.width ≤ length w → Stand i.width s → Keeps i.width s (keep_row w log t i at s)
unfolding keep_row
keep_keeps w log t i at s h st = unless_keeps (part w at i.width) (length_part w at i.width h) s st (removed w log t i.keys (part w at i.keys))

pub spare_keeps : (gone : List ℕ) (r : TableInfo) (row : List ℕ) {width : ℕ} → length row ≡ width → (s : Rows) → Stand width s → Keeps width s (spare_row gone r row s)
unfolding spare_row
spare_keeps gone r row len s st = unless_keeps row len s st (is_there (found_row gone r row))

-- rows that stand alone are spared as where they stand
pub spared_alone : (gone : List ℕ) (r : TableInfo) (w : List ℕ) (at k n : ℕ) (s : Rows) → 0 < k → at + n * k ≤ length w → spared gone r (part w at (n * k)) 0 k (length (part w at (n * k)) / k) s ≡ spared gone r w at k n s
unfolding spared
spared_alone gone r w at k n s some h =
    let old = part w at (n * k) in
    let e : length old / k ≡ n = ap (λ (m : ℕ). m / k) (length_part w at (n * k) h) ∙ mul-div_cancel n some in
    rw e (iter_agree _ _ n s (λ j x l. ap (λ (row : List ℕ). spare_row gone r row x) (same j l)))
  where
    same : (j : ℕ) → j < n → part (part w at (n * k)) (0 + j * k) k ≡ part w (at + j * k) k
    same j l =
        let m : n * k ≡ j * k + (n * k - j * k) = omega (arith, row_within j n k l) in
        let d : drop (j * k) (part w at (n * k)) ≡ take (n * k - j * k) (drop (at + j * k) w) = ap (λ (x : ℕ). drop (j * k) (take x (drop at w))) m ∙ drop-take (j * k) (n * k - j * k) (drop at w) ∙ ap (take (n * k - j * k)) (drop-drop (j * k) at w) in
        rw (zero-add (j * k)) (ap (take k) d ∙ take-take k (n * k - j * k) (drop (at + j * k) w) (omega (arith, row_within j n k l)))

-- the rows that the gathered keys spare are those that no removal names
pub spared_kept : (w log : List ℕ) (t : ℕ) (i : TableInfo) (s : Rows) → i ≡ info_of w t → RowsStand w i → spared (removed_keys w log t i.keys).words (key_table i.keys (removed_keys w log t i.keys).count) w i.at i.width i.rows s ≡ kept w log t i i.rows s
unfolding spared kept spare_row keep_row
spared_kept w log t i s e r = iter_agree _ _ i.rows s (λ j x l. ap (λ (b : Bool). cond b x (appended (part w (row_at i j) i.width) x)) (same j l))
  where
    same : (j : ℕ) → j < i.rows → among i.keys (part w (row_at i j) i.width) (removed_keys w log t i.keys) ≡ removed w log t i.keys (part w (row_at i j) i.keys)
    same j l =
        let n : row_at i j + i.width ≤ length w = omega (arith, row_within j i.rows i.width l, r.stands.rows) in
        let row = part w (row_at i j) i.width in
        among_removed w log t i.keys (ap (λ (x : TableInfo). x.keys) e) row
        ∙ ap (removed w log t i.keys) (front_take row i.keys (omega (arith, length_part w (row_at i j) i.width n, r.stands.keys)) ∙ take-take i.keys i.width (drop (row_at i j) w) r.stands.keys)

pub kept_keeps : (w log : List ℕ) (t : ℕ) (i : TableInfo) (s : Rows) → RowsStand w i → Stand i.width s → Keeps i.width s (kept w log t i i.rows s)
unfolding kept
kept_keeps w log t i s r st = iter_keeps (Keeps i.width s) (λ j. keep_row w log t i (row_at i j)) i.rows s (st, refl) one
  where
    one : (j : ℕ) (x : Rows) → j < i.rows → Keeps i.width s x → Keeps i.width s (keep_row w log t i (row_at i j) x)
    one j x l k =
        let m = keep_keeps w log t i (row_at i j) x (omega (arith, row_within j i.rows i.width l, r.stands.rows)) k.0 in
        (m.0, m.1 ∙ k.1)

-- a table's rows after the commit, past those before it
module _ (w log : List ℕ) (t : ℕ) (c : Left) (r : RowsStand w (info_of w t)) (l : c.result.used ≤ length c.words) where
  begun_stands : Stand (info_of w t).width (begun c)
  begun_stands = record { used = omega arith; within = l }

  pub old_keeps : Keeps (info_of w t).width (begun c) (kept w log t (info_of w t) (info_of w t).rows (begun c))
  old_keeps = kept_keeps w log t (info_of w t) (begun c) r begun_stands

  pub table_keeps : Keeps (info_of w t).width (begun c) (inserted w log t (info_of w t) (kept w log t (info_of w t) (info_of w t).rows (begun c)))
  table_keeps =
      let m = inserted_keeps w log t (kept w log t (info_of w t) (info_of w t).rows (begun c)) old_keeps.0 in
      (m.0, m.1 ∙ old_keeps.1)

  pub table_fits : (length (table_committed w log t c).words ≡ length c.words) × ((table_committed w log t c).result.used ≤ length c.words)
  unfolding table_committed
  table_fits = (table_keeps.1, omega (arith, table_keeps.0.within, table_keeps.1))

pub ready_sound : {w : List ℕ} {i : TableInfo} → RowsStand w i → Sound i
ready_sound r = record { keys = r.stands.keys; few = r.stands.few; some = r.some }
