-- The row of a key is the model's: the committed row, else the first predicted one, else no words.
use Rattle.std.specs.Prelude.{ℕ, ◌+◌, ◌<◌, ◌≤◌, ◌≡◌, length, drop, Option, Some, slice_get, None}
use Rattle.std.proofs.Math.Path.{refl}
use Rattle.std.proofs.Common.{sym, ap, ◌∙◌, arith, length-take}
use mathlib.Core.List.{List, [], ◌∷◌}
use Rattle.model.specs.Basics.{found, first}
use Rattle.model.specs.Book.Syntax.{Table, table_at}
use Rattle.model.specs.Book.Contents.{first_of, table_count}
use Rattle.model.specs.Book.Decode.{part, read_table}
use Rattle.model.specs.Book.Read.{tables}
use Rattle.model.specs.Machine.State.{Record, log_words}
use Rattle.model.specs.Machine.Values.{find, predicted_rows}
use Rattle.model.specs.Laws.Book.{keys_of, width_of, table_is}
use Rattle.ids.specs.declared.TableId.{TableId}
use Rattle.tables.specs.Tables.{info_of, front, found_row}
use Rattle.tables.specs.TablesLaws.{row_found, find_model}
use Rattle.record_log.specs.Log.{log_of, place_of}
use Rattle.record_log.specs.LogLaws.{row_at_lem}
use Rattle.predicted_index.specs.declared.Slot.{Slot}
use Rattle.predicted_index.specs.declared.Slot.TheVariants.{Hit, Free, Full}
use Rattle.predicted_index.specs.declared.row.Sought.{Sought}
use Rattle.predicted_index.specs.Index.{probed, slot_of}
use Rattle.predicted_index.specs.Right.{IndexOk}
use Rattle.predicted_index.specs.RightLaws.{get_hit, get_free, get_room}
use Rattle.predicted_index.specs.Row.{sought_in, predicted_part, committed_part, row_of, row_among}

-- it has no more words than a row of its table
part_short : (l : List ℕ) (p n : ℕ) → length (part l p n) ≤ n
part_short l p n = omega (arith, length-take n (drop p l))

pub row_short : (home : ℕ → List ℕ → ℕ) (w log ix : List ℕ) (of : Sought) (key : List ℕ) → length (row_of home w log ix of key) ≤ of.info.width
unfolding row_of
row_short home w log ix of key = either_way (found_row w of.info key) (slot_of home ix log of.table.0 key of.info.keys)
  where
    n : ℕ
    n = of.info.width

    either_way : (f : Option ℕ) (s : Slot) → length (committed_part w n f (predicted_part log n s)) ≤ n
    either_way (Some p) s = part_short w p n
    either_way None (Hit p) = part_short log (p + 2) n
    either_way None (Free s) = omega arith
    either_way None Full = omega arith

-- an empty index finds no predicted row
pub none_sought : (home : ℕ → List ℕ → ℕ) (ix log : List ℕ) (t : ℕ) (key : List ℕ) (k n : ℕ) → length ix ≡ 0 → predicted_part log n (slot_of home ix log t key k) ≡ []
unfolding slot_of probed
none_sought home [] log t key k n e = refl
none_sought home (x ∷ ix) log t key k n e = absurd (omega arith)

-- so the row that is sought there is the committed one, or none
pub row_alone : (home : ℕ → List ℕ → ℕ) (w log : List ℕ) (of : Sought) (key : List ℕ) → row_of home w log [] of key ≡ committed_part w of.info.width (found_row w of.info key) []
unfolding row_of
row_alone home w log of key = ap (committed_part w of.info.width (found_row w of.info key)) (none_sought home [] log of.table.0 key of.info.keys of.info.width refl)

module _ (home : ℕ → List ℕ → ℕ) (w : List ℕ) (t : TableId) (known : t.0 < table_count w) (key : List ℕ) where
  abbrev table : Table
  table = table_at (tables w) t.0

  abbrev n : ℕ
  n = width_of w t.0

  -- the words of the key
  abbrev Key : List ℕ
  Key = front key (keys_of w t.0)

  committed_is : (other : List ℕ) → committed_part w n (found_row w (info_of w t.0) key) other ≡ found (find table.keys table.rows Key) (λ r. r) (λ _. other)
  unfolding read_table
  committed_is other = rw (table_is w t.0 known, find_model w (first_of w t.0) key) (by (found_row w (info_of w t.0) key))
    where
      by : (f : Option ℕ) → committed_part w n f other ≡ found (row_found w n f) (λ r. r) (λ _. other)
      by (Some p) = refl
      by None = refl

  -- so all that it finds is committed
  pub row_committed : (log : List ℕ) → row_of home w log [] (sought_in w t) key ≡ row_among table t.0 Key []
  unfolding row_of slot_of probed
  row_committed log = committed_is []

  module _ (low : (t : ℕ) (key : List ℕ) → home t key < 8192) (ix : List ℕ) (records : List Record) (ok : IndexOk home (keys_of w) ix records) (L : ℕ) (fits : log_words records ≤ L) (short : L ≤ 16384)
      (whole : (i : ℕ) (r : Record) → slice_get records i ≡ Some r → r.kind ≡ 2 → r.table ≡ t.0 → length r.words ≡ n) where
    abbrev got : Slot
    got = slot_of home ix (log_of records L) t.0 key (keys_of w t.0)

    predicted_is : predicted_part (log_of records L) n got ≡ found (first (predicted_rows (keys_of w t.0) t.0 Key records)) (λ r. r) (λ _. [])
    predicted_is = by got refl
      where
        by : (s : Slot) → got ≡ s → predicted_part (log_of records L) n s ≡ found (first (predicted_rows (keys_of w t.0) t.0 Key records)) (λ r. r) (λ _. [])
        by (Hit p) e =
            let r = get_hit home low (keys_of w) ix records ok L fits t.0 key p e in
            ap (λ (q : ℕ). part (log_of records L) (q + 2) n) r.place
            ∙ ap (part (log_of records L) (place_of records r.index + 2)) (sym (whole r.index r.row r.is r.kind r.table))
            ∙ row_at_lem records r.index r.row r.is L
            ∙ sym (ap (λ (o : Option (List ℕ)). found o (λ r. r) (λ _. [])) r.first_row)
        by (Free s) e = rw (get_free home low (keys_of w) ix records ok L fits t.0 key s e)
        by Full e = absurd (get_room home low (keys_of w) ix records ok L fits short (log_of records L) t.0 key (keys_of w t.0) e)

    -- an index that is right for the records
    pub row_is : row_of home w (log_of records L) ix (sought_in w t) key ≡ row_among table t.0 Key records
    unfolding row_of read_table
    row_is = committed_is (predicted_part (log_of records L) n got) ∙ rw (predicted_is, table_is w t.0 known)
