-- The row of a key, as a part of the words that hold it: w is the book's words, ix the index of the predicted rows of a log.
use Rattle.std.specs.Prelude.{ℕ, ◌+◌, List, [], Option, Some, None}
use Rattle.model.specs.Basics.{found, first}
use Rattle.model.specs.Book.Syntax.{Table}
use Rattle.model.specs.Book.Decode.{part}
use Rattle.model.specs.Machine.State.{Record}
use Rattle.model.specs.Machine.Values.{find, predicted_rows}
use Rattle.ids.specs.declared.TableId.{TableId}
use Rattle.tables.specs.Tables.{info_of, Stands, found_row}
use Rattle.hash_index.specs.Index.{IndexAmong}
use Rattle.hash_index.specs.Book.{rows_before}
use Rattle.predicted_index.specs.declared.Slot.{Slot}
use Rattle.predicted_index.specs.declared.Slot.TheVariants.{Hit, Free, Full}
use Rattle.predicted_index.specs.declared.row.Sought.{Sought}
use Rattle.predicted_index.specs.Index.{slot_of}

-- the table with a number
abbrev pub sought_in : List ℕ → TableId → Sought
sought_in w t = record { table = t; info = info_of w t.0; first = rows_before w t.0 }

-- what a search may suppose: the table's rows stand in the words, and the index of committed rows, if there is one, has them
pub record Searchable (w : List ℕ) (chains : Option (List ℕ)) (of : Sought) : Type 0 where
  pub stands : Stands w of.info
  pub indexed : IndexAmong w of.info of.first chains

-- n words of the record at the place that was hit
abbrev pub predicted_part : List ℕ → ℕ → Slot → List ℕ
predicted_part log n (Hit p) = part log (p + 2) n
predicted_part log n (Free s) = []
predicted_part log n Full = []

-- n words of the row that was found, else other words
abbrev pub committed_part : List ℕ → ℕ → Option ℕ → List ℕ → List ℕ
committed_part w n (Some p) other = part w p n
committed_part w n None other = other

-- the committed row, else the predicted one, else no words
unfoldable pub row_of : (ℕ → List ℕ → ℕ) → (w log ix : List ℕ) → Sought → List ℕ → List ℕ
row_of home w log ix of key = committed_part w of.info.width (found_row w of.info key) (predicted_part log of.info.width (slot_of home ix log of.table.0 key of.info.keys))

-- the same in the model, of table t
abbrev pub row_among : Table → ℕ → List ℕ → List Record → List ℕ
row_among table t key records = found (find table.keys table.rows key) (λ r. r) (λ _. found (first (predicted_rows table.keys t key records)) (λ r. r) (λ _. []))
