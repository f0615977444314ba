-- A table's rows among the words that are lent for all rows: a row appended, and a row merged into the one that has its key.
use Rattle.std.specs.Prelude.{ℕ, ◌+◌, ◌*◌, ◌<◌, ◌≤◌, ◌≡◌, Bool, true, false, ◌&&◌, not, cond, List, ◌++◌, leb, length, drop, Option, Some, None}
use Rattle.std.proofs.lemmas.List.Edits.{sets}
use Rattle.std.proofs.Math.Seq.{paste}
use Rattle.model.specs.Book.Decode.{part}
use Rattle.model.specs.Commit.{merge_words}
use Rattle.tables.specs.declared.TableInfo.{TableInfo}
use Rattle.tables.specs.Tables.{found_row}
use Rattle.commit.specs.declared.rows.Part.{Part}

-- the words lent, and the part of them that a table has
pub record Rows : Type 0 where
  pub words : List ℕ
  pub part : Part

abbrev pub as_rows : List ℕ → Part → Rows
as_rows words part = record { words = words; part = part }

-- a table with room for a key in an array of 16, and a word in each row
pub record Sound (i : TableInfo) : Type 0 where
  pub keys : i.keys ≤ i.width
  pub few : i.keys ≤ 16
  pub some : 0 < i.width

-- the table's rows, each of `width` words, stand in the words and end where the used words do
pub record Stand (width : ℕ) (s : Rows) : Type 0 where
  pub used : s.part.used ≡ s.part.from + s.part.count * width
  pub within : s.part.used ≤ length s.words

-- words, with others laid onto their front
abbrev pub onto : List ℕ → List ℕ → List ℕ
onto base x = x ++ drop (length x) base

-- ## Appended

-- one row of n words more; a row that has no room
abbrev pub grown : Part → ℕ → Part
grown p n = record { from = p.from; count = p.count + 1; used = p.used + n; over = false }

abbrev pub overrun : Part → Part
overrun p = record { from = p.from; count = p.count; used = p.used; over = true }

-- whether a row has room, and every one before it had
abbrev pub has_room : List ℕ → Rows → Bool
has_room row s = not s.part.over && leb (s.part.used + length row) (length s.words)

-- once a row had no room, none is added
unfoldable pub appended : List ℕ → Rows → Rows
appended row s =
    cond s.part.over s
    (cond (leb (s.part.used + length row) (length s.words))
    (record { words = paste s.words s.part.used row (length row); part = grown s.part (length row) })
    (record { words = s.words; part = overrun s.part }))

-- ## Put

-- the table as it stands among the rows
abbrev pub new_info : TableInfo → Part → TableInfo
new_info i p = record { keys = i.keys; width = i.width; merge = i.merge; rows = p.count; at = p.from }

-- the values of the row at p, merged with those of a new row
abbrev pub merged_at : TableInfo → List ℕ → ℕ → Rows → Rows
merged_at i row p s = record { words = sets s.words (p + i.keys) (merge_words i.merge (part s.words (p + i.keys) (length (drop i.keys row))) (drop i.keys row)); part = s.part }

abbrev pub put_at : Option ℕ → TableInfo → List ℕ → Rows → Rows
put_at (Some p) i row s = merged_at i row p s
put_at None i row s = appended row s

unfoldable pub put_row : TableInfo → List ℕ → Rows → Rows
put_row i row s = put_at (found_row s.words (new_info i s.part) row) i row s
