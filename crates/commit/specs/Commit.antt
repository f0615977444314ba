-- What the commit leaves: the words of all rows, table by table, and how many there are.
use Rattle.std.specs.Prelude.{ℕ, ◌+◌, ◌*◌, false, cond, List, set, replicate}
use Rattle.model.specs.Basics.{iter}
use Rattle.model.specs.Book.Decode.{part}
use Rattle.tables.specs.declared.TableInfo.{TableInfo}
use Rattle.tables.specs.Tables.{info_of, row_at, found_row}
use Rattle.commit.specs.declared.Committed.{Committed}
use Rattle.commit.specs.Rows.{Rows, appended}
use Rattle.commit.specs.Walk.{removed, is_there, inserted}

module _ (w log : List ℕ) (t : ℕ) (i : TableInfo) where
  -- the row at `at` of table t, unless it is removed
  unfoldable pub keep_row : ℕ → Rows → Rows
  keep_row at s = cond (removed w log t i.keys (part w at i.keys)) s (appended (part w at i.width) s)

  -- the first n rows of table t
  unfoldable pub kept : ℕ → Rows → Rows
  kept n s = iter (λ j. keep_row (row_at i j)) n s

-- the same where the removed keys are the rows `gone` of a table r
module _ (gone : List ℕ) (r : TableInfo) where
  unfoldable pub spare_row : List ℕ → Rows → Rows
  spare_row row s = cond (is_there (found_row gone r row)) s (appended row s)

  -- n rows of so many words, the first at `at`
  unfoldable pub spared : List ℕ → ℕ → ℕ → ℕ → Rows → Rows
  spared w at width n s = iter (λ j. spare_row (part w (at + j * width) width)) n s

-- the words lent for rows, and the answer
pub record Left : Type 0 where
  pub words : List ℕ
  pub result : Committed

abbrev pub as_left : List ℕ → Committed → Left
as_left words result = record { words = words; result = result }

-- a table with no rows yet, past those before it
abbrev pub begun : Left → Rows
begun c = record { words = c.words; part = record { from = c.result.used; count = 0; used = c.result.used; over = c.result.over } }

-- and with all its rows
abbrev pub ended : ℕ → Left → Rows → Left
ended t c s = record { words = s.words; result = record { counts = set c.result.counts t s.part.count; used = s.part.used; over = s.part.over } }

-- table t: what the removals leave of its old rows, then the log's rows
unfoldable pub table_committed : List ℕ → List ℕ → ℕ → Left → Left
table_committed w log t c = ended t c (inserted w log t (info_of w t) (kept w log t (info_of w t) (info_of w t).rows (begun c)))

-- the first n tables
unfoldable pub committed_rows : List ℕ → ℕ → List ℕ → List ℕ → Left
committed_rows w n log rows = iter (table_committed w log) n (record { words = rows; result = record { counts = replicate 16 0; used = 0; over = false } })
