-- What a call leaves of a table's rows.
use Rattle.std.specs.Prelude.{◌≡◌}
use Rattle.commit.specs.Rows.{Rows, as_rows}
use Rattle.commit.specs.declared.rows.TableRows.{TableRows}

-- a table's rows among the words that are lent for all
abbrev pub rows_of : TableRows → Rows
rows_of t = as_rows t.words.now t.part

-- b has the rows s, in the same words as a and of the same table
pub record Leaves (a b : TableRows) (s : Rows) : Type 0 where
  pub same_words : b.words.ghost_name ≡ a.words.ghost_name
  pub same_info : b.info ≡ a.info
  pub rows : rows_of b ≡ s
