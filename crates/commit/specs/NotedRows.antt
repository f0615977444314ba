-- What a call leaves of a table's rows and of their index.
use Rattle.std.specs.Prelude.{◌≡◌, is_some}
use Rattle.std.proofs.Common.{◌∙◌}
use Rattle.commit.specs.Rows.{Rows}
use Rattle.commit.specs.TableRows.{rows_of}
use Rattle.commit.specs.declared.noted.NotedRows.{NotedRows}

-- b has its rows and its index in the same words as a, and they are of the same table; it has an index where a has one
pub record SameNoted (a b : NotedRows) : Type 0 where
  pub rows : b.rows.ghost_name ≡ a.rows.ghost_name
  pub words : b.rows.now.words.ghost_name ≡ a.rows.now.words.ghost_name
  pub info : b.rows.now.info ≡ a.rows.now.info
  pub index : b.index.ghost_name ≡ a.index.ghost_name
  pub some : is_some b.index.now ≡ is_some a.index.now

pub same_noted_more : {a b c : NotedRows} → SameNoted a b → SameNoted b c → SameNoted a c
same_noted_more g h = record {
  rows = h.rows ∙ g.rows;
  words = h.words ∙ g.words;
  info = h.info ∙ g.info;
  index = h.index ∙ g.index;
  some = h.some ∙ g.some;
}

-- and has the rows s. The index is theirs: that is a fact of the struct
pub record LeavesNoted (a b : NotedRows) (s : Rows) : Type 0 where
  pub same : SameNoted a b
  pub rows : rows_of b.rows.now ≡ s
