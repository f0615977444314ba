-- The index of a table's rows among the words that are lent for all rows.
use Rattle.std.specs.Prelude.{ℕ, ◌≤◌, ◌≡◌, List, length, Option, IfSome}
use Rattle.tables.specs.declared.TableInfo.{TableInfo}
use Rattle.hash_index.specs.Index.{home_in, indexed}
use Rattle.commit.specs.Rows.{Rows, new_info}

-- that of all rows
abbrev pub index_for : TableInfo → Rows → List ℕ
index_for i s = indexed (home_in s.words (new_info i s.part)) s.part.count

-- it is that, if there is one; the rows are not too many for it, since a row has a word
abbrev pub IndexedRows : TableInfo → Rows → Option (List ℕ) → Type 0
IndexedRows i s index = IfSome index (λ x. (length s.words ≤ 16384) × (x ≡ index_for i s))
