-- The log is walked record by record: which rows are removed, and which are put into a table.
use Rattle.std.specs.Prelude.{ℕ, ◌+◌, ◌*◌, Bool, true, false, ◌&&◌, ◌||◌, List, [], ◌++◌, eqb, length, get_or, Option, Some, None}
use Rattle.std.proofs.Math.Seq.{paste}
use Rattle.model.specs.Basics.{when, eq_list}
use Rattle.model.specs.Book.Decode.{part}
use Rattle.tables.specs.declared.TableInfo.{TableInfo}
use Rattle.tables.specs.Tables.{info_of}
use Rattle.record_log.specs.declared.Change.{Change}
use Rattle.record_log.specs.declared.Change.TheVariants.{Insert, Remove}
use Rattle.record_log.specs.Walk.{end_of, walked, is_removal, is_insertion}
use Rattle.commit.specs.Rows.{Rows, onto, put_row}

-- some record is a removal
abbrev pub removal_turn : List ℕ → ℕ → Bool → Bool
removal_turn log p b = b || eqb (get_or log p 0) 1

unfoldable pub any_removal : List ℕ → List ℕ → Bool
any_removal w log = walked (end_of w log) (length log) (removal_turn log) false

-- ## Of table t

-- whether the record at p is such a change of it
abbrev pub is_change : List ℕ → ℕ → Change → ℕ → Bool
is_change log t Remove p = is_removal log t p
is_change log t Insert p = is_insertion log t p

-- whether it removes the row with a key of k words; whether some record does
abbrev pub removes : List ℕ → ℕ → ℕ → List ℕ → ℕ → Bool
removes log t k key p = is_removal log t p && eq_list (part log (p + 2) k) key

abbrev pub remove_turn : List ℕ → ℕ → ℕ → List ℕ → ℕ → Bool → Bool
remove_turn log t k key p b = b || removes log t k key p

unfoldable pub removed : List ℕ → List ℕ → ℕ → ℕ → List ℕ → Bool
removed w log t k key = walked (end_of w log) (length log) (remove_turn log t k key) false

-- the row of the record at p is put; the rows of all records
unfoldable pub insert_row : List ℕ → ℕ → TableInfo → ℕ → Rows → Rows
insert_row log t i p s = when (is_insertion log t p) (put_row i (part log (p + 2) i.width)) s

unfoldable pub inserted : List ℕ → List ℕ → ℕ → TableInfo → Rows → Rows
inserted w log t i s = walked (end_of w log) (length log) (insert_row log t i) s

-- ## The keys of table t's removals

-- keys, one after the other, and how many there are: asked of these, a row needs no walk of its own
pub record Keys : Type 0 where
  pub words : List ℕ
  pub count : ℕ

abbrev pub as_keys : List ℕ → ℕ → Keys
as_keys words count = record { words = words; count = count }

abbrev pub with_key : List ℕ → Keys → Keys
with_key key s = record { words = s.words ++ key; count = s.count + 1 }

abbrev pub gather_turn : List ℕ → ℕ → ℕ → ℕ → Keys → Keys
gather_turn log t k p s = when (is_removal log t p) (with_key (part log (p + 2) k)) s

unfoldable pub removed_keys : List ℕ → List ℕ → ℕ → ℕ → Keys
removed_keys w log t k = walked (end_of w log) (length log) (gather_turn log t k) (record { words = []; count = 0 })

-- the same in words that are lent for the keys: one more is stored past those that are there
abbrev pub store_key : List ℕ → ℕ → Keys → Keys
store_key key k s = record { words = paste s.words (s.count * k) key (length key); count = s.count + 1 }

abbrev pub store_turn : List ℕ → ℕ → ℕ → ℕ → Keys → Keys
store_turn log t k p s = when (is_removal log t p) (store_key (part log (p + 2) k) k) s

-- the keys at the front of the words lent for them, the rest as it was
abbrev pub laid_onto : List ℕ → Keys → Keys
laid_onto gone s = record { words = onto gone s.words; count = s.count }

-- what the commit of table t leaves of these words
abbrev pub gone_after : List ℕ → List ℕ → ℕ → List ℕ → List ℕ
gone_after w log t gone = onto gone (removed_keys w log t (info_of w t).keys).words

-- the table whose rows are n keys of k words; whether a row was found there
abbrev pub key_table : ℕ → ℕ → TableInfo
key_table k n = record { keys = k; width = k; merge = 0; rows = n; at = 0 }

abbrev pub is_there : Option ℕ → Bool
is_there (Some p) = true
is_there None = false
