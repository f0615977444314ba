-- What it is for an index to be right for the records of a log, whatever home each key has.
use Rattle.std.specs.Prelude.{ℕ, zero, suc, ◌+◌, ◌<◌, ◌≤◌, ◌≡◌, List, [], ◌∷◌, eqb, length, get_or, take, Some, slice_get}
use Rattle.model.specs.Basics.{first, All}
use Rattle.model.specs.Machine.State.{Record}
use Rattle.model.specs.Machine.Values.{predicted_rows}
use Rattle.model.specs.Answer.{flag}
use Rattle.record_log.specs.Log.{place_of}
use Rattle.predicted_index.specs.Index.{Chain}

-- how many slots are busy
abbrev pub one_if_busy : ℕ → ℕ
one_if_busy zero = 0
one_if_busy (suc n) = 1

unfoldable pub busy_count : List ℕ → ℕ
busy_count [] = 0
busy_count (x ∷ l) = one_if_busy x + busy_count l

-- how many records are predicted rows
unfoldable pub predicted_count : List Record → ℕ
predicted_count [] = 0
predicted_count (r ∷ rs) = flag (eqb r.kind 2) + predicted_count rs

-- a record that is a predicted row, with its place plus 1
pub record Stored (records : List Record) (v : ℕ) : Type 0 where
  pub index : ℕ
  pub row : Record
  pub is : slice_get records index ≡ Some row
  pub kind : row.kind ≡ 2
  pub place : v ≡ place_of records index + 1

-- keys_of t: the key count of table t
module _ (keys_of : ℕ → ℕ) where
  -- a predicted row has a word, and a whole key
  pub record Whole (r : Record) : Type 0 where
    pub word : r.kind ≡ 2 → 0 < length r.words
    pub key : r.kind ≡ 2 → keys_of r.table ≤ length r.words

  -- the model's predicted row of a key: the record at the place p
  pub record RowAt (records : List Record) (t : ℕ) (key : List ℕ) (p : ℕ) : Type 0 where
    pub index : ℕ
    pub row : Record
    pub is : slice_get records index ≡ Some row
    pub kind : row.kind ≡ 2
    pub table : row.table ≡ t
    pub place : p ≡ place_of records index
    pub first_row : first (predicted_rows (keys_of t) t key records) ≡ Some row.words

-- home t key: the slot from which a key of table t is looked for
module _ (home : ℕ → List ℕ → ℕ) (keys_of : ℕ → ℕ) where
  abbrev pub home_of_row : Record → ℕ
  home_of_row r = home r.table (take (keys_of r.table) r.words)

  pub record IndexOk (ix : List ℕ) (records : List Record) : Type 0 where
    pub size : length ix ≡ 8192
    pub whole : All (Whole keys_of) records
    -- one row at most for each table and key
    pub once : (t : ℕ) (key : List ℕ) → length (predicted_rows (keys_of t) t key records) ≤ 1
    -- a busy slot stands for a predicted row, and each of these is reached from its home
    pub stored : (s : ℕ) → (get_or ix s 0 ≡ 0 → ⊥) → Stored records (get_or ix s 0)
    pub reached : (n : ℕ) (r : Record) → slice_get records n ≡ Some r → r.kind ≡ 2 → (j : ℕ) × Chain ix (home_of_row r) (place_of records n + 1) j
    pub busy : busy_count ix ≡ predicted_count records
