-- The rows of all tables of a book in one index.
use Rattle.std.specs.Prelude.{◌≡◌, ℕ, ◌+◌, ◌≤◌, List, replicate, Option, IfSome}
use Rattle.model.specs.Basics.{iter}
use Rattle.tables.specs.Tables.{info_of}
use Rattle.hash_index.specs.Index.{rows_added}

-- how many rows the first n tables have
unfoldable pub rows_before : List ℕ → ℕ → ℕ
rows_before w n = iter (λ t rows. rows + (info_of w t).rows) n 0

-- the rows of the first n tables
unfoldable pub book_indexed : List ℕ → ℕ → List ℕ
book_indexed w n = iter (λ t. rows_added w (info_of w t) (rows_before w t) (info_of w t).rows) n (replicate 18432 0)

-- their index, if there is one
abbrev pub BookIndex : List ℕ → ℕ → Option (List ℕ) → Type 0
BookIndex w n index = IfSome index (λ x. (rows_before w n ≤ 16384) × (x ≡ book_indexed w n))
