-- Where a table, one of its rows, and a body stand, as earlier tests have shown it.
use Rattle.std.specs.Prelude.{ℕ, ◌<◌, ◌≡◌, List, None}
use Rattle.model.specs.Basics.{tab}
use Rattle.model.specs.Book.Contents.{count, contents_refusal}
use Rattle.model.specs.Book.Scan.{Sizes}
use Rattle.model.specs.Book.Decode.{part}
use Rattle.model.specs.Book.Read.{sizes}
use Rattle.tables.specs.declared.TableInfo.{TableInfo}
use Rattle.tables.specs.Tables.{row_at}

-- the rows, as the model has them
abbrev pub rows_of : List ℕ → TableInfo → List (List ℕ)
rows_of w t = tab (λ i. part w (row_at t i) t.width) t.rows

-- its row i begins at `own`
pub record RowAt (t : TableInfo) (i own : ℕ) : Type 0 where
  pub below : i < t.rows
  pub is_own : own ≡ row_at t i

-- body i of a book whose contents pass
pub record BodyAt (w : List ℕ) (z : Sizes) (i : ℕ) : Type 0 where
  pub contents : contents_refusal w ≡ None
  pub below : i < count w
  pub is_sizes : z ≡ sizes w
