-- The tables of a book that draws none of refusals 2 to 6, as they stand in its words.
use Rattle.std.specs.Prelude.{ℕ, ◌<◌, ◌≤◌, ◌≡◌, List, None}
use Rattle.std.proofs.Common.{arith}
use Rattle.model.specs.Basics.{All}
use Rattle.model.specs.Book.Contents.{count, first_of, end_of, contents_refusal, table_count}
use Rattle.model.specs.Book.Decode.{row_place, read_table}
use Rattle.model.specs.Book.Read.{sizes, bodies_refusal}
use Rattle.model.specs.Laws.Lists.{all_tab}
use Rattle.model.specs.Laws.Contents.{contents_ok, members_most}
use Rattle.model.specs.Laws.Bodies.{length_part}
use Rattle.model.specs.Laws.Kinds.{table_read}
use Rattle.tables.specs.Tables.{info_at, info_of, RowsStand}
use Rattle.tables.specs.TablesLaws.{stands, row_within}
use Rattle.commit.specs.Laid.{Wide}

pub rows_wide : (w : List ℕ) (b : ℕ) → RowsStand w (info_at w b) → All (Wide (info_at w b).width) (read_table w b).rows
unfolding read_table
rows_wide w b r = all_tab _ _ _ (λ i h. length_part w (row_place w b i) (info_at w b).width (omega (arith, row_within i (info_at w b).rows (info_at w b).width h, r.stands.rows)))

module _ (w : List ℕ) (no_contents : contents_refusal w ≡ None) (no_bodies : bodies_refusal w ≡ None) where
  pub ready_table : (t : ℕ) → t < table_count w → RowsStand w (info_of w t)
  ready_table t h =
      let r = table_read w no_contents no_bodies t h in
      record { stands = stands w (first_of w t) (sizes w) (end_of w t) r.1 r.0.within; some = r.1.sum }

  pub few_tables : table_count w ≤ 16
  few_tables = members_most w (contents_ok w no_contents) 1 (count w) (omega arith)
