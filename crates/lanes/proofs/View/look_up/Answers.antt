-- The key's words are those of the list (by definition), and the row that is sought in an empty log is what is asked.
use Rattle.std.proofs.Common.{◌∙◌}
use Rattle.bindings.specs.Columns.{fetched}
use Rattle.lanes.specs.Lanes.{asked}
use Rattle.lanes.proofs.View.look_up.Goals as goal

pub returns : goal.returns
unfolding asked fetched
returns c = c.column.ensures ∙ rw (c.row_of-row.ensures, c.fetch_into.ensures)
