-- `fill` leaves the first of N marks set, as many as n (`marks_below`).
use Rattle.std.proofs.Common.{rules}
use Rattle.words.proofs.Marks.{marks_below}
use Rattle.mask.proofs.first_marks.Goals as goal

pub returns : goal.returns
returns g c = marks_below c.args.n g.row.N _ _ c.min.ensures (search rules)
