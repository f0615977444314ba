use Rattle.step_bodies.specs.Page.{appends_more}
use Rattle.answer.proofs.entries.write_entry.Goals as goal

pub returns : goal.returns
returns c = rw c.from.ensures at (appends_more (appends_more c.push.ensures c.push-2.ensures) c.push-3.ensures)
