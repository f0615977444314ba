use Rattle.reader.specs.BodyLaws.{finish_is}
use mathlib.Core.Path.{sym, ◌∙◌}
use Rattle.reader.proofs.scan.Body.finish.Goals as goal

pub returns : goal.returns
returns c = c.left.ensures ∙ sym (finish_is _ _)
