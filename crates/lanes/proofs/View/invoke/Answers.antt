use Rattle.std.proofs.Common.{ap, ◌∙◌}
use Rattle.model.specs.Machine.Functions.{apply}
use Rattle.lanes.specs.Lanes.{asked}
use Rattle.lanes.specs.LaneLaws.{listed_words}
use Rattle.lanes.proofs.View.invoke.Goals as goal

pub returns : goal.returns
unfolding asked
returns c =
    let a = c.args in
    c.invoke.ensures ∙ ap (apply a.func.0) (listed_words a.self.words.now a.self.bindings.now a.lane.0 a.args _ _ c.fetch_into.ensures)
