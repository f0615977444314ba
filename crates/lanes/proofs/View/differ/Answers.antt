use Rattle.std.proofs.Common.{ap, ◌∙◌, List, ℕ, take, drop}
use Rattle.model.specs.Machine.Steps.{any_ne}
use Rattle.lanes.specs.Lanes.{holds}
use Rattle.lanes.specs.LaneLaws.{listed_words}
use Rattle.lanes.proofs.View.differ.Goals as goal

pub returns : goal.returns
unfolding holds
returns c =
    let a = c.args in
    c.any_ne.ensures ∙ ap (λ (x : List ℕ). any_ne (take a.divider x) (drop a.divider x)) (listed_words a.self.words.now a.self.bindings.now a.lane.0 a.ops _ _ c.fetch_into.ensures)
