use Rattle.std.proofs.Common.{◌∷◌, ◌∙◌, ℕ, ap}
use Rattle.step_bodies.specs.StepLaws.{flag_word}
use Rattle.step_bodies.specs.Page.{appends_is, appends_more}
use Rattle.answer.proofs.bodies.write_log.Goals as goal

pub returns : goal.returns
returns c =
    let a = c.args in
    appends_is (ap (λ (x : ℕ). x ∷ a.log.now) (c.from.ensures ∙ flag_word a.changed)) (appends_more c.push.ensures c.write.ensures)
