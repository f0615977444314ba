-- By the test: without room nothing is written (`places_out`); with room flag and row are put there (`appends_more`, `places_fit`).
use Rattle.std.proofs.Common.{◌∷◌, ℕ, ap, ◌∙◌, arith}
use Rattle.step_bodies.specs.StepLaws.{flag_word}
use Rattle.step_bodies.specs.Page.{places_out, places_fit, appends_is, appends_more}
use Rattle.step_bodies.proofs.write_prediction.Goals as goal

pub returns-then-page-end : goal.returns-then-page-end
returns-then-page-end c = places_out (omega arith) c.if-page-end.true

pub returns : goal.returns
returns c =
    let a = c.args in
    let e = c.from.ensures ∙ flag_word a.made in
    places_fit (omega arith) (appends_is (ap (λ (x : ℕ). x ∷ a.row.now) e) (appends_more c.push.ensures c.write.ensures))
