use Rattle.std.specs.Prelude.{ℕ, List}
use Rattle.std.proofs.Common.{ap, ◌∙◌}
use Rattle.std.proofs.lemmas.List.{length-replicate}
use Rattle.model.specs.Printed.{printed}
use Rattle.model.specs.Claims.Cases.{dispatch_lends}
use Rattle.report.specs.Text.{text}
use Rattle.session.proofs.Known.{of_known, at_ok, cut_lem}
use Rattle.session.proofs.serve.Goals as goal

pub returns : goal.returns
returns g c =
    let r = c.read_all in
    let n = c.in_ok-n.n in
    of_known c.answer_book.result (g.R.Read.remaining c.args.input.now) _ _ (λ (book : List ℕ). text (printed dispatch_lends book)) r.new.buffer n 65537 (r.auto.buffer ∙ length-replicate {A = ℕ} 65537 0) (λ book. ap text (cut_lem book)) (at_ok _ _ _ r.result n c.in_ok-n.ensures.cases c.in_ok-n.ensures.variant r.ensures.bytes) c.answer_book.ensures
