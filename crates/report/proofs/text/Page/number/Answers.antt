use Rattle.std.proofs.Common.{arith, ap, ◌∙◌, ◌∷◌, ◌≤◌}
use Rattle.report.specs.TextLaws.{decimal_is, few_digits}
use Rattle.report.specs.Page.{appends_more, appends_is}
use Rattle.report.proofs.text.Page.number.Goals as goal

pub returns : goal.returns
returns c =
    let d = c.decimal-k in
    let few : d.result ≤ 20 = few_digits d.result c.args.n d.ensures.len (omega arith) in
    appends_is (ap (λ l. 32 ∷ l) (d.ensures.digits ∙ decimal_is 20 d.result c.args.n d.ensures.len few)) (appends_more c.append.ensures c.append-2.ensures)
