use Rattle.std.proofs.Common.{arith, rules}
use Rattle.session.specs.Response.{held, lines_whole}
use Rattle.session.proofs.respond.Goals as goal

pub returns : goal.returns
returns c =
    let r = c.run-outcome in
    let l = c.lines in
    let page = l.new.page in
    let whole = lines_whole c.args.book.now (λ i. omega (arith, c.type_inv.book i)) r.result r.new.answer l.ensures.words r.ensures.outcome r.ensures.answer c.args.out.now page.out.now page.at c.requires l.ensures.text.bytes in
    record {
      text = held page.out.now (search (rules, l.ensures.text.same_buffer)) whole.0;
      size = (whole.1, whole.2);
    }
