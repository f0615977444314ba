use Rattle.std.proofs.Common.{sym}
use Rattle.model.specs.Printed.{refused}
use Rattle.report.specs.Text.{line_bytes}
use Rattle.report.specs.TextLaws.{text_one}
use Rattle.report.specs.Page.{appends_more, appends_is}
use Rattle.report.proofs.refused.Goals as goal

pub returns : goal.returns
unfolding line_bytes
returns c =
    let all = rw c.from.ensures at (appends_more (appends_more (appends_more (appends_more c.append.ensures c.number.ensures) c.append-2.ensures) c.number-2.ensures) c.append-3.ensures) in
    appends_is (sym (text_one (refused c.args.number c.args.place))) all
