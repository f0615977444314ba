-- By the reading: what it refuses is the whole (`words_stop`); if it passes, `check_book` is the whole (`words_on`).
use Rattle.std.proofs.Common.{◌≡◌, ◌∙◌}
use Rattle.std.specs.Prelude.{Some}
use Rattle.refusal.specs.Refusal.{told, refusal_of, handed_on}
use Rattle.rules.specs.RuleLaws.{words_stop, words_on}
use Rattle.rules.proofs.first_refusal.Goals as goal

pub returns-in_err-read : goal.returns-in_err-read
returns-in_err-read c =
    let h : refusal_of c.from_residual.result ≡ Some (told c.in_err-read.field-0.0) = handed_on _ _ c.from_residual.ensures.1 in
    h ∙ words_stop c.args.words.now _ c.in_err-read.ensures

pub returns : goal.returns
returns c = c.check_book.ensures ∙ words_on c.args.words.now c.in_ok-read.ensures
