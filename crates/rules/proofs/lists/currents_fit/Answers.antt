use mathlib.Core.Path.{refl, ◌∙◌}
use Prim.Native.Nat.{◌+◌, ◌*◌}
use native.Mathlib.Omega.{arith}
use borrow.Author.Rules.{rules}
use Rattle.std.proofs.lemmas.Iterator.{YieldsList-from_range}
use Rattle.std.proofs.lemmas.Iterator.Search.{all_from_yields_List}
use Rattle.model.specs.Book.Decode as decode
use Rattle.instr.specs.InstrLaws.{write_at_lem}
use Rattle.rules.specs.Rules.{current_fits}
use Rattle.rules.specs.TestLaws.{currents_all}
use Rattle.rules.proofs.lists.currents_fit.Goals as goal

pub returns : goal.returns
returns c =
    let a = c.args in
    let w = a.words.now in
    all_from_yields_List (λ k. current_fits (a.n + k) (decode.write_at w (a.list.at + 2 * k))) _ _ c.all.result c.all.ensures.ran (YieldsList-from_range 0 a.list.count a.list.count refl (omega arith)) (λ x b q k. search (rules, write_at_lem))
    ∙ currents_all w a.list a.n
