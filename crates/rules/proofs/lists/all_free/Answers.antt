use mathlib.Core.Path.{refl, ◌∙◌}
use Prim.Native.Nat.{◌+◌, ◌*◌}
use native.Mathlib.Omega.{arith}
use borrow.Author.Rules.{rules}
use Rattle.std.proofs.lemmas.Iterator.{YieldsList-from_range}
use Rattle.std.proofs.lemmas.Iterator.Search.{all_from_yields_List}
use Rattle.model.specs.Book.Decode as decode
use Rattle.model.specs.Check.{free?}
use Rattle.instr.specs.InstrLaws.{entry_at_lem}
use Rattle.rules.specs.TestLaws.{entries_all}
use Rattle.rules.proofs.lists.all_free.Goals as goal

pub returns : goal.returns
returns c =
    let a = c.args in
    let w = a.words.now in
    all_from_yields_List (λ k. free? (a.dst.0, decode.entry_at w (a.list.at + 2 * k))) _ _ c.all.result c.all.ensures.ran (YieldsList-from_range 0 a.list.count a.list.count refl (omega arith)) (λ x b q k. search (rules, entry_at_lem))
    ∙ entries_all w a.list (λ e. free? (a.dst.0, e))
