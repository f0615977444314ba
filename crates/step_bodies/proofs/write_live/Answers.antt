-- The flags are stored in the lanes' words (`stored`).
use Rattle.std.proofs.Common.{◌≡◌, ℕ, false, get_or, refl, sym, arith, rules}
use Rattle.model.specs.Basics.{tab}
use Rattle.model.specs.Laws.Lists.{length_tab}
use Rattle.model.specs.Answer.{flag}
use Rattle.step_bodies.specs.Page.{stored}
use Rattle.step_bodies.proofs.write_live.Goals as goal

pub returns : goal.returns
returns c =
    let a = c.args in
    let n = a.lanes in
    let f : ℕ → ℕ = λ (i : ℕ). flag (get_or a.mask.live i false) in
    let e : c.write_flags.new.words ≡ tab f n = search rules in
    let long = length_tab f n in
    record { same_words = refl; words = rw e (stored a.page.now (tab f n) n _ (omega arith) (sym long) c.requires.1); at = rw long refl }
