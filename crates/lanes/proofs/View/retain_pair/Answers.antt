-- An array of all of the bindings has their words (`same`).
use Rattle.std.proofs.Common.{ℕ, List, Bool, ap, ◌∙◌, rules}
use Rattle.bindings.specs.Columns.{word_of}
use Rattle.instr.specs.Meaning.{entry_of}
use Rattle.lanes.specs.Lanes.{kept}
use Rattle.lanes.proofs.View.retain_pair.Goals as goal

pub returns-in-Some : goal.returns-in-Some
returns-in-Some g c test p =
    let a = c.args in
    let on : List ℕ → ℕ → Bool = λ m i. test (word_of m i (entry_of a.l)) (word_of m i (entry_of a.r)) in
    c.retain_by.ensures (on c.in-Some.columns.now) (search rules) ∙ ap (λ (m : List ℕ). kept (on m) a.mask.live) c.in-Some.ensures.cases.same
