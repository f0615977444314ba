-- The chain counts the entries of the group, of all n: by induction over the first of them that is `members` (`counted`).
use Rattle.std.proofs.Common.{ℕ, Bool, eqb, ◌∙◌, arith, rules, tests}
use Rattle.std.proofs.lemmas.Iterator.{YieldsList-from_range}
use Rattle.std.proofs.lemmas.Iterator.Consumers.{YieldsList-from_filter, count_from_yields_List}
use Rattle.model.specs.Book.Contents.{group_of}
use Rattle.contents.specs.Kinds.{group_number}
use Rattle.contents.specs.ContentsLaws.{counted}
use Rattle.contents.proofs.members.Goals as goal

pub returns : goal.returns
returns c =
    let a = c.args in
    let test : ℕ → Bool = λ i. eqb (group_of a.words.now i) (group_number a.g) in
    count_from_yields_List c.filter.result _ c.count.ensures.ran (YieldsList-from_filter _ test (YieldsList-from_range 0 a.n a.n (cc) (omega arith)) c.filter.ensures.closure (λ x r q k. search (rules, tests)))
    ∙ counted a.words.now (group_number a.g) a.n
