-- What `fold` gives is the table's number and the key's words folded (`folded_is`), and its high 13 bits are below 8192 (`home_below`).
use Rattle.std.proofs.Common.{◌≡◌, ℕ, ◌/◌, ◌∷◌, ap, ◌∙◌, rules}
use Rattle.std.specs.List.{fold}
use Rattle.hash_index.specs.Fold.{mixed, folded}
use Rattle.hash_index.specs.FoldLaws.{folded_is}
use Rattle.predicted_index.specs.Home.{home_of}
use Rattle.predicted_index.specs.HomeLaws.{home_below}
use Rattle.predicted_index.proofs.home_of.Goals as goal

pub returns : goal.returns
unfolding home_of folded
returns c =
    let a = c.args in
    let h : c.fold-h.result ≡ fold mixed c.mix.result a.key.now = search rules in
    let f : c.fold-h.result ≡ folded 0 (a.table.0 ∷ a.key.now) = h ∙ folded_is c.mix.result a.key.now ∙ rw c.mix.ensures in
    let e : c.fold-h.result / 524288 ≡ home_of a.table.0 a.key.now = ap (λ (x : ℕ). x / 524288) f in
    (e, rw e (home_below a.table.0 a.key.now))
