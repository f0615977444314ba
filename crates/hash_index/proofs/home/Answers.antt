-- What `fold` gives is the key folded (`folded_is`), and its high 10 bits are below 1024 (`home_below`).
use Rattle.std.proofs.Common.{◌≡◌, ℕ, ◌/◌, ap, ◌∙◌, rules}
use Rattle.std.specs.List.{fold}
use Rattle.hash_index.specs.Fold.{mixed}
use Rattle.hash_index.specs.FoldLaws.{folded_is}
use Rattle.hash_index.specs.Index.{home_of}
use Rattle.hash_index.specs.SearchLaws.{home_below}
use Rattle.hash_index.proofs.home.Goals as goal

pub returns : goal.returns
unfolding home_of
returns c =
    let key = c.args.key.now in
    let h : c.fold-h.result ≡ fold mixed 0 key = search rules in
    let e : c.fold-h.result / 4194304 ≡ home_of key = ap (λ (x : ℕ). x / 4194304) (h ∙ folded_is 0 key) in
    (e, rw e (home_below key))
