-- What is copied is the part as far as it is there, to the front of 16 zeros (`copied`).
use Rattle.std.proofs.Common.{◌≡◌, ℕ, ◌+◌, List, ◌++◌, length, drop, replicate, refl, ap, ◌∙◌, arith}
use Rattle.std.proofs.lemmas.List.Edits.{paste_all}
use Rattle.args.specs.Args.{words_at}
use Rattle.args.proofs.Copied.{copied}
use Rattle.args.proofs.words_at.Goals as goal

pub returns : goal.returns
unfolding words_at
returns c =
    let a = c.args in
    let there = c.part-there.result.now in
    let front : 0 + length there ≡ length there = omega arith in
    ap (λ (x : List ℕ). record { vals = x; count = a.n }) (c.copy.ensures ∙ paste_all (replicate 16 0) 0 there (length there) refl ∙ ap (λ (k : ℕ). there ++ drop k (replicate 16 0)) front ∙ copied a.words.now a.at a.n 16 there there c.requires.0 refl c.part-there.ensures)
