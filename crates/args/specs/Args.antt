-- A short list as the list that the model has, with a word more, and as it is copied from words.
use Rattle.std.specs.Prelude.{ℕ, ◌+◌, cond, List, ltb, get_or, set, take, replicate}
use Rattle.words.specs.Filled.{filled}
use Rattle.args.specs.declared.Args.{Args}

abbrev pub as_list : Args → List ℕ
as_list a = take a.count a.vals

unfoldable pub pushed : Args → ℕ → Args
pushed a x = cond (ltb a.count 16) (record { vals = set a.vals a.count x; count = a.count + 1 }) a

-- n words from the word `at` on
unfoldable pub words_at : List ℕ → ℕ → ℕ → Args
words_at w at n = record { vals = filled (λ i. get_or w (at + i) 0) n (replicate 16 0); count = n }
