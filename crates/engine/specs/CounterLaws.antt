-- The book's counters, as they are copied into an array of 16.
use Rattle.std.specs.Prelude.{ℕ, ◌+◌, ◌≡◌, List, get_or, replicate}
use Rattle.std.proofs.Common.{◌∙◌}
use Rattle.model.specs.Book.Contents.{first_of, table_count, counter_count}
use Rattle.model.specs.Book.Decode.{read_counter}
use Rattle.model.specs.Book.Read.{counters}
use Rattle.model.specs.Laws.Lists.{length_tab}
use Rattle.words.specs.Filled.{filled}
use Rattle.counter.specs.CounterLaws.{padded}
use Rattle.answer.specs.AssembledLaws.{drop_zeros}

pub counters_filled : (w next : List ℕ) (t n : ℕ) → next ≡ filled (λ k. get_or w (first_of w (t + k)) 0) n (replicate 16 0) → t ≡ table_count w → n ≡ counter_count w → next ≡ padded (counters w)
unfolding padded counters read_counter
counters_filled w next t n e q m = e ∙ rw (q, m, drop_zeros (counter_count w) 16, length_tab (λ c. get_or w (first_of w (table_count w + c)) 0) (counter_count w))
