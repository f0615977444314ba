-- What the code answers of the contents.
use Rattle.std.specs.Prelude.{ℕ, ◌≡◌, List}
use Rattle.model.specs.Book.Contents.{table_count, counter_count, rule_count, step_count}
use Rattle.contents.specs.declared.Contents.{Contents}

-- c are the contents of the words w
pub record ContentsOf (w : List ℕ) (c : Contents) : Type 0 where
  pub tables : c.tables ≡ table_count w
  pub counters : c.counters ≡ counter_count w
  pub rules : c.rules ≡ rule_count w
  pub steps : c.steps ≡ step_count w
