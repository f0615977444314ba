-- What an attempt to append leaves of a log.
use Rattle.std.specs.Prelude.{◌≡◌, Bool, false, cond, List, ℕ, length, Some, None}
use Rattle.record_log.specs.Log.{appended, stored}
use Rattle.record_log.specs.declared.Log.{Log}

-- the same words are lent, and as many, whatever they hold
pub record SameLog (a b : Log) : Type 0 where
  pub words : b.words.ghost_name ≡ a.words.ghost_name
  pub size : length b.words.now ≡ length a.words.now

-- b is a with the words r of a record past those that were used, if they had room
pub record Appends (a : Log) (r : List ℕ) (fits : Bool) (b : Log) : Type 0 where
  pub same : SameLog a b
  pub answer : cond fits (Some b.used) None ≡ appended a.words.now a.used r
  pub unused : fits ≡ false → b.used ≡ a.used
  pub words : b.words.now ≡ stored a.words.now a.used r
