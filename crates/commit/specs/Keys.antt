-- Where keys of removals have room.
use Rattle.std.specs.Prelude.{ℕ, ◌+◌, ◌*◌, ◌≤◌}

-- so many keys, each of `width` words and with two words besides it, have room in n words, which are not too many
pub record Room (width count n : ℕ) : Type 0 where
  pub fits : count * width + 2 * count ≤ n
  pub few : n ≤ 16384

-- the same in n words that may be more than that: the keys are not too many
pub record KeyRoom (width count n : ℕ) : Type 0 where
  pub fits : count * width + 2 * count ≤ n
  pub few : count * width + 2 * count ≤ 16384
