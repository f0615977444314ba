-- What a run may suppose of the words lent for the log and the index.
use Rattle.std.specs.Prelude.{ℕ, ◌≤◌, ◌≡◌, List, length}

pub record Ready (log index : List ℕ) : Type 0 where
  pub short : length log ≤ 16384
  pub slots : length index ≡ 8192
