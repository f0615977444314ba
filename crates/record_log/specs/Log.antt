-- A record is appended to the words of the log; and the words of a log that holds given records.
use Rattle.std.specs.Prelude.{ℕ, ◌+◌, ◌-◌, cond, List, ◌∷◌, ◌++◌, map, leb, length, get_or, take, replicate, Option, Some, None}
use Rattle.std.proofs.lemmas.List.Edits.{sets}
use Rattle.model.specs.Basics.{tab, join}
use Rattle.model.specs.Machine.State.{Record, log_words}
use Rattle.model.specs.Answer.{record_words}

-- a record of the first n words of an array
abbrev pub record_of : ℕ → ℕ → List ℕ → ℕ → List ℕ
record_of kind table row n = kind ∷ table ∷ tab (λ i. get_or row i 0) n

-- the words r of a record go past the `used` words, where they have room: how many are used then, and the log
unfoldable pub appended : List ℕ → ℕ → List ℕ → Option ℕ
appended log used r = cond (leb (used + length r) (length log)) (Some (used + length r)) None

unfoldable pub stored : List ℕ → ℕ → List ℕ → List ℕ
stored log used r = cond (leb (used + length r) (length log)) (sets log used r) log

-- ## A log of L words that holds records

unfoldable pub log_of : List Record → ℕ → List ℕ
log_of records L = join (map record_words records) ++ replicate (L - log_words records) 0

-- the word at which record n begins
unfoldable pub place_of : List Record → ℕ → ℕ
place_of records n = log_words (take n records)
