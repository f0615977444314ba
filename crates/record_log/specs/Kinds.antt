-- The kinds of records, by number.
use Rattle.std.specs.Prelude.{ℕ}
use Rattle.record_log.specs.declared.RecordKind.{RecordKind}
use Rattle.record_log.specs.declared.RecordKind.TheVariants.{Insert, Remove, Predicted}

abbrev pub number_of : RecordKind → ℕ
number_of Insert = 0
number_of Remove = 1
number_of Predicted = 2
