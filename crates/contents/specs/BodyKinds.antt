-- The numbers of the kinds of an answer's bodies. What the code leans on is in BodyKindLaws.
use Rattle.std.specs.Prelude.{ℕ, cond, eqb, Option, None, Some}
use Rattle.contents.specs.declared.kinds.BodyKind.{BodyKind}
use Rattle.contents.specs.declared.kinds.BodyKind.TheVariants.{Table, Counter, Batch, Prediction, Log}

-- the number of a kind
abbrev pub kind_number : BodyKind → ℕ
kind_number Table = 1
kind_number Counter = 2
kind_number Batch = 6
kind_number Prediction = 7
kind_number Log = 8

-- the kind of a number
abbrev pub kind_by : ℕ → Option BodyKind
kind_by n =
    cond (eqb n 1) (Some Table)
    (cond (eqb n 2) (Some Counter)
    (cond (eqb n 6) (Some Batch)
    (cond (eqb n 7) (Some Prediction)
    (cond (eqb n 8) (Some Log) None))))
