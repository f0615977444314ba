-- What the numbers of kinds stand for, and the numbers of groups.
use Rattle.std.specs.Prelude.{ℕ, zero, suc, Option, None, Some}
use Rattle.contents.specs.declared.kinds.Kind.{Kind}
use Rattle.contents.specs.declared.kinds.Kind.TheVariants.{Table, Counter, Rule, Batch, Prediction}
use Rattle.contents.specs.declared.kinds.KindGroup.{KindGroup}
use Rattle.contents.specs.declared.kinds.KindGroup.TheVariants.{Tables, Counters, Rules, Steps}

-- the kind of a number
abbrev pub kind_by : ℕ → Option Kind
kind_by zero = None
kind_by (suc zero) = Some Table
kind_by (suc (suc zero)) = Some Counter
kind_by (suc (suc (suc zero))) = Some Rule
kind_by (suc (suc (suc (suc zero)))) = Some Batch
kind_by (suc (suc (suc (suc (suc zero))))) = Some Prediction
kind_by (suc (suc (suc (suc (suc (suc n)))))) = None

-- the number of a kind
abbrev pub kind_number : Kind → ℕ
kind_number Table = 1
kind_number Counter = 2
kind_number Rule = 3
kind_number Batch = 4
kind_number Prediction = 5

-- the group of a kind
abbrev pub group_by : Kind → KindGroup
group_by Table = Tables
group_by Counter = Counters
group_by Rule = Rules
group_by Batch = Steps
group_by Prediction = Steps

-- the number of a group, and of none
abbrev pub group_number : KindGroup → ℕ
group_number Tables = 1
group_number Counters = 2
group_number Rules = 3
group_number Steps = 4

abbrev pub number_of : Option KindGroup → ℕ
number_of None = 0
number_of (Some g) = group_number g
