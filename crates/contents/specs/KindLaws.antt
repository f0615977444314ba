-- Which number a kind has.
use Rattle.std.specs.Prelude.{ℕ, zero, suc, ◌<◌, ◌≡◌, None, Some}
use Rattle.std.proofs.Math.Path.{refl, sym, ap}
use native.Mathlib.Omega.{arith}
use Rattle.model.specs.Laws.Logic.{none_some, some_inj}
use Rattle.contents.specs.declared.kinds.Kind.{Kind}
use Rattle.contents.specs.declared.kinds.Kind.TheVariants.{Table, Counter, Rule, Batch, Prediction}
use Rattle.contents.specs.Kinds.{kind_by, kind_number}

pub kind_of_number : (k : Kind) → kind_by (kind_number k) ≡ Some k
kind_of_number Table = refl
kind_of_number Counter = refl
kind_of_number Rule = refl
kind_of_number Batch = refl
kind_of_number Prediction = refl

pub number_of_kind : (n : ℕ) (k : Kind) → kind_by n ≡ Some k → n ≡ kind_number k
number_of_kind zero k e = absurd (none_some e)
number_of_kind (suc zero) k e = ap kind_number (some_inj e)
number_of_kind (suc (suc zero)) k e = ap kind_number (some_inj e)
number_of_kind (suc (suc (suc zero))) k e = ap kind_number (some_inj e)
number_of_kind (suc (suc (suc (suc zero)))) k e = ap kind_number (some_inj e)
number_of_kind (suc (suc (suc (suc (suc zero))))) k e = ap kind_number (some_inj e)
number_of_kind (suc (suc (suc (suc (suc (suc n)))))) k e = absurd (none_some e)

-- what is of no kind is 0 or past 5
pub no_kind : (n : ℕ) → kind_by n ≡ None → 0 < n → 5 < n
no_kind zero e l = absurd (omega arith)
no_kind (suc zero) e l = absurd (none_some (sym e))
no_kind (suc (suc zero)) e l = absurd (none_some (sym e))
no_kind (suc (suc (suc zero))) e l = absurd (none_some (sym e))
no_kind (suc (suc (suc (suc zero)))) e l = absurd (none_some (sym e))
no_kind (suc (suc (suc (suc (suc zero))))) e l = absurd (none_some (sym e))
no_kind (suc (suc (suc (suc (suc (suc n)))))) e l = omega arith

module _ (n : ℕ) where
  pub is_table : kind_by n ≡ Some Table → n ≡ 1
  is_table = number_of_kind n Table

  pub is_batch : kind_by n ≡ Some Batch → n ≡ 4
  is_batch = number_of_kind n Batch

  pub is_prediction : kind_by n ≡ Some Prediction → n ≡ 5
  is_prediction = number_of_kind n Prediction
