-- Each kind of an answer's bodies has one number, and is the kind of that number alone.
use Rattle.std.specs.Prelude.{ℕ, ◌≡◌, false, eqb, None, Some}
use Rattle.std.proofs.Common.{refl, sym, ap, ◌∙◌, arith, ne_eqb}
use Rattle.model.specs.Laws.Logic.{none_some, some_inj}
use Rattle.std.proofs.lemmas.Bool.Decides.{nat_tests}
use Rattle.contents.specs.declared.kinds.BodyKind.{BodyKind}
use Rattle.contents.specs.declared.kinds.BodyKind.TheVariants.{Table, Counter, Batch, Prediction, Log}
use Rattle.contents.specs.BodyKinds.{kind_by, kind_number}

pub kind_of_number : (k : BodyKind) → kind_by (kind_number k) ≡ Some k
kind_of_number Table = refl
kind_of_number Counter = refl
kind_of_number Batch = refl
kind_of_number Prediction = refl
kind_of_number Log = refl

pub number_of_kind : (n : ℕ) (k : BodyKind) → kind_by n ≡ Some k → n ≡ kind_number k
number_of_kind n Table e = grind (arith, nat_tests)
number_of_kind n Counter e = grind (arith, nat_tests)
number_of_kind n Batch e = grind (arith, nat_tests)
number_of_kind n Prediction e = grind (arith, nat_tests)
number_of_kind n Log e = grind (arith, nat_tests)

-- the number of one kind is not another's, and what is of no kind is no kind's number
module _ (n : ℕ) where
  pub other_number : (k l : BodyKind) → kind_by n ≡ Some k → (k ≡ l → ⊥) → eqb n (kind_number l) ≡ false
  other_number k l e o = ne_eqb n (kind_number l) (λ q. o (some_inj (sym e ∙ ap kind_by q ∙ kind_of_number l)))

  pub no_number : kind_by n ≡ None → (l : BodyKind) → eqb n (kind_number l) ≡ false
  no_number e l = ne_eqb n (kind_number l) (λ q. none_some (sym e ∙ ap kind_by q ∙ kind_of_number l))
