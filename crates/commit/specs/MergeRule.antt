-- What a table's rule makes of a value and a new one.
use Rattle.std.specs.Prelude.{ℕ, List, [], ◌∷◌, min, max}
use Rattle.commit.specs.declared.merge.MergeRule.{MergeRule}
use Rattle.commit.specs.declared.merge.MergeRule.TheVariants.{Old, New, Smaller, Larger}

abbrev pub merge_by : MergeRule → ℕ → ℕ → ℕ
merge_by Old old new = old
merge_by New old new = new
merge_by Smaller old new = min old new
merge_by Larger old new = max old new

-- old values, each by a rule with the new one at its place
abbrev pub merged : (ℕ → ℕ → ℕ) → List ℕ → List ℕ → List ℕ
merged f [] new = []
merged f (a ∷ old) [] = a ∷ old
merged f (a ∷ old) (b ∷ new) = f a b ∷ merged f old new
