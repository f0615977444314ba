-- Which variables are bound.
use Rattle.std.specs.Prelude.{ℕ, Bool, true, false, ltb, get_or, set, Option, None, Some}
use Rattle.model.specs.Basics.{tab}
use Rattle.bound_vars.specs.declared.Bound.{Bound}

abbrev pub has : Bound → ℕ → Bool
has b v = get_or b.known v false

-- the variables below n
abbrev pub first_bound : ℕ → Bound
first_bound n = record { known = tab (λ v. ltb v n) 32 }

-- with one more
abbrev pub binding : Option ℕ → Bound → Bound
binding None b = b
binding (Some v) b = record { known = set b.known v true }
