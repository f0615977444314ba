-- What is kept beside the lent words.
use Rattle.std.specs.Prelude.{ℕ, Option}
use Rattle.bound_vars.specs.Bound.{binding}
use Rattle.bindings.specs.declared.Bindings.{Bindings}

-- with a variable more
abbrev pub bound_in : Option ℕ → Bindings → Bindings
bound_in v b = record { matches = b.matches; bound = binding v b.bound }
