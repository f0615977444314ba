-- That an instruction stands in a book has one proof at most.
use Rattle.std.specs.Prelude.{ℕ, List}
use Rattle.std.proofs.Props.{props}
use Rattle.instr.specs.declared.Instr.{Instr}
use Rattle.instr.specs.declared.Instr.TheVariants.{LookupOrInsertDefault, LookupWithDefault, Lookup, LookupWithFallback, Insert, InsertIfEq, Remove, External, ExternalWithFallback, AssertEq, AssertNe, AssertAnyNe, ReadCounter}
use Rattle.instr.specs.Stands.{Stands}

pub stands_once : (w : List ℕ) (i : Instr) → IsProp (Stands w i)
stands_once w (LookupOrInsertDefault table args default col dst) = Prim.hlevel props
stands_once w (LookupWithDefault table args col dst default) = Prim.hlevel props
stands_once w (Lookup table args col dst) = Prim.hlevel props
stands_once w (LookupWithFallback table key func args col dst) = Prim.hlevel props
stands_once w (Insert table vals) = Prim.hlevel props
stands_once w (InsertIfEq table l r vals) = Prim.hlevel props
stands_once w (Remove table args) = Prim.hlevel props
stands_once w (External func args dst) = Prim.hlevel props
stands_once w (ExternalWithFallback f1 args1 f2 args2 dst) = Prim.hlevel props
stands_once w (AssertEq l r) = Prim.hlevel props
stands_once w (AssertNe l r) = Prim.hlevel props
stands_once w (AssertAnyNe ops divider) = Prim.hlevel props
stands_once w (ReadCounter counter dst) = Prim.hlevel props
