-- What the proof of demand 3 supposes of a book that has been read; `Laws.Read` shows that a book which draws no refusal is such.
use Rattle.std.specs.Prelude.{ℕ, ◌≤◌, ◌≡◌, ◌≢◌, List, length, take, Some, slice_get}
use Rattle.model.specs.Basics.{All, AllPairs}
use Rattle.model.specs.Book.Syntax.{Clean, Counter, next_of, limit, QueryEntry, Var, Const, Instr, Table, width, Rule, Step}
use Rattle.model.specs.Check.{reads_of, Conditions}
use Rattle.model.specs.Machine.State.{Env}
use Rattle.model.specs.Claims.Demand3.{NeverStale, StepOk, Claims}

-- refusals 3, 4 and 5 of a table
pub record TableOk (t : Table) : Type 0 where
  pub sized : All (λ r. length r ≡ width t) t.rows
  pub clean : All (All Clean) t.rows
  pub distinct : AllPairs (λ a b. take t.keys a ≢ take t.keys b) t.rows

-- refusal 4 of a rule's constants
abbrev pub CleanConst : QueryEntry → Type 0
CleanConst (Var v) = Unit {0}
CleanConst (Const c) = Clean c

-- a rule that can be read and passes the check
pub record RuleOk (E : Env) (r : Rule) : Type 0 where
  pub consts : (j : ℕ) (ins : Instr) → slice_get r.instrs j ≡ Some ins → All CleanConst (reads_of ins)
  pub conditions : Conditions E.tables E.arity r

-- refusal 4 of a counter
abbrev pub CounterOk : Counter → Type 0
CounterOk n = next_of n ≤ limit

pub record Accepted (E : Env) (cs : List Counter) : Type 0 where
  pub tables : All TableOk E.tables
  pub rules : All (RuleOk E) E.rules
  pub counters : All CounterOk cs
  pub functions : NeverStale E.answer

-- demand 3 for what has been read
abbrev pub DemandRead : Type 0
DemandRead = (E : Env) (counters : List Counter) (steps : List Step) → Accepted E counters → All (StepOk E.tables E.rules) steps → (n : ℕ) → Claims E counters steps n
