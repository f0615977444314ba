-- What a book says once it has been read: tables, counters, rules and steps.
use Rattle.std.specs.Prelude.{ℕ, ◌+◌, ◌<◌, List, [], get_or, Option, None, Some}

-- the stale mark; a word other than it
abbrev pub stale : ℕ
stale = 4294967295

abbrev pub Clean : ℕ → Type 0
Clean w = w < stale

-- a counter is its next number, which may come up to the limit
abbrev pub Counter : Type 0
Counter = ℕ

abbrev pub no_counter : Counter
no_counter = 0

abbrev pub next_of : Counter → ℕ
next_of n = n

abbrev pub limit : ℕ
limit = 4294967294

-- an entry: a variable or a constant
pub data QueryEntry : Type 0 where
  Var Const : ℕ → QueryEntry

-- a write value: an entry, a counter's next, or what the row being built has at a place
pub data WriteVal : Type 0 where
  Entry : QueryEntry → WriteVal
  IncCounter CurrentVal : ℕ → WriteVal

pub data Instr : Type 0 where
  LookupOrInsertDefault : (table : ℕ) (args : List QueryEntry) (default : List WriteVal) (col dst : ℕ) → Instr
  LookupWithDefault : (table : ℕ) (args : List QueryEntry) (col dst : ℕ) (default : QueryEntry) → Instr
  Lookup : (table : ℕ) (args : List QueryEntry) (col dst : ℕ) → Instr
  LookupWithFallback : (table : ℕ) (key : List QueryEntry) (func : ℕ) (args : List QueryEntry) (col dst : ℕ) → Instr
  Insert : (table : ℕ) (vals : List QueryEntry) → Instr
  InsertIfEq : (table : ℕ) (l r : QueryEntry) (vals : List QueryEntry) → Instr
  Remove : (table : ℕ) (args : List QueryEntry) → Instr
  External : (func : ℕ) (args : List QueryEntry) (dst : ℕ) → Instr
  ExternalWithFallback : (f1 : ℕ) (args1 : List QueryEntry) (f2 : ℕ) (args2 : List QueryEntry) (dst : ℕ) → Instr
  AssertEq AssertNe : (l r : QueryEntry) → Instr
  AssertAnyNe : (divider : ℕ) (ops : List QueryEntry) → Instr
  ReadCounter : (counter dst : ℕ) → Instr

-- the variable that an instruction binds
unfoldable pub dst_of : Instr → Option ℕ
dst_of (LookupOrInsertDefault t args vs col dst) = Some dst
dst_of (LookupWithDefault t args col dst e) = Some dst
dst_of (Lookup t args col dst) = Some dst
dst_of (LookupWithFallback t key f args col dst) = Some dst
dst_of (Insert t vals) = None
dst_of (InsertIfEq t l r vals) = None
dst_of (Remove t args) = None
dst_of (External f args dst) = Some dst
dst_of (ExternalWithFallback f1 args1 f2 args2 dst) = Some dst
dst_of (AssertEq l r) = None
dst_of (AssertNe l r) = None
dst_of (AssertAnyNe d ops) = None
dst_of (ReadCounter c dst) = Some dst

-- key count, value count, merge rule; a row is its key and then its values
pub record Table : Type 0 where
  pub keys : ℕ
  pub vals : ℕ
  pub merge : ℕ
  pub rows : List (List ℕ)

abbrev pub width : Table → ℕ
width t = t.keys + t.vals

-- the variables 0 .. starts - 1 are bound from the start
pub record Rule : Type 0 where
  pub starts : ℕ
  pub instrs : List Instr

pub data Step : Type 0 where
  batch : (rule lanes : ℕ) (columns : List (List ℕ)) → Step
  prediction : (table : ℕ) (key : List ℕ) (vals : List WriteVal) → Step

-- what a number names; no book that can be read names what is absent
abbrev pub table_at : List Table → ℕ → Table
table_at ts t = get_or ts t (record { keys = 0; vals = 0; merge = 0; rows = [] })

abbrev pub rule_at : List Rule → ℕ → Rule
rule_at rs r = get_or rs r (record { starts = 0; instrs = [] })
