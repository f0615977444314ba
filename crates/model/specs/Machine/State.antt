-- The plain machine's state, what a run leaves behind of itself, and the ways in which the state changes.
use Rattle.std.specs.Prelude.{ℕ, ◌+◌, Bool, true, false, cond, List, [], ◌∷◌, ◌++◌, eqb, length, set, Option, None, Some}
use Rattle.model.specs.Book.Syntax.{Table, width, Rule, Counter}

-- where in a run something happens: a step, an instruction of its rule, a lane (of a prediction: 0 and 0)
pub record Site : Type 0 where
  pub step : ℕ
  pub instr : ℕ
  pub lane : ℕ

-- a record of the log, with the site that staged it; kind 0 insert, 1 removal, 2 predicted row
pub record Record : Type 0 where
  pub site : Site
  pub kind : ℕ
  pub table : ℕ
  pub words : List ℕ

-- how many words a record of a table has, by its kind: a removal has a key
abbrev pub record_size : Table → ℕ → ℕ
record_size t kind = cond (eqb kind 1) t.keys (width t)

-- what happens in a run
pub data Event : Type 0 where
  mask : (step : ℕ) (live : List Bool) → Event  -- the live lanes as a batch begins, and after each instruction
  reads : (at : Site) (words : List ℕ) → Event  -- what entries stand for in a live lane
  took : (at : Site) (words : List ℕ) → Event  -- the row of which its dst is a column, or that a prediction answers
  asks : (at : Site) (table : ℕ) (key words : List ℕ) → Event  -- no committed row has the key: the predicted row that is read

-- whether a run goes on, or why it ended early: stuck, or refusal 13, or refusal 12
pub data Status : Type 0 where
  going stuck spent full : Status

abbrev pub is_going : Status → Bool
is_going going = true
is_going stuck = false
is_going spent = false
is_going full = false

-- the column of a bound variable
abbrev pub Bindings : Type 0
Bindings = ℕ → Option (List ℕ)

-- what a step answers
pub data Answer : Type 0 where
  survivors : Bindings → List Bool → Answer
  predicted : (made : Bool) (words : List ℕ) → Answer

-- the lane count is the length of `live`; the predicted rows are the log's records of kind 2
pub record State : Type 0 where
  pub bindings : Bindings  -- a column has a word for each lane
  pub live : List Bool  -- a mark for each lane
  pub out : List (Option ℕ)  -- the dst of the instruction that runs: none where nothing was found yet
  pub log : List Record
  pub counters : List Counter
  pub changed : Bool
  pub trace : List Event  -- newest first
  pub answers : List Answer  -- newest first
  pub status : Status

-- what the machine is given besides the steps. A function may answer otherwise at each site and call, and `room` says of a number of words whether the log may hold them
pub record Env : Type 0 where
  pub tables : List Table
  pub rules : List Rule
  pub arity : ℕ → ℕ
  pub answer : Site → (call func : ℕ) (args : List ℕ) → Option ℕ
  pub room : ℕ → Bool

-- ## Changes of the state

abbrev pub stop : Status → State → State
stop o s = record { bindings = s.bindings; live = s.live; out = s.out; log = s.log; counters = s.counters; changed = s.changed; trace = s.trace; answers = s.answers; status = o }

abbrev pub note : Event → State → State
note e s = record { bindings = s.bindings; live = s.live; out = s.out; log = s.log; counters = s.counters; changed = s.changed; trace = e ∷ s.trace; answers = s.answers; status = s.status }

-- the lane's dst; a lane dropped
abbrev pub give : ℕ → ℕ → State → State
give i w s = record { bindings = s.bindings; live = s.live; out = set s.out i (Some w); log = s.log; counters = s.counters; changed = s.changed; trace = s.trace; answers = s.answers; status = s.status }

abbrev pub lose : ℕ → State → State
lose i s = record { bindings = s.bindings; live = set s.live i false; out = s.out; log = s.log; counters = s.counters; changed = s.changed; trace = s.trace; answers = s.answers; status = s.status }

abbrev pub with_counters : List Counter → State → State
with_counters cs s = record { bindings = s.bindings; live = s.live; out = s.out; log = s.log; counters = cs; changed = s.changed; trace = s.trace; answers = s.answers; status = s.status }

abbrev pub change : State → State
change s = record { bindings = s.bindings; live = s.live; out = s.out; log = s.log; counters = s.counters; changed = true; trace = s.trace; answers = s.answers; status = s.status }

abbrev pub logged : Record → State → State
logged r s = record { bindings = s.bindings; live = s.live; out = s.out; log = s.log ++ (r ∷ []); counters = s.counters; changed = s.changed; trace = s.trace; answers = s.answers; status = s.status }

abbrev pub reply : Answer → State → State
reply a s = record { bindings = s.bindings; live = s.live; out = s.out; log = s.log; counters = s.counters; changed = s.changed; trace = s.trace; answers = a ∷ s.answers; status = s.status }

-- the lanes of a batch, or what stands for them elsewhere
abbrev pub frame : Bindings → List Bool → List (Option ℕ) → State → State
frame b l o s = record { bindings = b; live = l; out = o; log = s.log; counters = s.counters; changed = s.changed; trace = s.trace; answers = s.answers; status = s.status }

-- needed: where it is absent the machine is stuck
abbrev pub need : {A : Type 0} → Option A → State → (A → State) → State
need None s k = stop stuck s
need (Some a) s k = k a

-- ## Logging

-- the words of the records: kind, table, then its words
abbrev pub log_words : List Record → ℕ
log_words [] = 0
log_words (r ∷ rs) = 2 + length r.words + log_words rs

abbrev pub if_room : Bool → Record → State → (State → State) → State
if_room true r s k = k (logged r s)
if_room false r s k = stop full s
