-- The trace says what demand 3's claims need: who asked for a predicted row, and what each live lane read.
use Rattle.std.specs.Prelude.{ℕ, suc, ◌≤◌, ◌<◌, ◌≡◌, ◌⊎◌, ◌↔◌, ◌≢◌, Bool, true, false, List, [], ◌∷◌, length, get_or, Option, None, Some, slice_get}
use Rattle.model.specs.Book.Syntax.{Counter, QueryEntry, Var, WriteVal, Instr, LookupOrInsertDefault, LookupWithDefault, Lookup, LookupWithFallback, Insert, InsertIfEq, Remove, External, ExternalWithFallback, AssertEq, AssertNe, AssertAnyNe, ReadCounter, Step, batch, prediction, rule_at}
use Rattle.model.specs.Check.{entries_of, reads_of}
use Rattle.model.specs.Machine.State.{State, Site, Record, Event, mask, reads, took, asks, going, stuck, spent, full, predicted, Env}
use Rattle.model.specs.Machine.Values.{value_of, values_of, find}
use Rattle.model.specs.Machine.Steps.{here, table_of, run}
use Rattle.model.specs.Claims.Demand3.{before}

-- x stands in the list
abbrev pub In : {A : Type 0} → A → List A → Type 0
In x xs = (i : ℕ) × (slice_get xs i ≡ Some x)

-- a word that the trace has lane o reading: from its entries, or from a row
abbrev pub Noted : List Event → Site → ℕ → Type 0
Noted tr o w = (ws : List ℕ) × (In (reads o ws) tr ⊎ In (took o ws) tr) × In w ws

-- ## What an instruction makes a lane read

-- the entries that each live lane reads
unfoldable pub read_first : Instr → List QueryEntry
read_first (LookupOrInsertDefault t args vs col dst) = args
read_first (LookupWithDefault t args col dst e) = args
read_first (Lookup t args col dst) = args
read_first (LookupWithFallback t key f args col dst) = key
read_first (Insert t vals) = vals
read_first (InsertIfEq t l r vals) = l ∷ r ∷ []
read_first (Remove t args) = args
read_first (External f args dst) = args
read_first (ExternalWithFallback f1 args1 f2 args2 dst) = args1
read_first (AssertEq l r) = l ∷ r ∷ []
read_first (AssertNe l r) = l ∷ r ∷ []
read_first (AssertAnyNe d ops) = ops
read_first (ReadCounter c dst) = []

-- the entries that it reads only then (`Goes` below): write values of a row that it builds, a default, the arguments of a fallback, the row of 6
unfoldable pub read_then : Instr → List QueryEntry
read_then (LookupOrInsertDefault t args vs col dst) = entries_of vs
read_then (LookupWithDefault t args col dst e) = e ∷ []
read_then (Lookup t args col dst) = []
read_then (LookupWithFallback t key f args col dst) = args
read_then (Insert t vals) = []
read_then (InsertIfEq t l r vals) = vals
read_then (Remove t args) = []
read_then (External f args dst) = []
read_then (ExternalWithFallback f1 args1 f2 args2 dst) = args2
read_then (AssertEq l r) = []
read_then (AssertNe l r) = []
read_then (AssertAnyNe d ops) = []
read_then (ReadCounter c dst) = []

-- the two are all entries of an instruction that the check looks at
abbrev pub ReadsAll : Type 0
ReadsAll = (ins : Instr) (e : QueryEntry) → In e (reads_of ins) ↔ (In e (read_first ins) ⊎ In e (read_then ins))

-- the lookup that it begins with
pub record LookupAt : Type 0 where
  pub table : ℕ
  pub key : List QueryEntry
  pub col : ℕ
  pub dst : ℕ

unfoldable pub lookup_of : Instr → Option LookupAt
lookup_of (LookupOrInsertDefault t args vs col dst) = Some (record { table = t; key = args; col = col; dst = dst })
lookup_of (LookupWithDefault t args col dst e) = Some (record { table = t; key = args; col = col; dst = dst })
lookup_of (Lookup t args col dst) = Some (record { table = t; key = args; col = col; dst = dst })
lookup_of (LookupWithFallback t key f args col dst) = Some (record { table = t; key = key; col = col; dst = dst })
lookup_of (Insert t vals) = None
lookup_of (InsertIfEq t l r vals) = None
lookup_of (Remove t args) = None
lookup_of (External f args dst) = None
lookup_of (ExternalWithFallback f1 args1 f2 args2 dst) = None
lookup_of (AssertEq l r) = None
lookup_of (AssertNe l r) = None
lookup_of (AssertAnyNe d ops) = None
lookup_of (ReadCounter c dst) = None

module _ (E : Env) where
  -- no committed row has the key that the entries stand for in lane i
  abbrev pub Misses : State → ℕ → ℕ → List QueryEntry → List ℕ → Type 0
  Misses s i t args key = (values_of s.bindings i args ≡ Some key) × (find (table_of E t).keys (table_of E t).rows key ≡ None)

  -- where lane i comes to the entries of `read_then`: it stages a row, or is the last to read since the log has no room for its row; found no row; l = r; f1 gave nothing
  abbrev pub Goes : (k j : ℕ) → State → State → ℕ → Instr → Type 0
  Goes k j s s' i (LookupOrInsertDefault t args vs col dst) = ((r : Record) × (n : ℕ) × (length s.log ≤ n) × (slice_get s'.log n ≡ Some r) × (r.site ≡ here k j i))
      ⊎ ((s'.status ≡ full) × (r : List ℕ) × (older : List Event) × (s'.trace ≡ reads (here k j i) r ∷ older))
  Goes k j s s' i (LookupWithDefault t args col dst e) = (key : List ℕ) × Misses s i t args key
  Goes k j s s' i (Lookup t args col dst) = ⊥
  Goes k j s s' i (LookupWithFallback t key f args col dst) = (ws : List ℕ) × Misses s i t key ws
  Goes k j s s' i (Insert t vals) = ⊥
  Goes k j s s' i (InsertIfEq t l r vals) = (a : ℕ) × (value_of s.bindings i l ≡ Some a) × (value_of s.bindings i r ≡ Some a)
  Goes k j s s' i (Remove t args) = ⊥
  Goes k j s s' i (External f args dst) = ⊥
  Goes k j s s' i (ExternalWithFallback f1 args1 f2 args2 dst) = (ws : List ℕ) × (values_of s.bindings i args1 ≡ Some ws) × (E.answer (here k j i) 0 f1 ws ≡ None)
  Goes k j s s' i (AssertEq l r) = ⊥
  Goes k j s s' i (AssertNe l r) = ⊥
  Goes k j s s' i (AssertAnyNe d ops) = ⊥
  Goes k j s s' i (ReadCounter c dst) = ⊥

  module _ (counters : List Counter) (steps : List Step) where
    -- instruction j of step k comes to lane i, which is live
    pub record Comes (k j i : ℕ) (ins : Instr) : Type 0 where
      pub rule : ℕ
      pub lanes : ℕ
      pub columns : List (List ℕ)
      pub is_step : slice_get steps k ≡ Some (batch rule lanes columns)
      pub is_instr : slice_get (rule_at E.rules rule).instrs j ≡ Some ins
      pub begun : (run E counters steps k).status ≡ going
      pub goes : (before E counters steps k rule lanes columns j).status ≡ going
      pub live : get_or (before E counters steps k rule lanes columns j).live i false ≡ true

    -- the states before and after the instruction
    abbrev pub pre : {k j i : ℕ} {ins : Instr} → Comes k j i ins → State
    pre {k} {j} c = before E counters steps k c.rule c.lanes c.columns j

    abbrev pub post : {k j i : ℕ} {ins : Instr} → Comes k j i ins → State
    post {k} {j} c = before E counters steps k c.rule c.lanes c.columns (suc j)

    -- who asks for the predicted row of a table and key: a lane of a lookup-or-insert, or a prediction, that finds no committed row
    pub data Asker : Site → ℕ → List ℕ → Type 0 where
      lane : {k j i t : ℕ} {key : List ℕ} (args : List QueryEntry) (vs : List WriteVal) (col dst : ℕ) (c : Comes k j i (LookupOrInsertDefault t args vs col dst))
          → Misses (pre c) i t args key → Asker (here k j i) t key
      predicts : {k t : ℕ} {key : List ℕ} (vs : List WriteVal) → slice_get steps k ≡ Some (prediction t key vs) → (run E counters steps k).status ≡ going
          → find (table_of E t).keys (table_of E t).rows key ≡ None → Asker (here k 0 0) t key

    -- the row of o was being built when 13 or 12 ended the run: o asks for a row, a lane was the last to read (a prediction is alone in its step), and no lane from o on has asked
    pub record CutRow (n : ℕ) (o : Site) : Type 0 where
      pub table : ℕ
      pub key : List ℕ
      pub asker : Asker o table key
      pub ends : ((run E counters steps n).status ≡ spent) ⊎ ((run E counters steps n).status ≡ full)
      pub last : ((ws : List ℕ) × (older : List Event) × ((run E counters steps n).trace ≡ reads o ws ∷ older)) ⊎ ((vs : List WriteVal) × (slice_get steps o.step ≡ Some (prediction table key vs)))
      pub unasked : (i t : ℕ) (key' r : List ℕ) → o.lane ≤ i → In (asks (here o.step o.instr i) t key' r) (run E counters steps n).trace → ⊥

    -- the row of o, or of a lane before it
    abbrev pub CutBefore : ℕ → Site → Type 0
    CutBefore n o = (x : ℕ) × (x ≤ o.lane) × CutRow n (here o.step o.instr x)

    -- ## The claims

    -- the trace has the live lanes before each instruction that a batch comes to
    abbrev pub MasksNoted : Type 0
    MasksNoted = (n k r lanes : ℕ) (columns : List (List ℕ)) → slice_get steps k ≡ Some (batch r lanes columns) → (run E counters steps k).status ≡ going → k < n
        → (j : ℕ) → j ≤ length (rule_at E.rules r).instrs → (before E counters steps k r lanes columns j).status ≡ going → In (mask k (before E counters steps k r lanes columns j).live) (run E counters steps n).trace

    -- an `asks` event comes from an asker,
    abbrev pub AsksSound : Type 0
    AsksSound = (n : ℕ) (o : Site) (t : ℕ) (key r : List ℕ) → In (asks o t key r) (run E counters steps n).trace → Asker o t key × (o.step < n)

    -- and each asker has one, unless the run was cut off at its row or at that of a lane before it
    abbrev pub AsksComplete : Type 0
    AsksComplete = (n : ℕ) (o : Site) (t : ℕ) (key : List ℕ) → Asker o t key → o.step < n → (run E counters steps n).status ≢ stuck
        → ((r : List ℕ) × In (asks o t key r) (run E counters steps n).trace) ⊎ CutBefore n o

    -- a stuck machine stays so: where the run is not stuck (demand 3), no instruction was
    abbrev pub StuckStays : Type 0
    StuckStays = (n k j i : ℕ) (ins : Instr) (c : Comes k j i ins) → k < n → (post c).status ≡ stuck → (run E counters steps n).status ≡ stuck

    -- the log was full before lane i had its turn: from it on no lane of the instruction has read anything
    abbrev pub CutOff : (n : ℕ) {k j i : ℕ} {ins : Instr} → Comes k j i ins → Type 0
    CutOff n {k} {j} {i} c = ((post c).status ≡ full) × ((x : ℕ) (ws : List ℕ) → i ≤ x → In (reads (here k j x) ws) (run E counters steps n).trace ⊎ In (took (here k j x) ws) (run E counters steps n).trace → ⊥)

    -- what a live lane reads is in a `reads` or `took` event of its own, also where 12 or 13 stops the instruction: what its entries stand for,
    abbrev pub EntriesNoted : Type 0
    EntriesNoted = (n k j i : ℕ) (ins : Instr) (c : Comes k j i ins) → (post c).status ≢ stuck → k < n → (e : QueryEntry) → In e (read_first ins) ⊎ (In e (read_then ins) × Goes k j (pre c) (post c) i ins)
        → ((w : ℕ) × (value_of (pre c).bindings i e ≡ Some w) × Noted (run E counters steps n).trace (here k j i) w) ⊎ CutOff n c

    -- lane i takes its dst from the row: that is noted, and dst is bound where the instruction ends
    abbrev pub TakesFrom : (n : ℕ) {k j i : ℕ} {ins : Instr} → Comes k j i ins → LookupAt → List ℕ → Type 0
    TakesFrom n {k} {j} {i} c l r = In (took (here k j i) r) (run E counters steps n).trace × ((post c).status ≡ going → slice_get r l.col ≡ value_of (post c).bindings i (Var l.dst))

    -- and the row of which its dst is a column: the committed row, or of a lookup-or-insert that finds none the predicted row that it asks for, unless the run was cut off at its row or at that of a lane before it
    abbrev pub RowsNoted : Type 0
    RowsNoted = (n k j i : ℕ) (ins : Instr) (c : Comes k j i ins) → (post c).status ≢ stuck → k < n
        → (l : LookupAt) → lookup_of ins ≡ Some l
        → (key : List ℕ) → values_of (pre c).bindings i l.key ≡ Some key
        → ((r : List ℕ) → find (table_of E l.table).keys (table_of E l.table).rows key ≡ Some r → TakesFrom n c l r)
        × ((args : List QueryEntry) (vs : List WriteVal) → ins ≡ LookupOrInsertDefault l.table args vs l.col l.dst → find (table_of E l.table).keys (table_of E l.table).rows key ≡ None
        → ((r : List ℕ) × In (asks (here k j i) l.table key r) (run E counters steps n).trace × TakesFrom n c l r) ⊎ CutBefore n (here k j i))

    -- a prediction reads the row it answers (it answers only where the step ends): the committed row, or where there is none the predicted row that it asks for
    abbrev pub AnswersNoted : Type 0
    AnswersNoted = (n k t : ℕ) (key : List ℕ) (vs : List WriteVal) → slice_get steps k ≡ Some (prediction t key vs) → (run E counters steps (suc k)).status ≡ going → k < n
        → (new : Bool) × (r : List ℕ) × ((run E counters steps (suc k)).answers ≡ predicted new r ∷ (run E counters steps k).answers) × In (took (here k 0 0) r) (run E counters steps n).trace
        × ((r' : List ℕ) → find (table_of E t).keys (table_of E t).rows key ≡ Some r' → r ≡ r')
        × (find (table_of E t).keys (table_of E t).rows key ≡ None → In (asks (here k 0 0) t key r) (run E counters steps n).trace)

    -- the words of each record in the log are in a `reads` event of its site
    abbrev pub RecordsNoted : Type 0
    RecordsNoted = (n m : ℕ) (r : Record) → slice_get (run E counters steps n).log m ≡ Some r → In (reads r.site r.words) (run E counters steps n).trace

    -- where a lookup-or-insert finds the log full, there is a last lane to read, as `Goes` has it
    abbrev pub LastReads : Type 0
    LastReads = (k j i t : ℕ) (args : List QueryEntry) (vs : List WriteVal) (col dst : ℕ) (c : Comes k j i (LookupOrInsertDefault t args vs col dst)) → (post c).status ≡ full
        → (x : ℕ) × (r : List ℕ) × (older : List Event) × ((post c).trace ≡ reads (here k j x) r ∷ older)
