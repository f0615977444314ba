-- What an instruction does to the lanes of a batch: w is the book's words, m the memory of the bindings.
use Rattle.std.specs.Prelude.{ℕ, Bool, List, get_or, replicate}
use Rattle.ids.specs.declared.TableId.{TableId}
use Rattle.ids.specs.declared.ColumnId.{ColumnId}
use Rattle.mask.specs.Masks.{united, without}
use Rattle.predicted_index.specs.Row.{sought_in}
use Rattle.instr.specs.declared.Entries.{Entries}
use Rattle.instr.specs.declared.Instr.{Instr}
use Rattle.instr.specs.declared.Instr.TheVariants.{LookupOrInsertDefault, LookupWithDefault, Lookup, LookupWithFallback, Insert, InsertIfEq, Remove, External, ExternalWithFallback, AssertEq, AssertNe, AssertAnyNe, ReadCounter}
use Rattle.lanes.specs.declared.Ask.{Ask}
use Rattle.lanes.specs.declared.Ask.TheVariants.{Lookup as AskRow, External as AskFunction, Entry as AskEntry}
use Rattle.lanes.specs.declared.Test.{Test}
use Rattle.lanes.specs.declared.Test.TheVariants.{Eq, Ne, AnyNe}
use Rattle.lanes.specs.Lanes.{listed, asked, holds, answered_lanes, answered_words, kept}
use Rattle.record_log.specs.declared.Change.{Change}
use Rattle.record_log.specs.declared.Change.TheVariants as change
use Rattle.execution.specs.Execution.{RunState, state_of, Logged, staged_lanes}
use Rattle.predict.specs.declared.run.Execution.{Execution}
use Rattle.predict.specs.Predict.{Asked, Served, served_lanes}
use Rattle.action.specs.declared.lookup.Wanted.{Wanted}

-- the live lanes, what the run keeps, and the array of the lanes' dst
pub record Lanes : Type 0 where
  pub live : List Bool
  pub state : RunState
  pub log : List ℕ
  pub index : List ℕ
  pub out : List ℕ

abbrev pub as_lanes : List Bool → Execution → List ℕ → Lanes
as_lanes live e out = record { live = live; state = state_of e.buffer; log = e.buffer.log.words.now; index = e.index.now; out = out }

abbrev pub with_lanes : List Bool → List ℕ → Lanes → Lanes
with_lanes live out l = record { live = live; state = l.state; log = l.log; index = l.index; out = out }

abbrev pub with_log : Logged → Lanes → Lanes
with_log g l = record { live = l.live; state = g.state; log = g.log; index = l.index; out = l.out }

abbrev pub with_served : Served → Lanes → Lanes
with_served s l = record { live = l.live; state = s.state; log = s.log; index = s.index; out = s.out }

-- a column of the committed row of table t
abbrev pub row_ask : List ℕ → TableId → Entries → ColumnId → Ask
row_ask w t key col = AskRow (sought_in w t) key col

-- the predicted row that a lane asks for
abbrev pub asking : List ℕ → TableId → Entries → Entries → ColumnId → Asked
asking w t args vals col = record { row = record { of = sought_in w t; vals = vals }; key = args; col = col }

abbrev pub asked_by : Wanted → Asked
asked_by a = record { row = a.row; key = a.key; col = a.col }

module _ (w m : List ℕ) where
  abbrev pub unanswered : Ask → List Bool → List Bool
  unanswered ask live = without live (answered_lanes (asked w m ask) live)

  -- lanes that are not answered drop
  abbrev pub answering : Ask → Lanes → Lanes
  answering ask l = with_lanes (answered_lanes (asked w m ask) l.live) (answered_words (asked w m ask) l.live l.out) l

  -- lanes that the first does not answer ask the second
  abbrev pub either_lanes : Ask → Ask → List Bool → List Bool
  either_lanes ask other live = united (answered_lanes (asked w m ask) live) (answered_lanes (asked w m other) (unanswered ask live))

  abbrev pub either_words : Ask → Ask → List Bool → List ℕ → List ℕ
  either_words ask other live out = answered_words (asked w m other) (unanswered ask live) (answered_words (asked w m ask) live out)

  abbrev pub answering_or : Ask → Ask → Lanes → Lanes
  answering_or ask other l = with_lanes (either_lanes ask other l.live) (either_words ask other l.live l.out) l

  -- lanes with no committed row are served from the predicted rows; none drops
  abbrev pub serving : Asked → Lanes → Lanes
  serving ask l =
      let row = AskRow ask.row.of ask.key ask.col in
      with_served (served_lanes w m ask (unanswered row l.live) (record { state = l.state; log = l.log; index = l.index; out = answered_words (asked w m row) l.live l.out })) l

  abbrev pub staging : Change → TableId → Entries → List Bool → Lanes → Lanes
  staging c t vals live l = with_log (staged_lanes c t.0 (λ i. listed w m i vals) live (record { state = l.state; log = l.log })) l

  abbrev pub testing : Test → Lanes → Lanes
  testing test l = with_lanes (kept (holds w m test) l.live) l.out l

  -- a counter's next in every lane
  abbrev pub counting : ℕ → Lanes → Lanes
  counting c l = with_lanes l.live (replicate 256 (get_or l.state.counters.next c 0)) l

  unfoldable pub acted : Instr → Lanes → Lanes
  acted (LookupOrInsertDefault t args vals col dst) l = serving (asking w t args vals col) l
  acted (LookupWithDefault t args col dst e) l = answering_or (row_ask w t args col) (AskEntry e) l
  acted (Lookup t args col dst) l = answering (row_ask w t args col) l
  acted (LookupWithFallback t key f args col dst) l = answering_or (row_ask w t key col) (AskFunction f args) l
  acted (Insert t vals) l = staging change.Insert t vals l.live l
  acted (InsertIfEq t a b vals) l = staging change.Insert t vals (kept (holds w m (Eq a b)) l.live) l
  acted (Remove t args) l = staging change.Remove t args l.live l
  acted (External f args dst) l = answering (AskFunction f args) l
  acted (ExternalWithFallback f1 args1 f2 args2 dst) l = answering_or (AskFunction f1 args1) (AskFunction f2 args2) l
  acted (AssertEq a b) l = testing (Eq a b) l
  acted (AssertNe a b) l = testing (Ne a b) l
  acted (AssertAnyNe ops d) l = testing (AnyNe ops d) l
  acted (ReadCounter c dst) l = counting c.0 l
