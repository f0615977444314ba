-- What staging leaves of a run's state and its log.
use Rattle.std.specs.Prelude.{ℕ, Bool, true, false, ◌&&◌, List, length, get_or, Option, Some, None}
use Rattle.model.specs.Basics.{iter, when}
use Rattle.args.specs.declared.Args.{Args}
use Rattle.counter.specs.declared.Counters.{Counters}
use Rattle.record_log.specs.Log.{record_of, appended, stored}
use Rattle.execution.specs.declared.Stop.{Stop}
use Rattle.execution.specs.declared.Stop.TheVariants.{Spent, Full}
use Rattle.record_log.specs.declared.Change.{Change}
use Rattle.record_log.specs.declared.Change.TheVariants.{Insert, Remove}
use Rattle.execution.specs.declared.ExecutionState.{ExecutionState}
use Rattle.execution.specs.declared.MutationBuffer.{MutationBuffer}
use Rattle.execution.specs.declared.Left.{Left}

-- what a run keeps beside the log's words: how many of these are used, the counters, the changed flag, and why it stopped, if it did
pub record RunState : Type 0 where
  pub used : ℕ
  pub counters : Counters
  pub changed : Bool
  pub stop : Option Stop

abbrev pub state_of : MutationBuffer → RunState
state_of b = record { used = b.log.used; counters = b.state.counters; changed = b.state.changed; stop = b.state.stop }

-- of what a run leaves, whose words of the log are all used
abbrev pub left_state : Left → RunState
left_state l = record { used = length l.log.now; counters = l.counters; changed = l.changed; stop = l.stop }

abbrev pub goes_on : Option Stop → Bool
goes_on None = true
goes_on (Some Spent) = false
goes_on (Some Full) = false

abbrev pub is_going : RunState → Bool
is_going s = goes_on s.stop

-- of the state alone
abbrev pub with_stop : Option Stop → ExecutionState → ExecutionState
with_stop o s = record { counters = s.counters; changed = s.changed; stop = o }

abbrev pub stopped : Option Stop → RunState → RunState
stopped o s = record { used = s.used; counters = s.counters; changed = s.changed; stop = o }

abbrev pub changing : RunState → RunState
changing s = record { used = s.used; counters = s.counters; changed = true; stop = s.stop }

-- a run's state with its log
pub record Logged : Type 0 where
  pub state : RunState
  pub log : List ℕ

abbrev pub as_logged : MutationBuffer → Logged
as_logged b = record { state = state_of b; log = b.log.words.now }

-- after an attempt to append
abbrev pub after_append : Option ℕ → RunState → RunState
after_append (Some n) s = record { used = n; counters = s.counters; changed = s.changed; stop = s.stop }
after_append None s = stopped (Some Full) s

-- a record of the first n words of a row
unfoldable pub staged : (kind table : ℕ) → List ℕ → ℕ → Logged → Logged
staged kind table row n l = record { state = after_append (appended l.log l.state.used (record_of kind table row n)) l.state; log = stored l.log l.state.used (record_of kind table row n) }

-- the kind of its record
abbrev pub record_kind : Change → ℕ
record_kind Insert = 0
record_kind Remove = 1

-- the changed flag is set
abbrev pub flagged : Logged → Logged
flagged t = record { state = changing t.state; log = t.log }

-- it sets the changed flag
abbrev pub staged_change : Change → (table : ℕ) → List ℕ → ℕ → Logged → Logged
staged_change change table row n l = flagged (staged (record_kind change) table row n l)

-- by a lane, if it is live and the run goes on
unfoldable pub staged_lane : Change → (table : ℕ) → Args → Bool → Logged → Logged
staged_lane change table row live l = when (live && is_going l.state) (staged_change change table row.vals row.count) l

-- by all lanes
unfoldable pub staged_lanes : Change → (table : ℕ) → (ℕ → Args) → List Bool → Logged → Logged
staged_lanes change table rows live l = iter (λ i. staged_lane change table (rows i) (get_or live i false)) 256 l
