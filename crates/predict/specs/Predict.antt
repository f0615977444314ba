-- The predicted row of a key, in the words of the log and the index: w is the book's words, m the memory of the bindings.
use Rattle.std.specs.Prelude.{ℕ, ◌+◌, ◌≡◌, Bool, true, false, ◌&&◌, ◌||◌, cond, List, length, get_or, set, Option, Some, None}
use Rattle.model.specs.Basics.{iter, when}
use Rattle.ids.specs.declared.ColumnId.{ColumnId}
use Rattle.args.specs.declared.Args.{Args}
use Rattle.instr.specs.declared.Entries.{Entries}
use Rattle.tables.specs.Tables.{found_row}
use Rattle.predicted_index.specs.declared.Slot.{Slot}
use Rattle.predicted_index.specs.declared.Slot.TheVariants.{Hit, Free, Full as NoSlot}
use Rattle.predicted_index.specs.Home.{home_of}
use Rattle.predicted_index.specs.Index.{slot_of}
use Rattle.predicted_index.specs.Row.{row_of}
use Rattle.lanes.specs.Lanes.{listed}
use Rattle.build.specs.declared.Building.{Building}
use Rattle.build.specs.Build.{built}
use Rattle.execution.specs.declared.Stop.{Stop}
use Rattle.execution.specs.declared.Stop.TheVariants.{Spent, Full}
use Rattle.execution.specs.Execution.{RunState, state_of, is_going, stopped, Logged, staged}
use Rattle.predict.specs.declared.Row.{Row}
use Rattle.predict.specs.declared.asked.Asking.{Asking}
use Rattle.predict.specs.declared.run.Execution.{Execution}

-- what a lane asks for, whatever is known of its lists
pub record Asked : Type 0 where
  pub row : Row
  pub key : Entries
  pub col : ColumnId

abbrev pub as_asked : Asking → Asked
as_asked a = record { row = a.row; key = a.key; col = a.col }

-- a run's state with its log and index
pub record Held : Type 0 where
  pub state : RunState
  pub log : List ℕ
  pub index : List ℕ

abbrev pub as_held : Execution → Held
as_held e = record { state = state_of e.buffer; log = e.buffer.log.words.now; index = e.index.now }

-- a call leaves the same words lent, and as many, whatever it puts there
pub record SameWords (e f : Execution) : Type 0 where
  pub log : f.buffer.log.words.ghost_name ≡ e.buffer.log.words.ghost_name
  pub index : f.index.ghost_name ≡ e.index.ghost_name
  pub size : length f.buffer.log.words.now ≡ length e.buffer.log.words.now

-- a row was got: whether it was made, and what the run keeps
pub record Got : Type 0 where
  pub made : Bool
  pub state : RunState

-- what was got, and the log and index after it
pub record Gotten : Type 0 where
  pub got : Got
  pub log : List ℕ
  pub index : List ℕ

abbrev pub as_gotten : Bool → Execution → Gotten
as_gotten made e = record { got = record { made = made; state = state_of e.buffer }; log = e.buffer.log.words.now; index = e.index.now }

-- with the lanes' words
pub record Served : Type 0 where
  pub state : RunState
  pub log : List ℕ
  pub index : List ℕ
  pub out : List ℕ

abbrev pub as_served : Execution → List ℕ → Served
as_served e out = record { state = state_of e.buffer; log = e.buffer.log.words.now; index = e.index.now; out = out }

abbrev pub stopped_by : Option Stop → RunState → Got
stopped_by why s = record { made = false; state = stopped why s }

-- a row that was built is logged, and the index has its place in the slot
abbrev pub logged : ℕ → ℕ → Logged → List ℕ → Gotten
logged slot place l index = cond (is_going l.state)
    (record { got = record { made = true; state = l.state }; log = l.log; index = set index slot (place + 1) })
    (record { got = stopped_by l.state.stop l.state; log = l.log; index = index })

-- no row where a counter was spent
abbrev pub whole : ℕ → ℕ → Option Building → Held → Gotten
whole table slot (Some b) h = logged slot h.state.used (staged 2 table b.row.vals b.row.count (record { state = record { used = h.state.used; counters = b.counters; changed = h.state.changed; stop = h.state.stop }; log = h.log })) h.index
whole table slot None h = record { got = stopped_by (Some Spent) h.state; log = h.log; index = h.index }

-- a new row sets the changed flag
abbrev pub noted : Got → Got
noted g = record { made = g.made; state = record { used = g.state.used; counters = g.state.counters; changed = g.state.changed || g.made; stop = g.state.stop } }

module _ (w : List ℕ) where
  -- lane i has a column of the row that the key has
  abbrev pub taken_word : Asked → List ℕ → ℕ → (log ix out : List ℕ) → List ℕ
  taken_word ask key i log ix out = set out i (get_or (row_of home_of w log ix ask.row.of key) ask.col.0 0)

  -- if the run goes on
  abbrev pub taken : Asked → List ℕ → ℕ → List ℕ → Gotten → Served
  taken ask key i out g = record { state = g.got.state; log = g.log; index = g.index; out = cond (is_going g.got.state) (taken_word ask key i g.log g.index out) out }

module _ (w m : List ℕ) where
  -- a new row
  unfoldable pub inserted : ℕ → Row → Args → ℕ → Held → Gotten
  inserted i row key slot h = whole row.of.table.0 slot (built w m i key row.vals.at row.vals.count h.state.counters) h

  abbrev pub by_slot : ℕ → Row → Args → Held → Slot → Gotten
  by_slot i row key h (Hit p) = record { got = record { made = false; state = h.state }; log = h.log; index = h.index }
  by_slot i row key h (Free slot) = inserted i row key slot h
  by_slot i row key h NoSlot = record { got = stopped_by (Some Full) h.state; log = h.log; index = h.index }

  -- the predicted row of the key, else a new one
  unfoldable pub gotten : ℕ → Row → Args → Held → Gotten
  gotten i row key h = by_slot i row key h (slot_of home_of h.index h.log row.of.table.0 key.vals row.of.info.keys)

  -- lane i, if it is live and the run goes on
  unfoldable pub served_lane : Asked → Bool → ℕ → Served → Served
  served_lane ask live i s = when (live && is_going s.state) (λ s'. let key = listed w m i ask.key in taken w ask key.vals i s'.out (gotten i ask.row key (record { state = s'.state; log = s'.log; index = s'.index }))) s

  unfoldable pub served_lanes : Asked → List Bool → Served → Served
  served_lanes ask live s = iter (λ i. served_lane ask (get_or live i false) i) 256 s

  -- ## A prediction

  abbrev pub by_row : Row → Args → Held → Option ℕ → Gotten
  by_row row key h (Some p) = record { got = record { made = false; state = h.state }; log = h.log; index = h.index }
  by_row row key h None = let g = gotten 0 row key h in record { got = noted g.got; log = g.log; index = g.index }

  -- the committed row is there, else the predicted one, else a new one
  unfoldable pub answered : Row → Args → Held → Gotten
  answered row key h = by_row row key h (found_row w row.of.info key.vals)
