-- What a step leaves: w is the book's words, `at` the first word of the step's body.
use Rattle.std.specs.Prelude.{ℕ, zero, suc, ◌+◌, ◌<◌, ◌≤◌, ◌≡◌, List, get_or, replicate}
use Rattle.model.specs.Book.Contents.{first_of, first_rule, first_step, step_count, table_count}
use Rattle.args.specs.declared.Args.{Args}
use Rattle.args.specs.Args.{words_at}
use Rattle.predicted_index.specs.Home.{home_of}
use Rattle.predicted_index.specs.Row.{sought_in, row_of}
use Rattle.mask.specs.Masks.{first_lanes}
use Rattle.bound_vars.specs.Bound.{first_bound}
use Rattle.bindings.specs.Columns.{loaded}
use Rattle.instr.specs.Instr.{list_at}
use Rattle.instr.specs.Stands.{Short}
use Rattle.execution.specs.Execution.{RunState}
use Rattle.predict.specs.declared.Row.{Row}
use Rattle.predict.specs.Predict.{Gotten, answered}
use Rattle.action.specs.Run.{Running, ran_instrs}

-- entry i is a step
pub record IsStep (w : List ℕ) (i : ℕ) : Type 0 where
  pub number : ℕ
  pub below : number < step_count w
  pub entry : i ≡ first_step w + number

-- a prediction whose body begins at the word `at` asks for a table that is there, by a short key, with a short list of write values
pub record Asks (w : List ℕ) (at : ℕ) : Type 0 where
  pub near : at ≤ 16384
  pub table : get_or w at 0 < table_count w
  pub key : get_or w (at + 1) 0 ≤ 16
  pub vals : Short (list_at w (at + 2 + get_or w (at + 1) 0))

-- with no columns a batch has one lane
abbrev pub lane_count : ℕ → ℕ → ℕ
lane_count zero n = 1
lane_count (suc v) n = n

module _ (w : List ℕ) where
  -- the columns that the batch gives, with every lane live
  abbrev pub start_batch : ℕ → RunState → List ℕ → List ℕ → Running
  start_batch at x log index =
      let v = get_or w (at + 2) 0 in
      let n = get_or w (at + 1) 0 in
      record { batch = record { bindings = record { matches = lane_count v n; bound = first_bound v }; mask = record { live = first_lanes (lane_count v n) }; state = x }; bindings = loaded w (at + 3) n v (replicate 8192 0); log = log; index = index }

  -- the rule's first word, and how many instructions it has
  abbrev pub rule_of : ℕ → ℕ
  rule_of at = first_of w (first_rule w + get_or w at 0)

  unfoldable pub ran_batch : ℕ → RunState → List ℕ → List ℕ → Running
  ran_batch at x log index = ran_instrs w (rule_of at) (get_or w (rule_of at + 1) 0) (start_batch at x log index)

  -- the row that a prediction asks for, and its key
  abbrev pub row_asked : ℕ → Row
  row_asked at = record { of = sought_in w (record { 0 = get_or w at 0 }); vals = list_at w (at + 2 + get_or w (at + 1) 0) }

  abbrev pub key_asked : ℕ → Args
  key_asked at = words_at w (at + 2) (get_or w (at + 1) 0)

  unfoldable pub asked_row : List ℕ → ℕ → RunState → List ℕ → List ℕ → Gotten
  asked_row m at x log index = answered w m (row_asked at) (key_asked at) (record { state = x; log = log; index = index })

  -- the row that it answers
  unfoldable pub row_answered : ℕ → (log index : List ℕ) → List ℕ
  row_answered at log index = row_of home_of w log index (row_asked at).of (key_asked at).vals
