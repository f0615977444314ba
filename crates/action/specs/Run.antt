-- The instructions of a rule, in order, while a lane is live and the run goes on: w is the book's words.
use Rattle.std.specs.Prelude.{ℕ, ◌&&◌, List, take, replicate, Option, None, Some}
use Rattle.model.specs.Basics.{iter, when}
use Rattle.model.specs.Book.Syntax.{stale}
use Rattle.model.specs.Book.Decode.{instr_place}
use Rattle.model.specs.Machine.Steps.{any_live}
use Rattle.bindings.specs.Bindings.{bound_in}
use Rattle.bindings.specs.Columns.{bound}
use Rattle.instr.specs.declared.Instr.{Instr}
use Rattle.instr.specs.Instr.{instr_at}
use Rattle.instr.specs.Stands.{binds_of}
use Rattle.execution.specs.Execution.{RunState, state_of, is_going}
use Rattle.predict.specs.declared.run.Execution.{Execution}
use Rattle.bindings.specs.declared.Bindings.{Bindings}
use Rattle.mask.specs.declared.Mask.{Mask}
use Rattle.action.specs.declared.Batch.{Batch}
use Rattle.action.specs.Act.{Lanes, acted}

-- a batch as it runs, and what the run keeps
pub record Acting : Type 0 where
  pub bindings : Bindings
  pub mask : Mask
  pub state : RunState

-- with the memory that it runs in
pub record Running : Type 0 where
  pub batch : Acting
  pub bindings : List ℕ
  pub log : List ℕ
  pub index : List ℕ

abbrev pub as_running : Batch → Execution → List ℕ → Running
as_running b e bindings = record { batch = record { bindings = b.bindings; mask = b.mask; state = state_of e.buffer }; bindings = bindings; log = e.buffer.log.words.now; index = e.index.now }

-- dst takes the first n words of an array
abbrev pub bound_to : Option ℕ → ℕ → List ℕ → List ℕ → List ℕ
bound_to None n out m = m
bound_to (Some v) n out m = bound v (take n out) m

-- the lanes before an instruction, with no dst yet
abbrev pub begun : Running → Lanes
begun r = record { live = r.batch.mask.live; state = r.batch.state; log = r.log; index = r.index; out = replicate 256 stale }

abbrev pub finished : Option ℕ → Lanes → Running → Running
finished dst l r = record { batch = record { bindings = bound_in dst r.batch.bindings; mask = record { live = l.live }; state = l.state }; bindings = bound_to dst r.batch.bindings.matches l.out r.bindings; log = l.log; index = l.index }

module _ (w : List ℕ) where
  unfoldable pub ran_instr : Instr → Running → Running
  ran_instr i r = finished (binds_of i) (acted w r.bindings i (begun r)) r

  -- the instruction whose opcode stands at p
  unfoldable pub ran_next : ℕ → Running → Running
  ran_next p r = when (is_going r.batch.state && any_live r.batch.mask.live) (ran_instr (instr_at w p)) r

  -- n instructions of the rule whose body begins at the word `at`
  unfoldable pub ran_instrs : (at n : ℕ) → Running → Running
  ran_instrs at n r = iter (λ j. ran_next (instr_place w at j)) n r
