-- The steps of a book, one after the other, and their bodies at the front of the answer: w is the book's words.
use Rattle.std.specs.Prelude.{ℕ, ◌+◌, ◌-◌, ◌*◌, ◌<◌, ◌≤◌, ◌≡◌, cond, List, eqb, length, set}
use Rattle.model.specs.Basics.{iter, when}
use Rattle.model.specs.Book.Contents.{kind_of, first_of, first_step}
use Rattle.execution.specs.Execution.{RunState, state_of, is_going}
use Rattle.predict.specs.Predict.{Gotten}
use Rattle.action.specs.Run.{Running}
use Rattle.step.specs.Steps.{ran_batch, asked_row, row_answered}
use Rattle.step_bodies.specs.Page.{SamePage}
use Rattle.step_bodies.specs.Steps.{placed, batch_words, prediction_words}
use Rattle.predict.specs.declared.run.Execution.{Execution}
use Rattle.run.specs.declared.Answered.{Answered}

-- what the run keeps, how many steps have answered, how many words their bodies have in all, and each
pub record Progress : Type 0 where
  pub state : RunState
  pub done : ℕ
  pub at : ℕ
  pub lengths : List ℕ

abbrev pub as_progress : Answered → RunState → Progress
as_progress p x = record { state = x; done = p.done; at = p.page.now.at; lengths = p.lengths }

-- with the memory that it runs in
pub record Ran : Type 0 where
  pub progress : Progress
  pub bindings : List ℕ
  pub log : List ℕ
  pub index : List ℕ
  pub answer : List ℕ

abbrev pub as_ran : Answered → Execution → (bindings : List ℕ) → Ran
as_ran p e bindings = record { progress = as_progress p (state_of e.buffer); bindings = bindings; log = e.buffer.log.words.now; index = e.index.now; answer = p.page.now.words.now }

-- fewer than 64 steps have answered, of 8483 words each at most
pub record Early (p : Answered) : Type 0 where
  pub done : p.done < 64
  pub at : p.page.now.at ≤ 8483 * 64

-- a step more has answered, and its words stand from the word `from` on
abbrev pub counted : ℕ → Answered → Answered
counted from p = record { done = p.done + 1; page = p.page; lengths = set p.lengths p.done (p.page.now.at - from) }

-- by one step no more than one answers, with 8483 words at most
pub record Within (p q : Answered) : Type 0 where
  pub done : q.done ≤ p.done + 1
  pub at : q.page.now.at ≤ p.page.now.at + 8483

-- a call leaves the same page lent, with the same words
pub record SameAnswer (p q : Answered) : Type 0 where
  pub page : q.page.ghost_name ≡ p.page.ghost_name
  pub words : SamePage p.page.now q.page.now

-- a step has answered, and the words up to `end` are used; it has not
abbrev pub advanced : RunState → ℕ → Progress → Progress
advanced x end p = record { state = x; done = p.done + 1; at = end; lengths = set p.lengths p.done (end - p.at) }

abbrev pub halted : RunState → Progress → Progress
halted x p = record { state = x; done = p.done; at = p.at; lengths = p.lengths }

-- ## A step

-- the body l of a step that left x
abbrev pub told : RunState → List ℕ → Progress → Progress
told x l p = advanced x (p.at + length l) p

abbrev pub body_of : Running → List ℕ
body_of r = batch_words r.batch.bindings.matches r.batch.bindings.bound.known r.bindings r.batch.mask.live

abbrev pub batch_told : Running → Ran → Ran
batch_told r a = cond (is_going r.batch.state)
    (record { progress = told r.batch.state (body_of r) a.progress; bindings = r.bindings; log = r.log; index = r.index; answer = placed (body_of r) a.progress.at a.answer })
    (record { progress = halted r.batch.state a.progress; bindings = r.bindings; log = r.log; index = r.index; answer = a.answer })

module _ (w : List ℕ) where
  -- of the prediction whose body begins at the word `at`
  abbrev pub row_body : ℕ → Gotten → List ℕ
  row_body at g = prediction_words g.got.made (row_answered w at g.log g.index)

  abbrev pub row_told : ℕ → Gotten → Ran → Ran
  row_told at g a = cond (is_going g.got.state)
      (record { progress = told g.got.state (row_body at g) a.progress; bindings = a.bindings; log = g.log; index = g.index; answer = placed (row_body at g) a.progress.at a.answer })
      (record { progress = halted g.got.state a.progress; bindings = a.bindings; log = g.log; index = g.index; answer = a.answer })

  -- entry i
  unfoldable pub batch_step : ℕ → Ran → Ran
  batch_step i a = batch_told (ran_batch w (first_of w i) a.progress.state a.log a.index) a

  -- the prediction whose body begins at the word `at`
  unfoldable pub prediction_at : ℕ → Ran → Ran
  prediction_at at a = row_told at (asked_row w a.bindings at a.progress.state a.log a.index) a

  abbrev pub prediction_step : ℕ → Ran → Ran
  prediction_step i a = prediction_at (first_of w i) a

  abbrev pub ran_step : ℕ → Ran → Ran
  ran_step i a = cond (eqb (kind_of w i) 4) (batch_step i a) (prediction_step i a)

  -- the entry of the next step, and that step, if the run goes on
  abbrev pub next_entry : Progress → ℕ
  next_entry p = first_step w + p.done

  unfoldable pub ran_next : Ran → Ran
  ran_next a = when (is_going a.progress.state) (ran_step (next_entry a.progress)) a

  unfoldable pub ran_steps : ℕ → Ran → Ran
  ran_steps n a = iter (λ _. ran_next) n a
