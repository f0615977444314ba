-- The end of a run: w is the book's words, p what the steps left.
use Rattle.std.specs.Prelude.{ℕ, ◌+◌, ◌-◌, ◌≤◌, ◌<◌, ◌^◌, ◌≡◌, cond, List, ◌++◌, length, take, replicate, None, Some, Option, Result, Ok, Err}
use Rattle.model.specs.Book.Contents.{first_step, step_count, table_count}
use Rattle.model.specs.Machine.State.{State}
use Rattle.model.specs.Answer as model
use Rattle.model.specs.Outcome.{Lent, ran, committed_by, end_refusal}
use Rattle.commit.specs.Commit.{Left, committed_rows}
use Rattle.execution.specs.declared.Stop.{Stop}
use Rattle.execution.specs.declared.Stop.TheVariants.{Spent, Full}
use Rattle.answer.specs.Layout.{Results, left_by, assembled, assembled_length}
use Rattle.run.specs.Progress.{Progress}
use Rattle.simulation.specs.Runs.{RunIs}
use Rattle.refusal.specs.declared.Refusal.{Refusal}
use Rattle.refusal.specs.declared.Refusal.TheVariants.{LogFull, CounterSpent, RowsFull}
use Rattle.refusal.specs.Refusal.{told}

-- what the code may suppose: the run went on to its end as the machine's did, in words of which `log` has those that are used
pub record Settles (w : List ℕ) (p : Progress) (log answer : List ℕ) : Type 0 where
  pub state : State
  pub index : List ℕ
  pub bindings : List ℕ
  pub words : List ℕ
  pub is : RunIs w (length words) (step_count w) state (record { progress = p; bindings = bindings; log = words; index = index; answer = answer })
  pub used : take p.state.used words ≡ take p.state.used log
  pub short : length words ≤ 16384
  pub small : p.at < 2 ^ 31

-- if it did not stop
abbrev pub RanOn : List ℕ → Progress → List ℕ → List ℕ → Type 0
RanOn w p log answer = p.state.stop ≡ None → Settles w p log answer

-- the outcome, and the words of the tables and of the answer
pub record Settling : Type 0 where
  pub outcome : Result ℕ Refusal
  pub rows : List ℕ
  pub answer : List ℕ

abbrev pub as_settling : Result ℕ Refusal → (rows answer : List ℕ) → Settling
as_settling outcome rows answer = record { outcome = outcome; rows = rows; answer = answer }

-- the answer, where the rows have room
abbrev pub answered_by : Results → List ℕ → List ℕ → Settling
answered_by r rows answer = record { outcome = assembled_length r (length answer); rows = rows; answer = assembled r answer }

abbrev pub committed_to : (w : List ℕ) → Progress → (log answer : List ℕ) → Left → Settling
committed_to w p log answer c = cond c.result.over (record { outcome = Err RowsFull; rows = c.words; answer = answer }) (answered_by (left_by w c.words log p.lengths p.at answer c.result p.state) c.words answer)

unfoldable pub settled : (w : List ℕ) → Progress → (log rows answer : List ℕ) → Settling
settled w p log rows answer = committed_to w p log answer (committed_rows w (table_count w) (take p.state.used log) rows)

-- the refusal of a run that stopped at a step
abbrev pub refused : Stop → ℕ → Refusal
refused Spent step = CounterSpent step
refused Full step = LogFull step

abbrev pub by_stop : Option Stop → (w : List ℕ) → Progress → (log rows answer : List ℕ) → Settling
by_stop None w p log rows answer = settled w p log rows answer
by_stop (Some s) w p log rows answer = record { outcome = Err (refused s (first_step w + p.done)); rows = rows; answer = answer }

unfoldable pub concluded : (w : List ℕ) → Progress → (log rows answer : List ℕ) → Settling
concluded w p log rows answer = by_stop p.state.stop w p log rows answer

-- refusals 12, 13, 15 and 16, or the whole answer and zeros
abbrev pub Concludes : List ℕ → Lent → Result ℕ Refusal → List ℕ → Type 0
Concludes w l (Err r) ws = end_refusal l (first_step w) (committed_by w (ran w l)) (ran w l) ≡ Some (told r)
Concludes w l (Ok n) ws = (end_refusal l (first_step w) (committed_by w (ran w l)) (ran w l) ≡ None) × (n ≡ length (model.answer (committed_by w (ran w l)) (ran w l))) × (n ≤ l.answer) × (ws ≡ model.answer (committed_by w (ran w l)) (ran w l) ++ replicate (l.answer - n) 0)
