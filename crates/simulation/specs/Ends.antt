-- The end of a run: its start, that it is never stuck, and what the commit and the answer come to.
use Rattle.std.specs.Prelude.{ℕ, ◌-◌, ◌^◌, ◌<◌, ◌≤◌, ◌≡◌, refl, ◌≢◌, false, cond, List, ◌++◌, ltb, leb, length, take, replicate, None, Ok, Err}
use Rattle.std.proofs.Common.{sym, ap, ◌∙◌, subst, arith}
use Rattle.std.proofs.lemmas.List.{length-replicate}
use Rattle.model.specs.Basics.{All, tab}
use Rattle.model.specs.Book.Syntax.{Table}
use Rattle.model.specs.Book.Words.{Byte}
use Rattle.model.specs.Book.Words as model
use Rattle.model.specs.Book.Contents.{counter_count, table_count, step_count}
use Rattle.model.specs.Book.Read.{tables, counters, steps}
use Rattle.model.specs.Machine.State.{State, stuck}
use Rattle.model.specs.Machine.Functions.{apply}
use Rattle.model.specs.Machine.Steps.{fresh, run}
use Rattle.model.specs.Commit.{commit}
use Rattle.model.specs.Answer.{answer, row_words}
use Rattle.model.specs.Outcome.{book_refusal}
use Rattle.model.specs.Laws.Lists.{length_tab}
use Rattle.model.specs.Laws.Book.{Readable}
use Rattle.model.specs.Safety.Instance.{functions_fine}
use Rattle.model.specs.Safety.BookClaims.{own_steps_lem}
use Rattle.model.proofs.Safety.{demand3}
use Rattle.counter.specs.CounterLaws.{padded}
use Rattle.record_log.specs.Log.{log_of}
use Rattle.record_log.specs.LogLaws.{no_records, used_words}
use Rattle.predicted_index.specs.Home.{home_of}
use Rattle.predicted_index.specs.HomeLaws.{home_below}
use Rattle.predicted_index.specs.RightLaws.{none_ok}
use Rattle.commit.specs.Commit.{Left, committed_rows}
use Rattle.record_log.specs.RecordLaws.{records_of}
use Rattle.commit.specs.CommitLaws.{over_is}
use Rattle.execution.specs.Execution.{RunState}
use Rattle.refusal.specs.declared.Refusal.TheVariants.{AnswerFull}
use Rattle.answer.specs.Layout.{Results, results_of, left_by, assembled, assembled_length, Enough}
use Rattle.answer.specs.AnswerLaws.{Tabled, Told, committed_tabled, enough, assembled_length_lem, assembled_is}
use Rattle.answer.specs.Scratch.{scratch_none}
use Rattle.run.specs.Progress.{Progress, Ran}
use Rattle.simulation.specs.Represents.{machine}
use Rattle.simulation.specs.Runs.{words_of, RunIs}

-- ## The start

-- a fresh execution state with the book's counters
abbrev pub start_state : List ℕ → RunState
start_state w = record { used = 0; counters = record { next = padded (counters w) }; changed = false; stop = None }

abbrev pub start_progress : List ℕ → Progress
start_progress w = record { state = start_state w; done = 0; at = 0; lengths = replicate 64 0 }

pub starts : (w : List ℕ) (L A : ℕ) (m : List ℕ) → RunIs w L 0 (fresh (counters w)) (record { progress = start_progress w; bindings = m; log = replicate L 0; index = replicate 8192 0; answer = replicate A 0 })
unfolding counters tab
starts w L A m = record {
  is = record { fits = omega arith; log_is = sym (no_records L); used = refl; index_ok = none_ok home_of home_below _; next = refl; counted = length_tab _ (counter_count w); flag = refl; sized = tt };
  count = refl;
  done = refl;
  at = refl;
  scratch = scratch_none A;
  slots = length-replicate {A = ℕ} 64 0;
  lengths = refl;
  kinds = refl;
}

-- ## Never stuck

pub never_stuck : (book : List ℕ) → All Byte book → book_refusal book ≡ None → (L n : ℕ) → (run (machine (model.words_of book) L) (counters (model.words_of book)) (steps (model.words_of book)) n).status ≢ stuck
never_stuck book bytes unrefused L n = (demand3 book bytes unrefused (λ o call. apply) (λ o call f args w clean e. functions_fine f args w clean e) (λ n. leb n L) (steps (model.words_of book)) (own_steps_lem book bytes unrefused) n).never_stuck

-- ## The commit and the answer

module _ (w : List ℕ) (h : Readable w) (L : ℕ) (short : L ≤ 16384) (s : State) (a : Ran) (r : RunIs w L (step_count w) s a) (rows : List ℕ) (few : length rows ≤ 16384) where
  abbrev pub used : ℕ
  used = a.progress.state.used

  -- what the commit leaves
  abbrev pub done : Left
  done = committed_rows w (table_count w) (take used a.log) rows

  abbrev pub ts : List Table
  ts = commit s.log (tables w) 0

  records_are : take used a.log ≡ records_of s.log
  records_are = ap (λ (l : List ℕ). take used l) r.is.log_is ∙ ap (λ (n : ℕ). take n (log_of s.log L)) r.is.used ∙ used_words s.log L

  pub over_exactly : done.result.over ≡ ltb (length rows) (row_words ts)
  over_exactly = ap (λ (l : List ℕ). (committed_rows w (table_count w) l rows).result.over) records_are ∙ over_is w h.contents h.bodies s.log r.is.sized rows

  module _ (room : row_words ts ≤ length rows) where
    -- what the answer is made of, with the machine's bodies
    abbrev made : Results
    made = results_of w done.result.counts done.words a.progress.state.counters.next a.progress.lengths (words_of s.answers) a.progress.state.changed (take used a.log)

    tabled : Tabled w done.result.counts done.words ts
    tabled = subst (λ (l : List ℕ). let d : Left = committed_rows w (table_count w) l rows in Tabled w d.result.counts d.words ts) (sym records_are) (committed_tabled w h.contents h.bodies s.log r.is.sized rows room)

    told : Told made s
    told = record { counters = r.is.counted; next = r.is.next; kinds = r.kinds; lengths = r.lengths; steps = refl; changed = r.is.flag; log = records_are }

    abbrev pub results : Results
    results = left_by w done.words a.log a.progress.lengths a.progress.at a.answer done.result a.progress.state

    pub is_enough : length done.words ≤ 16384 → length (take used a.log) ≤ 16384 → a.progress.at < 2 ^ 31 → Enough results a.progress.at a.answer
    is_enough p q z = enough made ts s tabled told a.answer a.progress.at r.at r.scratch p q z

    pub answer_length : assembled_length results (length a.answer) ≡ cond (leb (length (answer ts s)) (length a.answer)) (Ok (length (answer ts s))) (Err AnswerFull)
    answer_length = assembled_length_lem made ts s tabled told a.answer a.progress.at r.at r.scratch

    pub answer_words : assembled results a.answer ≡ cond (leb (length (answer ts s)) (length a.answer)) (answer ts s ++ replicate (length a.answer - length (answer ts s)) 0) a.answer
    answer_words = assembled_is made ts s tabled told a.answer a.progress.at r.at r.scratch
