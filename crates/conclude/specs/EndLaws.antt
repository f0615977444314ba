-- The end of a run is what the model says: refusals 12 and 13 at the step, 15, 16, or the answer.
use Rattle.std.specs.Prelude.{ℕ, ◌+◌, ◌-◌, ◌≤◌, ◌≡◌, ◌≢◌, Bool, true, false, cond, List, ◌++◌, ltb, leb, length, take, replicate, Option, Some, None, Result, Ok, Err}
use Rattle.std.proofs.Math.Path.{refl, subst}
use Rattle.std.proofs.Common.{sym, ap, ◌∙◌, arith, ltb-true, ltb-false, le-leb, leb-true}
use Rattle.std.proofs.lemmas.Bool.{lt-leb}
use Rattle.model.specs.Basics.{◌else◌}
use Rattle.model.specs.Book.Syntax.{Table}
use Rattle.model.specs.Book.Words.{unless}
use Rattle.model.specs.Book.Contents.{first_step, step_count, table_count}
use Rattle.model.specs.Book.Read.{counters, steps}
use Rattle.model.specs.Machine.State.{State, going, stuck}
use Rattle.model.specs.Machine.Steps as machine
use Rattle.model.specs.Answer as model
use Rattle.model.specs.Answer.{row_words}
use Rattle.model.specs.Outcome.{Lent, ran, committed_by, end_refusal}
use Rattle.model.specs.Laws.Lists.{length_tab}
use Rattle.model.specs.Laws.Book.{Readable}
use Rattle.execution.specs.declared.Stop.{Stop}
use Rattle.execution.specs.declared.Stop.TheVariants.{Spent, Full}
use Rattle.execution.specs.Execution.{goes_on}
use Rattle.commit.specs.Commit.{Left, committed_rows}
use Rattle.refusal.specs.declared.Refusal.{Refusal}
use Rattle.refusal.specs.declared.Refusal.TheVariants.{RowsFull, AnswerFull}
use Rattle.answer.specs.Layout.{left_by, assembled}
use Rattle.run.specs.Progress.{Ran}
use Rattle.simulation.specs.Represents.{machine, status_of, bool_clash}
use Rattle.simulation.specs.Runs.{RunIs, Runs, sticking, stopped, going_on}
use Rattle.simulation.specs.Ends as ends
use Rattle.conclude.specs.End.{Concludes}
use Rattle.conclude.specs.End.{Settling, answered_by, settled, by_stop, concluded}

-- what the machine leaves is what its run over all steps leaves
pub ran_is : (w : List ℕ) (l : Lent) → ran w l ≡ machine.run (machine w l.log) (counters w) (steps w) (step_count w)
unfolding ran steps
ran_is w l = ap (machine.run (machine w l.log) (counters w) (steps w)) (length_tab _ (step_count w))

module _ (w : List ℕ) (h : Readable w) (l : Lent) (short : l.log ≤ 16384) (few : l.tables ≤ 16384) (a : Ran) (rows : List ℕ) (rows-size : length rows ≡ l.tables) (answer-size : length a.answer ≡ l.answer) where
  abbrev s : State
  s = ran w l

  abbrev ts : List Table
  ts = committed_by w s

  abbrev out : Settling
  out = concluded w a.progress a.log rows a.answer

  abbrev place : ℕ
  place = first_step w + length s.answers

  -- it stopped
  at_stop : (o : Option Stop) → goes_on o ≡ false → s.status ≡ status_of o → a.progress.done ≡ length s.answers → let c : Settling = by_stop o w a.progress a.log rows a.answer in Concludes w l c.outcome c.answer
  unfolding end_refusal
  at_stop None e q d = absurd (bool_clash e)
  at_stop (Some Spent) e q d = rw (q, d)
  at_stop (Some Full) e q d = rw (q, d)

  -- it went on, and the rows have room or not; then the answer has room or not
  module _ (on : s.status ≡ going) (r : RunIs w l.log (step_count w) s a) where
    abbrev W : List ℕ
    W = model.answer ts s

    no_early : end_refusal l (first_step w) ts s ≡ (unless (leb (row_words ts) l.tables) 15 0 else λ _. unless (leb (length W) l.answer) 16 0)
    unfolding end_refusal
    no_early = rw on

    done_over : (ends.done w h l.log short s a r rows (rw rows-size few)).result.over ≡ ltb l.tables (row_words ts)
    done_over = ends.over_exactly w h l.log short s a r rows (rw rows-size few) ∙ ap (λ (n : ℕ). ltb n (row_words ts)) rows-size

    -- the rows have room
    module _ (room : row_words ts ≤ l.tables) where
      fits_rows : leb (row_words ts) l.tables ≡ true
      fits_rows = le-leb (row_words ts) l.tables room

      answered : (n : ℕ) → n ≡ l.answer → (q : Bool) → leb (length W) n ≡ q → Concludes w l (cond q (Ok (length W)) (Err AnswerFull)) (cond q (W ++ replicate (n - length W) 0) a.answer)
      answered n z true e = (no_early ∙ rw (fits_rows, ap (leb (length W)) (sym z) ∙ e), refl, omega (arith, leb-true (length W) n e), ap (λ (n : ℕ). W ++ replicate (n - length W) 0) z)
      answered n z false e = no_early ∙ rw (fits_rows, ap (leb (length W)) (sym z) ∙ e)

      settles_roomy : let c : Settling = answered_by (ends.results w h l.log short s a r rows (rw rows-size few) (rw rows-size room)) (ends.done w h l.log short s a r rows (rw rows-size few)).words a.answer in Concludes w l c.outcome c.answer
      settles_roomy =
          subst (λ (x : Result ℕ Refusal). Concludes w l x (assembled (ends.results w h l.log short s a r rows (rw rows-size few) (rw rows-size room)) a.answer)) (sym (ends.answer_length w h l.log short s a r rows (rw rows-size few) (rw rows-size room)))
          (subst (λ (x : List ℕ). Concludes w l (cond (leb (length W) (length a.answer)) (Ok (length W)) (Err AnswerFull)) x) (sym (ends.answer_words w h l.log short s a r rows (rw rows-size few) (rw rows-size room)))
          (answered (length a.answer) answer-size (leb (length W) (length a.answer)) refl))

    settles : let c : Settling = settled w a.progress a.log rows a.answer in Concludes w l c.outcome c.answer
    unfolding settled
    settles = by (ltb l.tables (row_words ts)) refl
      where
        d : Left
        d = committed_rows w (table_count w) (take a.progress.state.used a.log) rows

        yes_over : Settling
        yes_over = record { outcome = Err RowsFull; rows = d.words; answer = a.answer }

        not_over : Settling
        not_over = answered_by (left_by w d.words a.log a.progress.lengths a.progress.at a.answer d.result a.progress.state) d.words a.answer

        by : (b : Bool) → ltb l.tables (row_words ts) ≡ b → let c : Settling = cond d.result.over yes_over not_over in Concludes w l c.outcome c.answer
        by true e = subst (λ (b : Bool). let c : Settling = cond b yes_over not_over in Concludes w l c.outcome c.answer) (sym (done_over ∙ e)) (no_early ∙ rw (lt-leb (row_words ts) l.tables (ltb-true l.tables (row_words ts) e)))
        by false e = subst (λ (b : Bool). let c : Settling = cond b yes_over not_over in Concludes w l c.outcome c.answer) (sym (done_over ∙ e)) (settles_roomy (ltb-false l.tables (row_words ts) e))

  -- the run as the code left it
  pub concludes : Runs w l.log (step_count w) s a → s.status ≢ stuck → Concludes w l out.outcome out.answer
  unfolding concluded
  concludes (sticking e) n = absurd (n e)
  concludes (stopped e q d) n = at_stop a.progress.state.stop e q d
  concludes (going_on x y r) n = subst (λ (o : Option Stop). let c : Settling = by_stop o w a.progress a.log rows a.answer in Concludes w l c.outcome c.answer) (sym y) (settles x r)
