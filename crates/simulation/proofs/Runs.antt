-- A batch, a step and a whole run: the code follows the machine.
use Rattle.std.specs.Prelude.{ℕ, zero, suc, ◌+◌, ◌*◌, ◌<◌, ◌≤◌, ◌≡◌, refl, Bool, get_or, cond, None, slice_get}
use Rattle.std.proofs.Math.Path.{sym, ap, subst}
use Rattle.std.proofs.Common.{◌∙◌, arith, eq-eqb}
use Rattle.std.proofs.Math.Bool.{true}
use mathlib.Core.List.{List, ◌∷◌}
use Rattle.std.proofs.Math.Dec.{eqb}
use Rattle.std.proofs.Math.ListN.{length}
use Rattle.model.specs.Basics.{when, found, tab}
use Rattle.model.specs.Book.Syntax.{Rule, Step}
use Rattle.model.specs.Book.Contents.{first_of, end_of, kind_of, first_step, step_count}
use Rattle.model.specs.Book.Decode.{part, read_rule, read_batch, read_prediction}
use Rattle.model.specs.Book.Read.{sizes, rules, step_fits, steps, steps_refusal, counters}
use Rattle.model.specs.Machine.State.{State, Answer, survivors, going, is_going}
use Rattle.model.specs.Machine.Steps.{begin, end, instructions, step, fresh, run}
use Rattle.model.specs.Laws.Turns.{when_T, when_F}
use Rattle.model.specs.Laws.Book.{Readable, rule_is}
use Rattle.model.specs.Laws.Scan.{BatchWords}
use Rattle.action.specs.Run.{Running}
use Rattle.step.specs.Steps.{start_batch, rule_of, ran_batch}
use Rattle.simulation.specs.Represents.{machine, LogIs, Follows, sticks, stops, goes, not_going}
use Rattle.simulation.proofs.Instructions.{instrs_follow}
use Rattle.model.specs.Laws.Logic.{either}
use Rattle.model.specs.Laws.Kinds.{step_kind_lem}
use Rattle.rules.specs.StepLaws.{step_batch, step_prediction}
use Rattle.execution.specs.Execution.{RunState, goes_on, is_going as code_goes}
use Rattle.step.specs.StepsLaws.{batch_facts, columns_within}
use Rattle.answer.specs.Layout.{step_kind}
use Rattle.answer.specs.AnswerLaws.{step_words}
use Rattle.step_bodies.specs.Steps.{placed, batch_words}
use Rattle.bindings.specs.Columns.{columns_of}
use Rattle.run.specs.Progress.{Ran, halted, batch_told, body_of, batch_step, prediction_step, ran_step, ran_next, ran_steps}
use Rattle.simulation.specs.Steps.{last, started, its, count_is, all_fit}
use Rattle.simulation.specs.Runs.{answered_more, is_step_lem, below_64, fit_batch, prediction_turn, its_step, RunIs, Runs, sticking, stopped, going_on}
use Rattle.model.specs.Book.Read as read
use Rattle.step_bodies.specs.StepLaws as told
use Rattle.run.specs.Progress as flat
use Rattle.simulation.specs.Steps as batch

-- ## A batch

module _ (w : List ℕ) (h : Readable w) (L : ℕ) (short : L ≤ 16384) where
  -- the batch whose body begins at the word `at`
  module _ (at end_at : ℕ) (words : BatchWords (sizes w) w end_at at) (within : at + 3 + get_or w (at + 2) 0 * get_or w (at + 1) 0 ≤ length w) (fit : step_fits (read.tables w) (rules w) (read_batch w at) ≡ true) where
    abbrev n : ℕ
    n = get_or w (at + 1) 0

    abbrev columns : List (List ℕ)
    columns = tab (λ c. part w (at + 3 + c * n) n) (get_or w (at + 2) 0)

    abbrev rule : Rule
    rule = read_rule w (rule_of w at)

    module _ (k : ℕ) (s : State) (x : RunState) (log index : List ℕ) (a : s.status ≡ going) (o : x.stop ≡ None) (is : LogIs w L s.log s.counters s.changed x log index) where
      abbrev s₀ : State
      s₀ = begin k rule n columns s

      abbrev r₀ : Running
      r₀ = start_batch w at x log index

      abbrev many : ℕ
      many = get_or w (rule_of w at + 1) 0

      abbrev r : Running
      r = ran_batch w at x log index

      abbrev BatchDone : State → Type 0
      BatchDone = batch.BatchDone w h L short at end_at words within fit k s x log index a o is

      pub batch_follows : let s' : State = step (machine w L) k (read_batch w at) s in Follows s s' r.batch.state.stop (BatchDone s')
      unfolding step read_batch ran_batch begin
      batch_follows =
          subst (λ (u : Rule). let s' : State = end (instructions (machine w L) k u (length u.instrs) (begin k u n columns s)) in Follows s s' r.batch.state.stop (BatchDone s')) (sym (rule_is w (get_or w at 0) words.rule))
          (subst (λ (u : ℕ). let s' : State = end (instructions (machine w L) k rule u s₀) in Follows s s' r.batch.state.stop (BatchDone s')) (sym (count_is w h L short at end_at words within fit k s x log index a o is))
          (batch.ended w h L short at end_at words within fit k s x log index a o is (instrs_follow w L short s.answers k (rule_of w at) many (all_fit w h L short at end_at words within fit k s x log index a o is) rule (its w h L short at end_at words within fit k s x log index a o is) s₀ r₀ a o (started w h L short at end_at words within fit k s x log index a o is) many (omega arith))))

-- ## The steps

module _ (w : List ℕ) (h : Readable w) (L : ℕ) (short : L ≤ 16384) (no_steps : steps_refusal w ≡ None) where
  module _ (k : ℕ) (l : k < step_count w) (s : State) (a : Ran) (going-s : s.status ≡ going) (going-a : a.progress.state.stop ≡ None) (r : RunIs w L k s a) where
    abbrev i : ℕ
    i = first_step w + k

    abbrev at : ℕ
    at = first_of w i

    module _ (kind : kind_of w i ≡ 4) where
      abbrev b : Running
      b = ran_batch w at a.progress.state a.log a.index

      abbrev s₁ : State
      s₁ = step (machine w L) k (read_batch w at) s

      batch_turn : Runs w L (suc k) s₁ (batch_step w i a)
      unfolding batch_step
      batch_turn = by (batch_follows w h L short at (end_of w i) (batch_facts h (is_step_lem w h L short no_steps k l s a going-s going-a r) kind) (columns_within h (is_step_lem w h L short no_steps k l s a going-s going-a r) kind) (fit_batch w h L short no_steps k l s a going-s going-a r kind) k s a.progress.state a.log a.index going-s going-a r.is)
        where
          last_of : State
          last_of = last w h L short at (end_of w i) (batch_facts h (is_step_lem w h L short no_steps k l s a going-s going-a r) kind) (columns_within h (is_step_lem w h L short no_steps k l s a going-s going-a r) kind) (fit_batch w h L short no_steps k l s a going-s going-a r kind) k s a.progress.state a.log a.index going-s going-a r.is

          Done : Type 0
          Done = BatchDone w h L short at (end_of w i) (batch_facts h (is_step_lem w h L short no_steps k l s a going-s going-a r) kind) (columns_within h (is_step_lem w h L short no_steps k l s a going-s going-a r) kind) (fit_batch w h L short no_steps k l s a going-s going-a r kind) k s a.progress.state a.log a.index going-s going-a r.is s₁

          by : Follows s s₁ b.batch.state.stop Done → Runs w L (suc k) s₁ (batch_told b a)
          by (sticks e) = sticking e
          by (stops x y z) = subst (λ (u : Bool). Runs w L (suc k) s₁ (cond u (record { progress = flat.told b.batch.state (body_of b) a.progress; bindings = b.bindings; log = b.log; index = b.index; answer = placed (body_of b) a.progress.at a.answer }) (record { progress = halted b.batch.state a.progress; bindings = b.bindings; log = b.log; index = b.index; answer = a.answer }))) (sym x)
              (stopped x y (r.done ∙ sym r.count ∙ ap length (sym z)))
          by (goes x y d) =
              let q = d.batch_is in
              let end : State = last_of in
              let body : body_of b ≡ step_words (survivors end.bindings end.live) =
              ap (λ (n : ℕ). batch_words n b.batch.bindings.bound.known b.bindings b.batch.mask.live) q.lanes
              ∙ ap (λ (m : List ℕ). batch_words (length end.live) b.batch.bindings.bound.known m b.batch.mask.live) q.bindings
              ∙ ap (batch_words (length end.live) b.batch.bindings.bound.known (columns_of end.bindings)) q.live
              ∙ told.batch_is end.bindings end.live b.batch.bindings.bound.known q.few (λ v _. q.bound_is v) (λ v c _ e. q.columns v c e) in
              subst (λ (u : Bool). Runs w L (suc k) s₁ (cond u (record { progress = flat.told b.batch.state (body_of b) a.progress; bindings = b.bindings; log = b.log; index = b.index; answer = placed (body_of b) a.progress.at a.answer }) (record { progress = halted b.batch.state a.progress; bindings = b.bindings; log = b.log; index = b.index; answer = a.answer }))) (sym (ap goes_on y))
              (subst (λ (l : List ℕ). Runs w L (suc k) s₁ (record { progress = flat.told b.batch.state l a.progress; bindings = b.bindings; log = b.log; index = b.index; answer = placed l a.progress.at a.answer })) (sym body)
              (going_on x y
              (answered_more w L k (below_64 w h L short no_steps k l s a going-s going-a r) s a r (survivors end.bindings end.live) s₁ b.batch.state b.bindings b.log b.index
              (ap (λ (t : State). t.answers) d.ends ∙ ap (λ (l : List Answer). survivors end.bindings end.live ∷ l) q.answered) (sym (ap step_kind kind))
              (subst (λ (t : State). LogIs w L t.log t.counters t.changed b.batch.state b.log b.index) (sym d.ends) q.is))))

    module _ (kind : kind_of w i ≡ 5) where
      abbrev s₂ : State
      s₂ = step (machine w L) k (read_prediction w at) s

    step_turn : Runs w L (suc k) (step (machine w L) k (read.step w k) s) (ran_step w i a)
    step_turn = either
        (λ (e : kind_of w i ≡ 4). subst (λ (st : Step). Runs w L (suc k) (step (machine w L) k st s) (ran_step w i a)) (step_batch w h k i at l refl refl e) (subst (λ (u : Bool). Runs w L (suc k) (s₁ e) (cond u (batch_step w i a) (prediction_step w i a))) (sym (eq-eqb (kind_of w i) 4 e)) (batch_turn e)))
        (λ (e : kind_of w i ≡ 5). subst (λ (st : Step). Runs w L (suc k) (step (machine w L) k st s) (ran_step w i a)) (step_prediction w h k i at l refl refl e) (subst (λ (n : ℕ). Runs w L (suc k) (s₂ e) (cond (eqb n 4) (batch_step w i a) (prediction_step w i a))) (sym e) (prediction_turn w h L short no_steps k l s a going-s going-a r e)))
        (step_kind_lem w h.contents h.bodies k l)

  -- ## All steps

  abbrev ran : ℕ → State
  ran n = run (machine w L) (counters w) (steps w) n

  module _ (a₀ : Ran) (start : RunIs w L 0 (fresh (counters w)) a₀) (on : a₀.progress.state.stop ≡ None) where
    pub run_follows : (n : ℕ) → n ≤ step_count w → Runs w L n (ran n) (ran_steps w n a₀)
    unfolding run ran_steps ran_next
    run_follows zero l = going_on refl on start
    run_follows (suc n) l = by (run_follows n (omega arith))
      where
        s : State
        s = ran n

        a : Ran
        a = ran_steps w n a₀

        act : State → State
        act s' = found (slice_get (steps w) n) (λ st. step (machine w L) n st s') (λ _. s')

        acts : act s ≡ step (machine w L) n (read.step w n) s
        acts = rw (its_step w h L short no_steps n (omega arith))

        by : Runs w L n s a → Runs w L (suc n) (when (is_going s.status) act s) (ran_next w a)
        by (sticking e) = sticking (ap (λ (t : State). t.status) (when_F (is_going s.status) act s (ap is_going e)) ∙ e)
        by (stopped x y z) =
            let e : when (is_going s.status) act s ≡ s = when_F (is_going s.status) act s (not_going a.progress.state.stop s.status x y) in
            let c : ran_next w a ≡ a = when_F (code_goes a.progress.state) (ran_step w (first_step w + a.progress.done)) a x in
            subst (λ (t : State). Runs w L (suc n) t (ran_next w a)) (sym e) (subst (λ (b : Ran). Runs w L (suc n) s b) (sym c) (stopped x y z))
        by (going_on x y r) =
            let e : when (is_going s.status) act s ≡ step (machine w L) n (read.step w n) s = when_T (is_going s.status) act s (ap is_going x) ∙ acts in
            let c : ran_next w a ≡ ran_step w (first_step w + n) a = when_T (code_goes a.progress.state) (ran_step w (first_step w + a.progress.done)) a (ap goes_on y) ∙ ap (λ (k : ℕ). ran_step w (first_step w + k) a) r.done in
            subst (λ (t : State). Runs w L (suc n) t (ran_next w a)) (sym e) (subst (λ (b : Ran). Runs w L (suc n) (step (machine w L) n (read.step w n) s) b) (sym c) (step_turn n (omega arith) s a x y r))
