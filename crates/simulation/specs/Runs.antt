-- A run of a book's steps in the code and in the machine, with the bodies of the answers at the front of the answer's words; `proofs/Runs` goes step by step.
use Prim.Native.Nat.{ℕ, suc, ◌+◌, ◌-◌, ◌<◌, ◌≤◌}
use Rattle.std.specs.Prelude.{◌≡◌, Bool, cond, get_or, set, take, Option, None, Some, slice_get}
use Rattle.std.proofs.Math.Path.{refl, sym, ap, subst}
use Rattle.std.proofs.Common.{◌∙◌, arith, take-suc-set}
use Rattle.std.proofs.Math.Bool.{true, false, not}
use mathlib.Core.List.{List, [], ◌∷◌, ◌++◌, map, map-append, reverse, reverse-cons, append-nil, append_assoc}
use Rattle.std.proofs.Math.ListN.{length, length-append, length-set}
use Rattle.model.specs.Basics.{found, join, tab, least}
use Rattle.model.specs.Book.Words.{Refusal}
use Rattle.model.specs.Book.Contents.{first_of, end_of, kind_of, first_step, step_count}
use Rattle.model.specs.Book.Decode.{read_batch, read_prediction}
use Rattle.model.specs.Book.Read.{rules, step_fits, steps, steps_refusal, counters}
use Rattle.model.specs.Book.Read as read
use Rattle.model.specs.Machine.State.{State, Answer, predicted, going, stuck}
use Rattle.model.specs.Machine.Steps.{step, run}
use Rattle.model.specs.Answer.{step_body}
use Rattle.model.specs.Laws.Logic.{none_some}
use Rattle.model.specs.Laws.Lists.{least_none}
use Rattle.model.specs.Laws.Book.{Readable, few_steps}
use Rattle.rules.specs.RuleLaws.{at_tab}
use Rattle.rules.specs.StepLaws.{step_batch, step_prediction}
use Rattle.execution.specs.Execution.{RunState, goes_on}
use Rattle.predict.specs.Predict.{Gotten}
use Rattle.action.specs.Run.{Running}
use Rattle.step.specs.Steps.{IsStep, ran_batch, asked_row}
use Rattle.step.specs.StepsLaws.{prediction_facts, writes_within}
use Rattle.answer.specs.Layout.{step_kind}
use Rattle.answer.specs.AnswerLaws.{step_words}
use Rattle.step_bodies.specs.Steps.{placed}
use Rattle.answer.specs.Scratch.{Scratch, scratch_more}
use Rattle.run.specs.Progress.{Ran, halted, batch_told, row_told, body_of, row_body, batch_step, prediction_step, prediction_at, ran_step, ran_next, ran_steps}
use Rattle.run.specs.Progress as flat
use Rattle.simulation.specs.Represents.{machine, LogIs, status_of, Follows, sticks, stops, goes}
use Rattle.simulation.specs.Steps.{RowDone, prediction_follows}

-- the words of the bodies of answers, newest first
abbrev pub words_of : List Answer → List ℕ
words_of as' = join (map step_words (reverse as'))

abbrev kind_of_step : List ℕ → ℕ → ℕ
kind_of_step w k = step_kind (kind_of w (first_step w + k))

-- k steps have answered, in the machine and in the code
pub record RunIs (w : List ℕ) (L k : ℕ) (s : State) (a : Ran) : Type 0 where
  pub is : LogIs w L s.log s.counters s.changed a.progress.state a.log a.index
  pub count : length s.answers ≡ k
  pub done : a.progress.done ≡ k
  pub at : a.progress.at ≡ length (words_of s.answers)
  pub scratch : Scratch (words_of s.answers) a.answer
  pub slots : length a.progress.lengths ≡ 64
  pub lengths : take k a.progress.lengths ≡ map (λ (x : Answer). length (step_words x)) (reverse s.answers)
  pub kinds : map (λ (x : Answer). (step_body x).kind) (reverse s.answers) ≡ tab (kind_of_step w) k

-- the machine is stuck, or both have stopped at the same step for the same reason, or both go on
pub data Runs (w : List ℕ) (L k : ℕ) (s : State) (a : Ran) : Type 0 where
  sticking : s.status ≡ stuck → Runs w L k s a
  stopped : goes_on a.progress.state.stop ≡ false → s.status ≡ status_of a.progress.state.stop → a.progress.done ≡ length s.answers → Runs w L k s a
  going_on : s.status ≡ going → a.progress.state.stop ≡ None → RunIs w L k s a → Runs w L k s a

join_snoc : (ls : List (List ℕ)) (l : List ℕ) → join (ls ++ (l ∷ [])) ≡ join ls ++ l
join_snoc [] l = append-nil l
join_snoc (x ∷ ls) l = ap (λ (y : List ℕ). x ++ y) (join_snoc ls l) ∙ sym (append_assoc x (join ls) l)

words_more : (x : Answer) (as' : List Answer) → words_of (x ∷ as') ≡ words_of as' ++ step_words x
words_more x as' = ap (λ (l : List Answer). join (map step_words l)) (reverse-cons x as') ∙ ap join (map-append step_words (reverse as') (x ∷ [])) ∙ join_snoc (map step_words (reverse as')) (step_words x)

-- ## One answer more

module _ (w : List ℕ) (L k : ℕ) (below : k < 64) (s : State) (a : Ran) (r : RunIs w L k s a) where
  pub answered_more : (x : Answer) (s' : State) (z : RunState) (b log index : List ℕ) → s'.answers ≡ x ∷ s.answers → (step_body x).kind ≡ kind_of_step w k → LogIs w L s'.log s'.counters s'.changed z log index
      → RunIs w L (suc k) s' (record { progress = flat.told z (step_words x) a.progress; bindings = b; log = log; index = index; answer = placed (step_words x) a.progress.at a.answer })
  unfolding tab
  answered_more x s' z b log index e kind is = record {
    is = is;
    count = ap length e ∙ ap suc r.count;
    done = omega (arith, r.done);
    at = sym (ap length words ∙ length-append (words_of s.answers) (step_words x) ∙ omega (arith, r.at));
    scratch = subst (λ (l : List ℕ). Scratch l (placed (step_words x) a.progress.at a.answer)) (sym words) (subst (λ (n : ℕ). Scratch (words_of s.answers ++ step_words x) (placed (step_words x) n a.answer)) (sym r.at) (scratch_more (words_of s.answers) (step_words x) a.answer r.scratch));
    slots = length-set a.progress.lengths a.progress.done (a.progress.at + length (step_words x) - a.progress.at) ∙ r.slots;
    lengths = lengths';
    kinds = ap (map (λ (y : Answer). (step_body y).kind)) (ap reverse e ∙ reverse-cons x s.answers) ∙ map-append (λ (y : Answer). (step_body y).kind) (reverse s.answers) (x ∷ []) ∙ ap (λ (l : List ℕ). l ++ ((step_body x).kind ∷ [])) r.kinds ∙ ap (λ (n : ℕ). tab (kind_of_step w) k ++ (n ∷ [])) kind;
  }
    where
      words : words_of s'.answers ≡ words_of s.answers ++ step_words x
      words = ap words_of e ∙ words_more x s.answers

      lengths' : take (suc k) (set a.progress.lengths a.progress.done (a.progress.at + length (step_words x) - a.progress.at)) ≡ map (λ (y : Answer). length (step_words y)) (reverse s'.answers)
      lengths' =
          let n : a.progress.at + length (step_words x) - a.progress.at ≡ length (step_words x) = omega arith in
          rw (r.done, n) (take-suc-set a.progress.lengths k (length (step_words x)) (omega (arith, r.slots)) ∙ ap (λ (l : List ℕ). l ++ (length (step_words x) ∷ [])) r.lengths)
          ∙ sym (ap (map (λ (y : Answer). length (step_words y))) (ap reverse e ∙ reverse-cons x s.answers) ∙ map-append (λ (y : Answer). length (step_words y)) (reverse s.answers) (x ∷ []))

-- ## One step more

module _ (w : List ℕ) (h : Readable w) (L : ℕ) (short : L ≤ 16384) (no_steps : steps_refusal w ≡ None) where
  fits_all : (k : ℕ) → k < step_count w → step_fits (read.tables w) (rules w) (read.step w k) ≡ true
  unfolding steps_refusal
  fits_all k l = by (step_fits (read.tables w) (rules w) (read.step w k)) (least_none (λ k. not (step_fits (read.tables w) (rules w) (read.step w k))) (step_count w) (none_found (least (λ k. not (step_fits (read.tables w) (rules w) (read.step w k))) (step_count w)) no_steps) k l)
    where
      by : (b : Bool) → not b ≡ false → b ≡ true
      by true e = refl
      by false e = sym e

      none_found : (o : Option ℕ) → ◌≡◌ {A = Option Refusal} (found o (λ k. Some (record { number = 11; place = first_step w + k })) (λ _. None)) None → o ≡ None
      none_found None e = refl
      none_found (Some k) e = absurd (none_some (sym e))

  module _ (k : ℕ) (l : k < step_count w) (s : State) (a : Ran) (going-s : s.status ≡ going) (going-a : a.progress.state.stop ≡ None) (r : RunIs w L k s a) where
    abbrev i : ℕ
    i = first_step w + k

    abbrev at : ℕ
    at = first_of w i

    pub is_step_lem : IsStep w i
    is_step_lem = record { number = k; below = l; entry = refl }

    pub below_64 : k < 64
    below_64 = omega (arith, few_steps w h)

    module _ (kind : kind_of w i ≡ 4) where
      abbrev b : Running
      b = ran_batch w at a.progress.state a.log a.index

      abbrev s₁ : State
      s₁ = step (machine w L) k (read_batch w at) s

      pub fit_batch : step_fits (read.tables w) (rules w) (read_batch w at) ≡ true
      fit_batch = ap (step_fits (read.tables w) (rules w)) (step_batch w h k i at l refl refl kind) ∙ fits_all k l

    module _ (kind : kind_of w i ≡ 5) where
      abbrev g : Gotten
      g = asked_row w a.bindings at a.progress.state a.log a.index

      abbrev s₂ : State
      s₂ = step (machine w L) k (read_prediction w at) s

      abbrev answers_it : Ran
      answers_it = record { progress = flat.told g.got.state (row_body w at g) a.progress; bindings = a.bindings; log = g.log; index = g.index; answer = placed (row_body w at g) a.progress.at a.answer }

      abbrev halts : Ran
      halts = record { progress = halted g.got.state a.progress; bindings = a.bindings; log = g.log; index = g.index; answer = a.answer }

      fit_prediction : step_fits (read.tables w) (rules w) (read_prediction w at) ≡ true
      fit_prediction = ap (step_fits (read.tables w) (rules w)) (step_prediction w h k i at l refl refl kind) ∙ fits_all k l

      key_within : at + 2 + get_or w (at + 1) 0 ≤ length w
      key_within = omega (arith, writes_within h is_step_lem kind)

      pub prediction_turn : Runs w L (suc k) s₂ (prediction_step w i a)
      unfolding prediction_at
      prediction_turn = by (prediction_follows w h L short at (end_of w i) (prediction_facts h is_step_lem kind) key_within fit_prediction k s a.progress.state a.bindings a.log a.index going-s going-a r.is)
        where
          Done : Type 0
          Done = RowDone w h L short at (end_of w i) (prediction_facts h is_step_lem kind) key_within fit_prediction k s a.progress.state a.bindings a.log a.index going-s going-a r.is s₂ g

          by : Follows s s₂ g.got.state.stop Done → Runs w L (suc k) s₂ (row_told w at g a)
          by (sticks e) = sticking e
          by (stops x y z) = subst (λ (u : Bool). Runs w L (suc k) s₂ (cond u answers_it halts)) (sym x) (stopped x y (r.done ∙ sym r.count ∙ ap length (sym z)))
          by (goes x y q) =
              let body : row_body w at g ≡ step_words (predicted q.made q.row) = rw (q.made_is, q.row_is) in
              subst (λ (u : Bool). Runs w L (suc k) s₂ (cond u answers_it halts)) (sym (ap goes_on y))
              (subst (λ (l : List ℕ). Runs w L (suc k) s₂ (record { progress = flat.told g.got.state l a.progress; bindings = a.bindings; log = g.log; index = g.index; answer = placed l a.progress.at a.answer })) (sym body)
              (going_on x y (answered_more w L k below_64 s a r (predicted q.made q.row) s₂ g.got.state a.bindings g.log g.index q.answered (sym (ap step_kind kind)) q.log_is)))

  -- ## All steps

  abbrev ran : ℕ → State
  ran n = run (machine w L) (counters w) (steps w) n

  pub its_step : (k : ℕ) → k < step_count w → slice_get (steps w) k ≡ Some (read.step w k)
  unfolding steps
  its_step k l = at_tab (read.step w) (step_count w) k l
