-- The entry of the next step, how many lanes a batch keeps, how many words a prediction's row has at most, and what a step leaves where it answered and where it stopped.
use Rattle.std.specs.Prelude.{ℕ, ◌+◌, ◌<◌, ◌≤◌, ◌≡◌, true, false, ◌&&◌, ◌⊎◌, List, length, get_or}
use Rattle.std.proofs.Math.Path.{refl}
use Rattle.std.proofs.Common.{sym, ap, subst, ◌∙◌, arith}
use Rattle.model.specs.Book.Contents.{first_of, first_step, kind_of, step_count}
use Rattle.model.specs.Book.Decode.{instr_place}
use Rattle.model.specs.Laws.Book.{Readable}
use Rattle.model.specs.Laws.Iter.{iter_keeps}
use Rattle.model.specs.Laws.Kinds.{table_read, step_kind_lem}
use Rattle.model.specs.Laws.Logic.{either, when_ind}
use Rattle.model.specs.Machine.Steps.{any_live}
use Rattle.contents.specs.declared.Contents.{Contents}
use Rattle.contents.specs.Contents.{ContentsOf}
use Rattle.contents.specs.ContentsLaws.{first_step_is}
use Rattle.predicted_index.specs.Home.{home_of}
use Rattle.predicted_index.specs.RowLaws.{row_short}
use Rattle.instr.specs.Instr.{instr_at}
use Rattle.execution.specs.Execution.{RunState, is_going}
use Rattle.predict.specs.Predict.{Gotten}
use Rattle.action.specs.Run as action
use Rattle.action.specs.Run.{Running, ran_instr, ran_instrs}
use Rattle.step.specs.Steps.{IsStep, Asks, lane_count, start_batch, rule_of, ran_batch, row_asked, key_asked, row_answered}
use Rattle.step.specs.StepsLaws.{lane_count_most, batch_facts, asks_here}
use Rattle.step_bodies.specs.Steps.{placed}
use Rattle.run.specs.Progress.{Progress, Ran, halted, told, body_of, batch_told, row_body, row_told, next_entry, batch_step, prediction_step, ran_next}

-- ## The entry of the next step, by what `first_step` answers

module _ {w : List ℕ} {c : Contents} (h : ContentsOf w c) {first : ℕ} (e : first ≡ c.tables + c.counters + c.rules) (k : ℕ) where
  pub entry_here : first + k ≡ first_step w + k
  entry_here = ap (λ (f : ℕ). f + k) (first_step_is h e)

  pub step_here : k < step_count w → IsStep w (first + k)
  step_here l = record { number = k; below = l; entry = entry_here }

  pub kind_here : {n : ℕ} → kind_of w (first_step w + k) ≡ n → kind_of w (first + k) ≡ n
  kind_here q = ap (kind_of w) entry_here ∙ q

-- ## The lanes of a batch

module _ (w : List ℕ) where
  -- an instruction keeps the number of lanes
  next_lanes : (p : ℕ) (r : Running) → (action.ran_next w p r).batch.bindings.matches ≡ r.batch.bindings.matches
  unfolding action.ran_next ran_instr
  next_lanes p r = when_ind (λ (x : Running). x.batch.bindings.matches ≡ r.batch.bindings.matches) (is_going r.batch.state && any_live r.batch.mask.live) (ran_instr w (instr_at w p)) r (λ _. refl) refl

  -- and so do the instructions of a rule
  pub instrs_lanes : (at n : ℕ) (r : Running) → (ran_instrs w at n r).batch.bindings.matches ≡ r.batch.bindings.matches
  unfolding ran_instrs
  instrs_lanes at n r = iter_keeps (λ (x : Running). x.batch.bindings.matches ≡ r.batch.bindings.matches) (λ j. action.ran_next w (instr_place w at j)) n r refl (λ i a l e. next_lanes (instr_place w at i) a ∙ e)

  -- a batch ends with the lanes that its body says
  pub batch_lanes : (at : ℕ) (x : RunState) (log index : List ℕ) → (ran_batch w at x log index).batch.bindings.matches ≡ lane_count (get_or w (at + 2) 0) (get_or w (at + 1) 0)
  unfolding ran_batch
  batch_lanes at x log index = instrs_lanes (rule_of w at) (get_or w (rule_of w at + 1) 0) (start_batch w at x log index)

module _ {w : List ℕ} (h : Readable w) {i : ℕ} (s : IsStep w i) where
  -- a batch of the book has at most 256 lanes when it ends
  pub lanes_most : kind_of w i ≡ 4 → (x : RunState) (log index : List ℕ) → (ran_batch w (first_of w i) x log index).batch.bindings.matches ≤ 256
  lanes_most k x log index =
      omega (arith, batch_lanes w (first_of w i) x log index, lane_count_most (get_or w (first_of w i + 2) 0) (get_or w (first_of w i + 1) 0) (batch_facts h s k).lanes)

  -- a step that is no batch is a prediction
  pub not_batch : (kind_of w i ≡ 4 → ⊥) → kind_of w i ≡ 5
  not_batch n = either (λ q. absurd (n q)) (λ q. q) (subst (λ (e : ℕ). (kind_of w e ≡ 4) ⊎ (kind_of w e ≡ 5)) (sym s.entry) (step_kind_lem w h.contents h.bodies s.number s.below))

-- the row of a prediction of the book has at most 16 words
pub asked_most : {w : List ℕ} → Readable w → {at : ℕ} → Asks w at → (log index : List ℕ) → length (row_answered w at log index) ≤ 16
unfolding row_answered
asked_most {w} h {at} a log index =
    let t = (table_read w h.contents h.bodies (get_or w at 0) a.table).1 in
    omega (arith, t.keys, t.vals, row_short home_of w log index (row_asked w at).of (key_asked w at).vals)

module _ {w : List ℕ} (h : Readable w) {i : ℕ} (s : IsStep w i) where
  pub row_most : kind_of w i ≡ 5 → (log index : List ℕ) → length (row_answered w (first_of w i) log index) ≤ 16
  row_most k log index = asked_most h (asks_here h s k) log index

-- ## A step that answered, and one that stopped

module _ (r : Running) (a : Ran) where
  pub batch_answered : (p : Progress) (answer : List ℕ) → is_going r.batch.state ≡ true → p ≡ told r.batch.state (body_of r) a.progress → answer ≡ placed (body_of r) a.progress.at a.answer
      → record { progress = p; bindings = r.bindings; log = r.log; index = r.index; answer = answer } ≡ batch_told r a
  batch_answered p answer g e f = rw (g, e, f)

  pub batch_stopped : (p : Progress) → is_going r.batch.state ≡ false → p ≡ halted r.batch.state a.progress
      → record { progress = p; bindings = r.bindings; log = r.log; index = r.index; answer = a.answer } ≡ batch_told r a
  batch_stopped p g e = rw (g, e)

module _ (w : List ℕ) (at : ℕ) (g : Gotten) (a : Ran) where
  pub row_answered_lem : (p : Progress) (answer : List ℕ) → is_going g.got.state ≡ true → p ≡ told g.got.state (row_body w at g) a.progress → answer ≡ placed (row_body w at g) a.progress.at a.answer
      → record { progress = p; bindings = a.bindings; log = g.log; index = g.index; answer = answer } ≡ row_told w at g a
  row_answered_lem p answer e q f = rw (e, q, f)

  pub row_stopped : (p : Progress) → is_going g.got.state ≡ false → p ≡ halted g.got.state a.progress
      → record { progress = p; bindings = a.bindings; log = g.log; index = g.index; answer = a.answer } ≡ row_told w at g a
  row_stopped p e q = rw (e, q)

-- ## The next step

module _ (w : List ℕ) (a : Ran) where
  module _ (g : is_going a.progress.state ≡ true) where
    abbrev i : ℕ
    i = next_entry w a.progress

    pub next_batch : kind_of w i ≡ 4 → batch_step w i a ≡ ran_next w a
    unfolding ran_next
    next_batch k = rw (g, k)

    pub next_prediction : kind_of w i ≡ 5 → prediction_step w i a ≡ ran_next w a
    unfolding ran_next
    next_prediction k = rw (g, k)

  pub next_stopped : is_going a.progress.state ≡ false → a ≡ ran_next w a
  unfolding ran_next
  next_stopped g = rw g
