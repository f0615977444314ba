-- A step on a log with less room beside the same step on a log with more.
use Prim.Native.Nat.{ℕ, ◌+◌}
use mathlib.Core.Bool.{Bool, true, false, ◌&&◌, not}
use Rattle.std.specs.Prelude.{Option, None, Some, slice_get}
use mathlib.Core.List.{List, []}
use lib.Dec.{eqb}
use lib.ListN.{length, get_or, replicate}
use Rattle.model.specs.Basics.{when, only}
use Rattle.model.specs.Book.Syntax.{no_counter, next_of, WriteVal, Instr, LookupOrInsertDefault, LookupWithDefault, Lookup, LookupWithFallback, Insert, InsertIfEq, Remove, External, ExternalWithFallback, AssertEq, AssertNe, AssertAnyNe, ReadCounter, dst_of, width, Rule, Step, batch, prediction, rule_at}
use Rattle.model.specs.Machine.State.{State, Site, is_going, took, asks, mask, Env, note, lose, change, reply, frame, survivors, predicted}
use Rattle.model.specs.Machine.Values.{hold, find}
use Rattle.model.specs.Machine.Steps.{here, wait, plain, clear, bind_out, any_live, take_default, begin, end, finish, table_of, stage_list, body, instruction, instructions, predict, step}
use Rattle.model.specs.Laws.Logic.{when_cases}
use Rattle.model.proofs.Idle.{finish_idle, end_idle, turn, turn_idle}
use Rattle.model.proofs.Room.{Setting, less, Goes, Keeps, Both, stay, reply_goes, found_goes, need_goes, when_goes, then_goes, iter_goes, lose_goes, two_goes, default_goes, any_goes, look_goes, call_goes, list_goes, row_goes, serve_goes, lanes_goes, pass_goes, within}

module _ (S : Setting) where
  body_goes : (k j : ℕ) (ins : Instr) → Keeps S (body (less S) k j ins) (body S.env k j ins)
  unfolding body
  body_goes k j (LookupOrInsertDefault t args vs col dst) =
      pass_goes S _ _ _ _ (λ i s. look_goes S (here k j i) t args col wait wait (stay S) s) (λ i s. serve_goes S (here k j i) dst t args vs col s)
  body_goes k j (LookupWithDefault t args col dst e) = lanes_goes S _ _ (λ i s. look_goes S (here k j i) t args col (take_default (here k j i) e) (take_default (here k j i) e) (default_goes S (here k j i) e) s)
  body_goes k j (Lookup t args col dst) = lanes_goes S _ _ (λ i s. look_goes S (here k j i) t args col (lose i) (lose i) (lose_goes S i) s)
  body_goes k j (LookupWithFallback t key f args col dst) =
      pass_goes S _ _ _ _ (λ i s. look_goes S (here k j i) t key col wait wait (stay S) s) (λ i s. call_goes S (here k j i) 0 (hold dst) f args (lose i) (lose i) (lose_goes S i) s)
  body_goes k j (Insert t vals) = lanes_goes S _ _ (λ i s. list_goes S (here k j i) 0 t (width (table_of S.env t)) vals s)
  body_goes k j (InsertIfEq t l r vals) = lanes_goes S _ _ (λ i s. two_goes S (here k j i) l r _ _
      (λ a b s'. when_goes S (eqb a b) (stage_list (less S) (here k j i) 0 t (width (table_of S.env t)) vals) (stage_list S.env (here k j i) 0 t (width (table_of S.env t)) vals) s' (λ _. list_goes S (here k j i) 0 t (width (table_of S.env t)) vals s')) s)
  body_goes k j (Remove t args) = lanes_goes S _ _ (λ i s. list_goes S (here k j i) 1 t (table_of S.env t).keys args s)
  body_goes k j (External f args dst) = lanes_goes S _ _ (λ i s. call_goes S (here k j i) 0 plain f args (lose i) (lose i) (lose_goes S i) s)
  body_goes k j (ExternalWithFallback f1 args1 f2 args2 dst) =
      pass_goes S _ _ _ _ (λ i s. call_goes S (here k j i) 0 plain f1 args1 wait wait (stay S) s) (λ i s. call_goes S (here k j i) 1 (hold dst) f2 args2 (lose i) (lose i) (lose_goes S i) s)
  body_goes k j (AssertEq l r) = lanes_goes S _ _ (λ i s. two_goes S (here k j i) l r _ _ (λ a b s'. when_goes S (not (eqb a b)) (lose i) (lose i) s' (λ _. lose_goes S i s')) s)
  body_goes k j (AssertNe l r) = lanes_goes S _ _ (λ i s. two_goes S (here k j i) l r _ _ (λ a b s'. when_goes S (eqb a b) (lose i) (lose i) s' (λ _. lose_goes S i s')) s)
  body_goes k j (AssertAnyNe d ops) = lanes_goes S _ _ (λ i s. any_goes S (here k j i) d ops s)
  body_goes k j (ReadCounter c dst) = λ s. stay S (frame s.bindings s.live (replicate (length s.live) (Some (next_of (get_or s.counters c no_counter)))) s)

  finish_goes : (k : ℕ) (d : Option ℕ) → Keeps S (finish k d) (finish k d)
  unfolding finish
  finish_goes k d s = when_goes S (is_going s.status) (λ s'. note (mask k s'.live) (bind_out d s')) (λ s'. note (mask k s'.live) (bind_out d s')) s (λ _. bound d)
    where
      bound : (d : Option ℕ) → Goes S 0 s (note (mask k s.live) (bind_out d s)) (note (mask k s.live) (bind_out d s))
      bound None = stay S (note (mask k s.live) s)
      bound (Some x) = stay S (note (mask k s.live) (bind_out (Some x) s))

  instruction_goes : (k j : ℕ) (ins : Instr) → Keeps S (instruction (less S) k j ins) (instruction S.env k j ins)
  unfolding instruction
  instruction_goes k j ins s = when_goes S (is_going s.status && any_live s.live) _ _ s (λ _.
      then_goes S 0 (finish k (dst_of ins)) (finish k (dst_of ins)) (finish_idle k (dst_of ins)) (finish_idle k (dst_of ins)) (finish_goes k (dst_of ins)) s (body (less S) k j ins (clear s)) (body S.env k j ins (clear s)) (body_goes k j ins (clear s)))

  instructions_goes : (k : ℕ) (r : Rule) (n : ℕ) → Keeps S (instructions (less S) k r n) (instructions S.env k r n)
  unfolding instructions
  instructions_goes k r n s =
      iter_goes S (turn (less S) k r) (turn S.env k r) (turn_idle (less S) k r) (turn_idle S.env k r) (λ j s'. found_goes S 0 (slice_get r.instrs j) s' _ _ _ _ (λ ins _. instruction_goes k j ins s') (λ _. stay S s')) n s

  end_goes : (s : State) → Goes S 1 s (end s) (end s)
  unfolding end
  end_goes s g = when_cases (λ x. Both S 1 s.log s.answers x x) (is_going s.status) (reply (survivors s.bindings s.live)) s (λ _. reply_goes S (survivors s.bindings s.live) s g) (λ b. absurd (rw g at b))

  batch_goes : (k : ℕ) (r : Rule) (n m : ℕ) (columns : List (List ℕ)) (s : State) → Goes S 1 s (end (instructions (less S) k r m (begin k r n columns s))) (end (instructions S.env k r m (begin k r n columns s)))
  unfolding begin
  batch_goes k r n m columns s = then_goes S 1 end end end_idle end_idle end_goes s _ _ (instructions_goes k r m (begin k r n columns s))

  predict_goes : (o : Site) (t : ℕ) (key : List ℕ) (vs : List WriteVal) (s : State) → Goes S 1 s (predict (less S) o t key vs s) (predict S.env o t key vs s)
  unfolding predict
  predict_goes o t key vs s =
      need_goes S 1 (only (eqb (length key) (table_of S.env t).keys && eqb (length key + length vs) (width (table_of S.env t))) (Some key)) s _ _
      (λ _ _. found_goes S 1 (find (table_of S.env t).keys (table_of S.env t).rows key) s _ _ _ _ (λ r _. reply_goes S (predicted false r) (note (took o r) s))
      (λ _. row_goes S 1 o (λ _. None) t key vs s _ _ (λ new r s'. answers new r s')))
    where
      answers : (new : Bool) (r : List ℕ) (s' : State) → Goes S 1 s' (reply (predicted new r) (note (took o r) (note (asks o t key r) (when new change s')))) (reply (predicted new r) (note (took o r) (note (asks o t key r) (when new change s'))))
      answers true r s' = reply_goes S (predicted true r) (note (took o r) (note (asks o t key r) (change s')))
      answers false r s' = reply_goes S (predicted false r) (note (took o r) (note (asks o t key r) s'))

-- ## Steps

-- a step on the log of E, beside the same step with L words of room
module _ (E : Env) (L : ℕ) where
  abbrev pub setting : Setting
  setting = record { env = E; most = L }

  pub step_goes : (k : ℕ) (st : Step) (s : State) → Goes setting 1 s (step (within L E) k st s) (step E k st s)
  unfolding step
  step_goes k (batch r n columns) s = batch_goes setting k (rule_at E.rules r) n (length (rule_at E.rules r).instrs) columns s
  step_goes k (prediction t key vs) s = predict_goes setting (here k 0 0) t key vs (frame (λ _. None) [] [] s)
