-- Who asks for a predicted row: an `asks` event comes from an asker.
use Prim.Native.Nat.{ℕ, zero, suc, ◌<◌}
use native.Mathlib.Omega.{arith}
use mathlib.Core.Path.{◌≡◌, refl, sym, ap, ◌∙◌, subst}
use mathlib.Core.Logic.{◌⊎◌, inl, inr}
use mathlib.Core.Bool.{Bool, true, false}
use Rattle.std.specs.Prelude.{None, Some, slice_get}
use mathlib.Core.List.{List, []}
use lib.Dec.{T}
use lib.ListN.{length}
use Rattle.model.specs.Book.Syntax.{Counter, Instr, LookupOrInsertDefault, Rule, Step, batch, prediction, rule_at}
use Rattle.model.specs.Machine.State.{State, Site, Event, asks, going, is_going, Env, frame}
use Rattle.model.specs.Machine.Values.{find}
use Rattle.model.specs.Machine.Steps.{here, table_of, begin, end, instruction, instructions, step, run}
use Rattle.model.specs.Claims.Demand3.{before}
use Rattle.model.specs.Claims.Trace.{In, Comes, Asker, lane, predicts, AsksSound}
use Rattle.model.specs.Laws.Logic.{found_ind, when_ind, when_cases, either}
use Rattle.model.proofs.Grown.{in_cons, in_none, newer_cases, T-going}
use Rattle.model.proofs.TraceTurns.{Own}
use Rattle.model.proofs.TraceRun.{InstrEvent, instruction_adds, predict_adds}
use Rattle.model.proofs.TraceComes.{asks≢mask}

pub T_true : (b : Bool) → T b → b ≡ true
T_true true t = refl
T_true false t = absurd t

module _ (E : Env) (counters : List Counter) (steps : List Step) where
  -- the event is in a trace
  abbrev Asked : Site → ℕ → List ℕ → List ℕ → List Event → Type 0
  Asked o t key r tr = In (asks o t key r) tr

  module _ (o : Site) (t : ℕ) (key r : List ℕ) where
    -- ## In a batch

    module _ (k rule n : ℕ) (columns : List (List ℕ)) (is : slice_get steps k ≡ Some (batch rule n columns)) (g : (run E counters steps k).status ≡ going) where
      abbrev at : ℕ → State
      at j = before E counters steps k rule n columns j

      -- of an instruction before j
      abbrev Sooner : ℕ → Type 0
      Sooner j = Asked o t key r (run E counters steps k).trace ⊎ ((o.step ≡ k) × (o.instr < j) × Asker E counters steps o t key)

      by_instr : (j : ℕ) (ins : Instr) → slice_get (rule_at E.rules rule).instrs j ≡ Some ins → InstrEvent E k j ins (at j) (asks o t key r) → (o.step ≡ k) × (o.instr < suc j) × Asker E counters steps o t key
      by_instr j ins e (y, inl p) = absurd (asks≢mask o t key r k p.0 p.1)
      by_instr j ins e (y, inr (x, l, (q, p))) =
          let is_instr : slice_get (rule_at E.rules rule).instrs j ≡ Some (LookupOrInsertDefault t p.0 p.1 p.2 p.3) = e ∙ ap Some p.4 in
          let c : Comes E counters steps k j x (LookupOrInsertDefault t p.0 p.1 p.2 p.3) = record { rule = rule; lanes = n; columns = columns; is_step = is; is_instr = is_instr; begun = g; goes = T-going _ y; live = T_true _ l } in
          (ap (λ z. z.step) q, omega (arith, ap (λ z. z.instr) q), subst (λ z. Asker E counters steps z t key) (sym q) (lane p.0 p.1 p.2 p.3 c p.5))

      asks_before : (j : ℕ) → Asked o t key r (at j).trace → Sooner j
      unfolding instructions begin
      asks_before zero h = either (λ e. absurd (asks≢mask o t key r k _ (sym e))) inl (in_cons _ (run E counters steps k).trace h)
      asks_before (suc j) h =
          let go : Asked o t key r (at j).trace → Sooner (suc j) = λ q. either inl (λ p. inr (p.0, omega (arith, p.1), p.2)) (asks_before j q) in
          found_ind (λ z. Asked o t key r z.trace → Sooner (suc j)) (slice_get (rule_at E.rules rule).instrs j) (λ ins. instruction E k j ins (at j)) (λ _. at j)
          (λ ins e q. either (λ p. inr (by_instr j ins e p)) go (newer_cases (InstrEvent E k j ins (at j)) (at j).trace _ (instruction_adds E k j ins (at j)).trace q))
          (λ _. go) h

    -- ## In a step

    step_asks : (k : ℕ) (st : Step) → slice_get steps k ≡ Some st → (run E counters steps k).status ≡ going → Asked o t key r (step E k st (run E counters steps k)).trace
        → Asked o t key r (run E counters steps k).trace ⊎ ((o.step ≡ k) × Asker E counters steps o t key)
    unfolding step end
    step_asks k (batch rule n columns) is g h =
        let R : Rule = rule_at E.rules rule in
        either inl (λ p. inr (p.0, p.2))
        (asks_before k rule n columns is g (length R.instrs)
        (when_ind (λ z. Asked o t key r z.trace → Asked o t key r (before E counters steps k rule n columns (length R.instrs)).trace) (is_going (before E counters steps k rule n columns (length R.instrs)).status) _ (before E counters steps k rule n columns (length R.instrs)) (λ _ q. q) (λ q. q) h))
    step_asks k (prediction u ws vs) is g h =
        let A : ℕ → List ℕ → Type 0 = λ t' key'. (t' ≡ u) × (key' ≡ ws) × (find (table_of E u).keys (table_of E u).rows ws ≡ None) in
        either
        (λ p. inr (ap (λ z. z.step) p.0, subst (λ z. Asker E counters steps z t key) (sym p.0) (asker p.1)))
        inl
        (newer_cases (Own (here k 0 0) A) (run E counters steps k).trace _ (predict_adds E (here k 0 0) A (frame (λ _. None) [] [] (run E counters steps k)) u ws vs (λ e. (refl, refl, e))).trace h)
      where
        asker : (t ≡ u) × (key ≡ ws) × (find (table_of E u).keys (table_of E u).rows ws ≡ None) → Asker E counters steps (here k 0 0) t key
        asker p = rw (p.0, p.1) (predicts vs is g p.2)

  -- ## In a run

  pub asks_sound : AsksSound E counters steps
  unfolding run
  asks_sound zero o t key r h = absurd (in_none h)
  asks_sound (suc n) o t key r h =
      let s : State = run E counters steps n in
      let old : Asked o t key r s.trace → Asker E counters steps o t key × (o.step < suc n) = λ q. let p = asks_sound n o t key r q in (p.0, omega (arith, p.1)) in
      let P : State → Type 0 = λ z. Asked o t key r z.trace → Asker E counters steps o t key × (o.step < suc n) in
      when_cases P (is_going s.status) _ s
      (λ g. found_ind P (slice_get steps n) (λ st. step E n st s) (λ _. s)
      (λ st e q. either old (λ p. (p.1, omega (arith, p.0))) (step_asks o t key r n st e (T-going s.status g) q)) (λ _. old)) (λ _. old) h
