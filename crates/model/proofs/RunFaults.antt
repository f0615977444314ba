-- Refusals 12 and 13 are exact, and a run that draws neither is the run on a log without end.
use Prim.Native.Nat.{ℕ, suc, ◌+◌, ◌≤◌, ◌<◌}
use mathlib.Core.Path.{◌≡◌, refl, sym, ap, ◌∙◌, subst}
use mathlib.Core.Logic.{◌⊎◌, inl, inr, ◌≢◌}
use mathlib.Core.Bool.{true, false, false≢true}
use Rattle.std.specs.Prelude.{None}
use mathlib.Core.List.{List, [], ◌∷◌}
use native.Mathlib.Omega.{arith}
use lib.ListN.{length}
use Rattle.model.specs.Book.Words.{Refusal}
use Rattle.model.specs.Book.Contents.{step_count, first_step}
use Rattle.model.specs.Book.Read.{counters, step, steps}
use Rattle.model.specs.Machine.State.{State, Status, going, stuck, spent, full, is_going, log_words}
use Rattle.model.specs.Outcome.{Lent, env_of, ran, ended}
use Rattle.model.specs.Claims.Refusals.{after, InRun, log_full, counter_spent, AtRun, run_order, number_of, in_run, Before}
use Rattle.model.specs.Laws.Logic.{none_some, some_inj, either}
use Rattle.model.specs.Laws.Lists.{length_tab}
use Rattle.model.proofs.Exact.{Exact}
use Rattle.model.proofs.Endless as endless
use Rattle.model.proofs.Endless.{log_grows, still, stopped, never_full, Filled, follows}

module _ (l : Lent) (w : List ℕ) (unstuck : (after w (step_count w)).status ≢ stuck) where
  abbrev n : ℕ
  n = step_count w

  abbrev L : ℕ
  L = l.log

  -- ## On the log without end

  steps_many : length (steps w) ≡ n
  unfolding steps
  steps_many = length_tab (step w) n

  grows : (j k : ℕ) → j ≤ k → log_words (after w j).log ≤ log_words (after w k).log
  unfolding after
  grows j k h = log_grows (env_of w (λ _. true)) (counters w) (steps w) j k h

  stays : (j k : ℕ) → j ≤ k → is_going (after w j).status ≡ false → after w k ≡ after w j
  unfolding after
  stays j k h e = still (env_of w (λ _. true)) (counters w) (steps w) j k h e

  has_room : (k : ℕ) → (after w k).status ≢ full
  unfolding after
  has_room k = never_full (env_of w (λ _. true)) (counters w) (steps w) (λ _. refl) k

  record Stops : Type 0 where
    last : ℕ
    before : last < n
    went : (after w last).status ≡ going
    count : length (after w n).answers ≡ last
    same : after w n ≡ after w (suc last)

  stops : (after w n).status ≢ going → Stops
  unfolding after
  stops h =
      let s = stopped (env_of w (λ _. true)) (counters w) (steps w) n (omega (arith, steps_many)) h in
      record { last = s.last; before = s.before; went = s.went; count = s.count; same = s.stays }

  -- ## What is at fault

  abbrev At : ℕ × InRun → Type 0
  At p = (p.0 < n) × ((after w p.0).status ≡ going) × AtRun l w p.0 p.1

  abbrev rank : ℕ × InRun → List ℕ
  rank p = p.0 ∷ run_order p.1

  abbrev says : ℕ × InRun → Refusal
  says p = record { number = number_of (in_run p.0 p.1); place = first_step w + p.0 }

  -- while the run goes on at k no step before k was at fault, if the log holds the records
  none_before : (k : ℕ) → (after w k).status ≡ going → log_words (after w k).log ≤ L → (j : ℕ) (c : InRun) → j < k → AtRun l w j c → ⊥
  none_before k g h j log_full b v = omega (arith, v.1, h, grows (suc j) k b)
  none_before k g h j counter_spent b v = false≢true (sym (ap is_going v.1) ∙ ap (λ (s : State). is_going s.status) (sym (stays (suc j) k b (ap is_going v.1))) ∙ ap is_going g)

  -- ## The refusal

  abbrev Is : State → Type 0
  Is s = Exact (ℕ × InRun) rank At says (ended s.status (first_step w + length s.answers))

  place : (s : State) (k m : ℕ) → length s.answers ≡ k → ◌≡◌ {A = Refusal} (record { number = m; place = first_step w + k }) (record { number = m; place = first_step w + length s.answers })
  place s k m e = ap (λ (j : ℕ). record { number = m; place = first_step w + j }) (sym e)

  -- the log held all records
  fits_exact : log_words (after w n).log ≤ L → Is (after w n)
  fits_exact h = by (after w n).status refl
    where
      by : (o : Status) → (after w n).status ≡ o → Exact (ℕ × InRun) rank At says (ended o (first_step w + length (after w n).answers))
      by going g = record { clear = λ e p v. none_before n g h p.0 p.1 v.0 v.2; first = λ r e. absurd (none_some e) }
      by stuck g = absurd (unstuck g)
      by full g = absurd (has_room n g)
      by spent g = record {
        clear = λ e. absurd (none_some (sym e));
        first = λ r e. ((k, counter_spent), (s.before, s.went, (log_fits, ap (λ (x : State). x.status) (sym s.same) ∙ g)), place (after w n) k 13 s.count ∙ some_inj e, earlier);
      }
        where
          s : Stops
          s = stops (λ e. let z : ◌≡◌ {A = ℕ} 0 1 = cc (sym g ∙ e) in omega arith)

          k : ℕ
          k = s.last

          log_fits : log_words (after w (suc s.last)).log ≤ L
          log_fits = subst (λ (x : State). log_words x.log ≤ L) s.same h

          earlier : (q : ℕ × InRun) → Before (rank q) (s.last ∷ 1 ∷ []) → At q → ⊥
          earlier q (inl b) v = none_before s.last s.went (omega (arith, grows s.last (suc s.last) (omega arith), log_fits)) q.0 q.1 b v.2
          earlier (j, log_full) (inr (e, b)) v = omega (arith, subst (λ (i : ℕ). L < log_words (after w (suc i)).log) e v.2.1, log_fits)
          earlier (j, counter_spent) (inr (e, b)) v = either (λ q. omega arith) (λ q. q.1) b

  -- the log was full
  module _ (s : State) (k : ℕ) (ends : s.status ≡ full) (count : length s.answers ≡ k) (below : k < n) (went : (after w k).status ≡ going) (fits : log_words (after w k).log ≤ L) (passes : L < log_words (after w (suc k)).log) where
    full_exact : Is s
    full_exact = rw ends (record {
      clear = λ e. absurd (none_some (sym e));
      first = λ r e. ((k, log_full), (below, went, (fits, passes)), place s k 12 count ∙ some_inj e, earlier);
    })
      where
        earlier : (q : ℕ × InRun) → Before (rank q) (k ∷ 0 ∷ []) → At q → ⊥
        earlier q (inl b) v = none_before k went fits q.0 q.1 b v.2
        earlier (j, log_full) (inr (e, b)) v = either (λ q. omega arith) (λ q. q.1) b
        earlier (j, counter_spent) (inr (e, b)) v = either (λ q. omega arith) (λ q. omega (arith, q.0)) b

  -- ## The run with the log lent

  -- s is what the endless run leaves after m steps, or its log was full in step k
  abbrev Result : State → ℕ → Type 0
  Result s m = ((s ≡ after w m) × (log_words (after w m).log ≤ L))
      ⊎ ((k : ℕ) × (s.status ≡ full) × (length s.answers ≡ k) × (k < m) × ((after w k).status ≡ going) × (log_words (after w k).log ≤ L) × (L < log_words (after w (suc k)).log))

  result : Result (ran w l) n
  unfolding ran after
  result = subst (Result (ran w l)) steps_many (of (follows (env_of w (λ _. true)) L (counters w) (steps w) (length (steps w)) (omega arith)))
    where
      of : endless.Same (env_of w (λ _. true)) L (counters w) (steps w) (length (steps w)) ⊎ Filled (env_of w (λ _. true)) L (counters w) (steps w) (length (steps w)) → Result (ran w l) (length (steps w))
      of (inl p) = inl p
      of (inr f) = inr (f.last, f.ends, f.count, f.before, f.went, f.fits, f.passes)

  pub run_exact : Is (ran w l)
  run_exact = of result
    where
      of : Result (ran w l) n → Is (ran w l)
      of (inl p) = subst Is (sym p.0) (fits_exact p.1)
      of (inr f) = full_exact (ran w l) f.0 f.1 f.2 f.3 f.4 f.5 f.6

  -- with neither it is the run on a log without end
  pub run_same : ended (ran w l).status (first_step w + length (ran w l).answers) ≡ None → ran w l ≡ after w n
  run_same e = of result
    where
      of : Result (ran w l) n → ran w l ≡ after w n
      of (inl p) = p.0
      of (inr f) = absurd (none_some (sym (subst (λ (o : Status). ended o (first_step w + length (ran w l).answers) ≡ None) f.1 e)))
