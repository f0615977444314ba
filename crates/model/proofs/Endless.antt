-- A run on a log with limited room beside the same run on a log without end: the log only grows, each step answers once, and where the two part the log is full.
use Prim.Native.Nat.{ℕ, zero, suc, ◌≤◌, ◌<◌}
use native.Mathlib.Omega.{arith}
use mathlib.Core.Path.{◌≡◌, refl, sym, ap, ◌∙◌, subst}
use mathlib.Core.Logic.{◌⊎◌, inl, inr, ◌≢◌}
use mathlib.Core.Bool.{true, false, false≢true}
use Rattle.std.specs.Prelude.{Option, None, Some, slice_get}
use mathlib.Core.List.{List, [], ◌++◌, append-nil, append_assoc}
use lib.Dec.{leb}
use lib.ListN.{length}
use Rattle.model.specs.Basics.{found}
use Rattle.model.specs.Book.Syntax.{Counter, Step}
use Rattle.model.specs.Machine.State.{State, Record, going, full, is_going, Env, log_words}
use Rattle.model.specs.Machine.Steps.{fresh, step, run}
use Rattle.model.specs.Laws.Logic.{at_length, when_ind, either, le_cases}
use Rattle.model.proofs.Idle.{goes?}
use Rattle.model.proofs.Room.{with_room, words_append, unanswered, Later}
use Rattle.model.proofs.Follows.{setting, step_goes}
use Rattle.model.specs.Laws.Turns.{when_T}

-- the log without end, and the log of L words
abbrev pub endless : Env → Env
endless E = with_room (λ _. true) E

abbrev pub bounded : ℕ → Env → Env
bounded L E = with_room (λ n. leb n L) E

module _ (E : Env) (counters : List Counter) (steps : List Step) where
  abbrev ran : ℕ → State
  ran k = run E counters steps k

  -- ## A step of the run

  -- a run that has stopped stays as it is
  idle : (k : ℕ) → is_going (ran k).status ≡ false → ran (suc k) ≡ ran k
  unfolding run
  idle k e = rw e

  pub next : (k : ℕ) (st : Step) → (ran k).status ≡ going → slice_get steps k ≡ Some st → ran (suc k) ≡ step E k st (ran k)
  unfolding run
  next k st g e = when_T (is_going (ran k).status) (λ s. found (slice_get steps k) (λ x. step E k x s) (λ _. s)) (ran k) (ap is_going g) ∙ ap (λ o. found o (λ x. step E k x (ran k)) (λ _. ran k)) e

  past_end : (k : ℕ) → slice_get steps k ≡ None → ran (suc k) ≡ ran k
  unfolding run
  past_end k e = rw e (when_ind (λ x. x ≡ ran k) (is_going (ran k).status) (λ s. s) (ran k) (λ _. refl) refl)

  -- what a step leaves (the room beside it does not matter here)
  stepped : (k : ℕ) (st : Step) → (ran k).status ≡ going → slice_get steps k ≡ Some st → Later (setting E 0) 1 (ran k).log (ran k).answers (ran (suc k))
  stepped k st g e = subst (Later (setting E 0) 1 (ran k).log (ran k).answers) (sym (next k st g e)) (step_goes E 0 k st (ran k) g).later

  -- a step is run, or leaves the run as it is
  pub next_ind : (P : State → Type 0) (k : ℕ) → P (ran k) → ((st : Step) → (ran k).status ≡ going → slice_get steps k ≡ Some st → P (ran (suc k))) → P (ran (suc k))
  next_ind P k p h = either (λ g. go g (slice_get steps k) refl) (λ e. subst P (sym (idle k e)) p) (goes? (ran k).status)
    where
      go : (ran k).status ≡ going → (o : Option Step) → slice_get steps k ≡ o → P (ran (suc k))
      go g None e = subst P (sym (past_end k e)) p
      go g (Some st) e = h st g e

  -- ## The log only grows

  pub log_extends : (j k : ℕ) → j ≤ k → (more : List Record) × ((ran k).log ≡ (ran j).log ++ more)
  log_extends j zero h = let e : j ≡ zero = omega arith in ([], rw e (sym (append-nil (ran zero).log)))
  log_extends j (suc k) h = either (λ l. longer (log_extends j k (omega arith))) (λ e. ([], rw e (sym (append-nil (ran (suc k)).log)))) (le_cases {m = j} {n = suc k} (omega arith))
    where
      longer : (more : List Record) × ((ran k).log ≡ (ran j).log ++ more) → (more : List Record) × ((ran (suc k)).log ≡ (ran j).log ++ more)
      longer p = next_ind (λ s. (more : List Record) × (s.log ≡ (ran j).log ++ more)) k p (λ st g e.
          let l = stepped k st g e in
          (p.0 ++ l.more, l.grew ∙ ap (λ x. x ++ l.more) p.1 ∙ append_assoc (ran j).log p.0 l.more))

  pub log_grows : (j k : ℕ) → j ≤ k → log_words (ran j).log ≤ log_words (ran k).log
  log_grows j k h = let p = log_extends j k h in rw p.1 (omega (arith, words_append (ran j).log p.0))

  -- ## Each step answers once

  went_on : (k : ℕ) → (ran (suc k)).status ≡ going → (ran k).status ≡ going
  went_on k g = either (λ e. e) (λ e. absurd (false≢true (sym e ∙ ap (λ s. is_going s.status) (sym (idle k e)) ∙ ap is_going g))) (goes? (ran k).status)

  pub begun : ran zero ≡ fresh counters
  unfolding run
  begun = refl

  pub answers_counted : (k : ℕ) → k ≤ length steps → (ran k).status ≡ going → length (ran k).answers ≡ k
  answers_counted zero h g = ap (λ s. length s.answers) begun
  answers_counted (suc k) h g =
      let st = at_length steps k h in
      let l = stepped k st.0 (went_on k g) st.1 in
      l.counted ∙ rw g (omega (arith, answers_counted k (omega arith) (went_on k g)))

  -- the step that stops it has no answer
  pub unanswered_step : (k : ℕ) → k < length steps → (ran k).status ≡ going → is_going (ran (suc k)).status ≡ false → length (ran (suc k)).answers ≡ k
  unanswered_step k h g n =
      let st = at_length steps k h in
      let l = stepped k st.0 g st.1 in
      omega (arith, l.counted, unanswered 1 (ran (suc k)).status n, answers_counted k (omega arith) g)

  pub still : (j k : ℕ) → j ≤ k → is_going (ran j).status ≡ false → ran k ≡ ran j
  still j zero h e = let z : j ≡ zero = omega arith in rw z
  still j (suc k) h e = either (λ l. on (still j k (omega arith) e)) (λ z. rw z) (le_cases {m = j} {n = suc k} (omega arith))
    where
      on : ran k ≡ ran j → ran (suc k) ≡ ran j
      on q = idle k (ap (λ s. is_going s.status) q ∙ e) ∙ q

  -- a run that has stopped: the step that it did not answer
  pub record Stopped (k : ℕ) : Type 0 where
    pub last : ℕ
    pub before : last < k
    pub went : (ran last).status ≡ going
    pub count : length (ran k).answers ≡ last
    pub stays : ran k ≡ ran (suc last)

  pub stopped : (k : ℕ) → k ≤ length steps → (ran k).status ≢ going → Stopped k
  stopped zero h n = absurd (n (ap (λ s. s.status) begun))
  stopped (suc k) h n = go (goes? (ran k).status) (goes? (ran (suc k)).status) (stopped k (omega arith))
    where
      go : ((ran k).status ≡ going) ⊎ (is_going (ran k).status ≡ false) → ((ran (suc k)).status ≡ going) ⊎ (is_going (ran (suc k)).status ≡ false) → ((ran k).status ≢ going → Stopped k) → Stopped (suc k)
      go (inl g) (inl g') ih = absurd (n g')
      go (inl g) (inr e) ih = record { last = k; before = omega arith; went = g; count = unanswered_step k h g e; stays = refl }
      go (inr e) x ih =
          let p = ih (λ g. false≢true (sym e ∙ ap is_going g)) in
          record { last = p.last; before = omega arith; went = p.went; count = ap (λ s. length s.answers) (idle k e) ∙ p.count; stays = idle k e ∙ p.stays }

  -- only a log with an end is ever full
  pub never_full : ((n : ℕ) → E.room n ≡ true) → (k : ℕ) → (ran k).status ≢ full
  never_full room zero = λ q. let z : ◌≡◌ {A = ℕ} 0 1 = cc (ap (λ s. s.status) begun) in omega arith
  never_full room (suc k) = next_ind (λ s. s.status ≢ full) k (never_full room k) (λ st g e q. let f = (stepped k st g e).fills q in false≢true (sym f.1 ∙ room f.0))

-- ## Two machines

module _ (E : Env) (L : ℕ) (counters : List Counter) (steps : List Step) where
  abbrev little : ℕ → State
  little k = run (bounded L E) counters steps k

  abbrev much : ℕ → State
  much k = run (endless E) counters steps k

  -- the step whose records the log with room for L words cannot hold
  pub record Filled (k : ℕ) : Type 0 where
    pub last : ℕ
    pub before : last < k
    pub ends : (little k).status ≡ full
    pub count : length (little k).answers ≡ last
    pub went : (much last).status ≡ going
    pub fits : log_words (much last).log ≤ L
    pub passes : L < log_words (much (suc last)).log

  abbrev pub Same : ℕ → Type 0
  Same k = (little k ≡ much k) × (log_words (much k).log ≤ L)

  -- the same until a record does not fit
  pub follows : (k : ℕ) → k ≤ length steps → Same k ⊎ Filled k
  follows zero h = inl (begun (bounded L E) counters steps ∙ sym (begun (endless E) counters steps), rw (begun (endless E) counters steps) (omega arith))
  follows (suc k) h = either (λ p. either (on p) (over p) (goes? (much k).status)) filled (follows k (omega arith))
    where
      filled : Filled k → Same (suc k) ⊎ Filled (suc k)
      filled p =
          let e = idle (bounded L E) counters steps k (ap is_going p.ends) in
          inr (record { last = p.last; before = omega arith; ends = rw e p.ends; count = rw e p.count; went = p.went; fits = p.fits; passes = p.passes })

      over : Same k → is_going (much k).status ≡ false → Same (suc k) ⊎ Filled (suc k)
      over p e =
          let u = idle (endless E) counters steps k e in
          inl (idle (bounded L E) counters steps k (ap (λ s. is_going s.status) p.0 ∙ e) ∙ p.0 ∙ sym u, rw u p.1)

      on : Same k → (much k).status ≡ going → Same (suc k) ⊎ Filled (suc k)
      on p g =
          let st = at_length steps k h in
          let g' : (little k).status ≡ going = ap (λ s. s.status) p.0 ∙ g in
          let s : little (suc k) ≡ step (bounded L E) k st.0 (much k) = next (bounded L E) counters steps k st.0 g' st.1 ∙ ap (step (bounded L E) k st.0) p.0 in
          let u : much (suc k) ≡ step (endless E) k st.0 (much k) = next (endless E) counters steps k st.0 g st.1 in
          either (λ q. inl (s ∙ q.0 ∙ sym u, rw u q.1))
          (λ q. let f : (little (suc k)).status ≡ full = ap (λ x. x.status) s ∙ q.0 in
          inr (record { last = k; before = omega arith; ends = f; count = unanswered_step (bounded L E) counters steps k h g' (ap is_going f); went = g; fits = p.1; passes = rw u q.1 }))
          ((step_goes (endless E) L k st.0 (much k) g).follows p.1)
