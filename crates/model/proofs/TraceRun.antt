-- What instructions, steps and a run add to the trace and the log.
use Prim.Native.Nat.{ℕ, zero, suc, ◌+◌, ◌≤◌, ◌<◌}
use native.Mathlib.Nat.{not-suc-le-zero}
use native.Mathlib.Omega.{arith}
use mathlib.Core.Path.{◌≡◌, refl, sym, ap, subst}
use mathlib.Core.Logic.{◌⊎◌, inl, inr}
use mathlib.Core.Bool.{Bool, true, false, ◌&&◌}
use Rattle.std.specs.Prelude.{Option, None, Some, slice_get}
use mathlib.Core.List.{List, []}
use lib.Dec.{T, eqb}
use lib.ListN.{length, length-replicate}
use Rattle.model.specs.Basics.{when, only}
use Rattle.model.specs.Book.Syntax.{Counter, WriteVal, Instr, dst_of, width, Rule, Step, batch, prediction, rule_at}
use Rattle.model.specs.Machine.State.{State, Site, Event, mask, reads, took, asks, is_going, Env, note, change, frame, stuck, predicted, reply}
use Rattle.model.specs.Machine.Values.{find}
use Rattle.model.specs.Machine.Steps.{here, table_of, clear, bind_out, any_live, begin, end, finish, body, instruction, instructions, predict, step, run}
use Rattle.model.specs.Claims.Trace.{In}
use Rattle.model.specs.Laws.Logic.{and_T, found_ind, when_ind, either, le_cases}
use Rattle.model.specs.Laws.Turns.{need_ind}
use Rattle.model.proofs.Grown.{in_none, newer_cases, Grows, grows_refl, grows_trans, grows_note, grows_logged, grows_stop, grows_map}
use Rattle.model.proofs.TraceTurns.{Closed, Own, row_closed}
use Rattle.model.proofs.TracePasses.{At}
use Rattle.model.proofs.TraceBodies.{AsksOf, LaneEvent, LaneRecord, body_adds}

-- an event at a site with P, or a mask of a step with M
abbrev pub EventAt : (Site → Type 0) → (ℕ → Type 0) → Event → Type 0
EventAt P M (mask k l) = M k
EventAt P M (reads o ws) = P o
EventAt P M (took o ws) = P o
EventAt P M (asks o t key ws) = P o

pub at_map : {P P' : Site → Type 0} {M M' : ℕ → Type 0} → ((o : Site) → P o → P' o) → ((k : ℕ) → M k → M' k) → (e : Event) → EventAt P M e → EventAt P' M' e
at_map f g (mask k l) h = g k h
at_map f g (reads o ws) h = f o h
at_map f g (took o ws) h = f o h
at_map f g (asks o t key ws) h = f o h

own_at : (P : Site → Type 0) (M : ℕ → Type 0) (o : Site) (A : ℕ → List ℕ → Type 0) → P o → (e : Event) → Own o A e → EventAt P M e
own_at P M o A p (mask k l) h = absurd h
own_at P M o A p (reads q ws) h = subst P (sym h) p
own_at P M o A p (took q ws) h = subst P (sym h) p
own_at P M o A p (asks q t key ws) h = subst P (sym h.0) p

pub at_both : (P : Site → Type 0) (M : ℕ → Type 0) (o : Site) (e : Event) → At o e → EventAt P M e → P o
at_both P M o (mask k l) h q = absurd h
at_both P M o (reads p ws) h q = subst P h q
at_both P M o (took p ws) h q = subst P h q
at_both P M o (asks p t key ws) h q = subst P h.0 q

-- a site of step k; of one of its instructions m .. n - 1
abbrev pub InStep : ℕ → Site → Type 0
InStep k o = o.step ≡ k

abbrev pub InInstrs : ℕ → ℕ → ℕ → Site → Type 0
InInstrs k m n o = (o.step ≡ k) × (m ≤ o.instr) × (o.instr < n)

-- growth by events and records at such sites
abbrev pub GrowsAt : (Site → Type 0) → (ℕ → Type 0) → State → State → Type 0
GrowsAt P M = Grows (EventAt P M) (λ r. P r.site)

pub grows_at : {P P' : Site → Type 0} {M M' : ℕ → Type 0} → ((o : Site) → P o → P' o) → ((k : ℕ) → M k → M' k) → (s s' : State) → GrowsAt P M s s' → GrowsAt P' M' s s'
grows_at f g s s' a = grows_map (at_map f g) (λ r. f r.site) s s' a

-- in step k; in one of steps m .. n - 1
abbrev pub GrowsIn : ℕ → State → State → Type 0
GrowsIn k = GrowsAt (InStep k) (λ k'. k' ≡ k)

abbrev pub Among : ℕ → ℕ → ℕ → Type 0
Among m n k = (m ≤ k) × (k < n)

abbrev pub GrowsAmong : ℕ → ℕ → State → State → Type 0
GrowsAmong m n = GrowsAt (λ o. Among m n o.step) (Among m n)

module _ (E : Env) where
  -- ## Instructions

  -- a mask, or an event of a live lane
  abbrev pub InstrEvent : ℕ → ℕ → Instr → State → Event → Type 0
  InstrEvent k j ins s e = T (is_going s.status) × (((l : List Bool) × (e ≡ mask k l)) ⊎ LaneEvent E k j ins s e)

  module _ (k j : ℕ) (ins : Instr) (s : State) where
    abbrev Adds : State → Type 0
    Adds = Grows (InstrEvent k j ins s) (LaneRecord E k j s) s

    finish_adds : T (is_going s.status) → (s' : State) → Adds s' → Adds (finish k (dst_of ins) s')
    unfolding finish
    finish_adds g s' a = when_ind Adds (is_going s'.status) _ s' (λ _. bound (dst_of ins)) a
      where
        bound : (d : Option ℕ) → Adds (note (mask k s'.live) (bind_out d s'))
        bound None = grows_note _ _ s s' a (mask k s'.live) (g, inl (s'.live, refl))
        bound (Some d) = grows_note _ _ s s' a (mask k s'.live) (g, inl (s'.live, refl))

    pub instruction_adds : Adds (instruction E k j ins s)
    unfolding instruction
    instruction_adds =
        when_ind Adds (is_going s.status && any_live s.live) _ s
        (λ t. let g : T (is_going s.status) = (and_T (is_going s.status) (any_live s.live) t).0 in
        finish_adds g (body E k j ins (clear s)) (grows_map (λ e h. (g, inr h)) (λ r h. h) (clear s) (body E k j ins (clear s)) (body_adds E k j ins (clear s) (length-replicate (length s.live) None))))
        (grows_refl _ _ s)

    instr_at_lem : (e : Event) → InstrEvent k j ins s e → EventAt (InInstrs k j (suc j)) (λ k'. k' ≡ k) e
    instr_at_lem e (g, inl p) = subst (EventAt (InInstrs k j (suc j)) (λ k'. k' ≡ k)) (sym p.1) refl
    instr_at_lem e (g, inr p) = own_at (InInstrs k j (suc j)) (λ k'. k' ≡ k) (here k j p.0) (AsksOf E k j ins s p.0) (omega arith) e p.2

    pub instruction_grows : GrowsAt (InInstrs k j (suc j)) (λ k'. k' ≡ k) s (instruction E k j ins s)
    instruction_grows = grows_map instr_at_lem (λ r h. subst (InInstrs k j (suc j)) (sym h.2) (omega arith)) s (instruction E k j ins s) instruction_adds

  -- from instruction m on
  pub instructions_grow : (k : ℕ) (r : Rule) (s : State) (m n : ℕ) → m ≤ n → GrowsAt (InInstrs k m n) (λ k'. k' ≡ k) (instructions E k r m s) (instructions E k r n s)
  unfolding instructions
  instructions_grow k r s zero zero le = grows_refl _ _ s
  instructions_grow k r s (suc m) zero le = absurd (not-suc-le-zero le)
  instructions_grow k r s m (suc n) le = either
      (λ (lt : m < suc n). grows_trans _ _ (instructions E k r m s) (instructions E k r n s) (instructions E k r (suc n) s)
      (grows_at (λ o p. (p.0, p.1, omega (arith, p.2))) (λ k' e. e) (instructions E k r m s) (instructions E k r n s) (instructions_grow k r s m n (omega arith)))
      (found_ind (GrowsAt (InInstrs k m (suc n)) (λ k'. k' ≡ k) (instructions E k r n s)) (slice_get r.instrs n) (λ ins. instruction E k n ins (instructions E k r n s)) (λ _. instructions E k r n s)
      (λ ins _. grows_at (λ o p. (p.0, omega (arith, p.1), p.2)) (λ k' e. e) (instructions E k r n s) (instruction E k n ins (instructions E k r n s)) (instruction_grows k n ins (instructions E k r n s)))
      (λ _. grows_refl _ _ (instructions E k r n s))))
      (λ e. subst (λ q. GrowsAt (InInstrs k q (suc n)) (λ k'. k' ≡ k) (instructions E k r q s) (instructions E k r (suc n) s)) (sym e) (grows_refl _ _ (instructions E k r (suc n) s)))
      (le_cases {m = m} {n = suc n} (omega arith))

  -- ## A prediction

  module _ (o : Site) (A : ℕ → List ℕ → Type 0) (s : State) where
    abbrev Owned : State → Type 0
    Owned = Grows (Own o A) (λ r. r.site ≡ o) s

    owned_closed : Closed o A Owned
    owned_closed = record {
      stops = λ st s' n m. grows_stop _ _ s s' m st n;
      notes = λ ws s' m. grows_note _ _ s s' m (reads o ws) refl;
      takes = λ ws s' m. grows_note _ _ s s' m (took o ws) refl;
      asked = λ t key ws s' a m. grows_note _ _ s s' m (asks o t key ws) (refl, a);
      gives = λ w s' m. m;
      loses = λ s' m. m;
      draws = λ cs s' m. m;
      marks = λ s' m. m;
      stages = λ r s' e n m. grows_logged _ _ s s' m r e n;
    }

    pub predict_adds : (t : ℕ) (key : List ℕ) (vs : List WriteVal) → (find (table_of E t).keys (table_of E t).rows key ≡ None → A t key) → Owned (predict E o t key vs s)
    unfolding predict
    predict_adds t key vs a =
        need_ind Owned (only (eqb (length key) (table_of E t).keys && eqb (length key + length vs) (width (table_of E t))) (Some key)) s _ (grows_stop _ _ s s (grows_refl _ _ s) stuck (λ g. g)) (λ _ _.
        found_ind Owned (find (table_of E t).keys (table_of E t).rows key) _ _ (λ r _. grows_note _ _ s s (grows_refl _ _ s) (took o r) refl) (λ e.
        row_closed o A Owned owned_closed E (λ _. None) t key vs _ (λ new r s' m. answered new r s' (a e) m) s (grows_refl _ _ s)))
      where
        answered : (new : Bool) (r : List ℕ) (s' : State) → A t key → Owned s' → Owned (reply (predicted new r) (note (took o r) (note (asks o t key r) (when new change s'))))
        answered true r s' y m = grows_note _ _ s (note (asks o t key r) s') (grows_note _ _ s s' m (asks o t key r) (refl, y)) (took o r) refl
        answered false r s' y m = grows_note _ _ s (note (asks o t key r) s') (grows_note _ _ s s' m (asks o t key r) (refl, y)) (took o r) refl

  -- ## Steps and runs

  pub begin_grows : (P : Site → Type 0) (k : ℕ) (r : Rule) (n : ℕ) (columns : List (List ℕ)) (s : State) → GrowsAt P (λ k'. k' ≡ k) s (begin k r n columns s)
  unfolding begin
  begin_grows P k r n columns s = grows_note _ _ s s (grows_refl _ _ s) _ refl

  pub step_grows : (k : ℕ) (st : Step) (s : State) → GrowsIn k s (step E k st s)
  unfolding step end instructions
  step_grows k (batch r n columns) s =
      let R : Rule = rule_at E.rules r in
      let s₀ : State = begin k R n columns s in
      let s₁ : State = instructions E k R (length R.instrs) s₀ in
      let a : GrowsIn k s s₁ = grows_trans _ _ s s₀ s₁ (begin_grows (InStep k) k R n columns s) (grows_at (λ o p. p.0) (λ k' e. e) s₀ s₁ (instructions_grow k R s₀ 0 (length R.instrs) (omega arith))) in
      when_ind (GrowsIn k s) (is_going s₁.status) _ s₁ (λ _. a) a
  step_grows k (prediction t key vs) s =
      grows_map (own_at (InStep k) (λ k'. k' ≡ k) (here k 0 0) (λ _ _. Unit {0}) refl) (λ r e. ap (λ y. y.step) e) s (predict E (here k 0 0) t key vs (frame (λ _. None) [] [] s))
      (predict_adds (here k 0 0) (λ _ _. Unit {0}) (frame (λ _. None) [] [] s) t key vs (λ _. tt))

  module _ (counters : List Counter) (steps : List Step) where
    pub run_grows : (m n : ℕ) → m ≤ n → GrowsAmong m n (run E counters steps m) (run E counters steps n)
    unfolding run
    run_grows zero zero le = grows_refl _ _ (run E counters steps 0)
    run_grows (suc m) zero le = absurd (not-suc-le-zero le)
    run_grows m (suc n) le = either
        (λ (lt : m < suc n). grows_trans _ _ (run E counters steps m) (run E counters steps n) (run E counters steps (suc n))
        (grows_at (λ o p. (p.0, omega (arith, p.1))) (λ k p. (p.0, omega (arith, p.1))) (run E counters steps m) (run E counters steps n) (run_grows m n (omega arith)))
        (next (omega arith)))
        (λ e. subst (λ q. GrowsAmong q (suc n) (run E counters steps q) (run E counters steps (suc n))) (sym e) (grows_refl _ _ (run E counters steps (suc n))))
        (le_cases {m = m} {n = suc n} (omega arith))
      where
        next : m ≤ n → GrowsAmong m (suc n) (run E counters steps n) (run E counters steps (suc n))
        next y =
            let s : State = run E counters steps n in
            when_ind (GrowsAmong m (suc n) s) (is_going s.status) _ s
            (λ _. found_ind (GrowsAmong m (suc n) s) (slice_get steps n) (λ st. step E n st s) (λ _. s)
            (λ st _. grows_at (λ o p. (omega (arith, p), omega (arith, p))) (λ k p. (omega (arith, p), omega (arith, p))) s (step E n st s) (step_grows n st s))
            (λ _. grows_refl _ _ s)) (grows_refl _ _ s)

    pub run_event : (n : ℕ) (o : Site) (e : Event) → At o e → In e (run E counters steps n).trace → o.step < n
    unfolding run
    run_event n o e a h = either (λ p. (at_both (λ q. Among 0 n q.step) (Among 0 n) o e a p).1) (λ p. absurd (in_none p)) (newer_cases (EventAt (λ p. Among 0 n p.step) (Among 0 n)) (run E counters steps 0).trace (run E counters steps n).trace (run_grows 0 n (omega arith)).trace h)
