-- A run that ends at a spent counter: the step that it did not answer came to a new row that overdraws one.
-- Only a lookup-or-insert or a prediction builds rows; of a batch that stops, the instruction in which it does and the lane in whose turn are found, and what that turn came to.
use Prim.Native.Nat.{ℕ, zero, suc, ◌<◌}
use native.Mathlib.Omega.{arith}
use mathlib.Core.Path.{◌≡◌, refl, sym, ap, ◌∙◌, subst}
use mathlib.Core.Logic.{◌≢◌}
use mathlib.Core.Bool.{Bool, true, false, ◌&&◌}
use Rattle.std.specs.Prelude.{Option, None, Some, slice_get}
use mathlib.Core.List.{List, [], ◌∷◌, ◌++◌}
use borrow.Author.Tests.{ltb-false}
use lib.Dec.{T, T_not, ltb}
use lib.ListN.{length, get_or, length-replicate}
use Rattle.model.specs.Basics.{only, first}
use Rattle.model.specs.Book.Syntax.{Counter, no_counter, next_of, limit, QueryEntry, WriteVal, Entry, IncCounter, CurrentVal, Instr, LookupOrInsertDefault, LookupWithDefault, Lookup, LookupWithFallback, Insert, InsertIfEq, Remove, External, ExternalWithFallback, AssertEq, AssertNe, AssertAnyNe, ReadCounter, dst_of, Rule, Step, batch, prediction, rule_at}
use Rattle.model.specs.Machine.State.{State, reads, Status, going, stuck, spent, is_going, Bindings, Env, frame}
use Rattle.model.specs.Machine.Values.{hold, value_of, values_of, find, predicted_rows, Built, is_stuck, is_spent, built, push, hand_out, write, build}
use Rattle.model.specs.Machine.Steps.{here, is_live, is_none, table_of, lanes, missed, wait, clear, bind_out, any_live, begin, end, finish, serve_missed, body, instruction, instructions, predict, step, run}
use Rattle.model.specs.Claims.Refusals.{Overdraws, Spends, by_lane, by_prediction, SpentExact}
use Rattle.model.specs.Laws.Logic.{and_T, T-cases, either, found_ind, when_ind, when_cases, at_below}
use Rattle.model.specs.Safety.Lanes.{first_none}
use Rattle.model.proofs.Room.{full≢spent}
use Rattle.model.proofs.Idle.{not_going, missed_idle, turn_idle}
use Rattle.model.proofs.Endless.{next, next_ind, begun, unanswered_step}
use Rattle.model.proofs.Grown.{Going, Unstuck}
use Rattle.model.proofs.Entries.{list_values}
use Rattle.model.proofs.Went.{predict_went}
use Rattle.model.proofs.TracePasses.{turn_unstuck, missed_stops}
use Rattle.model.proofs.TraceBodies.{first_turn, Served, serve_turn, serve_asks}
use Rattle.model.proofs.TraceAsks.{T_true}
use Rattle.model.proofs.TraceEnds.{missed_goes, first_ends, looks_go, calls_go, missed_go, serve_stops}

-- ## A row

built≢spent : (row : List ℕ) (cs : List Counter) → built row cs ≢ is_spent
built≢spent row cs e = let z : ◌≡◌ {A = ℕ} 0 1 = cc in omega arith

stuck_built : (b : Bindings) (i : ℕ) (vs : List WriteVal) → build b i vs is_stuck ≢ is_spent
stuck_built b i [] e = let z : ◌≡◌ {A = ℕ} 0 1 = cc in omega arith
stuck_built b i (v ∷ vs) e = stuck_built b i vs e

push_unspent : (row : List ℕ) (cs : List Counter) (o : Option ℕ) → push row cs o ≢ is_spent
push_unspent row cs None e = let z : ◌≡◌ {A = ℕ} 0 1 = cc in omega arith
push_unspent row cs (Some w) e = built≢spent (row ++ (w ∷ [])) cs e

-- a write value that ends spent is a counter whose next would pass the limit
write_spent : (b : Bindings) (i : ℕ) (v : WriteVal) (row : List ℕ) (cs : List Counter) → write b i v (built row cs) ≡ is_spent → (c : ℕ) × (v ≡ IncCounter c) × (limit < suc (next_of (get_or cs c no_counter)))
write_spent b i (Entry e) row cs q = absurd (push_unspent row cs (value_of b i e) q)
write_spent b i (CurrentVal x) row cs q = absurd (push_unspent row cs (slice_get row x) q)
write_spent b i (IncCounter c) row cs q = (c, refl, go (ltb (get_or cs c no_counter) limit) refl q)
  where
    go : (d : Bool) → ltb (get_or cs c no_counter) limit ≡ d → hand_out row cs c (only d (Some (get_or cs c no_counter, suc (get_or cs c no_counter)))) ≡ is_spent → limit < suc (next_of (get_or cs c no_counter))
    go true e z = absurd (built≢spent _ _ z)
    go false e z = omega (arith, ltb-false (get_or cs c no_counter) limit e)

overdrawn : (b : Bindings) (i : ℕ) (vs : List WriteVal) (row : List ℕ) (cs : List Counter) → build b i vs (built row cs) ≡ is_spent → Overdraws b i row vs cs
overdrawn b i [] row cs e = absurd (built≢spent row cs e)
overdrawn b i (v ∷ vs) row cs e = go (write b i v (built row cs)) refl e (overdrawn b i vs)
  where
    go : (B : Built) → write b i v (built row cs) ≡ B → build b i vs B ≡ is_spent → ((r : List ℕ) (ds : List Counter) → build b i vs (built r ds) ≡ is_spent → Overdraws b i r vs ds) → Overdraws b i row (v ∷ vs) cs
    go is_stuck q z h = absurd (stuck_built b i vs z)
    go is_spent q z h =
        let w = write_spent b i v row cs q in
        record { before = []; spender = w.0; behind = vs; values = ap (λ x. x ∷ vs) w.1; row = row; counters = cs; reached = refl; passes = w.2 }
    go (built r ds) q z h =
        let o = h r ds z in
        record { before = v ∷ o.before; spender = o.spender; behind = o.behind; values = ap (λ x. v ∷ x) o.values; row = o.row; counters = o.counters; reached = rw q o.reached; passes = o.passes }

-- ## Instructions

spent_stops : {o : Status} → o ≡ spent → T (is_going o) → ⊥
spent_stops e g = subst (λ o. T (is_going o)) e g

spent_unstuck : {o : Status} → o ≡ spent → o ≢ stuck
spent_unstuck e q = let z : ◌≡◌ {A = ℕ} 0 1 = cc in omega arith

module _ (E : Env) (k j : ℕ) where
  -- what `by_lane` says of a state
  record Spender (ins : Instr) (z : State) : Type 0 where
    lane : ℕ
    table : ℕ
    args : List QueryEntry
    vals : List WriteVal
    col : ℕ
    dst : ℕ
    key : List ℕ
    is : ins ≡ LookupOrInsertDefault table args vals col dst
    live : get_or z.live lane false ≡ true
    read : values_of (hold dst z.bindings) lane args ≡ Some key
    last : first z.trace ≡ Some (reads (here k j lane) key)
    missing : find (table_of E table).keys (table_of E table).rows key ≡ None
    new : predicted_rows (table_of E table).keys table key z.log ≡ []
    overdraws : Overdraws (hold dst z.bindings) lane key vals z.counters

  module _ (s : State) (g : Going s) (size : length s.out ≡ length s.live) where
    lookup_spends : (t : ℕ) (args : List QueryEntry) (vs : List WriteVal) (col dst : ℕ) → let ins : Instr = LookupOrInsertDefault t args vs col dst in (body E k j ins s).status ≡ spent → Spender ins (body E k j ins s)
    unfolding body
    lookup_spends t args vs col dst q =
        let ins : Instr = LookupOrInsertDefault t args vs col dst in
        let f : ℕ → State → State = λ i. serve_missed E (here k j i) dst t args vs col in
        let s₁ : State = lanes (first_turn E k j ins) s in
        let g₁ : Going s₁ = looks_go E k j t args col (λ _. wait) (λ _ _ g _. g) s g (λ e. spent_unstuck q (ap (λ z. z.status) (missed_idle f s₁ (ap is_going e)) ∙ e)) in
        let p = missed_stops k j f (Served E k j dst t args) (serve_turn E k j dst t args vs col) s₁ g₁ (spent_stops q) in
        let a = p.1 in
        let c = serve_stops E k j dst t args vs col p.0 a.start (missed_goes a.start p.0 a.test) (turn_unstuck a (spent_unstuck q)) p.2 in
        let live = (and_T (is_going a.start.status) (get_or a.start.live p.0 false) (and_T (is_live a.start p.0) (is_none (get_or a.start.out p.0 None)) a.test).0).1 in
        either
        (λ d. subst (Spender ins) (sym (a.last p.2 ∙ d.1)) (record {
          lane = p.0;
          table = t;
          args = args;
          vals = vs;
          col = col;
          dst = dst;
          key = c.0;
          is = refl;
          live = T_true _ live;
          read = list_values (hold dst a.start.bindings) p.0 (table_of E t).keys args c.1;
          last = refl;
          missing = (serve_asks E k j t args vs col dst s size p.0 a.start a.before a.test c.0 c.1).1.1;
          new = first_none _ c.2.0;
          overdraws = overdrawn (hold dst a.start.bindings) p.0 vs c.0 a.start.counters d.0;
        }))
        (λ d. absurd (full≢spent (sym (ap (λ z. z.status) (a.last p.2 ∙ d.3)) ∙ q)))
        c.2.1

    -- a pass that builds no row is never spent
    first_unspent : (ins : Instr) → (lanes (first_turn E k j ins) s).status ≢ spent
    first_unspent ins q = either (λ g'. spent_stops q g') (λ e. full≢spent (sym e ∙ q)) (first_ends E k j ins s g (spent_unstuck q))

    -- nor is one that only calls functions
    call_unspent : (f : ℕ → State → State) (z : State) → (Unstuck z → Going z) → (Going z → Unstuck (missed f z) → Going (missed f z)) → (missed f z).status ≢ spent
    call_unspent f z first then q = spent_stops q (then (first (λ e. spent_unstuck q (ap (λ y. y.status) (missed_idle f z (ap is_going e)) ∙ e))) (spent_unstuck q))

    body_spends : (ins : Instr) → (body E k j ins s).status ≡ spent → Spender ins (body E k j ins s)
    unfolding body
    body_spends (LookupOrInsertDefault t args vs col dst) q = lookup_spends t args vs col dst q
    body_spends (LookupWithDefault t args col dst x) q = absurd (first_unspent (LookupWithDefault t args col dst x) q)
    body_spends (Lookup t args col dst) q = absurd (first_unspent (Lookup t args col dst) q)
    body_spends (LookupWithFallback t key f args col dst) q = absurd (call_unspent _ _ (looks_go E k j t key col (λ _. wait) (λ _ _ g _. g) s g) (missed_go E k j 0 dst f args _) q)
    body_spends (Insert t vals) q = absurd (first_unspent (Insert t vals) q)
    body_spends (InsertIfEq t l r vals) q = absurd (first_unspent (InsertIfEq t l r vals) q)
    body_spends (Remove t args) q = absurd (first_unspent (Remove t args) q)
    body_spends (External f args dst) q = absurd (first_unspent (External f args dst) q)
    body_spends (ExternalWithFallback f1 args1 f2 args2 dst) q = absurd (call_unspent _ _ (calls_go E k j f1 args1 s g) (missed_go E k j 1 dst f2 args2 _) q)
    body_spends (AssertEq l r) q = absurd (first_unspent (AssertEq l r) q)
    body_spends (AssertNe l r) q = absurd (first_unspent (AssertNe l r) q)
    body_spends (AssertAnyNe d ops) q = absurd (first_unspent (AssertAnyNe d ops) q)
    body_spends (ReadCounter c dst) q = absurd (spent_stops q g)

-- ## A batch

module _ (E : Env) (k : ℕ) (r : Rule) (s₀ : State) (g : Going s₀) where
  -- the instruction in which a batch stops, and what its lanes' part left
  abbrev StopsIn : State → Type 0
  StopsIn z = (j : ℕ) × (ins : Instr) × (slice_get r.instrs j ≡ Some ins) × Going (instructions E k r j s₀) × (z ≡ body E k j ins (clear (instructions E k r j s₀)))

  stops_in : (m : ℕ) → (Going (instructions E k r m s₀) → ⊥) → StopsIn (instructions E k r m s₀)
  unfolding instructions instruction finish
  stops_in zero n = absurd (n g)
  stops_in (suc m) n = either here (λ t. let ng : Going s → ⊥ = T_not (is_going s.status) t in before ng (stops_in m ng)) (T-cases (is_going s.status))
    where
      s : State
      s = instructions E k r m s₀

      cut : (ins : Instr) → Going s → (Going (instruction E k m ins s) → ⊥) → instruction E k m ins s ≡ body E k m ins (clear s)
      cut ins g' = when_ind (λ z. (Going z → ⊥) → z ≡ z₁) (is_going s.status && any_live s.live) _ s
          (λ _. when_cases (λ z. (Going z → ⊥) → z ≡ z₁) (is_going z₁.status) _ z₁ (λ t n. absurd (n (bound (dst_of ins) t))) (λ _ _. refl)) (λ n. absurd (n g'))
        where
          z₁ : State
          z₁ = body E k m ins (clear s)

          bound : (d : Option ℕ) → Going z₁ → Going (bind_out d z₁)
          bound None t = t
          bound (Some x) t = t

      here : Going s → StopsIn (instructions E k r (suc m) s₀)
      here g' = found_ind (λ z. (Going z → ⊥) → StopsIn z) (slice_get r.instrs m) (λ ins. instruction E k m ins s) (λ _. s) (λ ins e n. (m, ins, e, g', cut ins g' n)) (λ _ n. absurd (n g')) n

      before : (Going s → ⊥) → StopsIn s → StopsIn (instructions E k r (suc m) s₀)
      before ng p = subst StopsIn (sym (turn_idle E k r m s (not_going s.status ng))) p

-- ## A run

module _ (E : Env) where
  going_T : {o : Status} → o ≡ going → T (is_going o)
  going_T e = rw e tt

  step_spends : (k : ℕ) (st : Step) (s : State) → s.status ≡ going → (step E k st s).status ≡ spent → Spends E.tables E.rules k (step E k st s) st
  unfolding step end begin
  step_spends k (batch r n columns) s g q = when_cases (λ z. z.status ≡ spent → Spends E.tables E.rules k z (batch r n columns)) (is_going s₁.status) _ s₁ (λ t q. absurd (spent_stops q t)) (λ _. cut) q
    where
      R : Rule
      R = rule_at E.rules r

      s₀ : State
      s₀ = begin k R n columns s

      s₁ : State
      s₁ = instructions E k R (length R.instrs) s₀

      cut : s₁.status ≡ spent → Spends E.tables E.rules k s₁ (batch r n columns)
      cut q =
          let p = stops_in E k R s₀ (going_T g) (length R.instrs) (spent_stops q) in
          let z : State = instructions E k R p.0 s₀ in
          let c = body_spends E k p.0 (clear z) p.3 (length-replicate (length z.live) None) p.1 (sym (ap (λ y. y.status) p.4) ∙ q) in
          subst (λ y. Spends E.tables E.rules k y (batch r n columns)) (sym p.4)
          (by_lane p.0 c.lane c.table c.args c.vals c.col c.dst c.key (p.2 ∙ ap Some c.is) c.live c.read c.last c.missing c.new c.overdraws)
  step_spends k (prediction t key vs) s g q =
      let s₀ : State = frame (λ _. None) [] [] s in
      let z : State = predict E (here k 0 0) t key vs s₀ in
      let no : (Going z → ⊥) = spent_stops q in
      either
      (λ p. absurd (no (subst Going (sym p.2) (going_T g))))
      (λ p. either (λ r. absurd (no (either (λ y. subst Going (sym y.1) (going_T g)) (λ y. subst Going (sym y.3) (going_T g)) r.1))) (λ r. either (λ d. subst (λ y. Spends E.tables E.rules k y (prediction t key vs)) (sym d.1) (by_prediction p.0 (first_none _ r.0) (overdrawn (λ _. None) 0 vs key s.counters d.0))) (λ d. absurd (full≢spent (sym (ap (λ y. y.status) d.3) ∙ q))) r.1) p.1)
      (predict_went (here k 0 0) E s₀ t key vs (spent_unstuck q))

pub spent_exact : SpentExact
spent_exact E counters steps zero q = let z : ◌≡◌ {A = ℕ} 0 1 = cc (ap (λ s. s.status) (begun E counters steps)) in absurd (omega arith)
spent_exact E counters steps (suc k) q =
    next_ind E counters steps (λ s. s.status ≡ spent → (st : Step) × (slice_get steps (length s.answers) ≡ Some st) × Spends E.tables E.rules (length s.answers) s st) k (spent_exact E counters steps k)
    (λ st g e q. let n = unanswered_step E counters steps k (at_below steps k e) g (ap is_going q) in
    let is : run E counters steps (suc k) ≡ step E k st (run E counters steps k) = next E counters steps k st g e in
    (st, rw n e, rw n (subst (λ s. Spends E.tables E.rules k s st) (sym is) (step_spends E k st (run E counters steps k) g (sym (ap (λ s. s.status) is) ∙ q))))) q
