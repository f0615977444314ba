-- Demand 3: a row that is built, the lookups, each instruction, and so a whole run keep the invariant of `specs/Safety`.
use Prim.Native.Nat.{zero, ◌≤◌}
use Rattle.std.specs.Prelude.{ℕ, suc, ◌+◌, ◌<◌, ◌≡◌, refl, Bool, true, false, List, [], ◌∷◌, ◌++◌, T, eqb, length, get_or, ◌&&◌, ◌⊎◌, Option, None, Some, slice_get}
use Rattle.std.proofs.Common.{add-zero, add-suc, suc-add, arith, ap, subst, zero-add, T_not}
use Rattle.std.proofs.Math.Dec.{eqb_refl}
use Rattle.model.specs.Basics.{found, All, when}
use Rattle.model.specs.Book.Syntax.{Clean, Counter, no_counter, QueryEntry, WriteVal, Entry, IncCounter, CurrentVal, width, table_at, Instr, LookupOrInsertDefault, LookupWithDefault, Lookup, LookupWithFallback, Insert, InsertIfEq, Remove, External, ExternalWithFallback, AssertEq, AssertNe, AssertAnyNe, ReadCounter, dst_of, Rule, Step, batch, prediction, rule_at}
use Rattle.model.specs.Machine.State.{Bindings, State, reads, took, asks, is_going, Env, note, lose, change, Site, mask, predicted, reply, frame}
use Rattle.model.specs.Machine.Values.{hold, value_of, find, Built, is_stuck, is_spent, built, draw, write, build}
use Rattle.model.specs.Check.{IsKnown, Below, entries_of, currents_of, Sound, sizes_of, reads_of, held_of, columns_of, Known}
use Rattle.model.specs.Laws.Supposed.{CleanConst, CounterOk, TableOk, RuleOk, Accepted, DemandRead}
use Rattle.model.specs.Laws.Logic.{only_T, All-at, All-get_or, found_ind, when_ind, All-left, All-right, T_and, either, le_cases, when_cases}
use Rattle.std.proofs.Math.Path.{sym}
use mathlib.Core.List.{append-nil}
use Rattle.model.specs.Machine.Steps.{here, table_of, lookup, take_default, serve_missed, lanes, wait, body, clear, bind_out, any_live, finish, instruction, begin, instructions, predict, step, run}
use Rattle.model.specs.Claims.Demand3.{Within, Given, StepOk, machine, Demand3}
use Rattle.model.specs.Safety.Fetch.{Readable, entry_read, list_read, But, hold_read, find_All, cell, BuiltOk, held_known, push_ok, draw_ok, hand_ok}
use Rattle.model.specs.Safety.Inv.{Inv, reads_inv, took_inv, asks_inv, weaken, note_inv}
use Rattle.model.specs.Safety.Lanes.{Lane, wait_lane, look_ok, call_ok, default_ok, need_some, predict_ok, table_ok, take_ok, stop_done}
use Rattle.model.specs.Safety.Passes.{lanes_quiet, lanes_done, missed_done, missed_stage}
use Rattle.model.specs.Commit.{commit}
use Rattle.model.specs.Safety.Bodies.{Filled, filled, then_missed, losing, ok5, ok6, ok7, ok8, ok9, ok10, ok11, ok12, ok13}
use Rattle.model.specs.Safety.CommitOk.{commit_ok}
use Rattle.model.specs.Book.Words.{words_of}
use Rattle.model.specs.Book.Read.{counters, steps}
use Rattle.model.specs.Safety.Run.{advance, clear_inv, bound_ok, leave, enter, later, more, grown, over_end, begin_ok, end_ok, given_ok, answered, rule_ok, going≢stuck, any_live_lem}
use Rattle.model.specs.Safety.BookClaims.{accepted}
use Rattle.model.specs.Safety.Lanes as turns
use Rattle.model.specs.Safety.Bodies as bodies
use Rattle.model.specs.Safety.Run as between

-- ## A row is built

module _ (K : ℕ → Type 0) (b : Bindings) (l : List Bool) (rd : Readable K b l) (i : ℕ) (lv : T (get_or l i false)) (key : List ℕ) where
  write_ok : (v : WriteVal) (n : ℕ) (r : Built) → All (IsKnown K) (entries_of (v ∷ [])) → All CleanConst (entries_of (v ∷ [])) → All Below (currents_of n (v ∷ []))
      → BuiltOk key n r → BuiltOk key (suc n) (write b i v r)
  write_ok v n is_stuck k c cu h = absurd h
  write_ok v n is_spent k c cu h = tt
  write_ok (Entry e) n (built row cs) k c cu h =
      let r = entry_read K b l rd i lv e k.0 c.0 in
      push_ok key row cs n r.0 (value_of b i e) r.1 r.2 h
  write_ok (IncCounter x) n (built row cs) k c cu h = hand_ok key row cs n x (draw (get_or cs x no_counter)) (λ p e. draw_ok (get_or cs x no_counter) p (All-get_or CounterOk cs x no_counter h.2 (omega arith)) e) h
  write_ok (CurrentVal x) n (built row cs) k c cu h =
      let r = cell row x h.1 (omega (arith, cu.0, h.0)) in
      push_ok key row cs n r.0 (slice_get row x) r.1 r.2 h

  pub build_ok : (vs : List WriteVal) (n : ℕ) (r : Built) → All (IsKnown K) (entries_of vs) → All CleanConst (entries_of vs) → All Below (currents_of n vs)
      → BuiltOk key n r → BuiltOk key (n + length vs) (build b i vs r)
  build_ok [] n r k c cu h = rw add-zero h
  build_ok (Entry e ∷ vs) n r k c cu h = rw (add-suc, ← suc-add) (build_ok vs (suc n) (write b i (Entry e) r) k.1 c.1 cu (write_ok (Entry e) n r (k.0, tt) (c.0, tt) tt h))
  build_ok (IncCounter x ∷ vs) n r k c cu h = rw (add-suc, ← suc-add) (build_ok vs (suc n) (write b i (IncCounter x) r) k c cu (write_ok (IncCounter x) n r tt tt tt h))
  build_ok (CurrentVal x ∷ vs) n r k c cu h = rw (add-suc, ← suc-add) (build_ok vs (suc n) (write b i (CurrentVal x) r) k c cu.1 (write_ok (CurrentVal x) n r tt tt (cu.0, tt) h))

-- ## A missed lane of LookupOrInsertDefault

module _ (E : Env) (K : ℕ → Type 0) (k j : ℕ) where
  abbrev Done : ℕ → ℕ → State → State → Type 0
  Done = turns.Done E K k j

  module _ (tok : All TableOk E.tables) (i : ℕ) (s : State) (v : Inv E K k j i s) (g : T (is_going s.status)) (lv : T (get_or s.live i false)) where
    pub serve_ok : (dst t : ℕ) (args : List QueryEntry) (vs : List WriteVal) (col : ℕ)
        → length args ≡ (table_of E t).keys → length args + length vs ≡ width (table_of E t) → col < width (table_of E t)
        → All (IsKnown (But K dst)) args → All (IsKnown (But K dst)) (entries_of vs) → All CleanConst args → All CleanConst (entries_of vs) → All Below (currents_of (table_of E t).keys vs)
        → Done (suc i) i s (serve_missed E (here k j i) dst t args vs col s)
    unfolding serve_missed
    serve_ok dst t args vs col len len' lt ka kv ca cv cu =
        let b : Bindings = hold dst s.bindings in
        let rd : Readable (But K dst) b s.live = hold_read K dst s.bindings s.live (v.readable g) in
        let p = list_read (But K dst) b s.live rd i lv (table_of E t).keys args len ka ca in
        let key : List ℕ = p.0 in
        let s₁ : State = note (reads (here k j i) key) s in
        let v₁ : Inv E K k j i s₁ = reads_inv E K k j i s v (here k j i) key p.2 in
        let ok₀ : BuiltOk key (length key + length vs) (build b i vs (built key s.counters))
        = build_ok (But K dst) b s.live rd i lv key vs (length key) (built key s.counters) kv cv (rw p.3 cu) (refl, p.2, v.counted, [], sym (append-nil key)) in
        let all : length key + length vs ≡ width (table_of E t) = omega (arith, p.3, len, len') in
        need_some (Done (suc i) i s) _ s _ key p.1
        (predict_ok E K k j i s₁ v₁ (Done (suc i) i s) b t key vs _ (subst (λ n. BuiltOk key n (build b i vs (built key s.counters))) all ok₀) p.3 all
        (λ new r s' v' m c lr one.
        take_ok E K k j tok (suc i) i s (weaken E K k j i s v) g lv col r (note (asks (here k j i) t key r) s') (asks_inv E K k j (suc i) s' v' (here k j i) t key r c one) (record { live = m.live; out = m.out }) c (omega (arith, lt, lr)))
        (λ s' v' m n. stop_done E K k j (suc i) s s' v' (record { live = m.live; out = m.out }) i n))

-- ## The instructions

module _ (E : Env) (tok : All TableOk E.tables) (fn : (o : Site) (c f : ℕ) (args : List ℕ) (w : ℕ) → All Clean args → E.answer o c f args ≡ Some w → Clean w) (K : ℕ → Type 0) (k j : ℕ) where
  module _ (s : State) (v : Inv E K k j 0 s) where
    abbrev Good : Instr → Type 0
    Good = bodies.Good E tok fn K k j s v

    first_look : (t : ℕ) (args : List QueryEntry) (col : ℕ) → length args ≡ (table_of E t).keys → col < width (table_of E t) → All (IsKnown K) args → All CleanConst args
        → Lane E K k j 0 s (lanes (λ i. lookup E (here k j i) t args col wait) s)
    first_look t args col len lt kn cn = lanes_quiet E K k j _ (λ i s' v' g l.
        look_ok E K k j tok 0 i s' v' g l (Lane E K k j 0 s') t args col wait len lt kn cn (λ s'' d. d.0) (λ s'' v'' m g''. wait_lane E K k j 0 s' s'' v'' m)) s v

    ok1 : (t : ℕ) (args : List QueryEntry) (vs : List _) (col dst : ℕ) → Good (LookupOrInsertDefault t args vs col dst)
    unfolding body sizes_of reads_of held_of columns_of
    ok1 t args vs col dst c cn =
        let a = first_look t args col c.fit.0 c.in_row.0 (All-left (IsKnown K) args (entries_of vs) c.known) (All-left CleanConst args (entries_of vs) cn) in
        let kn : All (IsKnown (But K dst)) (args ++ entries_of vs) = held_known K dst (args ++ entries_of vs) c.known c.free in
        filled E tok fn K k j (LookupOrInsertDefault t args vs col dst) _ s _
        (then_missed E tok fn K k j _ s _ _ a
        (missed_stage E K k j _ (λ i s' v' g l.
        serve_ok E K k j tok i s' v' g l dst t args vs col c.fit.0 c.fit.1.0 c.in_row.0
        (All-left (IsKnown (But K dst)) args (entries_of vs) kn) (All-right (IsKnown (But K dst)) args (entries_of vs) kn)
        (All-left CleanConst args (entries_of vs) cn) (All-right CleanConst args (entries_of vs) cn) c.in_row.1) _ a.inv))

    ok2 : (t : ℕ) (args : List QueryEntry) (col dst : ℕ) (e : QueryEntry) → Good (LookupWithDefault t args col dst e)
    unfolding body sizes_of reads_of held_of columns_of
    ok2 t args col dst e c cn =
        filled E tok fn K k j (LookupWithDefault t args col dst e) 0 s _
        (lanes_done E K k j _ (λ i s' v' g l.
        look_ok E K k j tok 0 i s' v' g l (Done E K k j 0 i s') t args col (take_default (here k j i) e) c.fit.0 c.in_row.0 c.known.1 cn.1
        (λ s'' d. d) (default_ok E K k j tok 0 i s' v' g l e c.known.0 cn.0)) s v)

    ok3 : (t : ℕ) (args : List QueryEntry) (col dst : ℕ) → Good (Lookup t args col dst)
    unfolding body sizes_of reads_of held_of columns_of
    ok3 t args col dst c cn =
        filled E tok fn K k j (Lookup t args col dst) 0 s _
        (lanes_done E K k j _ (λ i s' v' g l.
        look_ok E K k j tok 0 i s' v' g l (Done E K k j 0 i s') t args col (lose i) c.fit.0 c.in_row.0 c.known cn (λ s'' d. d) (losing E tok fn K k j s v i s')) s v)

    ok4 : (t : ℕ) (key : List QueryEntry) (f : ℕ) (args : List QueryEntry) (col dst : ℕ) → Good (LookupWithFallback t key f args col dst)
    unfolding body sizes_of reads_of held_of columns_of
    ok4 t key f args col dst c cn =
        let a = first_look t key col c.fit.0 c.in_row.0 (All-left (IsKnown K) key args c.known) (All-left CleanConst key args cn) in
        let kn : All (IsKnown (But K dst)) args = held_known K dst args (All-right (IsKnown K) key args c.known) c.free in
        filled E tok fn K k j (LookupWithFallback t key f args col dst) 0 s _
        (then_missed E tok fn K k j 0 s _ _ a
        (missed_done E K k j _ (λ i s' v' g l.
        call_ok E K k j tok 0 i s' v' g l (Done E K k j 0 i s') (But K dst) (hold dst) 0 f args (lose i)
        (hold_read K dst s'.bindings s'.live (v'.readable g)) c.fit.1.0 kn (All-right CleanConst key args cn)
        (λ ws w. fn (here k j i) 0 f ws w) (λ s'' d. d) (losing E tok fn K k j s v i s')) _ a.inv))

    pub body_ok : (ins : Instr) → Good ins
    body_ok (LookupOrInsertDefault t args vs col dst) = ok1 t args vs col dst
    body_ok (LookupWithDefault t args col dst e) = ok2 t args col dst e
    body_ok (Lookup t args col dst) = ok3 t args col dst
    body_ok (LookupWithFallback t key f args col dst) = ok4 t key f args col dst
    body_ok (Insert t vals) = ok5 E tok fn K k j s v t vals
    body_ok (InsertIfEq t l r vals) = ok6 E tok fn K k j s v t l r vals
    body_ok (Remove t args) = ok7 E tok fn K k j s v t args
    body_ok (External f args dst) = ok8 E tok fn K k j s v f args dst
    body_ok (ExternalWithFallback f1 args1 f2 args2 dst) = ok9 E tok fn K k j s v f1 args1 f2 args2 dst
    body_ok (AssertEq l r) = ok10 E tok fn K k j s v l r
    body_ok (AssertNe l r) = ok11 E tok fn K k j s v l r
    body_ok (AssertAnyNe d ops) = ok12 E tok fn K k j s v d ops
    body_ok (ReadCounter c dst) = ok13 E tok fn K k j s v c dst

module _ (E : Env) where
  -- before step k
  abbrev Between : ℕ → State → Type 0
  Between = between.Between E

  module _ (tok : All TableOk E.tables) (fn : (o : Site) (c f : ℕ) (args : List ℕ) (w : ℕ) → All Clean args → E.answer o c f args ≡ Some w → Clean w) where
    -- ## An instruction

    instruction_ok : (K : ℕ → Type 0) (k j : ℕ) (ins : Instr) (s : State) → Inv E K k j 0 s → Sound E.tables E.arity K ins → All CleanConst (reads_of ins)
        → Inv E (λ x. K x ⊎ (dst_of ins ≡ Some x)) k (suc j) 0 (instruction E k j ins s)
    unfolding instruction finish
    instruction_ok K k j ins s v c cn =
        when_cases (Inv E (λ x. K x ⊎ (dst_of ins ≡ Some x)) k (suc j) 0) (is_going s.status && any_live s.live) (λ s'. finish k (dst_of ins) (body E k j ins (clear s'))) s
        (λ t. done (body_ok E tok fn K k j (clear s) (clear_inv E K k j 0 s v) ins c cn))
        (λ t. advance E K k j 0 s v _ (λ g x i kx l. absurd (T_not (is_going s.status && any_live s.live) t (T_and (is_going s.status) (any_live s.live) g (any_live_lem s.live i l)))))
      where
        s₁ : State
        s₁ = body E k j ins (clear s)

        done : (q : ℕ) × Lane E K k j q (clear s) s₁ × Filled ins s₁ → Inv E (λ x. K x ⊎ (dst_of ins ≡ Some x)) k (suc j) 0 (finish k (dst_of ins) s₁)
        done p =
            when_cases (Inv E (λ x. K x ⊎ (dst_of ins ≡ Some x)) k (suc j) 0) (is_going s₁.status) (λ s'. note (mask k s'.live) (bind_out (dst_of ins) s')) s₁
            (λ g. masked (dst_of ins) (bound_ok E K k j p.0 s₁ p.1.inv (dst_of ins) g p.2))
            (λ t. advance E K k j p.0 s₁ p.1.inv _ (λ g. absurd (T_not (is_going s₁.status) t g)))
          where
            masked : (o : Option ℕ) → Inv E (λ x. K x ⊎ (o ≡ Some x)) k (suc j) 0 (bind_out o s₁) → Inv E (λ x. K x ⊎ (o ≡ Some x)) k (suc j) 0 (note (mask k s₁.live) (bind_out o s₁))
            masked None v' = note_inv E _ k (suc j) 0 (bind_out None s₁) v' (mask k s₁.live) tt tt
            masked (Some d) v' = note_inv E _ k (suc j) 0 (bind_out (Some d) s₁) v' (mask k s₁.live) tt tt

    -- none of its lanes comes back
    instruction_fewer : (K : ℕ → Type 0) (k j : ℕ) (ins : Instr) (s : State) → Inv E K k j 0 s → Sound E.tables E.arity K ins → All CleanConst (reads_of ins) → Within (instruction E k j ins s).live s.live
    unfolding instruction finish
    instruction_fewer K k j ins s v c cn =
        when_ind (λ z. Within z.live s.live) (is_going s.status && any_live s.live) (λ s'. finish k (dst_of ins) (body E k j ins (clear s'))) s
        (λ _. when_ind (λ z. Within z.live s.live) (is_going s₁.status) (λ s'. note (mask k s'.live) (bind_out (dst_of ins) s')) s₁ (λ _. bound (dst_of ins)) fewer) (λ i t. t)
      where
        s₁ : State
        s₁ = body E k j ins (clear s)

        fewer : Within s₁.live s.live
        fewer = (body_ok E tok fn K k j (clear s) (clear_inv E K k j 0 s v) ins c cn).1.fewer

        bound : (o : Option ℕ) → Within (bind_out o s₁).live s.live
        bound None = fewer
        bound (Some d) = fewer

    instructions_ok : (k : ℕ) (r : Rule) → RuleOk E r → (n : ℕ) (s : State) → Inv E (Known r 0) k 0 0 s → Inv E (Known r n) k n 0 (instructions E k r n s)
    unfolding instructions
    instructions_ok k r ok zero s v = v
    instructions_ok k r ok (suc n) s v =
        let s₁ : State = instructions E k r n s in
        let v₁ : Inv E (Known r n) k n 0 s₁ = instructions_ok k r ok n s v in
        found_ind (Inv E (Known r (suc n)) k (suc n) 0) (slice_get r.instrs n) (λ ins. instruction E k n ins s₁) (λ _. s₁)
        (λ ins e. more E tok fn _ (Known r (suc n)) k (suc n) 0 (instruction E k n ins s₁) (grown E tok fn r n ins e) (instruction_ok (Known r n) k n ins s₁ v₁ (ok.conditions n ins e) (ok.consts n ins e)))
        (λ e. advance E (Known r n) k n 0 s₁ v₁ (Known r (suc n)) (λ g x i kx l. v₁.readable g x i (over_end E tok fn r n e x kx) l))

    instructions_fewer : (k : ℕ) (r : Rule) → RuleOk E r → (s : State) → Inv E (Known r 0) k 0 0 s → (j j' : ℕ) → j ≤ j' → Within (instructions E k r j' s).live (instructions E k r j s).live
    unfolding instructions
    instructions_fewer k r ok s v j zero le = let e : j ≡ zero = omega arith in subst (λ x. Within (instructions E k r zero s).live (instructions E k r x s).live) (sym e) (λ i t. t)
    instructions_fewer k r ok s v j (suc n) le = either
        (λ (lt : j < suc n) i t. instructions_fewer k r ok s v j n (omega arith) i (next i t))
        (λ e. subst (λ x. Within (instructions E k r (suc n) s).live (instructions E k r x s).live) (sym e) (λ i t. t))
        (le_cases {m = j} {n = suc n} (omega arith))
      where
        s₁ : State
        s₁ = instructions E k r n s

        next : Within (instructions E k r (suc n) s).live s₁.live
        next = found_ind (λ z. Within z.live s₁.live) (slice_get r.instrs n) (λ ins. instruction E k n ins s₁) (λ _. s₁)
            (λ ins e. instruction_fewer (Known r n) k n ins s₁ (instructions_ok k r ok n s v) (ok.conditions n ins e) (ok.consts n ins e)) (λ _ i t. t)

    -- ## A prediction

    module _ (k t : ℕ) (key : List ℕ) where
      abbrev o : Site
      o = here k 0 0

      predict_step : (vs : List WriteVal) (s : State) → Inv E (λ _. ⊥) k 0 0 s → length key ≡ (table_of E t).keys → length key + length vs ≡ width (table_of E t) → All Clean key → All Given vs
          → Between (suc k) (predict E o t key vs s)
      unfolding predict
      predict_step vs s v len len' cl gv =
          let g = given_ok E tok fn vs (length key) gv in
          let ok₀ : BuiltOk key (length key + length vs) (build (λ _. None) 0 vs (built key s.counters))
          = build_ok (λ _. ⊥) (λ _. None) (true ∷ []) (λ x i kx l. absurd kx) 0 tt key vs (length key) (built key s.counters) g.0 g.1 g.2 (refl, cl, v.counted, [], sym (append-nil key)) in
          let fits : T (eqb (length key) (table_of E t).keys && eqb (length key + length vs) (width (table_of E t)))
          = T_and (eqb (length key) (table_of E t).keys) _ (rw len (eqb_refl (table_of E t).keys)) (rw len' (eqb_refl (width (table_of E t)))) in
          need_some (Between (suc k)) _ s _ key (only_T (eqb (length key) (table_of E t).keys && eqb (length key + length vs) (width (table_of E t))) _ fits)
          (found_ind (Between (suc k)) (find (table_of E t).keys (table_of E t).rows key) _ _
          (λ r e. leave E (λ _. ⊥) k 0 0 (note (took o r) s) (took_inv E (λ _. ⊥) k 0 0 s v o r (find_All (All Clean) (table_of E t).keys (table_of E t).rows key (table_ok E (λ _. ⊥) k 0 tok t).clean e)))
          (λ e. predict_ok E (λ _. ⊥) k 0 0 s v (Between (suc k)) (λ _. None) t key vs (λ new r s'. reply (predicted new r) (note (took o r) (note (asks o t key r) (when new change s'))))
          (subst (λ n. BuiltOk key n (build (λ _. None) 0 vs (built key s.counters))) len' ok₀) len len'
          (λ new r s' v' m c lr one. answered E tok fn k t key new r s' v' c one)
          (λ s' v' m n. leave E (λ _. ⊥) k 0 1 s' v')))

    -- ## Steps

    step_ok : (rok : All (RuleOk E) E.rules) (k : ℕ) (st : Step) (s : State) → StepOk E.tables E.rules st → Between k s → Between (suc k) (step E k st s)
    unfolding step
    step_ok rok k (batch r n columns) s h v =
        let R : Rule = rule_at E.rules r in
        let m : ℕ = length R.instrs in
        let s₀ : State = begin k R n columns s in
        let s₁ : State = instructions E k R m s₀ in
        end_ok E tok fn (suc k) s₁ (leave E (Known R m) k m 0 s₁ (instructions_ok k R (rule_ok E tok fn rok r) m s₀ (begin_ok E tok fn k R n columns s h.count h.sized h.clean v)))
    step_ok rok k (prediction t key vs) s h v =
        predict_step k t key vs (frame (λ _. None) [] [] s) (enter E (λ _. ⊥) k s (λ _. None) [] v (λ x i kx l. absurd kx)) h.keys h.vals h.clean h.given

-- ## A run

run_ok : (E : Env) (cs : List Counter) (steps : List Step) → Accepted E cs → All (StepOk E.tables E.rules) steps → (n : ℕ) → Between E n (run E cs steps n)
unfolding run
run_ok E cs steps ac ok zero = record { unstuck = going≢stuck; counted = ac.counters; logs = record { clean = tt; sized = tt; apart = tt; earlier = tt; single = λ t key. omega arith }; clean = tt; one_row = tt }
run_ok E cs steps ac ok (suc n) =
    let s : State = run E cs steps n in
    let v : Between E n s = run_ok E cs steps ac ok n in
    when_cases (Between E (suc n)) (is_going s.status) (λ s'. found (slice_get steps n) (λ st. step E n st s') (λ _. s')) s
    (λ g. found_ind (Between E (suc n)) (slice_get steps n) (λ st. step E n st s) (λ _. s)
    (λ st e. step_ok E ac.tables ac.functions ac.rules n st s (All-at (StepOk E.tables E.rules) steps n ok e) v)
    (λ e. later E n s v))
    (λ t. later E n s v)

pub demand_read : DemandRead
demand_read E cs steps ac ok n =
    let v : Between E n (run E cs steps n) = run_ok E cs steps ac ok n in
    record {
      never_stuck = v.unstuck;
      no_return = λ k r lanes columns lt is.
          let h = All-at (StepOk E.tables E.rules) steps k ok is in
          instructions_fewer E ac.tables ac.functions k (rule_at E.rules r) (rule_ok E ac.tables ac.functions ac.rules r) _
          (begin_ok E ac.tables ac.functions k (rule_at E.rules r) lanes columns (run E cs steps k) h.count h.sized h.clean (run_ok E cs steps ac ok k));
      never_stale = v.clean;
      staged_once = v.logs.apart;
      one_row_lem = v.one_row;
    }

-- what is committed after a run is again as a book must have it, and so are the counters: the next run can start from there
pub run_commit : (E : Env) (cs : List Counter) (steps : List Step) → Accepted E cs → All (StepOk E.tables E.rules) steps → (n : ℕ)
    → All TableOk (commit (run E cs steps n).log E.tables 0) × All CounterOk (run E cs steps n).counters
run_commit E cs steps ac ok n =
    let v : Between E n (run E cs steps n) = run_ok E cs steps ac ok n in
    (commit_ok E.tables (run E cs steps n).log v.logs.clean v.logs.sized E.tables 0 (λ i lt. ap (table_at E.tables) (zero-add i)) ac.tables, v.counted)

-- ## For books

pub demand3 : Demand3
demand3 book bytes unrefused answer fine room list ok n = demand_read (machine book answer room) (counters (words_of book)) list (accepted book bytes unrefused answer fine room) ok n
