-- The passes of each instruction, and the events and records that it adds.
use Prim.Native.Nat.{ℕ, zero, suc, ◌<◌}
use native.Mathlib.Omega.{arith}
use mathlib.Core.Path.{◌≡◌, refl, sym, ◌∙◌, subst}
use mathlib.Core.Logic.{◌⊎◌, inl, inr, ◌≢◌}
use mathlib.Core.Bool.{false, not}
use Rattle.std.specs.Prelude.{Option, None, Some, slice_get}
use mathlib.Core.List.{List}
use lib.Dec.{T, eqb}
use lib.ListN.{length, get_or, replicate}
use lib.Seq.{get_or-set_same}
use Rattle.model.specs.Basics.{when}
use Rattle.model.specs.Book.Syntax.{QueryEntry, WriteVal, Instr, LookupOrInsertDefault, LookupWithDefault, Lookup, LookupWithFallback, Insert, InsertIfEq, Remove, External, ExternalWithFallback, AssertEq, AssertNe, AssertAnyNe, ReadCounter, width}
use Rattle.model.specs.Machine.State.{State, Site, Record, Event, reads, took, is_going, Env, note, give, lose}
use Rattle.model.specs.Machine.Values.{hold, values_of, list_of, find}
use Rattle.model.specs.Machine.Steps.{here, is_live, is_none, lanes, missed, wait, plain, table_of, lookup, invoke, take_default, serve_missed, stage_list, read_pair, assert_any_ne, body}
use Rattle.model.specs.Claims.Trace.{In, Misses}
use Rattle.model.specs.Laws.Logic.{and_T, some_inj, when_ind, either}
use Rattle.model.specs.Safety.Lanes.{live_below}
use Rattle.model.proofs.Grown.{Longer, longer_trans, Grows, grows_refl, grows_trans, grows_map}
use Rattle.model.proofs.TraceTurns.{moves_in, Own, own_map, Turn, turn_refl, turn_closed, Quiet, look_closed, call_closed, list_closed, pair_closed, any_closed, default_closed, serve_closed}
use Rattle.model.proofs.TracePasses.{Apart, AtTurn, turn_went, Later, turns, pass, pass_before, is_missed, lanes_later, lanes_at}
use Rattle.model.proofs.Went.{look_went}
use Rattle.model.proofs.Entries.{hold_values, list_values}

-- ## What stays of a lane

pub none_at : (n i : ℕ) → get_or (replicate {A = Option ℕ} n None) i None ≡ None
none_at zero i = refl
none_at (suc n) zero = refl
none_at (suc n) (suc i) = none_at n i

-- lane o took column col of the row as its dst
pub record Took (o : Site) (col : ℕ) (r : List ℕ) (s : State) : Type 0 where
  pub word : ℕ
  pub cell : slice_get r col ≡ Some word
  pub noted : In (took o r) s.trace
  pub dst : get_or s.out o.lane None ≡ Some word

-- other lanes leave that
pub took_later : {o : Site} {col : ℕ} {r : List ℕ} {s s' : State} → Took o col r s → Apart o.lane s s' → Took o col r s'
took_later p m = record { word = p.word; cell = p.cell; noted = moves_in m p.noted; dst = m.kept.dsts _ (λ n. n refl) ∙ p.dst }

pub gave_took : (o : Site) (col : ℕ) (r : List ℕ) (w : ℕ) (s s' : State) → slice_get r col ≡ Some w → o.lane < length s.out → Apart o.lane (give o.lane w (note (took o r) s)) s' → Took o col r s'
gave_took o col r w s s' e lt m = record { word = w; cell = e; noted = moves_in m (0, refl); dst = m.kept.dsts o.lane (λ n. n refl) ∙ get_or-set_same s.out o.lane (Some w) None lt }

-- a lane that is missed waits, live and without a dst
pub record Waits (i : ℕ) (s s' : State) : Type 0 where
  pub live : T (get_or s'.live i false)
  pub out : get_or s'.out i None ≡ None
  pub bindings : s'.bindings ≡ s.bindings
  pub size : length s'.out ≡ length s.out
  pub log : Longer (λ q. q.site.lane ≢ i) s.log s'.log

pub waits : (i : ℕ) (e : Event) (s s' s'' : State) → T (get_or s.live i false) → get_or s.out i None ≡ None → Apart i s s' → Apart i (note e s') s'' → Waits i s s''
waits i e s s' s'' l n a b = record {
  live = subst T (sym (b.kept.marks i (λ n. n refl) ∙ a.kept.marks i (λ n. n refl))) l;
  out = b.kept.dsts i (λ n. n refl) ∙ a.kept.dsts i (λ n. n refl) ∙ n;
  bindings = b.bindings ∙ a.bindings;
  size = b.kept.size ∙ a.kept.size;
  log = longer_trans _ s.log s'.log s''.log a.grows.log b.grows.log;
}

module _ (E : Env) (k j : ℕ) where
  -- ## Turns

  -- what each live lane does; ReadCounter does nothing lane by lane
  abbrev pub first_turn : Instr → ℕ → State → State
  first_turn (LookupOrInsertDefault t args vs col dst) i = lookup E (here k j i) t args col wait
  first_turn (LookupWithDefault t args col dst e) i = lookup E (here k j i) t args col (take_default (here k j i) e)
  first_turn (Lookup t args col dst) i = lookup E (here k j i) t args col (lose i)
  first_turn (LookupWithFallback t key f args col dst) i = lookup E (here k j i) t key col wait
  first_turn (Insert t vals) i = stage_list E (here k j i) 0 t (width (table_of E t)) vals
  first_turn (InsertIfEq t l r vals) i = read_pair (here k j i) l r λ a b. when (eqb a b) (stage_list E (here k j i) 0 t (width (table_of E t)) vals)
  first_turn (Remove t args) i = stage_list E (here k j i) 1 t (table_of E t).keys args
  first_turn (External f args dst) i = invoke E (here k j i) 0 plain f args (lose i)
  first_turn (ExternalWithFallback f1 args1 f2 args2 dst) i = invoke E (here k j i) 0 plain f1 args1 wait
  first_turn (AssertEq l r) i = read_pair (here k j i) l r λ a b. when (not (eqb a b)) (lose i)
  first_turn (AssertNe l r) i = read_pair (here k j i) l r λ a b. when (eqb a b) (lose i)
  first_turn (AssertAnyNe d ops) i = assert_any_ne (here k j i) d ops
  first_turn (ReadCounter c dst) i = wait

  pub look_turn : (t : ℕ) (args : List QueryEntry) (col i : ℕ) (s : State) → Turn (here k j i) Quiet s (lookup E (here k j i) t args col wait s)
  look_turn t args col i s = look_closed _ _ _ (turn_closed (here k j i) Quiet s) E t args col wait (λ s' m. m) s (turn_refl _ _ s)

  pub first_turn_lem : (ins : Instr) (i : ℕ) (s : State) → Turn (here k j i) Quiet s (first_turn ins i s)
  first_turn_lem (LookupOrInsertDefault t args vs col dst) i s = look_turn t args col i s
  first_turn_lem (LookupWithDefault t args col dst e) i s = look_closed _ _ _ (turn_closed (here k j i) Quiet s) E t args col _ (default_closed _ _ _ (turn_closed (here k j i) Quiet s) e) s (turn_refl _ _ s)
  first_turn_lem (Lookup t args col dst) i s = look_closed _ _ _ (turn_closed (here k j i) Quiet s) E t args col (lose i) (turn_closed (here k j i) Quiet s).loses s (turn_refl _ _ s)
  first_turn_lem (LookupWithFallback t key f args col dst) i s = look_turn t key col i s
  first_turn_lem (Insert t vals) i s = list_closed _ _ _ (turn_closed (here k j i) Quiet s) E 0 t (width (table_of E t)) vals s (turn_refl _ _ s)
  first_turn_lem (InsertIfEq t l r vals) i s =
      pair_closed _ _ _ (turn_closed (here k j i) Quiet s) l r _ (λ a b s' m. when_ind (Turn (here k j i) Quiet s) (eqb a b) _ s' (λ _. list_closed _ _ _ (turn_closed (here k j i) Quiet s) E 0 t (width (table_of E t)) vals s' m) m) s (turn_refl _ _ s)
  first_turn_lem (Remove t args) i s = list_closed _ _ _ (turn_closed (here k j i) Quiet s) E 1 t (table_of E t).keys args s (turn_refl _ _ s)
  first_turn_lem (External f args dst) i s = call_closed _ _ _ (turn_closed (here k j i) Quiet s) E 0 plain f args (lose i) (turn_closed (here k j i) Quiet s).loses s (turn_refl _ _ s)
  first_turn_lem (ExternalWithFallback f1 args1 f2 args2 dst) i s = call_closed _ _ _ (turn_closed (here k j i) Quiet s) E 0 plain f1 args1 wait (λ s' m. m) s (turn_refl _ _ s)
  first_turn_lem (AssertEq l r) i s = pair_closed _ _ _ (turn_closed (here k j i) Quiet s) l r _ (λ a b s' m. when_ind (Turn (here k j i) Quiet s) (not (eqb a b)) _ s' (λ _. (turn_closed (here k j i) Quiet s).loses s' m) m) s (turn_refl _ _ s)
  first_turn_lem (AssertNe l r) i s = pair_closed _ _ _ (turn_closed (here k j i) Quiet s) l r _ (λ a b s' m. when_ind (Turn (here k j i) Quiet s) (eqb a b) _ s' (λ _. (turn_closed (here k j i) Quiet s).loses s' m) m) s (turn_refl _ _ s)
  first_turn_lem (AssertAnyNe d ops) i s = any_closed _ _ _ (turn_closed (here k j i) Quiet s) d ops s (turn_refl _ _ s)
  first_turn_lem (ReadCounter c dst) i s = turn_refl _ _ s

  -- a missed lane: calls
  pub call_turn : (c dst f : ℕ) (args : List QueryEntry) (i : ℕ) (s : State) → Turn (here k j i) Quiet s (invoke E (here k j i) c (hold dst) f args (lose i) s)
  call_turn c dst f args i s = call_closed _ _ _ (turn_closed (here k j i) Quiet s) E c (hold dst) f args (lose i) (turn_closed (here k j i) Quiet s).loses s (turn_refl _ _ s)

  -- a missed lane: the predicted row of the key that it reads
  abbrev pub Served : ℕ → ℕ → List QueryEntry → ℕ → State → ℕ → List ℕ → Type 0
  Served dst t args i s t' key = (t' ≡ t) × (list_of (hold dst s.bindings) i (table_of E t).keys args ≡ Some key)

  pub serve_turn : (dst t : ℕ) (args : List QueryEntry) (vs : List WriteVal) (col i : ℕ) (s : State) → Turn (here k j i) (Served dst t args i s) s (serve_missed E (here k j i) dst t args vs col s)
  serve_turn dst t args vs col i s = serve_closed _ _ _ (turn_closed (here k j i) (Served dst t args i s) s) E dst t args vs col s (λ key e. (refl, e)) (turn_refl _ _ s)

  -- ## What an instruction adds

  -- lane x of the instruction, from state s on, asks for the row of a key that no committed row has
  abbrev pub AsksOf : Instr → State → ℕ → ℕ → List ℕ → Type 0
  AsksOf ins s x t key = (args : List QueryEntry) × (vs : List WriteVal) × (col dst : ℕ) × (ins ≡ LookupOrInsertDefault t args vs col dst) × Misses E s x t args key

  -- an event, and a record, of a lane that is live in s
  abbrev pub LaneEvent : Instr → State → Event → Type 0
  LaneEvent ins s e = (x : ℕ) × T (get_or s.live x false) × Own (here k j x) (AsksOf ins s x) e

  abbrev pub LaneRecord : State → Record → Type 0
  LaneRecord s r = (x : ℕ) × T (get_or s.live x false) × (r.site ≡ here k j x)

  module _ (ins : Instr) (s₀ : State) where
    abbrev Adds : State → State → Type 0
    Adds = Grows (LaneEvent ins s₀) (LaneRecord s₀)

    lanes_add : (f : ℕ → State → State) → ((x : ℕ) (s : State) → Turn (here k j x) Quiet s (f x s)) → Adds s₀ (lanes f s₀)
    unfolding lanes
    lanes_add f h = grows_map (λ e p. (p.0, live p.0 p.1.2, own_map _ _ _ (λ t key q. absurd q) e p.2)) (λ r p. (p.0, live p.0 p.1.2, p.2)) s₀ (lanes f s₀) (pass k j is_live f (λ _ _. Quiet) h s₀ 0 (length s₀.live) (omega arith)).grows
      where
        live : (x : ℕ) → T (is_live (turns is_live f s₀ x) x) → T (get_or s₀.live x false)
        live x t = (pass k j is_live f (λ _ _. Quiet) h s₀ 0 x (omega arith)).kept.fewer x (and_T (is_going (turns is_live f s₀ x).status) _ t).1

    missed_add : (f : ℕ → State → State) (A : ℕ → State → ℕ → List ℕ → Type 0) (h : (x : ℕ) (s : State) → Turn (here k j x) (A x s) s (f x s)) (s : State) → ((x : ℕ) → T (get_or s.live x false) → T (get_or s₀.live x false))
        → ((x : ℕ) → T (is_missed (turns is_missed f s x) x) → (t : ℕ) (key : List ℕ) → A x (turns is_missed f s x) t key → AsksOf ins s₀ x t key) → Adds s (missed f s)
    unfolding missed
    missed_add f A h s within a = grows_map (λ e p. (p.0, live p.0 p.1.2, own_map _ _ _ (a p.0 p.1.2) e p.2)) (λ r p. (p.0, live p.0 p.1.2, p.2)) s (missed f s) (pass k j is_missed f A h s 0 (length s.live) (omega arith)).grows
      where
        live : (x : ℕ) → T (is_missed (turns is_missed f s x) x) → T (get_or s₀.live x false)
        live x t =
            let z : State = turns is_missed f s x in
            within x ((pass k j is_missed f A h s 0 x (omega arith)).kept.fewer x (and_T (is_going z.status) (get_or z.live x false) (and_T (is_live z x) (is_none (get_or z.out x None)) t).0).1)

    -- two passes, neither of which asks
    two_add : (f g : ℕ → State → State) → ((x : ℕ) (s : State) → Turn (here k j x) Quiet s (f x s)) → ((x : ℕ) (s : State) → Turn (here k j x) Quiet s (g x s)) → Adds s₀ (missed g (lanes f s₀))
    two_add f g hf hg = grows_trans _ _ s₀ (lanes f s₀) (missed g (lanes f s₀)) (lanes_add f hf) (missed_add g (λ _ _. Quiet) hg (lanes f s₀) (lanes_later k j f (λ _ _. Quiet) hf s₀).kept.fewer (λ x _ t key q. absurd q))

  -- ## What a live lane's lookup leaves

  module _ (t : ℕ) (args : List QueryEntry) (col : ℕ) (miss : ℕ → State → State) (h : (x : ℕ) (s : State) → Turn (here k j x) Quiet s (lookup E (here k j x) t args col (miss x) s))
      (s : State) (size : length s.out ≡ length s.live) (i : ℕ) (l : T (get_or s.live i false)) (key : List ℕ) (read : values_of s.bindings i args ≡ Some key) where
    abbrev looks : State
    looks = lanes (λ x. lookup E (here k j x) t args col (miss x)) s

    -- the committed row is taken, and the lane stages nothing
    abbrev pub Hit : List ℕ → Type 0
    Hit r = Took (here k j i) col r looks × Longer (λ q. q.site.lane ≢ i) s.log looks.log

    -- no committed row: other lanes' turns, the miss, other lanes' turns
    abbrev pub Missed : Type 0
    Missed = (s' : State) × Apart i s s' × Apart i (miss i (note (reads (here k j i) key) s')) looks

    pub looked : T (is_going looks.status) → ((r : List ℕ) × (find (table_of E t).keys (table_of E t).rows key ≡ Some r) × Hit r) ⊎ ((find (table_of E t).keys (table_of E t).rows key ≡ None) × Missed)
    looked g =
        let a : AtTurn k j is_live (λ x. lookup E (here k j x) t args col (miss x)) i s looks = lanes_at k j _ (λ _ _. Quiet) h s i g l in
        let c = look_went (here k j i) E a.start t args col (miss i) (turn_went a g) in
        let same : c.0 ≡ key = some_inj (sym (list_values s.bindings i (table_of E t).keys args (subst (λ b. list_of b i (table_of E t).keys args ≡ Some c.0) a.before.bindings c.1)) ∙ read) in
        either
        (λ p. inl (p.0, subst (λ y. find (table_of E t).keys (table_of E t).rows y ≡ Some p.0) same p.2, hit a p.0 p.1 c.0 p.3 (subst (λ z. Apart i z looks) p.4 a.after)))
        (λ p. inr (subst (λ y. find (table_of E t).keys (table_of E t).rows y ≡ None) same p.0, (a.start, a.before, subst (λ y. Apart i (miss i (note (reads (here k j i) y) a.start)) looks) same (subst (λ z. Apart i z looks) p.1 a.after))))
        c.2
      where
        hit : (a : AtTurn k j is_live (λ x. lookup E (here k j x) t args col (miss x)) i s looks) (r : List ℕ) (w : ℕ) (ws : List ℕ) → slice_get r col ≡ Some w → Apart i (give i w (note (took (here k j i) r) (note (reads (here k j i) ws) a.start))) looks → Hit r
        hit a r w ws e m = (
          gave_took (here k j i) col r w (note (reads (here k j i) ws) a.start) looks e (omega (arith, live_below s.live i l, a.before.kept.size, size)) m,
          longer_trans _ s.log a.start.log looks.log a.before.grows.log m.grows.log,
        )

  -- ## Bodies

  -- a lane that is served is live, and found no row
  pub serve_asks : (t : ℕ) (args : List QueryEntry) (vs : List WriteVal) (col dst : ℕ) (s : State) → length s.out ≡ length s.live → (x : ℕ) (z : State)
      → Apart x (lanes (first_turn (LookupOrInsertDefault t args vs col dst)) s) z → T (is_missed z x) → (key : List ℕ) → list_of (hold dst z.bindings) x (table_of E t).keys args ≡ Some key
      → T (get_or s.live x false) × Misses E s x t args key
  serve_asks t args vs col dst s size x z b m key p =
      let ins : Instr = LookupOrInsertDefault t args vs col dst in
      let a : Later s (lanes (first_turn ins) s) = lanes_later k j (first_turn ins) (λ _ _. Quiet) (first_turn_lem ins) s in
      let q = and_T (is_live z x) (is_none (get_or z.out x None)) m in
      let q' = and_T (is_going z.status) (get_or z.live x false) q.0 in
      let l : T (get_or s.live x false) = a.kept.fewer x (b.kept.fewer x q'.1) in
      let read : values_of s.bindings x args ≡ Some key = hold_values dst s.bindings x args (list_values (hold dst s.bindings) x (table_of E t).keys args (subst (λ y. list_of (hold dst y) x (table_of E t).keys args ≡ Some key) (b.bindings ∙ a.bindings) p)) in (
        l,
        (
          read,
          either
              (λ y. absurd (subst (λ o. T (is_none o)) (b.kept.dsts x (λ n. n refl) ∙ y.2.0.dst) q.1))
              (λ y. y.0)
              (looked t args col (λ _. wait) (first_turn_lem ins) s size x l key read (b.grows.goes q'.0)),
        ),
      )

  pub body_adds : (ins : Instr) (s : State) → length s.out ≡ length s.live → Grows (LaneEvent ins s) (LaneRecord s) s (body E k j ins s)
  unfolding body
  body_adds (LookupOrInsertDefault t args vs col dst) s size =
      let ins : Instr = LookupOrInsertDefault t args vs col dst in
      grows_trans _ _ s (lanes (first_turn ins) s) (body E k j ins s) (lanes_add ins s (first_turn ins) (first_turn_lem ins))
      (missed_add ins s _ (Served dst t args) (serve_turn dst t args vs col) (lanes (first_turn ins) s) (lanes_later k j (first_turn ins) (λ _ _. Quiet) (first_turn_lem ins) s).kept.fewer
      (λ x m u key p. subst (λ y. AsksOf ins s x y key) (sym p.0) (args, vs, col, dst, refl, (serve_asks t args vs col dst s size x _ (pass_before k j is_missed _ (Served dst t args) (serve_turn dst t args vs col) (lanes (first_turn ins) s) x) m key p.1).1)))
  body_adds (LookupWithDefault t args col dst e) s size = lanes_add (LookupWithDefault t args col dst e) s _ (first_turn_lem (LookupWithDefault t args col dst e))
  body_adds (Lookup t args col dst) s size = lanes_add (Lookup t args col dst) s _ (first_turn_lem (Lookup t args col dst))
  body_adds (LookupWithFallback t key f args col dst) s size = two_add (LookupWithFallback t key f args col dst) s _ _ (first_turn_lem (LookupWithFallback t key f args col dst)) (call_turn 0 dst f args)
  body_adds (Insert t vals) s size = lanes_add (Insert t vals) s _ (first_turn_lem (Insert t vals))
  body_adds (InsertIfEq t l r vals) s size = lanes_add (InsertIfEq t l r vals) s _ (first_turn_lem (InsertIfEq t l r vals))
  body_adds (Remove t args) s size = lanes_add (Remove t args) s _ (first_turn_lem (Remove t args))
  body_adds (External f args dst) s size = lanes_add (External f args dst) s _ (first_turn_lem (External f args dst))
  body_adds (ExternalWithFallback f1 args1 f2 args2 dst) s size = two_add (ExternalWithFallback f1 args1 f2 args2 dst) s _ _ (first_turn_lem (ExternalWithFallback f1 args1 f2 args2 dst)) (call_turn 1 dst f2 args2)
  body_adds (AssertEq l r) s size = lanes_add (AssertEq l r) s _ (first_turn_lem (AssertEq l r))
  body_adds (AssertNe l r) s size = lanes_add (AssertNe l r) s _ (first_turn_lem (AssertNe l r))
  body_adds (AssertAnyNe d ops) s size = lanes_add (AssertAnyNe d ops) s _ (first_turn_lem (AssertAnyNe d ops))
  body_adds (ReadCounter c dst) s size = grows_refl _ _ s
