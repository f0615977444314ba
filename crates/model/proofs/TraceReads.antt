-- What the lanes' part of an instruction notes of a live lane, if the machine is not stuck after it.
use Prim.Native.Nat.{ℕ, ◌≤◌, ◌<◌}
use native.Mathlib.Omega.{arith}
use mathlib.Core.Path.{◌≡◌, refl, sym, ap, ◌∙◌, subst}
use mathlib.Core.Logic.{◌⊎◌, inl, inr, ◌≢◌}
use mathlib.Core.Bool.{Bool, true, false}
use Rattle.std.specs.Prelude.{None, Some, slice_get}
use mathlib.Core.List.{List, [], ◌∷◌}
use lib.Dec.{T}
use lib.ListN.{length, get_or, length-replicate}
use Rattle.model.specs.Book.Syntax.{QueryEntry, WriteVal, Instr, LookupOrInsertDefault, LookupWithDefault, Lookup, LookupWithFallback, Insert, InsertIfEq, Remove, External, ExternalWithFallback, AssertEq, AssertNe, AssertAnyNe, ReadCounter}
use Rattle.model.specs.Machine.State.{State, Site, Record, Event, reads, took, asks, spent, full, is_going, Env, note, give, lose, with_counters, logged}
use Rattle.model.specs.Machine.Values.{hold, value_of, values_of, list_of}
use Rattle.model.specs.Machine.Steps.{here, is_live, table_of, wait, plain, clear, lanes, missed, lookup, invoke, serve_missed, take_column, body}
use Rattle.model.specs.Check.{entries_of}
use Rattle.model.specs.Claims.Trace.{In, read_first, read_then, Misses, Goes}
use Rattle.model.specs.Laws.Logic.{none_some, some_inj, either}
use Rattle.model.specs.Safety.Lanes.{live_below}
use Rattle.model.proofs.Idle.{not_going, missed_idle}
use Rattle.model.proofs.Room.{stuck≢full}
use Rattle.model.proofs.Grown.{in_cons, in_none, Longer, longer_trans, longer_new, Going, Unstuck, going_unstuck}
use Rattle.model.proofs.Entries.{Word, list_values, hold_value, hold_values, build_word}
use Rattle.model.proofs.TraceTurns.{moves_in, moves_refl, Turn, Quiet}
use Rattle.model.proofs.TracePasses.{Apart, Unread, AtTurn, turn_unstuck, turn_went, CutAt, is_missed, Later, lanes_cut, missed_cut, lanes_at, missed_at, missed_past, lanes_later, missed_later, lanes_quiet}
use Rattle.model.proofs.Went.{column_went, row_of, RowWent, cut_unlogged, look_went, serve_went, call_went}
use Rattle.model.proofs.TraceBodies.{none_at, Took, gave_took, Waits, waits, first_turn, look_turn, first_turn_lem, call_turn, Served, serve_turn, looked, serve_asks}
use Rattle.model.proofs.TraceEnds.{missed_goes, first_ends, looks_go, calls_go, missed_go, NoRoom, serve_stops, served_full}
use Rattle.model.proofs.TraceNotes.{EntryNoted, noted_later, list_entry, call_notes, first_notes, default_notes, equal_notes}

reads_site : {o p : Site} {ws us : List ℕ} {x y : List Event} → reads o ws ∷ x ≡ reads p us ∷ y → o ≡ p
reads_site e = cc

pub asks≢reads : {o p : Site} {t : ℕ} {key ws us : List ℕ} → asks o t key ws ≡ reads p us → ⊥
asks≢reads e = let z : ◌≡◌ {A = ℕ} 0 1 = cc in omega arith

-- lane i is live in s₀, where the instruction begins
module _ (E : Env) (k j : ℕ) (s₀ : State) (g₀ : Going s₀) (i : ℕ) (l : T (get_or s₀.live i false)) where
  abbrev o : Site
  o = here k j i

  abbrev s : State
  s = clear s₀

  size : length s.out ≡ length s.live
  size = length-replicate (length s₀.live) None

  empty : get_or s.out i None ≡ None
  empty = none_at (length s₀.live) i

  abbrev first : Instr → State
  first ins = lanes (first_turn E k j ins) s

  -- ## The first pass

  turn_of : (ins : Instr) → Going (first ins) → AtTurn k j is_live (first_turn E k j ins) i s (first ins)
  turn_of ins g = lanes_at k j (first_turn E k j ins) (λ _ _. Quiet) (first_turn_lem E k j ins) s i g l

  -- ## Missed lanes

  look_waits : (t : ℕ) (args : List QueryEntry) (col : ℕ) (key : List ℕ) → Misses E s i t args key → T (is_going (lanes (λ x. lookup E (here k j x) t args col wait) s).status) → Waits i s (lanes (λ x. lookup E (here k j x) t args col wait) s)
  look_waits t args col key m g = either
      (λ p. absurd (none_some (sym m.1 ∙ p.1)))
      (λ p. waits i (reads o key) s p.1.0 _ l empty p.1.1 p.1.2)
      (looked E k j t args col (λ _. wait) (look_turn E k j t args col) s size i l key m.0 g)

  call_waits : (f1 : ℕ) (args1 : List QueryEntry) (f2 : ℕ) (args2 : List QueryEntry) (dst : ℕ) (ws : List ℕ) → values_of s.bindings i args1 ≡ Some ws → E.answer o 0 f1 ws ≡ None → let ins : Instr = ExternalWithFallback f1 args1 f2 args2 dst in T (is_going (first ins).status) → Waits i s (first ins)
  call_waits f1 args1 f2 args2 dst ws read none' g =
      let ins : Instr = ExternalWithFallback f1 args1 f2 args2 dst in
      let a = turn_of ins g in
      let c = call_went o E a.start 0 plain f1 args1 wait (turn_went a g) in
      let same : c.0 ≡ ws = some_inj (sym (list_values s.bindings i (E.arity f1) args1 (subst (λ b. list_of b i (E.arity f1) args1 ≡ Some c.0) a.before.bindings c.1)) ∙ read) in
      either
      (λ p. absurd (none_some (sym none' ∙ subst (λ y. E.answer o 0 f1 y ≡ Some p.0) same p.1)))
      (λ p. waits i (reads o c.0) s a.start (first ins) l empty a.before (subst (λ z. Apart i z (first ins)) p.1 a.after))
      c.2

  -- a missed lane calls a function
  call_entries : (c dst f : ℕ) (args : List QueryEntry) (s₁ : State) → Waits i s s₁ → let f' : ℕ → State → State = λ x. invoke E (here k j x) c (hold dst) f args (lose x) in
      T (is_going (missed f' s₁).status) → (e : QueryEntry) → In e args → EntryNoted (missed f' s₁).trace o s.bindings e
  call_entries c dst f args s₁ w g e h =
      let a = missed_at k j (λ x. invoke E (here k j x) c (hold dst) f args (lose x)) (λ _ _. Quiet) (call_turn E k j c dst f args) s₁ i g w.live w.out in
      let q = list_entry (call_notes o a.start E c (hold dst) f args (lose i) (λ e z h. h) (turn_went a g)) e h in
      noted_later a.after o s.bindings e
      (subst (λ b. EntryNoted (invoke E o c (hold dst) f args (lose i) a.start).trace o b e) (a.before.bindings ∙ w.bindings) (q.0, hold_value dst a.start.bindings i e q.1, q.2))

  -- ## A lane that is served

  module _ (dst t : ℕ) (args : List QueryEntry) (vs : List WriteVal) (col : ℕ) where
    abbrev loid : Instr
    loid = LookupOrInsertDefault t args vs col dst

    abbrev serve : State → State
    serve = serve_missed E o dst t args vs col

    abbrev served : State
    served = missed (λ x. serve_missed E (here k j x) dst t args vs col) (first loid)

    first_on : Unstuck served → Going (first loid)
    first_on u = looks_go E k j t args col (λ _. wait) (λ _ _ g _. g) s g₀ (λ q. u (ap (λ z. z.status) (missed_idle _ (first loid) (ap is_going q)) ∙ q))

    -- 13 or 12 ended the run at the row of lane x: it is live and misses, it was the last to read, and no lane from it on has asked since the instruction began
    pub record CutLane (x : ℕ) : Type 0 where
      pub key : List ℕ
      pub live : T (get_or s.live x false)
      pub misses : Misses E s x t args key
      pub ends : (served.status ≡ spent) ⊎ (served.status ≡ full)
      pub words : List ℕ
      pub older : List Event
      pub last : served.trace ≡ reads (here k j x) words ∷ older
      pub unasked : (y u : ℕ) (ws r : List ℕ) → x ≤ y → In (asks (here k j y) u ws r) served.trace → In (asks (here k j y) u ws r) s.trace

    -- the lane i, or one before it
    abbrev pub CutBy : Type 0
    CutBy = (x : ℕ) × (x ≤ i) × CutLane x

    cut_lane : (x : ℕ) (a : AtTurn k j is_missed (λ x. serve_missed E (here k j x) dst t args vs col) x (first loid) served) → (Going (serve_missed E (here k j x) dst t args vs col a.start) → ⊥) → Unstuck served → CutLane x
    cut_lane x a n u =
        let p = serve_stops E k j dst t args vs col x a.start (missed_goes a.start x a.test) (turn_unstuck a u) n in
        either
        (λ q. cut p.0 p.1 (inl (ap (λ z. z.status) (is ∙ q.1))) p.0 a.start.trace (ap (λ z. z.trace) (is ∙ q.1)) (λ y v ws r h. h))
        (λ q. cut p.0 p.1 (inr (ap (λ z. z.status) (is ∙ q.3))) q.0 _ (ap (λ z. z.trace) (is ∙ q.3)) (λ y v ws r h. either (λ e. absurd (asks≢reads (sym e))) (λ h'. h') (in_cons _ a.start.trace h)))
        p.2.1
      where
        is : served ≡ serve_missed E (here k j x) dst t args vs col a.start
        is = a.last n

        cut : (key : List ℕ) → list_of (hold dst a.start.bindings) x (table_of E t).keys args ≡ Some key → (served.status ≡ spent) ⊎ (served.status ≡ full) → (ws : List ℕ) (older : List Event) → served.trace ≡ reads (here k j x) ws ∷ older
            → ((y v : ℕ) (us r : List ℕ) → In (asks (here k j y) v us r) older → In (asks (here k j y) v us r) a.start.trace) → CutLane x
        cut key read ends ws older last old =
            let q = serve_asks E k j t args vs col dst s size x a.start a.before a.test key read in
            record {
              key = key;
              live = q.0;
              misses = q.1;
              ends = ends;
              words = ws;
              older = older;
              last = last;
              unasked = λ y v us r le h. lanes_quiet k j _ (first_turn_lem E k j loid) s (here k j y) v us r
                  (a.unread y (asks (here k j y) v us r) le (refl, tt) (old y v us r (either (λ e. absurd (asks≢reads (sym e))) (λ h'. h') (in_cons _ older (subst (In (asks (here k j y) v us r)) last h)))));
            }

    module _ (key : List ℕ) where
      abbrev go_on : Bool → List ℕ → State → State
      go_on new r s' = take_column o col r (note (asks o t key r) s')

      -- the state at its turn, and what the turn came to
      record Serves : Type 0 where
        start : State
        bindings : start.bindings ≡ s.bindings
        below : i < length start.out
        log : Longer (λ q. q.site.lane ≢ i) s.log start.log
        went : RowWent o E (note (reads o key) start) (hold dst start.bindings) t key vs go_on (serve start)
        unstuck : Unstuck (serve start)
        after : Apart i (serve start) served

      -- or the run stops, and the lane has logged nothing
      abbrev Unlogs : Type 0
      Unlogs = (Going served → ⊥) × Longer (λ q. q.site.lane ≢ i) s.log served.log

      serves : Misses E s i t args key → Going (first loid) → Unstuck served → Serves ⊎ (Unlogs × CutBy)
      serves m g u =
          let w : Waits i s (first loid) = look_waits t args col key m g in
          either
          (λ a. let c = serve_went o E a.start dst t args vs col (turn_unstuck a u) in
          let same : c.0 ≡ key = some_inj (sym (hold_values dst s.bindings i args (list_values (hold dst s.bindings) i (table_of E t).keys args (subst (λ b. list_of (hold dst b) i (table_of E t).keys args ≡ Some c.0) (a.before.bindings ∙ w.bindings) c.1))) ∙ m.0) in
          let log : Longer (λ q. q.site.lane ≢ i) s.log a.start.log = longer_trans _ s.log (first loid).log a.start.log w.log a.before.grows.log in
          either
          (λ p. inl (record {
            start = a.start;
            bindings = a.before.bindings ∙ w.bindings;
            below = omega (arith, live_below s.live i l, a.before.kept.size, w.size, size);
            log = log;
            went = subst (λ y. RowWent o E (note (reads o y) a.start) (hold dst a.start.bindings) t y vs (λ _ r s'. take_column o col r (note (asks o t y r) s')) (serve a.start)) same p;
            unstuck = turn_unstuck a u;
            after = a.after;
          }))
          (λ p. let n = cut_unlogged o E (note (reads o c.0) a.start) (hold dst a.start.bindings) t c.0 vs (serve a.start) p in
          inr ((λ g. n.0 (a.after.grows.goes g), longer_trans _ s.log a.start.log served.log log (subst (λ y. Longer (λ q. q.site.lane ≢ i) y served.log) n.1 a.after.grows.log)), (i, omega arith, cut_lane i a n.0 u)))
          c.2)
          (λ c. let b = c.by g in inr ((c.stopped, longer_trans _ s.log (first loid).log served.log w.log c.before.grows.log), (b.0, omega (arith, b.1), cut_lane b.0 b.2 b.3 u)))
          (missed_cut k j _ (Served E k j dst t args) (serve_turn E k j dst t args vs col) (first loid) i w.live w.out)

      module _ (v : Serves) where
        -- its column is taken from the row, and then come other lanes' turns
        taken : (r : List ℕ) (s' : State) → serve v.start ≡ go_on true r s' → (w : ℕ) × (slice_get r col ≡ Some w) × Apart i (give i w (note (took o r) (note (asks o t key r) s'))) served
        taken r s' e =
            let p = column_went o col r (note (asks o t key r) s') (subst Unstuck e v.unstuck) in
            (p.0, p.1, subst (λ z. Apart i z served) (e ∙ p.2) v.after)

        -- the row is asked for and taken
        serve_took : (r : List ℕ) × (In (asks o t key r) served.trace × Took o col r served)
        serve_took = (v.went.0, either (λ p. row v.went.0 (note (reads o key) v.start) v.below p.1) (λ p. row v.went.0 (logged (row_of o E v.start t v.went.0) (note (reads o v.went.0) (with_counters p.0 (note (reads o key) v.start)))) v.below p.3) v.went.1)
          where
            row : (r : List ℕ) (s' : State) → i < length s'.out → serve v.start ≡ go_on true r s' → In (asks o t key r) served.trace × Took o col r served
            row r s' lt e = let p = taken r s' e in (moves_in p.2 (1, refl), gave_took o col r p.0 (note (asks o t key r) s') served p.1 lt p.2)

        -- where it stages a row, the words of the entries are in it
        serve_words : (r : Record) (n : ℕ) → length s.log ≤ n → slice_get served.log n ≡ Some r → r.site ≡ o → (e : QueryEntry) → In e (entries_of vs) → EntryNoted served.trace o s.bindings e
        serve_words r n le at here' e h = either
            (λ p. let m = taken v.went.0 (note (reads o key) v.start) p.1 in
            absurd (longer_new (λ q. q.site.lane ≢ i) s.log served.log (longer_trans _ s.log v.start.log served.log v.log m.2.grows.log) n le at (ap (λ x. x.lane) here')))
            (λ p. let m = taken v.went.0 _ p.3 in
            let q = (build_word (hold dst v.start.bindings) i vs key v.start.counters p.2).1 e h in
            (q.0, subst (λ b. value_of b i e ≡ Some q.0) v.bindings (hold_value dst v.start.bindings i e q.1), (v.went.0, inl (moves_in m.2 (2, refl)), q.2)))
            v.went.1

    serve_entries : Going (first loid) → Unstuck served → (r : Record) (n : ℕ) → length s.log ≤ n → slice_get served.log n ≡ Some r → r.site ≡ o → (e : QueryEntry) → In e (entries_of vs) → EntryNoted served.trace o s.bindings e
    serve_entries g u r n le at here' e h =
        let a = turn_of loid g in
        let c = look_went o E a.start t args col wait (turn_went a g) in
        let read : values_of s.bindings i args ≡ Some c.0 = list_values s.bindings i (table_of E t).keys args (subst (λ b. list_of b i (table_of E t).keys args ≡ Some c.0) a.before.bindings c.1) in
        let none_new : Longer (λ q. q.site.lane ≢ i) s.log served.log → ⊥ = λ m. longer_new (λ q. q.site.lane ≢ i) s.log served.log m n le at (ap (λ x. x.lane) here') in
        either
        (λ p. let past = missed_past k j _ (Served E k j dst t args) (serve_turn E k j dst t args vs col) (first loid) i p.2.0.word p.2.0.dst in
        absurd (none_new (longer_trans _ s.log (first loid).log served.log p.2.1 past.grows.log)))
        (λ p. either (λ v. serve_words c.0 v r n le at here' e h) (λ q. absurd (none_new q.0.1)) (serves c.0 (read, p.0) g u))
        (looked E k j t args col (λ _. wait) (look_turn E k j t args col) s size i l c.0 read g)

    -- where a row that is built has no room, it is in the last event,
    pub part_last : served.status ≡ full → NoRoom E k j s.bindings vs served
    part_last is = subst (λ b. NoRoom E k j b vs served) (lanes_later k j _ (λ _ _. Quiet) (first_turn_lem E k j loid) s).bindings (served_full E k j dst t args vs col (first loid) (first_on (λ q. stuck≢full (sym q ∙ is))) is)

    -- and the words of the entries are in it
    refused_entries : (r : List ℕ) (older : List Event) → served.status ≡ full → served.trace ≡ reads o r ∷ older → (e : QueryEntry) → In e (entries_of vs) → EntryNoted served.trace o s.bindings e
    refused_entries r older is last e h =
        let p = part_last is in
        let lane : p.0 ≡ i = ap (λ y. y.lane) (reads_site (sym p.3 ∙ last)) in
        let w : Word s.bindings i p.1 e = subst (λ x. Word s.bindings x p.1 e) lane (p.4 e h) in
        (w.0, w.1, (p.1, inl (0, subst (λ x. slice_get x 0 ≡ Some (reads o p.1)) (sym p.3) (ap (λ x. Some (reads (here k j x) p.1)) lane)), w.2))

  -- ## The lanes' part

  abbrev part : Instr → State
  part ins = body E k j ins s

  -- an entry that the instruction reads in some case
  abbrev Reads : QueryEntry → Instr → Type 0
  Reads e ins = In e (read_first ins) ⊎ In e (read_then ins)

  -- what comes after the first pass takes nothing back, and is left out where the run has stopped
  abbrev Rest : Instr → Type 0
  Rest ins = Later (first ins) (part ins) × ((Going (first ins) → ⊥) → part ins ≡ first ins)

  second : (f : ℕ → State → State) (A : ℕ → State → ℕ → List ℕ → Type 0) → ((x : ℕ) (s : State) → Turn (here k j x) (A x s) s (f x s)) → (z : State) → Later z (missed f z) × ((Going z → ⊥) → missed f z ≡ z)
  second f A h z = (missed_later k j f A h z, λ n. missed_idle f z (not_going z.status n))

  rest : (ins : Instr) {e : QueryEntry} → Reads e ins → Rest ins
  unfolding body read_first read_then
  rest (LookupOrInsertDefault t args vs col dst) h = second _ (Served E k j dst t args) (serve_turn E k j dst t args vs col) _
  rest (LookupWithDefault t args col dst x) h = (moves_refl _ _ _ _, λ _. refl)
  rest (Lookup t args col dst) h = (moves_refl _ _ _ _, λ _. refl)
  rest (LookupWithFallback t key f args col dst) h = second _ (λ _ _. Quiet) (call_turn E k j 0 dst f args) _
  rest (Insert t vals) h = (moves_refl _ _ _ _, λ _. refl)
  rest (InsertIfEq t x y vals) h = (moves_refl _ _ _ _, λ _. refl)
  rest (Remove t args) h = (moves_refl _ _ _ _, λ _. refl)
  rest (External f args dst) h = (moves_refl _ _ _ _, λ _. refl)
  rest (ExternalWithFallback f1 args1 f2 args2 dst) h = second _ (λ _ _. Quiet) (call_turn E k j 1 dst f2 args2) _
  rest (AssertEq x y) h = (moves_refl _ _ _ _, λ _. refl)
  rest (AssertNe x y) h = (moves_refl _ _ _ _, λ _. refl)
  rest (AssertAnyNe d ops) h = (moves_refl _ _ _ _, λ _. refl)
  rest (ReadCounter c dst) h = absurd (either in_none in_none h)

  -- the log was full before the lane had its turn
  abbrev pub PartCut : Instr → Type 0
  PartCut ins = ((part ins).status ≡ full) × Unread k j i s (part ins)

  first_unstuck : (ins : Instr) {e : QueryEntry} → Reads e ins → Unstuck (part ins) → Unstuck (first ins)
  first_unstuck ins h u q = u (ap (λ z. z.status) ((rest ins h).1 (λ g. going_unstuck (first ins) g q)) ∙ q)

  cut : (ins : Instr) {e : QueryEntry} → Reads e ins → Unstuck (part ins) → CutAt k j is_live (first_turn E k j ins) i s (first ins) → PartCut ins
  cut ins h u c =
      subst (λ z. (z.status ≡ full) × Unread k j i s z) (sym ((rest ins h).1 c.stopped))
      (either (λ g. absurd (c.stopped g)) (λ q. q) (first_ends E k j ins s g₀ (first_unstuck ins h u)), c.unread)

  -- what holds of the lane's turn, whatever the state, is noted
  entry_after : (ins : Instr) (e : QueryEntry) → Reads e ins → ((s' : State) → s'.bindings ≡ s.bindings → Unstuck (first_turn E k j ins i s') → EntryNoted (first_turn E k j ins i s').trace o s'.bindings e)
      → Unstuck (part ins) → EntryNoted (part ins).trace o s.bindings e ⊎ PartCut ins
  entry_after ins e h notes u = either
      (λ a. inl (noted_later (rest ins h).0 o s.bindings e (noted_later a.after o s.bindings e
      (subst (λ b. EntryNoted (first_turn E k j ins i a.start).trace o b e) a.before.bindings (notes a.start a.before.bindings (turn_unstuck a (first_unstuck ins h u)))))))
      (λ c. inr (cut ins h u c))
      (lanes_cut k j (first_turn E k j ins) (λ _ _. Quiet) (first_turn_lem E k j ins) s i l)

  pub part_first : (ins : Instr) → Unstuck (part ins) → (e : QueryEntry) → In e (read_first ins) → EntryNoted (part ins).trace o s.bindings e ⊎ PartCut ins
  part_first ins u e h = entry_after ins e (inl h) (λ s' _ u'. first_notes E k j i s' ins u' e h) u

  pub part_then : (ins : Instr) (s' : State) → s'.log ≡ (part ins).log → (s'.status ≡ full → s' ≡ part ins) → Unstuck (part ins) → (e : QueryEntry) → In e (read_then ins) → Goes E k j s₀ s' i ins → EntryNoted (part ins).trace o s.bindings e ⊎ PartCut ins
  unfolding body read_then
  part_then (LookupOrInsertDefault t args vs col dst) s' q same u e h y =
      inl (either
      (λ p. serve_entries dst t args vs col (first_on dst t args vs col u) u p.0 p.1 p.2 (subst (λ x. slice_get x p.1 ≡ Some p.0) q p.3) p.4 e h)
      (λ p. refused_entries dst t args vs col p.1 p.2 (sym (ap (λ z. z.status) (same p.0)) ∙ p.0) (sym (ap (λ z. z.trace) (same p.0)) ∙ p.3) e h) y)
  part_then (LookupWithDefault t args col dst x) s' q same u e h y =
      entry_after (LookupWithDefault t args col dst x) e (inr h) (λ z b u'.
      subst (λ w. EntryNoted (first_turn E k j (LookupWithDefault t args col dst x) i z).trace o z.bindings w) (either (λ p. p) (λ p. absurd (in_none p)) (in_cons x [] h))
      (default_notes E k j i z t args col x y.0 (subst (λ c. values_of c i args ≡ Some y.0) (sym b) y.1.0, y.1.1) u')) u
  part_then (Lookup t args col dst) s' q same u e h y = absurd y
  part_then (LookupWithFallback t key f args col dst) s' q same u e h y =
      let ins : Instr = LookupWithFallback t key f args col dst in
      let g : Going (first ins) = looks_go E k j t key col (λ _. wait) (λ _ _ g _. g) s g₀ (first_unstuck ins (inr h) u) in
      inl (call_entries 0 dst f args (first ins) (look_waits t key col y.0 y.1 g) (missed_go E k j 0 dst f args (first ins) g u) e h)
  part_then (Insert t vals) s' q same u e h y = absurd y
  part_then (InsertIfEq t l r vals) s' q same u e h y =
      entry_after (InsertIfEq t l r vals) e (inr h) (λ z b u'. list_entry (equal_notes E k j i z t l r vals y.0 (subst (λ c. value_of c i l ≡ Some y.0) (sym b) y.1) (subst (λ c. value_of c i r ≡ Some y.0) (sym b) y.2) u') e h) u
  part_then (Remove t args) s' q same u e h y = absurd y
  part_then (External f args dst) s' q same u e h y = absurd y
  part_then (ExternalWithFallback f1 args1 f2 args2 dst) s' q same u e h y =
      let ins : Instr = ExternalWithFallback f1 args1 f2 args2 dst in
      let g : Going (first ins) = calls_go E k j f1 args1 s g₀ (first_unstuck ins (inr h) u) in
      inl (call_entries 1 dst f2 args2 (first ins) (call_waits f1 args1 f2 args2 dst y.0 y.1 y.2 g) (missed_go E k j 1 dst f2 args2 (first ins) g u) e h)
  part_then (AssertEq x z) s' q same u e h y = absurd y
  part_then (AssertNe x z) s' q same u e h y = absurd y
  part_then (AssertAnyNe d ops) s' q same u e h y = absurd y
  part_then (ReadCounter c dst) s' q same u e h y = absurd y

  -- the predicted row, where no committed row has the key
  pub part_asks : (t : ℕ) (args : List QueryEntry) (vs : List WriteVal) (col dst : ℕ) (key : List ℕ) → Unstuck (part (LookupOrInsertDefault t args vs col dst)) → Misses E s i t args key
      → ((r : List ℕ) × (In (asks o t key r) (part (LookupOrInsertDefault t args vs col dst)).trace × Took o col r (part (LookupOrInsertDefault t args vs col dst)))) ⊎ CutBy dst t args vs col
  unfolding body
  part_asks t args vs col dst key u m = either (λ v. inl (serve_took dst t args vs col key v)) (λ p. inr p.1) (serves dst t args vs col key m (first_on dst t args vs col u) u)
