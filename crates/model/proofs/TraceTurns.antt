-- What a turn of a lane leaves alone: the bindings, the answers, the other lanes, what is noted and logged already.
use Prim.Native.Nat.{ℕ}
use mathlib.Core.Path.{◌≡◌, refl, sym, ◌∙◌, subst}
use mathlib.Core.Bool.{Bool, true, false, not}
use Rattle.std.specs.Prelude.{Option, None, Some, slice_get}
use mathlib.Core.List.{List, [], ◌∷◌, ◌++◌}
use lib.Dec.{T, leb}
use lib.ListN.{length, get_or, take, drop, length-set}
use lib.Seq.{get_or-set_other}
use Rattle.model.specs.Basics.{only, first}
use Rattle.model.specs.Book.Syntax.{Counter, QueryEntry, WriteVal}
use Rattle.model.specs.Machine.State.{State, Site, Record, Event, mask, reads, took, asks, Status, stuck, spent, full, is_going, Bindings, Env, stop, note, give, lose, with_counters, change, logged, log_words}
use Rattle.model.specs.Machine.Values.{hold, value_of, values_of, list_of, find, predicted_rows, Built, is_stuck, is_spent, built, build}
use Rattle.model.specs.Machine.Steps.{table_of, stage_new, row_start, predict_row, take_column, lookup, invoke, take_default, serve_missed, stage_list, read_pair, any_ne, assert_any_ne}
use Rattle.model.specs.Claims.Demand3.{Within}
use Rattle.model.specs.Claims.Trace.{In}
use Rattle.model.specs.Laws.Logic.{found_ind, when_ind}
use Rattle.model.specs.Safety.Inv.{set_within}
use Rattle.model.specs.Laws.Turns.{need_ind, room_ind}
use Rattle.model.proofs.Grown.{in_there, newer_in, RecordNoted, Grows, grows_refl, grows_trans, grows_note, grows_logged, grows_stop, grows_map}

-- ## From a state to a later one of the same batch

-- only lanes of L have changed, and none came back
pub record Kept (L : ℕ → Type 0) (live : List Bool) (out : List (Option ℕ)) (live' : List Bool) (out' : List (Option ℕ)) : Type 0 where
  pub marks : (x : ℕ) → (L x → ⊥) → get_or live' x false ≡ get_or live x false
  pub dsts : (x : ℕ) → (L x → ⊥) → get_or out' x None ≡ get_or out x None
  pub fewer : Within live' live
  pub lanes : length live' ≡ length live
  pub size : length out' ≡ length out

-- and the new events are of Q, the new records of R
pub record Moves (L : ℕ → Type 0) (Q : Event → Type 0) (R : Record → Type 0) (s s' : State) : Type 0 where
  pub grows : Grows Q R s s'
  pub kept : Kept L s.live s.out s'.live s'.out
  pub bindings : s'.bindings ≡ s.bindings
  pub answers : s'.answers ≡ s.answers

module _ (L : ℕ → Type 0) (Q : Event → Type 0) (R : Record → Type 0) where
  pub moves_refl : (s : State) → Moves L Q R s s
  moves_refl s = record { grows = grows_refl Q R s; kept = record { marks = λ x n. refl; dsts = λ x n. refl; fewer = λ x t. t; lanes = refl; size = refl }; bindings = refl; answers = refl }

  pub moves_trans : (s s' s'' : State) → Moves L Q R s s' → Moves L Q R s' s'' → Moves L Q R s s''
  moves_trans s s' s'' a b = record {
    grows = grows_trans Q R s s' s'' a.grows b.grows;
    kept = record {
      marks = λ x n. b.kept.marks x n ∙ a.kept.marks x n;
      dsts = λ x n. b.kept.dsts x n ∙ a.kept.dsts x n;
      fewer = λ x t. a.kept.fewer x (b.kept.fewer x t);
      lanes = b.kept.lanes ∙ a.kept.lanes;
      size = b.kept.size ∙ a.kept.size;
    };
    bindings = b.bindings ∙ a.bindings;
    answers = b.answers ∙ a.answers;
  }

  module _ (s s' : State) (m : Moves L Q R s s') where
    pub moves_stop : (st : Status) → (T (is_going st) → ⊥) → Moves L Q R s (stop st s')
    moves_stop st n = record { grows = grows_stop Q R s s' m.grows st n; kept = m.kept; bindings = m.bindings; answers = m.answers }

    pub moves_note : (e : Event) → Q e → Moves L Q R s (note e s')
    moves_note e q = record { grows = grows_note Q R s s' m.grows e q; kept = m.kept; bindings = m.bindings; answers = m.answers }

    pub moves_logged : (r : Record) → R r → RecordNoted s'.trace r → Moves L Q R s (logged r s')
    moves_logged r q n = record { grows = grows_logged Q R s s' m.grows r q n; kept = m.kept; bindings = m.bindings; answers = m.answers }

    pub moves_counters : (cs : List Counter) → Moves L Q R s (with_counters cs s')
    moves_counters cs = record { grows = m.grows; kept = m.kept; bindings = m.bindings; answers = m.answers }

    pub moves_change : Moves L Q R s (change s')
    moves_change = record { grows = m.grows; kept = m.kept; bindings = m.bindings; answers = m.answers }

    pub moves_give : (i w : ℕ) → L i → Moves L Q R s (give i w s')
    moves_give i w l = record {
      grows = m.grows;
      kept = record {
        marks = m.kept.marks;
        dsts = λ x n. get_or-set_other s'.out i x (Some w) None (λ e. n (subst L (sym e) l)) ∙ m.kept.dsts x n;
        fewer = m.kept.fewer;
        lanes = m.kept.lanes;
        size = length-set s'.out i (Some w) ∙ m.kept.size;
      };
      bindings = m.bindings;
      answers = m.answers;
    }

    pub moves_lose : (i : ℕ) → L i → Moves L Q R s (lose i s')
    moves_lose i l = record {
      grows = m.grows;
      kept = record {
        marks = λ x n. get_or-set_other s'.live i x false false (λ e. n (subst L (sym e) l)) ∙ m.kept.marks x n;
        dsts = m.kept.dsts;
        fewer = λ x t. m.kept.fewer x (set_within s'.live i x t);
        lanes = length-set s'.live i false ∙ m.kept.lanes;
        size = m.kept.size;
      };
      bindings = m.bindings;
      answers = m.answers;
    }

pub moves_map : {L L' : ℕ → Type 0} {Q Q' : Event → Type 0} {R R' : Record → Type 0} → ((x : ℕ) → L x → L' x) → ((e : Event) → Q e → Q' e) → ((r : Record) → R r → R' r)
    → (s s' : State) → Moves L Q R s s' → Moves L' Q' R' s s'
moves_map f g h s s' m = record {
  grows = grows_map g h s s' m.grows;
  kept = record { marks = λ x n. m.kept.marks x (λ l. n (f x l)); dsts = λ x n. m.kept.dsts x (λ l. n (f x l)); fewer = m.kept.fewer; lanes = m.kept.lanes; size = m.kept.size };
  bindings = m.bindings;
  answers = m.answers;
}

-- what is noted stays so
pub moves_in : {L : ℕ → Type 0} {Q : Event → Type 0} {R : Record → Type 0} {s s' : State} → Moves L Q R s s' → {e : Event} → In e s.trace → In e s'.trace
moves_in {L} {Q} {R} {s} {s'} m h = newer_in Q s.trace s'.trace m.grows.trace h

-- ## What every change that a lane makes keeps, the whole turn keeps

-- P is kept by each change that lane o may make, where the tables and keys that it asks for have A
pub record Closed (o : Site) (A : ℕ → List ℕ → Type 0) (P : State → Type 0) : Type 0 where
  pub stops : (st : Status) (s : State) → (T (is_going st) → ⊥) → P s → P (stop st s)
  pub notes : (ws : List ℕ) (s : State) → P s → P (note (reads o ws) s)
  pub takes : (ws : List ℕ) (s : State) → P s → P (note (took o ws) s)
  pub asked : (t : ℕ) (key ws : List ℕ) (s : State) → A t key → P s → P (note (asks o t key ws) s)
  pub gives : (w : ℕ) (s : State) → P s → P (give o.lane w s)
  pub loses : (s : State) → P s → P (lose o.lane s)
  pub draws : (cs : List Counter) (s : State) → P s → P (with_counters cs s)
  pub marks : (s : State) → P s → P (change s)
  pub stages : (r : Record) (s : State) → r.site ≡ o → RecordNoted s.trace r → P s → P (logged r s)

module _ (o : Site) (A : ℕ → List ℕ → Type 0) (P : State → Type 0) (c : Closed o A P) where
  pub column_closed : (col : ℕ) (r : List ℕ) (s : State) → P s → P (take_column o col r s)
  unfolding take_column
  column_closed col r s p = need_ind P (slice_get r col) s _ (c.stops stuck s (λ t. t) p) (λ w e. c.gives w _ (c.takes r s p))

  pub default_closed : (e : QueryEntry) (s : State) → P s → P (take_default o e s)
  unfolding take_default
  default_closed e s p = need_ind P (value_of s.bindings o.lane e) s _ (c.stops stuck s (λ t. t) p) (λ w _. c.gives w _ (c.notes (w ∷ []) s p))

  pub pair_closed : (l r : QueryEntry) (k : ℕ → ℕ → State → State) → ((a b : ℕ) (s : State) → P s → P (k a b s)) → (s : State) → P s → P (read_pair o l r k s)
  unfolding read_pair
  pair_closed l r k h s p =
      need_ind P (value_of s.bindings o.lane l) s _ (c.stops stuck s (λ t. t) p) (λ a _.
      need_ind P (value_of s.bindings o.lane r) s _ (c.stops stuck s (λ t. t) p) (λ b _. h a b _ (c.notes (a ∷ b ∷ []) s p)))

  pub any_closed : (d : ℕ) (ops : List QueryEntry) (s : State) → P s → P (assert_any_ne o d ops s)
  unfolding assert_any_ne
  any_closed d ops s p =
      need_ind P (only (leb d (length ops)) (values_of s.bindings o.lane ops)) s _ (c.stops stuck s (λ t. t) p) (λ ws _.
      when_ind P (not (any_ne (take d ws) (drop d ws))) (lose o.lane) (note (reads o ws) s) (λ _. c.loses _ (c.notes ws s p)) (c.notes ws s p))

  module _ (E : Env) where
    pub look_closed : (t : ℕ) (args : List QueryEntry) (col : ℕ) (miss : State → State) → ((s : State) → P s → P (miss s)) → (s : State) → P s → P (lookup E o t args col miss s)
    unfolding lookup
    look_closed t args col miss h s p =
        need_ind P (list_of s.bindings o.lane (table_of E t).keys args) s _ (c.stops stuck s (λ t'. t') p) (λ key _.
        found_ind P (find (table_of E t).keys (table_of E t).rows key) _ _ (λ r _. column_closed col r _ (c.notes key s p)) (λ _. h _ (c.notes key s p)))

    pub call_closed : (n : ℕ) (held : Bindings → Bindings) (f : ℕ) (args : List QueryEntry) (miss : State → State) → ((s : State) → P s → P (miss s)) → (s : State) → P s → P (invoke E o n held f args miss s)
    unfolding invoke
    call_closed n held f args miss h s p =
        need_ind P (list_of (held s.bindings) o.lane (E.arity f) args) s _ (c.stops stuck s (λ t. t) p) (λ ws _.
        found_ind P (E.answer o n f ws) _ _ (λ w _. c.gives w _ (c.notes ws s p)) (λ _. h _ (c.notes ws s p)))

    pub list_closed : (kind t n : ℕ) (vals : List QueryEntry) (s : State) → P s → P (stage_list E o kind t n vals s)
    unfolding stage_list
    list_closed kind t n vals s p =
        need_ind P (list_of s.bindings o.lane n vals) s _ (c.stops stuck s (λ t'. t') p) (λ ws _.
        let p' : P (change (note (reads o ws) s)) = c.marks _ (c.notes ws s p) in
        room_ind P (E.room (log_words (s.log ++ (record { site = o; kind = kind; table = t; words = ws } ∷ [])))) _ _ _ (c.stages _ _ refl (0, refl) p') (c.stops full _ (λ t'. t') p'))

    pub new_closed : (t : ℕ) (B : Built) (k : List ℕ → State → State) → ((r : List ℕ) (s : State) → P s → P (k r s)) → (s : State) → P s → P (stage_new E o t B s k)
    new_closed t is_stuck k h s p = c.stops stuck s (λ t'. t') p
    new_closed t is_spent k h s p = c.stops spent s (λ t'. t') p
    new_closed t (built r cs) k h s p =
        let p' : P (note (reads o r) (with_counters cs s)) = c.notes r _ (c.draws cs s p) in
        room_ind P (E.room (log_words (s.log ++ (record { site = o; kind = 2; table = t; words = r } ∷ [])))) _ _ _ (h r _ (c.stages _ _ refl (0, refl) p')) (c.stops full _ (λ t'. t') p')

    pub row_closed : (b : Bindings) (t : ℕ) (key : List ℕ) (vs : List WriteVal) (k : Bool → List ℕ → State → State) → ((new : Bool) (r : List ℕ) (s : State) → P s → P (k new r s)) → (s : State) → P s → P (predict_row E o b t key vs s k)
    unfolding predict_row
    row_closed b t key vs k h s p =
        found_ind P (first (predicted_rows (table_of E t).keys t key s.log)) _ _ (λ r _. h false r s p) (λ _.
        need_ind P (row_start E t key vs s.counters) s _ (c.stops stuck s (λ t'. t') p) (λ B _. new_closed t (build b o.lane vs B) (k true) (h true) s p))

    pub serve_closed : (dst t : ℕ) (args : List QueryEntry) (vs : List WriteVal) (col : ℕ) (s : State) → ((key : List ℕ) → list_of (hold dst s.bindings) o.lane (table_of E t).keys args ≡ Some key → A t key) → P s → P (serve_missed E o dst t args vs col s)
    unfolding serve_missed
    serve_closed dst t args vs col s a p =
        need_ind P (list_of (hold dst s.bindings) o.lane (table_of E t).keys args) s _ (c.stops stuck s (λ t'. t') p) (λ key e.
        row_closed (hold dst s.bindings) t key vs _ (λ new r s' p'. column_closed col r _ (c.asked t key r s' (a key e) p')) _ (c.notes key s p))

-- what is noted stays so
pub in_closed : (o : Site) (A : ℕ → List ℕ → Type 0) (e : Event) → Closed o A (λ s. In e s.trace)
in_closed o A e = record {
  stops = λ st s n m. m;
  notes = λ ws s m. in_there (reads o ws) s.trace m;
  takes = λ ws s m. in_there (took o ws) s.trace m;
  asked = λ t key ws s a m. in_there (asks o t key ws) s.trace m;
  gives = λ w s m. m;
  loses = λ s m. m;
  draws = λ cs s m. m;
  marks = λ s m. m;
  stages = λ r s e' n m. m;
}

-- ## A turn

-- an event of lane o, where the table and key that it asks for have A
abbrev pub Own : Site → (ℕ → List ℕ → Type 0) → Event → Type 0
Own o A (mask k l) = ⊥
Own o A (reads p ws) = p ≡ o
Own o A (took p ws) = p ≡ o
Own o A (asks p t key ws) = (p ≡ o) × A t key

abbrev pub Turn : Site → (ℕ → List ℕ → Type 0) → State → State → Type 0
Turn o A = Moves (λ x. x ≡ o.lane) (Own o A) (λ r. r.site ≡ o)

pub turn_closed : (o : Site) (A : ℕ → List ℕ → Type 0) (s₀ : State) → Closed o A (Turn o A s₀)
turn_closed o A s₀ = record {
  stops = λ st s n m. moves_stop _ _ _ s₀ s m st n;
  notes = λ ws s m. moves_note _ _ _ s₀ s m (reads o ws) refl;
  takes = λ ws s m. moves_note _ _ _ s₀ s m (took o ws) refl;
  asked = λ t key ws s a m. moves_note _ _ _ s₀ s m (asks o t key ws) (refl, a);
  gives = λ w s m. moves_give _ _ _ s₀ s m o.lane w refl;
  loses = λ s m. moves_lose _ _ _ s₀ s m o.lane refl;
  draws = λ cs s m. moves_counters _ _ _ s₀ s m cs;
  marks = λ s m. moves_change _ _ _ s₀ s m;
  stages = λ r s e n m. moves_logged _ _ _ s₀ s m r e n;
}

-- a turn that asks for no predicted row
abbrev pub Quiet : ℕ → List ℕ → Type 0
Quiet t key = ⊥

pub turn_refl : (o : Site) (A : ℕ → List ℕ → Type 0) (s : State) → Turn o A s s
turn_refl o A s = moves_refl _ _ _ s

pub own_map : (o : Site) (A A' : ℕ → List ℕ → Type 0) → ((t : ℕ) (key : List ℕ) → A t key → A' t key) → (e : Event) → Own o A e → Own o A' e
own_map o A A' f (mask k l) h = h
own_map o A A' f (reads p ws) h = h
own_map o A A' f (took p ws) h = h
own_map o A A' f (asks p t key ws) h = (h.0, f t key h.1)
