-- How a lane's turn ends where the machine is not stuck: the run goes on, or the log is full.
use Prim.Native.Nat.{ℕ}
use native.Mathlib.Omega.{arith}
use mathlib.Core.Path.{◌≡◌, sym, ap, ◌∙◌, subst}
use mathlib.Core.Logic.{◌⊎◌, inl, inr}
use mathlib.Core.Bool.{Bool, not}
use Rattle.std.specs.Prelude.{Some}
use mathlib.Core.List.{List, ◌∷◌}
use lib.Dec.{T, eqb}
use lib.ListN.{length, take, drop}
use Rattle.model.specs.Basics.{when}
use Rattle.model.specs.Book.Syntax.{QueryEntry, WriteVal, Instr, LookupOrInsertDefault, LookupWithDefault, Lookup, LookupWithFallback, Insert, InsertIfEq, Remove, External, ExternalWithFallback, AssertEq, AssertNe, AssertAnyNe, ReadCounter, width}
use Rattle.model.specs.Machine.State.{State, Site, Event, reads, Status, full, is_going, Bindings, Env, note, lose}
use Rattle.model.specs.Machine.Values.{hold, list_of}
use Rattle.model.specs.Machine.Steps.{here, table_of, is_live, lanes, missed, wait, plain, lookup, invoke, take_column, take_default, serve_missed, stage_list, read_pair, any_ne, assert_any_ne}
use Rattle.model.specs.Check.{entries_of}
use Rattle.model.specs.Claims.Trace.{In}
use Rattle.model.specs.Laws.Logic.{and_T, either, when_ind}
use Rattle.model.proofs.Room.{stuck≢full, full≢spent}
use Rattle.model.proofs.Grown.{Going, Unstuck}
use Rattle.model.proofs.Entries.{Word, hold_value, build_word}
use Rattle.model.proofs.TracePasses.{turns, turns_end, pass, is_missed}
use Rattle.model.proofs.TraceBodies.{first_turn, Served, serve_turn}
use Rattle.model.proofs.Went.{RowCut, column_went, serve_went, default_went, pair_went, any_went, look_went, call_went, list_went}

abbrev pub OnOrFull : Status → Type 0
OnOrFull st = T (is_going st) ⊎ (st ≡ full)

-- ## Lane functions, from a state that goes on

module _ (o : Site) (s : State) (g : Going s) where
  column_on : (col : ℕ) (r : List ℕ) → Unstuck (take_column o col r s) → Going (take_column o col r s)
  column_on col r u = subst Going (sym (column_went o col r s u).2) g

  pub default_on : (e : QueryEntry) → Unstuck (take_default o e s) → Going (take_default o e s)
  default_on e u = subst Going (sym (default_went o s e u).2) g

  pair_on : (Z : Status → Type 0) (l r : QueryEntry) (k : ℕ → ℕ → State → State) → ((a b : ℕ) (s : State) → Going s → Unstuck (k a b s) → Z (k a b s).status) → Unstuck (read_pair o l r k s) → Z (read_pair o l r k s).status
  pair_on Z l r k h u = let p = pair_went o s l r k u in subst (λ z. Z z.status) (sym p.4) (h p.0 p.1 _ g (subst Unstuck p.4 u))

  any_on : (d : ℕ) (ops : List QueryEntry) → Unstuck (assert_any_ne o d ops s) → Going (assert_any_ne o d ops s)
  any_on d ops u = let p = any_went o s d ops u in subst Going (sym p.2) (when_ind Going (not (any_ne (take d p.0) (drop d p.0))) (lose o.lane) (note (reads o p.0) s) (λ _. g) g)

  module _ (E : Env) where
    look_on : (t : ℕ) (args : List QueryEntry) (col : ℕ) (miss : State → State) → ((s : State) → Going s → Unstuck (miss s) → Going (miss s)) → Unstuck (lookup E o t args col miss s) → Going (lookup E o t args col miss s)
    look_on t args col miss h u = let p = look_went o E s t args col miss u in either (λ q. subst Going (sym q.4) g) (λ q. subst Going (sym q.1) (h _ g (subst Unstuck q.1 u))) p.2

    call_on : (c : ℕ) (held : Bindings → Bindings) (f : ℕ) (args : List QueryEntry) (miss : State → State) → ((s : State) → Going s → Unstuck (miss s) → Going (miss s)) → Unstuck (invoke E o c held f args miss s) → Going (invoke E o c held f args miss s)
    call_on c held f args miss h u = let p = call_went o E s c held f args miss u in either (λ q. subst Going (sym q.2) g) (λ q. subst Going (sym q.1) (h _ g (subst Unstuck q.1 u))) p.2

    list_on : (kind t n : ℕ) (vals : List QueryEntry) → Unstuck (stage_list E o kind t n vals s) → OnOrFull (stage_list E o kind t n vals s).status
    list_on kind t n vals u = either (λ q. inl (subst Going (sym q) g)) (λ q. inr (ap (λ z. z.status) q)) (list_went o E s kind t n vals u).2

-- ## Passes

pub missed_goes : (s : State) (i : ℕ) → T (is_missed s i) → Going s
missed_goes s i t = (and_T (is_going s.status) _ (and_T (is_live s i) _ t).0).0

lose_on : (b : Bool) (i : ℕ) (s : State) → Going s → Going (when b (lose i) s)
lose_on b i s g = when_ind Going b (lose i) s (λ _. g) g

module _ (E : Env) (k j : ℕ) where
  first_on : (ins : Instr) (i : ℕ) (s : State) → Going s → Unstuck (first_turn E k j ins i s) → OnOrFull (first_turn E k j ins i s).status
  first_on (LookupOrInsertDefault t args vs col dst) i s g u = inl (look_on (here k j i) s g E t args col wait (λ z g _. g) u)
  first_on (LookupWithDefault t args col dst x) i s g u = inl (look_on (here k j i) s g E t args col (take_default (here k j i) x) (λ z g. default_on (here k j i) z g x) u)
  first_on (Lookup t args col dst) i s g u = inl (look_on (here k j i) s g E t args col (lose i) (λ z g _. g) u)
  first_on (LookupWithFallback t key f args col dst) i s g u = inl (look_on (here k j i) s g E t key col wait (λ z g _. g) u)
  first_on (Insert t vals) i s g u = list_on (here k j i) s g E 0 t (width (table_of E t)) vals u
  first_on (InsertIfEq t l r vals) i s g u =
      pair_on (here k j i) s g OnOrFull l r _ (λ a b z g. when_ind (λ y. Unstuck y → OnOrFull y.status) (eqb a b) _ z (λ _. list_on (here k j i) z g E 0 t (width (table_of E t)) vals) (λ _. inl g)) u
  first_on (Remove t args) i s g u = list_on (here k j i) s g E 1 t (table_of E t).keys args u
  first_on (External f args dst) i s g u = inl (call_on (here k j i) s g E 0 plain f args (lose i) (λ z g _. g) u)
  first_on (ExternalWithFallback f1 args1 f2 args2 dst) i s g u = inl (call_on (here k j i) s g E 0 plain f1 args1 wait (λ z g _. g) u)
  first_on (AssertEq l r) i s g u = inl (pair_on (here k j i) s g (λ st. T (is_going st)) l r _ (λ a b z g _. lose_on (not (eqb a b)) i z g) u)
  first_on (AssertNe l r) i s g u = inl (pair_on (here k j i) s g (λ st. T (is_going st)) l r _ (λ a b z g _. lose_on (eqb a b) i z g) u)
  first_on (AssertAnyNe d ops) i s g u = inl (any_on (here k j i) s g d ops u)
  first_on (ReadCounter c dst) i s g u = inl g

  lanes_end : (P : State → Type 0) (f : ℕ → State → State) → ((x : ℕ) (s : State) → Going s → Unstuck (f x s) → P (f x s)) → (s : State) → P s → Unstuck (lanes f s) → P (lanes f s)
  unfolding lanes
  lanes_end P f h s p u = turns_end P is_live f s (λ x t. h x _ (and_T (is_going (turns is_live f s x).status) _ t).0) p (length s.live) u

  -- the first pass
  pub first_ends : (ins : Instr) (s : State) → Going s → Unstuck (lanes (first_turn E k j ins) s) → OnOrFull (lanes (first_turn E k j ins) s).status
  first_ends ins s g u = lanes_end (λ z. OnOrFull z.status) (first_turn E k j ins) (first_on ins) s (inl g) u

  -- a pass of lookups, or of calls after which missed lanes are served
  pub looks_go : (t : ℕ) (args : List QueryEntry) (col : ℕ) (miss : ℕ → State → State) → ((i : ℕ) (s : State) → Going s → Unstuck (miss i s) → Going (miss i s)) → (s : State) → Going s
      → let f : ℕ → State → State = λ i. lookup E (here k j i) t args col (miss i) in Unstuck (lanes f s) → Going (lanes f s)
  looks_go t args col miss h s g u = lanes_end Going _ (λ i z g. look_on (here k j i) z g E t args col (miss i) (h i)) s g u

  pub calls_go : (f : ℕ) (args : List QueryEntry) (s : State) → Going s → let f' : ℕ → State → State = λ i. invoke E (here k j i) 0 plain f args wait in Unstuck (lanes f' s) → Going (lanes f' s)
  calls_go f args s g u = lanes_end Going _ (λ i z g. call_on (here k j i) z g E 0 plain f args wait (λ z g _. g)) s g u

  -- the pass over missed lanes that calls a function
  pub missed_go : (c dst f : ℕ) (args : List QueryEntry) (s : State) → Going s → let f' : ℕ → State → State = λ i. invoke E (here k j i) c (hold dst) f args (lose i) in Unstuck (missed f' s) → Going (missed f' s)
  unfolding missed
  missed_go c dst f args s g u =
      let f' : ℕ → State → State = λ i. invoke E (here k j i) c (hold dst) f args (lose i) in
      turns_end Going is_missed f' s
      (λ i t. call_on (here k j i) (turns is_missed f' s i) (missed_goes (turns is_missed f' s i) i t) E c (hold dst) f args (lose i) (λ z g _. g)) g (length s.live) u

  -- ## A row that the log has no room for

  -- the last event of z: lane x has read the row, and the entries' words are in it
  abbrev pub NoRoom : Bindings → List WriteVal → State → Type 0
  NoRoom b vs z = (x : ℕ) × (r : List ℕ) × (rest : List Event) × (z.trace ≡ reads (here k j x) r ∷ rest) × ((e : QueryEntry) → In e (entries_of vs) → Word b x r e)

  module _ (dst t : ℕ) (args : List QueryEntry) (vs : List WriteVal) (col : ℕ) where
    -- where the run stops in a lane's turn, its counter is spent, or the row that it built has no room
    pub serve_stops : (x : ℕ) (s : State) → let z : State = serve_missed E (here k j x) dst t args vs col s in Going s → Unstuck z → (Going z → ⊥)
        → (key : List ℕ) × (list_of (hold dst s.bindings) x (table_of E t).keys args ≡ Some key) × RowCut (here k j x) E (note (reads (here k j x) key) s) (hold dst s.bindings) t key vs z
    serve_stops x s g u n =
        let z : State = serve_missed E (here k j x) dst t args vs col s in
        let p = serve_went (here k j x) E s dst t args vs col u in
        let goes : (r : List ℕ) (s' : State) → Going s' → z ≡ take_column (here k j x) col r s' → ⊥ = λ r s' g' e. n (subst Going (sym e) (column_on (here k j x) s' g' col r (subst Unstuck e u))) in
        (p.0, p.1, either (λ q. absurd (either (λ y. goes q.0 _ g y.1) (λ y. goes q.0 _ g y.3) q.1)) (λ q. q) p.2)

    serve_full : (x : ℕ) (s : State) → Going s → (serve_missed E (here k j x) dst t args vs col s).status ≡ full → NoRoom s.bindings vs (serve_missed E (here k j x) dst t args vs col s)
    serve_full x s g f =
        let p = serve_stops x s g (λ e. stuck≢full (sym e ∙ f)) (λ r. subst (λ o. T (is_going o)) f r) in
        either
        (λ e. absurd (full≢spent (sym f ∙ ap (λ y. y.status) e.1)))
        (λ q. (x, q.0, _, ap (λ y. y.trace) q.3, λ e h. let w = (build_word (hold dst s.bindings) x vs p.0 s.counters q.2).1 e h in (w.0, hold_value dst s.bindings x e w.1, w.2)))
        p.2.1

    pub served_full : (s : State) → Going s → let f : ℕ → State → State = λ i. serve_missed E (here k j i) dst t args vs col in (missed f s).status ≡ full → NoRoom s.bindings vs (missed f s)
    unfolding missed
    served_full s g e =
        let f : ℕ → State → State = λ i. serve_missed E (here k j i) dst t args vs col in
        turns_end (λ z. z.status ≡ full → NoRoom s.bindings vs z) is_missed f s
        (λ x y _ q. let z : State = turns is_missed f s x in
        subst (λ b. NoRoom b vs (f x z)) (pass k j is_missed f (Served E k j dst t args) (serve_turn E k j dst t args vs col) s 0 x (omega arith)).bindings (serve_full x z (missed_goes z x y) q))
        (λ q. absurd (subst (λ o. T (is_going o)) q g)) (length s.live) (λ q. stuck≢full (sym q ∙ e)) e
