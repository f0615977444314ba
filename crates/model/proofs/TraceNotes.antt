-- What a lane's turn notes if the machine is not stuck after it: the words of the entries that it reads.
use Prim.Native.Nat.{ℕ}
use mathlib.Core.Path.{◌≡◌, refl, sym, ◌∙◌, subst}
use mathlib.Core.Logic.{inl, inr}
use mathlib.Core.Bool.{Bool, not}
use Rattle.std.specs.Prelude.{Some}
use mathlib.Core.List.{List, [], ◌∷◌}
use lib.Dec.{eqb, eqb_refl}
use lib.ListN.{take, drop}
use Rattle.model.specs.Basics.{when}
use Rattle.model.specs.Book.Syntax.{QueryEntry, Instr, LookupOrInsertDefault, LookupWithDefault, Lookup, LookupWithFallback, Insert, InsertIfEq, Remove, External, ExternalWithFallback, AssertEq, AssertNe, AssertAnyNe, ReadCounter, width}
use Rattle.model.specs.Machine.State.{State, Site, Record, Event, reads, Bindings, Env, note, lose}
use Rattle.model.specs.Machine.Values.{value_of, values_of, find}
use Rattle.model.specs.Machine.Steps.{here, table_of, wait, plain, lookup, invoke, take_default, stage_list, read_pair, any_ne, assert_any_ne}
use Rattle.model.specs.Claims.Trace.{In, Noted, Misses, read_first}
use Rattle.model.specs.Laws.Logic.{none_some, some_inj, either, when_ind}
use Rattle.model.proofs.Grown.{in_none, Unstuck}
use Rattle.model.proofs.Entries.{values_word, list_values}
use Rattle.model.proofs.TraceTurns.{Moves, moves_in, Quiet, in_closed, default_closed, list_closed}
use Rattle.model.proofs.TracePasses.{when_yes}
use Rattle.model.proofs.TraceBodies.{first_turn}
use Rattle.model.proofs.Went.{default_went, pair_went, any_went, look_went, call_went, list_went}

-- the entry has a word in lane o, and it is noted
abbrev pub EntryNoted : List Event → Site → Bindings → QueryEntry → Type 0
EntryNoted tr o b e = (w : ℕ) × (value_of b o.lane e ≡ Some w) × Noted tr o w

pub noted_more : (tr tr' : List Event) → ((x : Event) → In x tr → In x tr') → (o : Site) (b : Bindings) (e : QueryEntry) → EntryNoted tr o b e → EntryNoted tr' o b e
noted_more tr tr' f o b e p = (p.0, p.1, (p.2.0, either (λ h. inl (f _ h)) (λ h. inr (f _ h)) p.2.1, p.2.2))

pub noted_later : {L : ℕ → Type 0} {Q : Event → Type 0} {R : Record → Type 0} {s s' : State} → Moves L Q R s s' → (o : Site) (b : Bindings) (e : QueryEntry) → EntryNoted s.trace o b e → EntryNoted s'.trace o b e
noted_later {L} {Q} {R} {s} {s'} m o b e p = noted_more s.trace s'.trace (λ x h. moves_in m h) o b e p

-- what a list of entries stands for is noted
pub record ListNoted (o : Site) (b : Bindings) (es : List QueryEntry) (s : State) : Type 0 where
  pub words : List ℕ
  pub read : values_of b o.lane es ≡ Some words
  pub noted : In (reads o words) s.trace

pub list_entry : {o : Site} {b : Bindings} {es : List QueryEntry} {s : State} → ListNoted o b es s → (e : QueryEntry) → In e es → EntryNoted s.trace o b e
list_entry {o} {b} {es} {s} p e h = let q = values_word b o.lane es p.read h in (q.0, q.1, (p.words, inl p.noted, q.2))

-- ## Lane functions

-- a continuation that takes no event back
abbrev Keeps : (State → State) → Type 0
Keeps f = (e : Event) (s : State) → In e s.trace → In e (f s).trace

module _ (o : Site) (s : State) where
  pair_notes : (l r : QueryEntry) (k : ℕ → ℕ → State → State) → ((a b : ℕ) → Keeps (k a b)) → Unstuck (read_pair o l r k s) → ListNoted o s.bindings (l ∷ r ∷ []) (read_pair o l r k s)
  pair_notes l r k h g =
      let p = pair_went o s l r k g in
      record { words = p.0 ∷ p.1 ∷ []; read = rw (p.2, p.3) refl; noted = subst (λ z. In (reads o (p.0 ∷ p.1 ∷ [])) z.trace) (sym p.4) (h p.0 p.1 _ (note (reads o (p.0 ∷ p.1 ∷ [])) s) (0, refl)) }

  any_notes : (d : ℕ) (ops : List QueryEntry) → Unstuck (assert_any_ne o d ops s) → ListNoted o s.bindings ops (assert_any_ne o d ops s)
  any_notes d ops g =
      let p = any_went o s d ops g in
      record { words = p.0; read = p.1; noted = subst (λ z. In (reads o p.0) z.trace) (sym p.2) (when_ind (λ z. In (reads o p.0) z.trace) (not (any_ne (take d p.0) (drop d p.0))) (lose o.lane) (note (reads o p.0) s) (λ _. (0, refl)) (0, refl)) }

  module _ (E : Env) where
    look_notes : (t : ℕ) (args : List QueryEntry) (col : ℕ) (miss : State → State) → Keeps miss → Unstuck (lookup E o t args col miss s) → ListNoted o s.bindings args (lookup E o t args col miss s)
    look_notes t args col miss h g =
        let p = look_went o E s t args col miss g in
        record {
          words = p.0;
          read = list_values s.bindings o.lane (table_of E t).keys args p.1;
          noted = either (λ q. subst (λ z. In (reads o p.0) z.trace) (sym q.4) (1, refl)) (λ q. subst (λ z. In (reads o p.0) z.trace) (sym q.1) (h _ (note (reads o p.0) s) (0, refl))) p.2;
        }

    pub call_notes : (c : ℕ) (held : Bindings → Bindings) (f : ℕ) (args : List QueryEntry) (miss : State → State) → Keeps miss → Unstuck (invoke E o c held f args miss s) → ListNoted o (held s.bindings) args (invoke E o c held f args miss s)
    call_notes c held f args miss h g =
        let p = call_went o E s c held f args miss g in
        record {
          words = p.0;
          read = list_values (held s.bindings) o.lane (E.arity f) args p.1;
          noted = either (λ q. subst (λ z. In (reads o p.0) z.trace) (sym q.2) (0, refl)) (λ q. subst (λ z. In (reads o p.0) z.trace) (sym q.1) (h _ (note (reads o p.0) s) (0, refl))) p.2;
        }

    list_notes : (kind t n : ℕ) (vals : List QueryEntry) → Unstuck (stage_list E o kind t n vals s) → ListNoted o s.bindings vals (stage_list E o kind t n vals s)
    list_notes kind t n vals g =
        let p = list_went o E s kind t n vals g in
        record { words = p.0; read = list_values s.bindings o.lane n vals p.1; noted = either (λ q. subst (λ z. In (reads o p.0) z.trace) (sym q) (0, refl)) (λ q. subst (λ z. In (reads o p.0) z.trace) (sym q) (0, refl)) p.2 }

-- ## Each instruction's first pass

module _ (E : Env) (k j : ℕ) (i : ℕ) (s : State) where
  abbrev o : Site
  o = here k j i

  staging : (b : Bool) (t : ℕ) (vals : List QueryEntry) → Keeps (when b (stage_list E o 0 t (width (table_of E t)) vals))
  staging b t vals e z h = when_ind (λ x. In e x.trace) b _ z (λ _. list_closed o Quiet _ (in_closed o Quiet e) E 0 t (width (table_of E t)) vals z h) h

  losing : (b : Bool) → Keeps (when b (lose i))
  losing b e z h = when_ind (λ x. In e x.trace) b (lose i) z (λ _. h) h

  -- all entries of `read_first`
  pub first_notes : (ins : Instr) → Unstuck (first_turn E k j ins i s) → (e : QueryEntry) → In e (read_first ins) → EntryNoted (first_turn E k j ins i s).trace o s.bindings e
  unfolding read_first
  first_notes (LookupOrInsertDefault t args vs col dst) g = list_entry (look_notes o s E t args col wait (λ e z h. h) g)
  first_notes (LookupWithDefault t args col dst x) g = list_entry (look_notes o s E t args col _ (λ e z h. default_closed o Quiet _ (in_closed o Quiet e) x z h) g)
  first_notes (Lookup t args col dst) g = list_entry (look_notes o s E t args col (lose i) (λ e z h. h) g)
  first_notes (LookupWithFallback t key f args col dst) g = list_entry (look_notes o s E t key col wait (λ e z h. h) g)
  first_notes (Insert t vals) g = list_entry (list_notes o s E 0 t (width (table_of E t)) vals g)
  first_notes (InsertIfEq t l r vals) g = list_entry (pair_notes o s l r _ (λ a b. staging (eqb a b) t vals) g)
  first_notes (Remove t args) g = list_entry (list_notes o s E 1 t (table_of E t).keys args g)
  first_notes (External f args dst) g = list_entry (call_notes o s E 0 plain f args (lose i) (λ e z h. h) g)
  first_notes (ExternalWithFallback f1 args1 f2 args2 dst) g = list_entry (call_notes o s E 0 plain f1 args1 wait (λ e z h. h) g)
  first_notes (AssertEq l r) g = list_entry (pair_notes o s l r _ (λ a b. losing (not (eqb a b))) g)
  first_notes (AssertNe l r) g = list_entry (pair_notes o s l r _ (λ a b. losing (eqb a b)) g)
  first_notes (AssertAnyNe d ops) g = list_entry (any_notes o s d ops g)
  first_notes (ReadCounter c dst) g = λ e h. absurd (in_none h)

  -- a default
  pub default_notes : (t : ℕ) (args : List QueryEntry) (col : ℕ) (x : QueryEntry) (key : List ℕ) → Misses E s i t args key → Unstuck (lookup E o t args col (take_default o x) s) → EntryNoted (lookup E o t args col (take_default o x) s).trace o s.bindings x
  default_notes t args col x key m g =
      let p = look_went o E s t args col (take_default o x) g in
      let same : p.0 ≡ key = some_inj (sym (list_values s.bindings i (table_of E t).keys args p.1) ∙ m.0) in
      either
      (λ q. absurd (none_some (sym m.1 ∙ subst (λ y. find (table_of E t).keys (table_of E t).rows y ≡ Some q.0) same q.2)))
      (λ q. let d = default_went o (note (reads o p.0) s) x (subst Unstuck q.1 g) in
      (d.0, d.1, (d.0 ∷ [], inl (subst (λ z. In (reads o (d.0 ∷ [])) z.trace) (sym (q.1 ∙ d.2)) (0, refl)), (0, refl))))
      p.2

  -- the row of 6
  pub equal_notes : (t : ℕ) (l r : QueryEntry) (vals : List QueryEntry) (a : ℕ) → value_of s.bindings i l ≡ Some a → value_of s.bindings i r ≡ Some a → Unstuck (first_turn E k j (InsertIfEq t l r vals) i s)
      → ListNoted o s.bindings vals (first_turn E k j (InsertIfEq t l r vals) i s)
  equal_notes t l r vals a p q g =
      let w = pair_went o s l r (λ a b. when (eqb a b) (stage_list E o 0 t (width (table_of E t)) vals)) g in
      let s' : State = note (reads o (w.0 ∷ w.1 ∷ [])) s in
      let same : w.1 ≡ w.0 = some_inj (sym w.3 ∙ q ∙ sym p ∙ w.2) in
      let e : first_turn E k j (InsertIfEq t l r vals) i s ≡ stage_list E o 0 t (width (table_of E t)) vals s' = w.4 ∙ when_yes (eqb w.0 w.1) _ s' (rw same (eqb_refl w.0)) in
      let n = list_notes o s' E 0 t (width (table_of E t)) vals (subst Unstuck e g) in
      record { words = n.words; read = n.read; noted = subst (λ z. In (reads o n.words) z.trace) (sym e) n.noted }
