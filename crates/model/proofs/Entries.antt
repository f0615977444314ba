-- What entries stand for in a lane: each one's word is in the list that is read, and in the row that is built from them.
use Prim.Native.Nat.{ℕ}
use mathlib.Core.Path.{◌≡◌, refl, sym, ap, subst}
use mathlib.Core.Bool.{Bool, true, false, not}
use Rattle.std.specs.Prelude.{Option, None, Some, slice_get}
use mathlib.Core.List.{List, [], ◌∷◌, ◌++◌}
use native.Mathlib.Omega.{arith}
use lib.Dec.{eqb}
use lib.ListN.{length, get_or, set}
use Rattle.model.specs.Basics.{only}
use Rattle.model.specs.Book.Syntax.{Counter, no_counter, QueryEntry, Var, Const, WriteVal, Entry, IncCounter, CurrentVal}
use Rattle.model.specs.Machine.State.{Bindings}
use Rattle.model.specs.Machine.Values.{hold, lane_of, value_of, cons?, values_of, list_of, is_stuck, is_spent, built, push, draw, hand_out, build}
use Rattle.model.specs.Check.{entries_of}
use Rattle.model.specs.Claims.Trace.{In}
use Rattle.model.specs.Laws.Logic.{some_inj, none_some, only_some, either}
use Rattle.model.proofs.Grown.{in_here, in_there, in_cons, in_left, in_right, in_none}

-- ## Lists of entries

pub cons_some : (x : Option ℕ) (y : Option (List ℕ)) {ws : List ℕ} → cons? x y ≡ Some ws → (w : ℕ) × (rest : List ℕ) × (x ≡ Some w) × (y ≡ Some rest) × (ws ≡ w ∷ rest)
cons_some None y e = absurd (none_some e)
cons_some (Some w) None e = absurd (none_some e)
cons_some (Some w) (Some rest) e = (w, rest, refl, refl, sym (some_inj e))

-- the word of an entry, somewhere among others
abbrev pub Word : Bindings → ℕ → List ℕ → QueryEntry → Type 0
Word b i ws e = (w : ℕ) × (value_of b i e ≡ Some w) × In w ws

pub values_word : (b : Bindings) (i : ℕ) (es : List QueryEntry) {ws : List ℕ} → values_of b i es ≡ Some ws → {e : QueryEntry} → In e es → Word b i ws e
values_word b i [] q h = absurd (in_none h)
values_word b i (x ∷ es) {ws} q {e} h =
    let p = cons_some (value_of b i x) (values_of b i es) q in
    subst (λ l. Word b i l e) (sym p.4)
    (either (λ y. (p.0, subst (λ z. value_of b i z ≡ Some p.0) y p.2, in_here p.0 p.1))
    (λ t. let r = values_word b i es p.3 t in (r.0, r.1, in_there p.0 p.1 r.2)) (in_cons x es h))

-- ## With dst held out

module _ (dst : ℕ) (b : Bindings) (i : ℕ) where
  pub hold_value : (e : QueryEntry) {w : ℕ} → value_of (hold dst b) i e ≡ Some w → value_of b i e ≡ Some w
  hold_value (Var v) {w} q = go (not (eqb v dst)) q
    where
      go : (t : Bool) → lane_of i (only t (b v)) ≡ Some w → lane_of i (b v) ≡ Some w
      go true p = p
      go false p = absurd (none_some p)
  hold_value (Const c) q = q

  pub hold_values : (es : List QueryEntry) {ws : List ℕ} → values_of (hold dst b) i es ≡ Some ws → values_of b i es ≡ Some ws
  hold_values [] q = q
  hold_values (e ∷ es) q =
      let p = cons_some (value_of (hold dst b) i e) (values_of (hold dst b) i es) q in
      rw (hold_value e p.2, hold_values es p.3) (ap Some (sym p.4))

pub list_values : (b : Bindings) (i n : ℕ) (es : List QueryEntry) {ws : List ℕ} → list_of b i n es ≡ Some ws → values_of b i es ≡ Some ws
list_values b i n es q = (only_some (eqb (length es) n) (values_of b i es) q).1

-- ## A row that is built

-- it has the words that it begins with, and the word of each entry
abbrev pub BuiltFrom : Bindings → ℕ → List ℕ → List WriteVal → List ℕ → Type 0
BuiltFrom b i row vs r = ((w : ℕ) → In w row → In w r) × ((e : QueryEntry) → In e (entries_of vs) → Word b i r e)

module _ (b : Bindings) (i : ℕ) where
  stuck_stays : (vs : List WriteVal) → build b i vs is_stuck ≡ is_stuck
  stuck_stays [] = refl
  stuck_stays (v ∷ vs) = stuck_stays vs

  spent_stays : (vs : List WriteVal) → build b i vs is_spent ≡ is_spent
  spent_stays [] = refl
  spent_stays (v ∷ vs) = spent_stays vs

  -- one more word, if the row is built
  pushed : (vs : List WriteVal) (row : List ℕ) (cs : List Counter) (o : Option ℕ) {r : List ℕ} {cs' : List Counter} → build b i vs (push row cs o) ≡ built r cs'
      → (w : ℕ) × (o ≡ Some w) × (build b i vs (built (row ++ (w ∷ [])) cs) ≡ built r cs')
  pushed vs row cs None {r} {cs'} q = let s = stuck_stays vs in let z : ◌≡◌ {A = ℕ} 0 1 = cc in absurd (omega arith)
  pushed vs row cs (Some w) q = (w, refl, q)

  handed : (vs : List WriteVal) (row : List ℕ) (cs : List Counter) (c : ℕ) (o : Option (ℕ × Counter)) {r : List ℕ} {cs' : List Counter} → build b i vs (hand_out row cs c o) ≡ built r cs'
      → (w : ℕ) × (cs'' : List Counter) × (build b i vs (built (row ++ (w ∷ [])) cs'') ≡ built r cs')
  handed vs row cs c None {r} {cs'} q = let s = spent_stays vs in let z : ◌≡◌ {A = ℕ} 0 1 = cc in absurd (omega arith)
  handed vs row cs c (Some p) q = (p.0, set cs c p.1, q)

  pub build_word : (vs : List WriteVal) (row : List ℕ) (cs : List Counter) {r : List ℕ} {cs' : List Counter} → build b i vs (built row cs) ≡ built r cs' → BuiltFrom b i row vs r
  build_word [] row cs {r} q = let z : row ≡ r = cc in (λ w h. rw (← z) h, λ e h. absurd (in_none h))
  build_word (Entry x ∷ vs) row cs q =
      let p = pushed vs row cs (value_of b i x) q in
      let h = build_word vs (row ++ (p.0 ∷ [])) cs p.2 in
      (λ w t. h.0 w (in_left row _ t), λ e t. either (λ y. (p.0, subst (λ z. value_of b i z ≡ Some p.0) y p.1, h.0 p.0 (in_right row _ (in_here p.0 [])))) (λ u. h.1 e u) (in_cons x (entries_of vs) t))
  build_word (IncCounter c ∷ vs) row cs q =
      let p = handed vs row cs c (draw (get_or cs c no_counter)) q in
      let h = build_word vs (row ++ (p.0 ∷ [])) p.1 p.2 in
      (λ w t. h.0 w (in_left row _ t), h.1)
  build_word (CurrentVal x ∷ vs) row cs q =
      let p = pushed vs row cs (slice_get row x) q in
      let h = build_word vs (row ++ (p.0 ∷ [])) cs p.2 in
      (λ w t. h.0 w (in_left row _ t), h.1)
