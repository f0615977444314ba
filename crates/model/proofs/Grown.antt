-- A trace and a log only grow, what is logged is noted, and a run that has stopped stays so.
use Prim.Native.Nat.{ℕ, zero, suc, ◌≤◌}
use native.Mathlib.Omega.{arith}
use mathlib.Core.Path.{◌≡◌, refl, sym, ap, ◌∙◌, subst}
use mathlib.Core.Logic.{◌⊎◌, inl, inr, ◌≢◌}
use Rattle.std.specs.Prelude.{Some, slice_get}
use mathlib.Core.List.{List, [], ◌∷◌, ◌++◌, append-nil, append_assoc}
use lib.Dec.{T}
use lib.ListN.{length}
use Rattle.model.specs.Basics.{All}
use Rattle.model.specs.Machine.State.{State, Record, Event, reads, Status, going, stuck, spent, full, is_going}
use Rattle.model.specs.Claims.Trace.{In}
use Rattle.model.specs.Laws.Logic.{none_some, some_inj, either, All-map, All-append, All-at}

-- ## What stands in a list

pub in_here : {A : Type 0} (x : A) (xs : List A) → In x (x ∷ xs)
in_here x xs = (0, refl)

pub in_there : {A : Type 0} {x : A} (y : A) (xs : List A) → In x xs → In x (y ∷ xs)
in_there y xs h = (suc h.0, h.1)

pub in_cons : {A : Type 0} {x : A} (y : A) (xs : List A) → In x (y ∷ xs) → (y ≡ x) ⊎ In x xs
in_cons y xs (zero, e) = inl (some_inj e)
in_cons y xs (suc i, e) = inr (i, e)

pub in_right : {A : Type 0} {x : A} (xs ys : List A) → In x ys → In x (xs ++ ys)
in_right [] ys h = h
in_right (y ∷ xs) ys h = in_there y (xs ++ ys) (in_right xs ys h)

pub in_left : {A : Type 0} {x : A} (xs ys : List A) → In x xs → In x (xs ++ ys)
in_left [] ys h = absurd (none_some h.1)
in_left (y ∷ xs) ys (zero, e) = (zero, e)
in_left (y ∷ xs) ys (suc i, e) = in_there y (xs ++ ys) (in_left xs ys (i, e))

pub in_append : {A : Type 0} {x : A} (xs ys : List A) → In x (xs ++ ys) → In x xs ⊎ In x ys
in_append [] ys h = inr h
in_append (y ∷ xs) ys (zero, e) = inl (zero, e)
in_append (y ∷ xs) ys (suc i, e) = either (λ h. inl (in_there y xs h)) inr (in_append xs ys (i, e))

pub in_none : {A : Type 0} {x : A} → In x [] → ⊥
in_none h = none_some h.1

pub All-in : {A : Type 0} (P : A → Type 0) (xs : List A) {x : A} → All P xs → In x xs → P x
All-in P xs h p = All-at P xs p.0 h p.1

-- ## Lists that grow

module _ {A : Type 0} (P : A → Type 0) where
  -- new elements, each with P, before the old; behind them
  abbrev pub Newer : List A → List A → Type 0
  Newer old now = (new : List A) × (now ≡ new ++ old) × All P new

  abbrev pub Longer : List A → List A → Type 0
  Longer old now = (new : List A) × (now ≡ old ++ new) × All P new

  pub newer_refl : (xs : List A) → Newer xs xs
  newer_refl xs = ([], refl, tt)

  pub newer_trans : (xs ys zs : List A) → Newer xs ys → Newer ys zs → Newer xs zs
  newer_trans xs ys zs a b = (b.0 ++ a.0, b.1 ∙ ap (λ l. b.0 ++ l) a.1 ∙ sym (append_assoc b.0 a.0 xs), All-append P b.0 a.0 b.2 a.2)

  pub newer_in : (xs ys : List A) → Newer xs ys → {x : A} → In x xs → In x ys
  newer_in xs ys a {x} h = rw a.1 (in_right a.0 xs h)

  pub newer_cases : (xs ys : List A) → Newer xs ys → {x : A} → In x ys → P x ⊎ In x xs
  newer_cases xs ys a {x} h = either (λ p. inl (All-in P a.0 a.2 p)) inr (in_append a.0 xs (rw a.1 at h))

  pub longer_refl : (xs : List A) → Longer xs xs
  longer_refl xs = ([], sym (append-nil xs), tt)

  pub longer_trans : (xs ys zs : List A) → Longer xs ys → Longer ys zs → Longer xs zs
  longer_trans xs ys zs a b = (a.0 ++ b.0, b.1 ∙ ap (λ l. l ++ b.0) a.1 ∙ append_assoc xs a.0 b.0, All-append P a.0 b.0 a.2 b.2)

  past_end : (xs ys : List A) (n : ℕ) {x : A} → length xs ≤ n → slice_get (xs ++ ys) n ≡ Some x → In x ys
  past_end [] ys n h e = (n, e)
  past_end (y ∷ xs) ys zero h e = absurd (omega arith)
  past_end (y ∷ xs) ys (suc n) h e = past_end xs ys n (omega arith) e

  -- what stands past the old ones is new
  pub longer_new : (xs ys : List A) → Longer xs ys → (n : ℕ) {x : A} → length xs ≤ n → slice_get ys n ≡ Some x → P x
  longer_new xs ys a n {x} h e = All-in P a.0 a.2 (past_end xs a.0 n h (rw a.1 at e))

module _ {A : Type 0} {P Q : A → Type 0} (f : (x : A) → P x → Q x) where
  pub newer_map : (xs ys : List A) → Newer P xs ys → Newer Q xs ys
  newer_map xs ys a = (a.0, a.1, All-map f a.0 a.2)

  pub longer_map : (xs ys : List A) → Longer P xs ys → Longer Q xs ys
  longer_map xs ys a = (a.0, a.1, All-map f a.0 a.2)

-- ## States

pub going_T : {o : Status} → o ≡ going → T (is_going o)
going_T e = rw e tt

pub T-going : (o : Status) → T (is_going o) → o ≡ going
T-going going t = refl
T-going stuck t = absurd t
T-going spent t = absurd t
T-going full t = absurd t

-- the run goes on; it is not stuck, but may have stopped
abbrev pub Going : State → Type 0
Going s = T (is_going s.status)

abbrev pub Unstuck : State → Type 0
Unstuck s = s.status ≢ stuck

pub going_unstuck : (s : State) → Going s → Unstuck s
going_unstuck s g e = subst (λ o. T (is_going o)) e g

-- the record's words are in a `reads` event of its site
abbrev pub RecordNoted : List Event → Record → Type 0
RecordNoted tr r = In (reads r.site r.words) tr

-- from one trace, log and status to another: new events with Q, new records with R, which are noted
pub record Grown (Q : Event → Type 0) (R : Record → Type 0) (tr : List Event) (rs : List Record) (st : Status) (tr' : List Event) (rs' : List Record) (st' : Status) : Type 0 where
  pub trace : Newer Q tr tr'
  pub log : Longer R rs rs'
  pub noted : All (RecordNoted tr') log.0
  pub goes : T (is_going st') → T (is_going st)

abbrev pub Grows : (Event → Type 0) → (Record → Type 0) → State → State → Type 0
Grows Q R s s' = Grown Q R s.trace s.log s.status s'.trace s'.log s'.status

module _ (Q : Event → Type 0) (R : Record → Type 0) where
  pub grows_refl : (s : State) → Grows Q R s s
  unfolding longer_refl
  grows_refl s = record { trace = newer_refl Q s.trace; log = longer_refl R s.log; noted = tt; goes = λ g. g }

  -- what is noted stays so
  still_noted : (tr tr' : List Event) → Newer Q tr tr' → (rs : List Record) → All (RecordNoted tr) rs → All (RecordNoted tr') rs
  still_noted tr tr' n rs h = All-map (λ r p. newer_in Q tr tr' n p) rs h

  pub grows_trans : (s s' s'' : State) → Grows Q R s s' → Grows Q R s' s'' → Grows Q R s s''
  unfolding longer_trans
  grows_trans s s' s'' a b = record {
    trace = newer_trans Q s.trace s'.trace s''.trace a.trace b.trace;
    log = longer_trans R s.log s'.log s''.log a.log b.log;
    noted = All-append (RecordNoted s''.trace) a.log.0 b.log.0 (still_noted s'.trace s''.trace b.trace a.log.0 a.noted) b.noted;
    goes = λ g. a.goes (b.goes g);
  }

  pub grows_note : (s s' : State) → Grows Q R s s' → (e : Event) → Q e → Grown Q R s.trace s.log s.status (e ∷ s'.trace) s'.log s'.status
  grows_note s s' a e q =
      let one : Newer Q s'.trace (e ∷ s'.trace) = (e ∷ [], refl, (q, tt)) in
      record { trace = newer_trans Q s.trace s'.trace (e ∷ s'.trace) a.trace one; log = a.log; noted = still_noted s'.trace (e ∷ s'.trace) one a.log.0 a.noted; goes = a.goes }

  pub grows_logged : (s s' : State) → Grows Q R s s' → (r : Record) → R r → RecordNoted s'.trace r → Grown Q R s.trace s.log s.status s'.trace (s'.log ++ (r ∷ [])) s'.status
  unfolding longer_trans
  grows_logged s s' a r q n = record {
    trace = a.trace;
    log = longer_trans R s.log s'.log (s'.log ++ (r ∷ [])) a.log (r ∷ [], refl, (q, tt));
    noted = All-append (RecordNoted s'.trace) a.log.0 (r ∷ []) a.noted (n, tt);
    goes = a.goes;
  }

  pub grows_stop : (s s' : State) → Grows Q R s s' → (st : Status) → (T (is_going st) → ⊥) → Grown Q R s.trace s.log s.status s'.trace s'.log st
  grows_stop s s' a st n = record { trace = a.trace; log = a.log; noted = a.noted; goes = λ g. absurd (n g) }

pub grows_map : {Q Q' : Event → Type 0} {R R' : Record → Type 0} → ((e : Event) → Q e → Q' e) → ((r : Record) → R r → R' r) → (s s' : State) → Grows Q R s s' → Grows Q' R' s s'
unfolding longer_map
grows_map f g s s' a = record { trace = newer_map f s.trace s'.trace a.trace; log = longer_map g s.log s'.log a.log; noted = a.noted; goes = a.goes }
