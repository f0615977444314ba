-- A pass over the lanes, split at one lane: what comes before its turn and after it leaves the lane alone.
use Prim.Native.Nat.{ℕ, zero, suc, ◌≤◌, ◌<◌}
use native.Mathlib.Nat.{not-suc-le-zero}
use native.Mathlib.Omega.{arith}
use mathlib.Core.Path.{◌≡◌, refl, sym, ap, ◌∙◌, subst}
use mathlib.Core.Logic.{◌⊎◌, inl, inr, ◌≢◌}
use mathlib.Core.Bool.{Bool, true, false, ◌&&◌}
use Rattle.std.specs.Prelude.{None, Some}
use mathlib.Core.List.{List}
use lib.Dec.{T, T_not}
use lib.ListN.{length, get_or}
use Rattle.model.specs.Basics.{iter, when}
use Rattle.model.specs.Machine.State.{State, Site, Record, Event, mask, reads, took, asks, is_going}
use Rattle.model.specs.Machine.Steps.{here, is_live, is_none, lanes, missed}
use Rattle.model.specs.Claims.Trace.{In}
use Rattle.model.specs.Laws.Logic.{and_T, T_and, T-cases, either, le_cases, when_cases}
use Rattle.model.specs.Safety.Lanes.{live_below}
use Rattle.model.proofs.Idle.{not_going, Idle, iter_stays}
use Rattle.model.proofs.Grown.{newer_cases, Going, Unstuck, going_unstuck}
use Rattle.model.proofs.TraceTurns.{Moves, moves_refl, moves_trans, moves_map, Own, Turn, Quiet}

-- an event of another lane than i
abbrev pub Other : ℕ → Event → Type 0
Other i (mask k l) = ⊥
Other i (reads p ws) = p.lane ≢ i
Other i (took p ws) = p.lane ≢ i
Other i (asks p t key ws) = p.lane ≢ i

-- turns of other lanes than i only
abbrev pub Apart : ℕ → State → State → Type 0
Apart i = Moves (λ x. x ≢ i) (Other i) (λ r. r.site.lane ≢ i)

-- an event of a site
abbrev pub At : Site → Event → Type 0
At o = Own o (λ _ _. Unit {0})

same_site : (o p : Site) (A B : ℕ → List ℕ → Type 0) (e : Event) → Own o A e → Own p B e → o ≡ p
same_site o p A B (mask k l) h q = absurd h
same_site o p A B (reads x ws) h q = sym h ∙ q
same_site o p A B (took x ws) h q = sym h ∙ q
same_site o p A B (asks x t key ws) h q = sym h.0 ∙ q.0

-- no lane from i on has a new event
abbrev pub Unread : ℕ → ℕ → ℕ → State → State → Type 0
Unread k j i s s' = (x : ℕ) (e : Event) → i ≤ x → At (here k j x) e → In e s'.trace → In e s.trace

-- lane i has its turn of f, since the test b passes; it is the last one if the run stops in it
pub record AtTurn (k j : ℕ) (b : State → ℕ → Bool) (f : ℕ → State → State) (i : ℕ) (s s' : State) : Type 0 where
  pub start : State
  pub test : T (b start i)
  pub before : Apart i s start
  pub unread : Unread k j i s start
  pub after : Apart i (f i start) s'
  pub last : (Going (f i start) → ⊥) → s' ≡ f i start

module _ {k j : ℕ} {b : State → ℕ → Bool} {f : ℕ → State → State} {i : ℕ} {s s' : State} (a : AtTurn k j b f i s s') where
  pub turn_unstuck : Unstuck s' → Unstuck (f i a.start)
  turn_unstuck u e = u (ap (λ z. z.status) (a.last (λ g. going_unstuck (f i a.start) g e)) ∙ e)

  pub turn_went : Going s' → Unstuck (f i a.start)
  turn_went g = going_unstuck (f i a.start) (a.after.grows.goes g)

-- the run had stopped before lane i had its turn: where it went at the start, in the turn of a lane before
pub record CutAt (k j : ℕ) (b : State → ℕ → Bool) (f : ℕ → State → State) (i : ℕ) (s s' : State) : Type 0 where
  pub stopped : Going s' → ⊥
  pub before : Apart i s s'
  pub unread : Unread k j i s s'
  pub by : Going s → (x : ℕ) × (x < i) × (a : AtTurn k j b f x s s') × (Going (f x a.start) → ⊥)

own_other : (k j x i : ℕ) (A : ℕ → List ℕ → Type 0) (e : Event) → x ≢ i → Own (here k j x) A e → Other i e
own_other k j x i A (mask l m) n h = h
own_other k j x i A (reads p ws) n h = λ q. n (sym (ap (λ y. y.lane) h) ∙ q)
own_other k j x i A (took p ws) n h = λ q. n (sym (ap (λ y. y.lane) h) ∙ q)
own_other k j x i A (asks p t key ws) n h = λ q. n (sym (ap (λ y. y.lane) h.0) ∙ q)

pub when_yes : {A : Type 0} (b : Bool) (f : A → A) (s : A) → T b → when b f s ≡ f s
when_yes true f s t = refl
when_yes false f s t = absurd t

-- turns of f where the test b passes
abbrev pub turns : (State → ℕ → Bool) → (ℕ → State → State) → State → ℕ → State
turns b f s n = iter (λ i s'. when (b s' i) (f i) s') n s

-- what holds at the start, and after each turn that is not stuck
pub turns_end : (P : State → Type 0) (b : State → ℕ → Bool) (f : ℕ → State → State) (s : State) → ((x : ℕ) → let z : State = turns b f s x in T (b z x) → Unstuck (f x z) → P (f x z)) → P s → (n : ℕ) → Unstuck (turns b f s n) → P (turns b f s n)
turns_end P b f s h p zero u = p
turns_end P b f s h p (suc n) u = when_cases (λ y. Unstuck y → P y) (b (turns b f s n) n) (f n) (turns b f s n) (h n) (λ _. turns_end P b f s h p n) u

-- at sites of step k and instruction j; A is what lane x asks for in a state
module _ (k j : ℕ) (b : State → ℕ → Bool) (f : ℕ → State → State) (A : ℕ → State → ℕ → List ℕ → Type 0) (h : (x : ℕ) (s : State) → Turn (here k j x) (A x s) s (f x s)) (s : State) where
  abbrev to : ℕ → State
  to n = turns b f s n

  -- lane x, one of m .. n - 1, has its turn
  abbrev pub Had : ℕ → ℕ → ℕ → Type 0
  Had m n x = (m ≤ x) × (x < n) × T (b (to x) x)

  abbrev pub HadEvent : ℕ → ℕ → Event → Type 0
  HadEvent m n e = (x : ℕ) × Had m n x × Own (here k j x) (A x (to x)) e

  abbrev pub HadRecord : ℕ → ℕ → Record → Type 0
  HadRecord m n r = (x : ℕ) × Had m n x × (r.site ≡ here k j x)

  abbrev pub Pass : ℕ → ℕ → State → State → Type 0
  Pass m n = Moves (Had m n) (HadEvent m n) (HadRecord m n)

  one_turn : (m n : ℕ) → m ≤ n → Pass m (suc n) (to n) (to (suc n))
  one_turn m n le =
      when_cases (Pass m (suc n) (to n)) (b (to n) n) (f n) (to n)
      (λ t. let now : Had m (suc n) n = (le, omega arith, t) in
      moves_map (λ x e. subst (Had m (suc n)) (sym e) now) (λ e o. (n, now, o)) (λ r o. (n, now, o)) (to n) (f n (to n)) (h n (to n)))
      (λ _. moves_refl _ _ _ (to n))

  pub pass : (m n : ℕ) → m ≤ n → Pass m n (to m) (to n)
  pass zero zero le = moves_refl _ _ _ (to zero)
  pass (suc m) zero le = absurd (not-suc-le-zero le)
  pass m (suc n) le = either
      (λ (lt : m < suc n). moves_trans _ _ _ (to m) (to n) (to (suc n))
      (moves_map (λ x p. later x p) (λ e p. (p.0, later p.0 p.1, p.2)) (λ r p. (p.0, later p.0 p.1, p.2)) (to m) (to n) (pass m n (omega arith)))
      (one_turn m n (omega arith)))
      (λ e. subst (λ q. Pass q (suc n) (to q) (to (suc n))) (sym e) (moves_refl _ _ _ (to (suc n))))
      (le_cases {m = m} {n = suc n} (omega arith))
    where
      later : (x : ℕ) → Had m n x → Had m (suc n) x
      later x p = (p.0, omega (arith, p.1), p.2)

  -- turns of other lanes than i
  pass_apart : (m n i : ℕ) → (Had m n i → ⊥) → m ≤ n → Apart i (to m) (to n)
  pass_apart m n i never le = moves_map (λ x p. other x p) (λ e p. own_other k j p.0 i (A p.0 (to p.0)) e (other p.0 p.1) p.2) (λ r p q. other p.0 p.1 (sym (ap (λ y. y.lane) p.2) ∙ q)) (to m) (to n) (pass m n le)
    where
      other : (x : ℕ) → Had m n x → x ≢ i
      other x p e = never (subst (Had m n) e p)

  -- before lane i has its turn, and after it
  pub pass_before : (i : ℕ) → Apart i s (to i)
  pass_before i = pass_apart 0 i i (λ p. omega (arith, p.1)) (omega arith)

  pass_after : (i n : ℕ) → i < n → Apart i (to (suc i)) (to n)
  pass_after i n lt = pass_apart (suc i) n i (λ p. omega (arith, p.0)) lt

  -- whose event is new: of a lane that had its turn
  pass_events : (m n : ℕ) → m ≤ n → (x : ℕ) (e : Event) → At (here k j x) e → In e (to n).trace → Had m n x ⊎ In e (to m).trace
  pass_events m n le x e o p = either
      (λ q. inl (subst (Had m n) (ap (λ y. y.lane) (same_site (here k j q.0) (here k j x) (A q.0 (to q.0)) _ e q.2 o)) q.1))
      inr (newer_cases (HadEvent m n) (to m).trace (to n).trace (pass m n le).grows.trace p)

  -- a run that stops does so in the turn of a lane
  stops_in : Going s → (n : ℕ) → Going (to n) ⊎ ((x : ℕ) × (x < n) × T (b (to x) x) × (Going (to (suc x)) → ⊥))
  stops_in g zero = inl g
  stops_in g (suc n) = either
      (λ r. either inl (λ t. let ng : Going (to (suc n)) → ⊥ = T_not (is_going (to (suc n)).status) t in inr (n, omega arith, has r ng, ng)) (T-cases (is_going (to (suc n)).status)))
      (λ p. inr (p.0, omega (arith, p.1), p.2, p.3))
      (stops_in g n)
    where
      has : Going (to n) → (Going (to (suc n)) → ⊥) → T (b (to n) n)
      has r ng = when_cases (λ z. (Going z → ⊥) → T (b (to n) n)) (b (to n) n) (f n) (to n) (λ t _. t) (λ _ ng'. absurd (ng' r)) ng

  unread_before : (x : ℕ) → Unread k j x s (to x)
  unread_before x y e le o p = either (λ had. absurd (omega (arith, had.1))) (λ q. q) (pass_events 0 x (omega arith) y e o p)

  module _ (idle : (x : ℕ) → Idle (λ z. when (b z x) (f x) z)) (n : ℕ) where
    stays : (m : ℕ) → m ≤ n → (Going (to m) → ⊥) → to n ≡ to m
    stays m le ng = iter_stays _ idle m n le s (not_going (to m).status ng)

    turned : (x : ℕ) → x < n → T (b (to x) x) → AtTurn k j b f x s (to n)
    turned x l t =
        let e : to (suc x) ≡ f x (to x) = when_yes (b (to x) x) (f x) (to x) t in
        record { start = to x; test = t; before = pass_before x; unread = unread_before x; after = subst (λ z. Apart x z (to n)) e (pass_after x n l); last = subst (λ z. (Going z → ⊥) → to n ≡ z) e (stays (suc x) l) }

    -- the turn in which a run stops, of a lane before m
    pub stop_turn : Going s → (m : ℕ) → m ≤ n → (Going (to m) → ⊥) → (x : ℕ) × (x < m) × (a : AtTurn k j b f x s (to n)) × (Going (f x a.start) → ⊥)
    unfolding turned
    stop_turn g m le ng = either (λ r. absurd (ng r))
        (λ p. (p.0, p.1, turned p.0 (omega (arith, p.1)) p.2, λ r. p.3 (subst Going (sym (when_yes (b (to p.0) p.0) (f p.0) (to p.0) p.2)) r)))
        (stops_in g m)

    -- lane i has its turn, unless the run has stopped before
    turn_or_cut : (i : ℕ) → i < n → (Going (to i) → T (b (to i) i)) → AtTurn k j b f i s (to n) ⊎ CutAt k j b f i s (to n)
    turn_or_cut i lt has = either (λ g. inl (turned i lt (has g))) (λ g. inr (cut (T_not (is_going (to i).status) g))) (T-cases (is_going (to i).status))
      where
        cut : (Going (to i) → ⊥) → CutAt k j b f i s (to n)
        cut ng = let e : to n ≡ to i = stays i (omega arith) ng in record {
          stopped = λ g. ng (subst Going e g);
          before = subst (Apart i s) (sym e) (pass_before i);
          unread = subst (Unread k j i s) (sym e) (unread_before i);
          by = λ g. stop_turn g i (omega arith) ng;
        }

-- ## The two passes

abbrev pub is_missed : State → ℕ → Bool
is_missed s i = is_live s i && is_none (get_or s.out i None)

-- turns of any lanes
abbrev pub Later : State → State → Type 0
Later = Moves (λ _. Unit {0}) (λ _. Unit {0}) (λ _. Unit {0})

module _ (k j : ℕ) (f : ℕ → State → State) (A : ℕ → State → ℕ → List ℕ → Type 0) (h : (x : ℕ) (s : State) → Turn (here k j x) (A x s) s (f x s)) (s : State) where
  pub lanes_later : Later s (lanes f s)
  unfolding lanes
  lanes_later = moves_map (λ _ _. tt) (λ _ _. tt) (λ _ _. tt) s (lanes f s) (pass k j is_live f A h s 0 (length s.live) (omega arith))

  pub missed_later : Later s (missed f s)
  unfolding missed
  missed_later = moves_map (λ _ _. tt) (λ _ _. tt) (λ _ _. tt) s (missed f s) (pass k j is_missed f A h s 0 (length s.live) (omega arith))

  -- the lane in whose turn the run stops
  pub missed_stops : Going s → (Going (missed f s) → ⊥) → (x : ℕ) × (a : AtTurn k j is_missed f x s (missed f s)) × (Going (f x a.start) → ⊥)
  unfolding missed
  missed_stops g ng = let p = stop_turn k j is_missed f A h s (λ x z e. rw e) (length s.live) g (length s.live) (omega arith) ng in (p.0, p.2, p.3)

pub lanes_quiet : (k j : ℕ) (f : ℕ → State → State) → ((x : ℕ) (s : State) → Turn (here k j x) Quiet s (f x s)) → (s : State) (o : Site) (u : ℕ) (key ws : List ℕ) → In (asks o u key ws) (lanes f s).trace → In (asks o u key ws) s.trace
unfolding lanes
lanes_quiet k j f h s o u key ws p =
    let n : ℕ = length s.live in
    either (λ q. absurd q.2.1) (λ q. q) (newer_cases (HadEvent k j is_live f (λ _ _. Quiet) h s 0 n) s.trace (turns is_live f s n).trace (pass k j is_live f (λ _ _. Quiet) h s 0 n (omega arith)).grows.trace p)

module _ (k j : ℕ) (f : ℕ → State → State) (A : ℕ → State → ℕ → List ℕ → Type 0) (h : (x : ℕ) (s : State) → Turn (here k j x) (A x s) s (f x s)) (s : State) (i : ℕ) where
  -- before its turn a lane is as at the start
  live_then : (s' : State) → Apart i s s' → T (get_or s.live i false) → T (is_going s'.status) → T (is_live s' i)
  live_then s' m l g = T_and (is_going s'.status) (get_or s'.live i false) g (subst T (sym (m.kept.marks i (λ n. n refl))) l)

  missed_then : (s' : State) → Apart i s s' → T (get_or s.live i false) → get_or s.out i None ≡ None → T (is_going s'.status) → T (is_missed s' i)
  missed_then s' m l e g = T_and (is_live s' i) (is_none (get_or s'.out i None)) (live_then s' m l g) (rw (m.kept.dsts i (λ n. n refl) ∙ e) tt)

  pub lanes_cut : T (get_or s.live i false) → AtTurn k j is_live f i s (lanes f s) ⊎ CutAt k j is_live f i s (lanes f s)
  unfolding lanes
  lanes_cut l = turn_or_cut k j is_live f A h s (λ x z e. rw e) (length s.live) i (live_below s.live i l) (live_then _ (pass_before k j is_live f A h s i) l)

  pub missed_cut : T (get_or s.live i false) → get_or s.out i None ≡ None → AtTurn k j is_missed f i s (missed f s) ⊎ CutAt k j is_missed f i s (missed f s)
  unfolding missed
  missed_cut l e = turn_or_cut k j is_missed f A h s (λ x z e. rw e) (length s.live) i (live_below s.live i l) (missed_then _ (pass_before k j is_missed f A h s i) l e)

  -- where the run goes on after the pass, each live lane has had its turn
  pub lanes_at : Going (lanes f s) → T (get_or s.live i false) → AtTurn k j is_live f i s (lanes f s)
  lanes_at g l = either (λ a. a) (λ c. absurd (c.stopped g)) (lanes_cut l)

  pub missed_at : Going (missed f s) → T (get_or s.live i false) → get_or s.out i None ≡ None → AtTurn k j is_missed f i s (missed f s)
  missed_at g l e = either (λ a. a) (λ c. absurd (c.stopped g)) (missed_cut l e)

  -- a lane that has its dst is passed over
  pub missed_past : (w : ℕ) → get_or s.out i None ≡ Some w → Apart i s (missed f s)
  unfolding missed
  missed_past w e =
      pass_apart k j is_missed f A h s 0 (length s.live) i
      (λ p. subst (λ o. T (is_none o)) ((pass_before k j is_missed f A h s i).kept.dsts i (λ n. n refl) ∙ e) (and_T (is_live (turns is_missed f s i) i) _ p.2).1) (omega arith)
