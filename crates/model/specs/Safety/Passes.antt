-- A pass over the lanes keeps what each turn keeps, and settles what each turn settles.
use Rattle.std.specs.Prelude.{ℕ, zero, suc, ◌<◌, ◌≡◌, refl, Bool, true, false, ◌&&◌, not, length, get_or, Option, None, Some}
use Rattle.std.proofs.Common.{not-suc-le-zero, arith, sym, ◌∙◌, subst, T_not}
use Rattle.std.proofs.Math.Dec.{T}
use Rattle.model.specs.Basics.{iter, when}
use Rattle.model.specs.Machine.State.{State, is_going, Env}
use Rattle.model.specs.Machine.Steps.{is_live, is_none, lanes, missed}
use Rattle.model.specs.Laws.Logic.{and_T, T_and, either, le_cases, when_cases}
use Rattle.model.specs.Safety.Inv.{Inv, weaken}
use Rattle.model.specs.Safety.Lanes.{Lane, Done, Settled, live_below}

module _ (E : Env) (K : ℕ → Type 0) (k j : ℕ) where
  pub lane_trans : (q q' : ℕ) (s s' s'' : State) → Lane E K k j q s s' → Lane E K k j q' s' s'' → Lane E K k j q' s s''
  lane_trans q q' s s' s'' a b = record { inv = b.inv; fewer = λ x t. a.fewer x (b.fewer x t); kept = λ x h. b.kept x (a.kept x h); size = b.size ∙ a.size }

  pub lane_refl : (q : ℕ) (s : State) → Inv E K k j q s → Lane E K k j q s s
  lane_refl q s v = record { inv = v; fewer = λ x t. t; kept = λ x h. h; size = refl }

  -- turns i of a test b and a function f; the position before turn i is pos i
  module _ (b : State → ℕ → Bool) (f : ℕ → State → State) (pos : ℕ → ℕ)
      (later : (i : ℕ) (s : State) → Inv E K k j (pos i) s → Inv E K k j (pos (suc i)) s) where
    abbrev turns : ℕ → State → State
    turns n s = iter (λ i s'. when (b s' i) (f i) s') n s

    pub pass_lane : ((i : ℕ) (s : State) → Inv E K k j (pos i) s → T (b s i) → Lane E K k j (pos (suc i)) s (f i s))
        → (n : ℕ) (s : State) → Inv E K k j (pos zero) s → Lane E K k j (pos n) s (turns n s)
    pass_lane h zero s v = lane_refl (pos zero) s v
    pass_lane h (suc n) s v =
        let p : Lane E K k j (pos n) s (turns n s) = pass_lane h n s v in
        lane_trans (pos n) (pos (suc n)) s (turns n s) (turns (suc n) s) p
        (when_cases (Lane E K k j (pos (suc n)) (turns n s)) (b (turns n s) n) (f n) (turns n s) (λ t. h n (turns n s) p.inv t) (λ t. lane_refl (pos (suc n)) (turns n s) (later n (turns n s) p.inv)))

    pub pass_settled : ((i : ℕ) (s : State) → Inv E K k j (pos i) s → T (b s i) → Done E K k j (pos (suc i)) i s (f i s))
        → ((i : ℕ) (s : State) → T (b s i) → T (is_going s.status)) → ((i : ℕ) (s : State) → T (not (b s i)) → Settled i s)
        → (n : ℕ) (s : State) → Inv E K k j (pos zero) s → (x : ℕ) → x < n → Settled x (turns n s)
    pass_settled h g r zero s v x lt = absurd (not-suc-le-zero lt)
    pass_settled h g r (suc n) s v x lt =
        let p : Lane E K k j (pos n) s (turns n s) = pass_lane (λ i s' v' t. (h i s' v' t).0) n s v in
        when_cases (Settled x) (b (turns n s) n) (f n) (turns n s)
        (λ t. let d = h n (turns n s) p.inv t in
        either (λ q g' l. d.0.kept x (pass_settled h g r n s v x q (g n (turns n s) t) (d.0.fewer x l)))
        (λ q. subst (λ y. Settled y (f n (turns n s))) (sym q) d.1) (le_cases lt))
        (λ t. either (λ q. pass_settled h g r n s v x q) (λ q. subst (λ y. Settled y (turns n s)) (sym q) (r n (turns n s) t)) (le_cases lt))

  -- ## The read_pair passes

  abbrev is_missed : State → ℕ → Bool
  is_missed s i = is_live s i && is_none (get_or s.out i None)

  not_live : (i : ℕ) (s : State) → T (not (is_live s i)) → Settled i s
  not_live i s t g l = absurd (T_not (is_live s i) t (T_and (is_going s.status) (get_or s.live i false) g l))

  has : (o : Option ℕ) → T (not (is_none o)) → (w : ℕ) × (o ≡ Some w)
  has None t = absurd t
  has (Some w) t = (w, refl)

  not_missed : (i : ℕ) (s : State) → T (not (is_missed s i)) → Settled i s
  not_missed i s t g l = has (get_or s.out i None) (second (is_live s i) (is_none (get_or s.out i None)) (T_and (is_going s.status) (get_or s.live i false) g l) t)
    where
      second : (a c : Bool) → T a → T (not (a && c)) → T (not c)
      second true c p q = q
      second false c p q = absurd p

  parts : (s : State) (i : ℕ) → T (is_live s i) → T (is_going s.status) × T (get_or s.live i false)
  parts s i t = and_T (is_going s.status) (get_or s.live i false) t

  missed_live : (s : State) (i : ℕ) → T (is_missed s i) → T (is_live s i)
  missed_live s i t = (and_T (is_live s i) (is_none (get_or s.out i None)) t).0

  -- with no record staged
  pub lanes_quiet : (f : ℕ → State → State) → ((i : ℕ) (s : State) → Inv E K k j 0 s → T (is_going s.status) → T (get_or s.live i false) → Lane E K k j 0 s (f i s))
      → (s : State) → Inv E K k j 0 s → Lane E K k j 0 s (lanes f s)
  unfolding lanes
  lanes_quiet f h s v = pass_lane is_live f (λ _. 0) (λ i s' v'. v') (λ i s' v' t. h i s' v' (parts s' i t).0 (parts s' i t).1) (length s.live) s v

  -- from the lanes that there are to all
  everywhere : (s s' : State) → length s'.live ≡ length s.live → ((x : ℕ) → x < length s.live → Settled x s') → (x : ℕ) → Settled x s'
  everywhere s s' e h x g l = h x (omega (arith, live_below s'.live x l, e)) g l

  abbrev pub Filling : ℕ → State → State → Type 0
  Filling q s s' = Lane E K k j q s s' × ((x : ℕ) → Settled x s')

  pub lanes_done : (f : ℕ → State → State) → ((i : ℕ) (s : State) → Inv E K k j 0 s → T (is_going s.status) → T (get_or s.live i false) → Done E K k j 0 i s (f i s))
      → (s : State) → Inv E K k j 0 s → Filling 0 s (lanes f s)
  unfolding lanes
  lanes_done f h s v =
      let a : Lane E K k j 0 s (lanes f s) = lanes_quiet f (λ i s' v' g l. (h i s' v' g l).0) s v in (
        a,
        everywhere s (lanes f s) a.size
            (pass_settled is_live f (λ _. 0) (λ i s' v'. v') (λ i s' v' t. h i s' v' (parts s' i t).0 (parts s' i t).1) (λ i s' t. (parts s' i t).0) not_live (length s.live) s v),
      )

  pub missed_done : (f : ℕ → State → State) → ((i : ℕ) (s : State) → Inv E K k j 0 s → T (is_going s.status) → T (get_or s.live i false) → Done E K k j 0 i s (f i s))
      → (s : State) → Inv E K k j 0 s → Filling 0 s (missed f s)
  unfolding missed
  missed_done f h s v =
      let h' : (i : ℕ) (s' : State) → Inv E K k j 0 s' → T (is_missed s' i) → Done E K k j 0 i s' (f i s') = λ i s' v' t. h i s' v' (parts s' i (missed_live s' i t)).0 (parts s' i (missed_live s' i t)).1 in
      let a : Lane E K k j 0 s (missed f s) = pass_lane is_missed f (λ _. 0) (λ i s' v'. v') (λ i s' v' t. (h' i s' v' t).0) (length s.live) s v in (
        a,
        everywhere s (missed f s) a.size
            (pass_settled is_missed f (λ _. 0) (λ i s' v'. v') h' (λ i s' t. (parts s' i (missed_live s' i t)).0) not_missed (length s.live) s v),
      )

  -- with at most one record staged by each lane
  pub lanes_stage : (f : ℕ → State → State) → ((i : ℕ) (s : State) → Inv E K k j i s → T (is_going s.status) → T (get_or s.live i false) → Lane E K k j (suc i) s (f i s))
      → (s : State) → Inv E K k j 0 s → Lane E K k j (length s.live) s (lanes f s)
  unfolding lanes
  lanes_stage f h s v = pass_lane is_live f (λ i. i) (λ i s' v'. weaken E K k j i s' v') (λ i s' v' t. h i s' v' (parts s' i t).0 (parts s' i t).1) (length s.live) s v

  pub missed_stage : (f : ℕ → State → State) → ((i : ℕ) (s : State) → Inv E K k j i s → T (is_going s.status) → T (get_or s.live i false) → Done E K k j (suc i) i s (f i s))
      → (s : State) → Inv E K k j 0 s → Filling (length s.live) s (missed f s)
  unfolding missed
  missed_stage f h s v =
      let h' : (i : ℕ) (s' : State) → Inv E K k j i s' → T (is_missed s' i) → Done E K k j (suc i) i s' (f i s') = λ i s' v' t. h i s' v' (parts s' i (missed_live s' i t)).0 (parts s' i (missed_live s' i t)).1 in
      let a : Lane E K k j (length s.live) s (missed f s) = pass_lane is_missed f (λ i. i) (λ i s' v'. weaken E K k j i s' v') (λ i s' v' t. (h' i s' v' t).0) (length s.live) s v in (
        a,
        everywhere s (missed f s) a.size
            (pass_settled is_missed f (λ i. i) (λ i s' v'. weaken E K k j i s' v') h' (λ i s' t. (parts s' i (missed_live s' i t)).0) not_missed (length s.live) s v),
      )
