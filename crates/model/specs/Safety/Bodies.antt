-- Each instruction without a lookup keeps the invariant, and gives a dst to each lane that stays live. The lookups stand in `proofs/Safety`.
use Prim.Native.Nat.{ℕ, zero, suc, ◌<◌}
use Rattle.std.proofs.Common.{arith, sym, ◌∙◌}
use Rattle.std.specs.Prelude.{◌≡◌, Bool, List, [], ◌∷◌, T, get_or, replicate, Option, None, Some}
use Rattle.std.proofs.Math.Path.{refl, subst}
use Rattle.std.proofs.Math.Bool.{not}
use Rattle.std.proofs.Math.Dec.{eqb}
use Rattle.std.proofs.Math.ListN.{length, length-replicate, get_or-replicate}
use Rattle.model.specs.Basics.{when, All}
use Rattle.model.specs.Book.Syntax.{Clean, no_counter, next_of, QueryEntry, Instr, Insert, InsertIfEq, Remove, External, ExternalWithFallback, AssertEq, AssertNe, AssertAnyNe, ReadCounter, dst_of, width}
use Rattle.model.specs.Machine.State.{State, Site, is_going, Env, lose}
use Rattle.model.specs.Machine.Values.{hold}
use Rattle.model.specs.Machine.Steps.{here, table_of, invoke, stage_list, read_pair, lanes, wait, plain, body}
use Rattle.model.specs.Check.{Sound, sizes_of, reads_of, held_of, columns_of, IsKnown}
use Rattle.model.specs.Laws.Supposed.{TableOk, CleanConst, CounterOk}
use Rattle.model.specs.Laws.Logic.{none_some, when_ind, All-get_or, All-left, All-right}
use Rattle.model.specs.Safety.Fetch.{But, hold_read, held_known}
use Rattle.model.specs.Safety.Inv.{Inv, weaken}
use Rattle.model.specs.Safety.Lanes.{Same, Lane, Done, Settled, wait_lane, lose_done, live_below, call_ok, two_ok, any_ok, insert_ok}
use Rattle.model.specs.Safety.Passes.{lane_trans, lanes_quiet, lanes_done, missed_done, lanes_stage, Filling}

some_below : (xs : List (Option ℕ)) (i : ℕ) {w : ℕ} → get_or xs i None ≡ Some w → i < length xs
some_below [] i e = absurd (none_some e)
some_below (x ∷ xs) zero e = omega arith
some_below (x ∷ xs) (suc i) e = let h = some_below xs i e in omega arith

of_replicate : (n i a w : ℕ) → get_or (replicate n (Some a)) i None ≡ Some w → a ≡ w
of_replicate zero i a w e = absurd (none_some e)
of_replicate (suc n) zero a w e = cc
of_replicate (suc n) (suc i) a w e = of_replicate n i a w e

-- what an instruction leaves: if it has a dst, each live lane has one
abbrev pub Filled : Instr → State → Type 0
Filled ins s = (d : ℕ) → dst_of ins ≡ Some d → (x : ℕ) → Settled x s

module _ (E : Env) (tok : All TableOk E.tables) (fn : (o : Site) (c f : ℕ) (args : List ℕ) (w : ℕ) → All Clean args → E.answer o c f args ≡ Some w → Clean w)
    (K : ℕ → Type 0) (k j : ℕ) where
  abbrev pub BodyOk : Instr → State → State → Type 0
  BodyOk ins s s' = (q : ℕ) × Lane E K k j q s s' × Filled ins s'

  pub filled : (ins : Instr) (q : ℕ) (s s' : State) → Filling E K k j q s s' → BodyOk ins s s'
  filled ins q s s' h = (q, h.0, λ d e. h.1)

  -- without a dst
  plainly : (ins : Instr) (q : ℕ) (s s' : State) → dst_of ins ≡ None → Lane E K k j q s s' → BodyOk ins s s'
  plainly ins q s s' e h = (q, h, λ d e'. absurd (none_some (sym e ∙ e')))

  pub then_missed : (q : ℕ) (s s' s'' : State) → Lane E K k j 0 s s' → Filling E K k j q s' s'' → Filling E K k j q s s''
  then_missed q s s' s'' a b = (lane_trans E K k j 0 q s s' s'' a b.0, b.1)

  module _ (s : State) (v : Inv E K k j 0 s) where
    abbrev pub Good : Instr → Type 0
    Good ins = Sound E.tables E.arity K ins → All CleanConst (reads_of ins) → BodyOk ins s (body E k j ins s)

    pub losing : (i : ℕ) (s' : State) (s'' : State) → Inv E K k j 0 s'' → Same s' s'' → T (is_going s''.status) → Done E K k j 0 i s' (lose i s'')
    losing i s' s'' v'' m g'' = lose_done E K k j 0 s' s'' v'' m i

    pub ok5 : (t : ℕ) (vals : List QueryEntry) → Good (Insert t vals)
    unfolding body sizes_of reads_of held_of columns_of dst_of
    ok5 t vals c cn =
        plainly (Insert t vals) _ s _ refl
        (lanes_stage E K k j _ (λ i s' v' g l. insert_ok E K k j i s' v' s' (record { live = refl; out = refl }) g l 0 t (width (table_of E t)) vals tt refl c.fit.0 c.known cn) s v)

    pub ok6 : (t : ℕ) (x y : QueryEntry) (vals : List QueryEntry) → Good (InsertIfEq t x y vals)
    unfolding body sizes_of reads_of held_of columns_of dst_of
    ok6 t x y vals c cn =
        plainly (InsertIfEq t x y vals) _ s _ refl
        (lanes_stage E K k j _ (λ i s' v' g l.
        two_ok E K k j tok i i s' v' g l (Lane E K k j (suc i) s') x y (λ a b. when (eqb a b) (stage_list E (here k j i) 0 t (width (table_of E t)) vals)) (c.known.0, (c.known.1.0, tt)) (cn.0, (cn.1.0, tt))
        (λ a b s'' v'' m g''. when_ind (Lane E K k j (suc i) s') (eqb a b) (stage_list E (here k j i) 0 t (width (table_of E t)) vals) s''
        (λ _. insert_ok E K k j i s'' v'' s' m g'' (rw m.live l) 0 t (width (table_of E t)) vals tt refl c.fit.0 c.known.1.1 cn.1.1)
        (wait_lane E K k j (suc i) s' s'' (weaken E K k j i s'' v'') m))) s v)

    pub ok7 : (t : ℕ) (args : List QueryEntry) → Good (Remove t args)
    unfolding body sizes_of reads_of held_of columns_of dst_of
    ok7 t args c cn =
        plainly (Remove t args) _ s _ refl
        (lanes_stage E K k j _ (λ i s' v' g l. insert_ok E K k j i s' v' s' (record { live = refl; out = refl }) g l 1 t (table_of E t).keys args tt refl c.fit.0 c.known cn) s v)

    pub ok8 : (f : ℕ) (args : List QueryEntry) (dst : ℕ) → Good (External f args dst)
    unfolding body sizes_of reads_of held_of columns_of
    ok8 f args dst c cn =
        filled (External f args dst) 0 s _
        (lanes_done E K k j _ (λ i s' v' g l.
        call_ok E K k j tok 0 i s' v' g l (Done E K k j 0 i s') K plain 0 f args (lose i) (v'.readable g) c.fit.0 c.known cn
        (λ ws w. fn (here k j i) 0 f ws w) (λ s'' d. d) (losing i s')) s v)

    pub ok9 : (f1 : ℕ) (args1 : List QueryEntry) (f2 : ℕ) (args2 : List QueryEntry) (dst : ℕ) → Good (ExternalWithFallback f1 args1 f2 args2 dst)
    unfolding body sizes_of reads_of held_of columns_of
    ok9 f1 args1 f2 args2 dst c cn =
        let a : Lane E K k j 0 s (lanes (λ i. invoke E (here k j i) 0 plain f1 args1 wait) s) = lanes_quiet E K k j _ (λ i s' v' g l.
        call_ok E K k j tok 0 i s' v' g l (Lane E K k j 0 s') K plain 0 f1 args1 wait (v'.readable g) c.fit.0 (All-left (IsKnown K) args1 args2 c.known) (All-left CleanConst args1 args2 cn)
        (λ ws w. fn (here k j i) 0 f1 ws w) (λ s'' d. d.0) (λ s'' v'' m g''. wait_lane E K k j 0 s' s'' v'' m)) s v in
        let kn : All (IsKnown (But K dst)) args2 = held_known K dst args2 (All-right (IsKnown K) args1 args2 c.known) c.free in
        filled (ExternalWithFallback f1 args1 f2 args2 dst) 0 s _
        (then_missed 0 s _ _ a
        (missed_done E K k j _ (λ i s' v' g l.
        call_ok E K k j tok 0 i s' v' g l (Done E K k j 0 i s') (But K dst) (hold dst) 1 f2 args2 (lose i)
        (hold_read K dst s'.bindings s'.live (v'.readable g)) c.fit.1.0 kn (All-right CleanConst args1 args2 cn)
        (λ ws w. fn (here k j i) 1 f2 ws w) (λ s'' d. d) (losing i s')) _ a.inv))

    -- a test of read_pair entries drops a lane or leaves it
    test_ok : (x y : QueryEntry) (b : ℕ → ℕ → Bool) → All (IsKnown K) (x ∷ y ∷ []) → All CleanConst (x ∷ y ∷ [])
        → Lane E K k j 0 s (lanes (λ i. read_pair (here k j i) x y λ p q. when (b p q) (lose i)) s)
    test_ok x y b kn cn = lanes_quiet E K k j _ (λ i s' v' g l.
        two_ok E K k j tok 0 i s' v' g l (Lane E K k j 0 s') x y _ kn cn
        (λ p q s'' v'' m g''. when_ind (Lane E K k j 0 s') (b p q) (lose i) s'' (λ _. (lose_done E K k j 0 s' s'' v'' m i).0) (wait_lane E K k j 0 s' s'' v'' m))) s v

    pub ok10 : (x y : QueryEntry) → Good (AssertEq x y)
    unfolding body sizes_of reads_of held_of columns_of dst_of
    ok10 x y c cn = plainly (AssertEq x y) 0 s _ refl (test_ok x y (λ a b. not (eqb a b)) c.known cn)

    pub ok11 : (x y : QueryEntry) → Good (AssertNe x y)
    unfolding body sizes_of reads_of held_of columns_of dst_of
    ok11 x y c cn = plainly (AssertNe x y) 0 s _ refl (test_ok x y eqb c.known cn)

    pub ok12 : (d : ℕ) (ops : List QueryEntry) → Good (AssertAnyNe d ops)
    unfolding body sizes_of reads_of held_of columns_of dst_of
    ok12 d ops c cn =
        plainly (AssertAnyNe d ops) 0 s _ refl
        (lanes_quiet E K k j _ (λ i s' v' g l. any_ok E K k j tok 0 i s' v' g l d ops c.fit.0 c.known cn) s v)

    pub ok13 : (c dst : ℕ) → Good (ReadCounter c dst)
    unfolding body
    ok13 x dst c cn =
        let n : ℕ = length s.live in
        let w : ℕ = next_of (get_or s.counters x no_counter) in
        let cw : Clean w = omega (arith, All-get_or CounterOk s.counters x no_counter v.counted (omega arith)) in (
          0,
          record {
            inv = record {
              unstuck = v.unstuck;
              readable = v.readable;
              clean_out = λ i a e. subst Clean (of_replicate n i w a e) cw;
              out_size = length-replicate n (Some w);
              counted = v.counted;
              logs = v.logs;
              events = v.events;
            };
            fewer = λ i t. t;
            kept = λ i h. (w, get_or-replicate n i (Some w) None (omega (arith, some_below s.out i h.1, v.out_size)));
            size = refl;
          },
          λ d e i g t. (w, get_or-replicate n i (Some w) None (live_below s.live i t)),
        )
