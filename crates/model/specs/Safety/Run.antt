-- Demand 3: the invariant on the way from one instruction to the next, and between steps.
use Prim.Native.Nat.{ℕ, zero, suc, ◌<◌}
use Rattle.std.proofs.Common.{not-suc-le-zero, ap, ◌∙◌, inl, inr, T_not}
use native.Mathlib.Omega.{arith}
use Rattle.std.specs.Prelude.{◌≡◌, refl, ◌⊎◌, ◌≢◌, Bool, true, false, not, get_or, replicate, Option, None, Some, slice_get}
use Rattle.std.proofs.Math.Path.{sym, subst}
use mathlib.Core.List.{List, [], ◌∷◌, map}
use Rattle.std.proofs.Math.Dec.{T, eqb, eqb_refl}
use Rattle.std.proofs.Math.ListN.{length}
use Rattle.std.proofs.lemmas.List.{length-replicate}
use Rattle.model.specs.Basics.{when, found, only, All}
use Rattle.model.specs.Book.Syntax.{Clean, Counter, Var, Const, WriteVal, Entry, IncCounter, CurrentVal, Instr, dst_of, Rule, rule_at}
use Rattle.model.specs.Machine.State.{State, Site, Record, Event, took, asks, Status, going, stuck, is_going, Bindings, survivors, predicted, Env, note, change, reply, frame}
use Rattle.model.specs.Machine.Values.{bind, lane_of}
use Rattle.model.specs.Machine.Steps.{here, clear, or_stale, bind_out, any_live, all_live, begin, end}
use Rattle.model.specs.Check.{IsKnown, Below, entries_of, currents_of, Known}
use Rattle.model.specs.Claims.Demand3.{Given, NotStale, OneRow}
use Rattle.model.specs.Laws.Supposed.{TableOk, CleanConst, CounterOk, RuleOk}
use Rattle.model.specs.Laws.Logic.{or_l, or_r, some_inj, none_some, when_ind, only_T, All-at, All-get_or, at_length, either, T-cases}
use Rattle.model.specs.Safety.CheckExact.{known_cases}
use Rattle.model.specs.Safety.Rows.{rows_of}
use Rattle.model.specs.Safety.Fetch.{Readable}
use Rattle.model.specs.Safety.Inv.{Inv, next_instr, next_step, LogOk, moved, note_inv, took_inv, asks_inv}
use Rattle.model.specs.Safety.Lanes.{Settled}

pub any_live_lem : (l : List Bool) (i : ℕ) → T (get_or l i false) → T (any_live l)
any_live_lem [] i t = t
any_live_lem (b ∷ l) zero t = or_l b (any_live l) t
any_live_lem (b ∷ l) (suc i) t = or_r b (any_live l) (any_live_lem l i t)

none_replicate : (n i w : ℕ) → get_or (replicate {A = Option ℕ} n None) i None ≡ Some w → ⊥
none_replicate zero i w e = none_some e
none_replicate (suc n) zero w e = none_some e
none_replicate (suc n) (suc i) w e = none_replicate n i w e

pub out_column : (out : List (Option ℕ)) (i w : ℕ) → get_or out i None ≡ Some w → slice_get (map or_stale out) i ≡ Some w
out_column [] i w e = absurd (none_some e)
out_column (o ∷ out) zero w e = ap (λ x. Some (or_stale x)) e
out_column (o ∷ out) (suc i) w e = out_column out i w e

pub bind_same : (d : ℕ) (c : List ℕ) (b : Bindings) (v : ℕ) → T (eqb v d) → bind d c b v ≡ Some c
bind_same d c b v t = ap (λ o. found o Some (λ _. b v)) (only_T (eqb v d) (Some c) t)

bind_other : (d : ℕ) (c : List ℕ) (b : Bindings) (v : ℕ) → T (not (eqb v d)) → bind d c b v ≡ b v
bind_other d c b v t = go (eqb v d) t
  where
    go : (x : Bool) → T (not x) → found (only x (Some c)) Some (λ _. b v) ≡ b v
    go true p = absurd p
    go false p = refl

module _ (E : Env) where
  module _ (K : ℕ → Type 0) (k j q : ℕ) (s : State) (v : Inv E K k j q s) where
    -- on to the next instruction
    pub advance : (K' : ℕ → Type 0) → (T (is_going s.status) → Readable K' s.bindings s.live) → Inv E K' k (suc j) 0 s
    advance K' rd = record { unstuck = v.unstuck; readable = rd; clean_out = v.clean_out; out_size = v.out_size; counted = v.counted; logs = moved E k j q k (suc j) 0 s.log (next_instr k j q) v.logs; events = v.events }

    pub clear_inv : Inv E K k j q (clear s)
    clear_inv = record { unstuck = v.unstuck; readable = v.readable; clean_out = λ i w e. absurd (none_replicate (length s.live) i w e); out_size = length-replicate (length s.live) None; counted = v.counted; logs = v.logs; events = v.events }

    -- dst is bound
    abbrev pub Grown : Option ℕ → ℕ → Type 0
    Grown o x = K x ⊎ (o ≡ Some x)

    grown_read : (d : ℕ) → ((x : ℕ) → Settled x s) → T (is_going s.status) → Readable (Grown (Some d)) (bind d (map or_stale s.out) s.bindings) s.live
    grown_read d st g x i kx l = either here_read there_read (T-cases (eqb x d))
      where
        here_read : T (eqb x d) → (w : ℕ) × (lane_of i (bind d (map or_stale s.out) s.bindings x) ≡ Some w) × Clean w
        here_read t =
            let h = st i g l in
            (h.0, ap (lane_of i) (bind_same d (map or_stale s.out) s.bindings x t) ∙ out_column s.out i h.0 h.1, v.clean_out i h.0 h.1)

        old : K x ⊎ (Some d ≡ Some x) → T (not (eqb x d)) → K x
        old (inl p) t = p
        old (inr e) t = absurd (T_not (eqb x d) t (subst (λ y. T (eqb x y)) (sym (some_inj e)) (eqb_refl x)))

        there_read : T (not (eqb x d)) → (w : ℕ) × (lane_of i (bind d (map or_stale s.out) s.bindings x) ≡ Some w) × Clean w
        there_read t =
            let h = v.readable g x i (old kx t) l in
            (h.0, ap (lane_of i) (bind_other d (map or_stale s.out) s.bindings x t) ∙ h.1, h.2)

    pub bound_ok : (o : Option ℕ) → T (is_going s.status) → ((d : ℕ) → o ≡ Some d → (x : ℕ) → Settled x s) → Inv E (Grown o) k (suc j) 0 (bind_out o s)
    bound_ok None g st = advance (Grown None) (λ g' x i kx l. v.readable g' x i (old kx) l)
      where
        old : {x : ℕ} → K x ⊎ (None ≡ Some x) → K x
        old (inl p) = p
        old (inr e) = absurd (none_some e)
    bound_ok (Some d) g st = record { unstuck = v.unstuck; readable = grown_read d (st d refl); clean_out = v.clean_out; out_size = v.out_size; counted = v.counted; logs = moved E k j q k (suc j) 0 s.log (next_instr k j q) v.logs; events = v.events }

  -- ## Between steps: nothing of the lanes

  pub record Rest (k : ℕ) (log : List Record) (cs : List Counter) (tr : List Event) (oc : Status) : Type 0 where
    pub unstuck : oc ≢ stuck
    pub counted : All CounterOk cs
    pub logs : LogOk E k 0 0 log
    pub clean : All NotStale tr
    pub one_row : All (OneRow E log) tr

  -- before step k
  abbrev pub Between : ℕ → State → Type 0
  Between k s = Rest k s.log s.counters s.trace s.status

  pub leave : (K : ℕ → Type 0) (k j q : ℕ) (s : State) → Inv E K k j q s → Between (suc k) s
  leave K k j q s v = record { unstuck = v.unstuck; counted = v.counted; logs = moved E k j q (suc k) 0 0 s.log (next_step k j q) v.logs; clean = v.events.clean; one_row = v.events.one_row }

  pub enter : (K : ℕ → Type 0) (k : ℕ) (s : State) (b : Bindings) (l : List Bool) → Between k s → Readable K b l → Inv E K k 0 0 (clear (frame b l [] s))
  enter K k s b l v rd = record { unstuck = v.unstuck; readable = λ g. rd; clean_out = λ i w e. absurd (none_replicate (length l) i w e); out_size = length-replicate (length l) None; counted = v.counted; logs = v.logs; events = record { clean = v.clean; one_row = v.one_row } }

  pub later : (k : ℕ) (s : State) → Between k s → Between (suc k) s
  later k s v = record { unstuck = v.unstuck; counted = v.counted; logs = moved E k 0 0 (suc k) 0 0 s.log (next_step k 0 0) v.logs; clean = v.clean; one_row = v.one_row }

  module _ (tok : All TableOk E.tables) (fn : (o : Site) (c f : ℕ) (args : List ℕ) (w : ℕ) → All Clean args → E.answer o c f args ≡ Some w → Clean w) where
    -- ## A batch

    pub more : (K K' : ℕ → Type 0) (k j q : ℕ) (s : State) → ((x : ℕ) → K' x → K x) → Inv E K k j q s → Inv E K' k j q s
    more K K' k j q s h v = record { unstuck = v.unstuck; readable = λ g x i kx l. v.readable g x i (h x kx) l; clean_out = v.clean_out; out_size = v.out_size; counted = v.counted; logs = v.logs; events = v.events }

    pub grown : (r : Rule) (j : ℕ) (ins : Instr) → slice_get r.instrs j ≡ Some ins → (x : ℕ) → Known r (suc j) x → Known r j x ⊎ (dst_of ins ≡ Some x)
    grown r j ins e x h = either inl (λ p. inr (subst (λ y. dst_of y ≡ Some x) (some_inj (sym p.1 ∙ e)) p.2)) (known_cases r j x h)

    -- past the last instruction nothing more is bound
    pub over_end : (r : Rule) (j : ℕ) → slice_get r.instrs j ≡ None → (x : ℕ) → Known r (suc j) x → Known r j x
    over_end r j e x h = either (λ p. p) (λ p. absurd (none_some (sym e ∙ p.1))) (known_cases r j x h)

    live_lane : (v n i x : ℕ) → x < v → T (get_or (all_live v n) i false) → i < n
    live_lane zero n i x h t = absurd (not-suc-le-zero h)
    live_lane (suc v) n i x h t = below n i t
      where
        below : (n i : ℕ) → T (get_or (replicate n true) i false) → i < n
        below zero i t' = absurd t'
        below (suc m) zero t' = omega arith
        below (suc m) (suc y) t' = let h' = below m y t' in omega arith

    start_read : (r : Rule) (n : ℕ) (columns : List (List ℕ)) → length columns ≡ r.starts → All (λ c. length c ≡ n) columns → All (All Clean) columns
        → Readable (Known r 0) (slice_get columns) (all_live r.starts n)
    start_read r n columns len sz cl x i (inr p) l = absurd (not-suc-le-zero p.1)
    start_read r n columns len sz cl x i (inl h) l =
        let c = at_length columns x (omega (arith, h, len)) in
        let lc : length c.0 ≡ n = All-at (λ y. length y ≡ n) columns x sz c.1 in
        let w = at_length c.0 i (omega (arith, lc, live_lane r.starts n i x h l)) in
        (w.0, ap (lane_of i) c.1 ∙ w.1, All-at Clean c.0 i (All-at (All Clean) columns x cl c.1) w.1)

    pub begin_ok : (k : ℕ) (r : Rule) (n : ℕ) (columns : List (List ℕ)) (s : State) → length columns ≡ r.starts → All (λ c. length c ≡ n) columns → All (All Clean) columns
        → Between k s → Inv E (Known r 0) k 0 0 (begin k r n columns s)
    unfolding begin
    begin_ok k r n columns s len sz cl v =
        note_inv E (Known r 0) k 0 0 (clear (frame (slice_get columns) (all_live r.starts n) [] s))
        (enter (Known r 0) k s (slice_get columns) (all_live r.starts n) v (start_read r n columns len sz cl)) _ tt tt

    pub end_ok : (k : ℕ) (s : State) → Between k s → Between k (end s)
    unfolding end
    end_ok k s v = when_ind (Between k) (is_going s.status) (reply (survivors s.bindings s.live)) s (λ _. v) v

    -- ## A prediction

    pub given_ok : (vs : List WriteVal) (n : ℕ) → All Given vs → All (IsKnown (λ _. ⊥)) (entries_of vs) × All CleanConst (entries_of vs) × All Below (currents_of n vs)
    given_ok [] n h = (tt, tt, tt)
    given_ok (Entry (Var x) ∷ vs) n h = absurd h.0
    given_ok (Entry (Const c) ∷ vs) n h = let r = given_ok vs (suc n) h.1 in ((tt, r.0), (h.0, r.1), r.2)
    given_ok (IncCounter c ∷ vs) n h = given_ok vs (suc n) h.1
    given_ok (CurrentVal x ∷ vs) n h = absurd h.0

    module _ (k t : ℕ) (key : List ℕ) where
      abbrev o : Site
      o = here k 0 0

      pub answered : (new : Bool) (r : List ℕ) (s : State) → Inv E (λ _. ⊥) k 0 1 s → All Clean r → rows_of E t key s.log ≡ r ∷ []
          → Between (suc k) (reply (predicted new r) (note (took o r) (note (asks o t key r) (when new change s))))
      answered true r s v c e = leave (λ _. ⊥) k 0 1 (note (took o r) (note (asks o t key r) (change s))) (took_inv E (λ _. ⊥) k 0 1 (note (asks o t key r) (change s)) (asks_inv E (λ _. ⊥) k 0 1 (change s) v o t key r c e) o r c)
      answered false r s v c e = leave (λ _. ⊥) k 0 1 (note (took o r) (note (asks o t key r) s)) (took_inv E (λ _. ⊥) k 0 1 (note (asks o t key r) s) (asks_inv E (λ _. ⊥) k 0 1 s v o t key r c e) o r c)

    -- ## Steps

    pub rule_ok : All (RuleOk E) E.rules → (r : ℕ) → RuleOk E (rule_at E.rules r)
    rule_ok rok r = All-get_or (RuleOk E) E.rules r _ rok (record { consts = λ j ins e. absurd (none_some e); conditions = λ j ins e. absurd (none_some e) })

-- ## A run

pub going≢stuck : going ≢ stuck
going≢stuck e = let z : ◌≡◌ {A = ℕ} 0 1 = cc in omega arith
