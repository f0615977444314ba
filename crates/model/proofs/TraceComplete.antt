-- Each asker has its `asks` event, unless the run was cut off at its row or at that of a lane before it.
use Prim.Native.Nat.{ℕ, suc, ◌<◌}
use native.Mathlib.Omega.{arith}
use mathlib.Core.Path.{◌≡◌, refl, sym, ap, ◌∙◌, subst}
use mathlib.Core.Logic.{◌⊎◌, inl, inr}
use mathlib.Core.Bool.{false}
use Rattle.std.specs.Prelude.{None, Some, slice_get}
use mathlib.Core.List.{List, []}
use Rattle.model.specs.Book.Syntax.{Counter, QueryEntry, WriteVal, LookupOrInsertDefault, Step, prediction}
use Rattle.model.specs.Machine.State.{State, Status, Event, asks, going, spent, full, is_going, Env, frame}
use Rattle.model.specs.Machine.Values.{find}
use Rattle.model.specs.Machine.Steps.{here, table_of, body, predict, step, run}
use Rattle.model.specs.Claims.Trace.{In, Comes, pre, lane, predicts, CutRow, CutBefore, AsksComplete}
use Rattle.model.specs.Laws.Logic.{either, none_some}
use Rattle.model.proofs.Endless.{still}
use Rattle.model.proofs.Grown.{in_cons, newer_in, going_T, Unstuck}
use Rattle.model.proofs.Went.{RowWent, RowCut, answers, predict_went}
use Rattle.model.proofs.TraceRun.{run_grows, run_event}
use Rattle.model.proofs.TraceComes.{run_step, lanes_part, lane_live, stopped_part, part_noted, not_before}
use Rattle.model.proofs.TraceAsks.{T_true}
use Rattle.model.proofs.TraceReads.{asks≢reads, CutLane, part_asks}

ended : {st : Status} → (st ≡ spent) ⊎ (st ≡ full) → is_going st ≡ false
ended e = either (λ q. ap is_going q) (λ q. ap is_going q) e

module _ (E : Env) (counters : List Counter) (steps : List Step) where
  -- ## A lane

  -- where a lookup-or-insert is cut off, the run is left as its lanes' part ended
  pub cut_row : {k j i t : ℕ} {args : List QueryEntry} {vs : List WriteVal} {col dst : ℕ} (c : Comes E counters steps k j i (LookupOrInsertDefault t args vs col dst)) (n : ℕ) → k < n
      → (x : ℕ) → CutLane E k j (pre E counters steps c) (going_T c.goes) i (lane_live E counters steps c) dst t args vs col x → CutRow E counters steps n (here k j x)
  unfolding body
  cut_row {k} {j} {i} {t} {args} {vs} {col} {dst} c n lt x p =
      let is : run E counters steps n ≡ lanes_part E counters steps c = stopped_part E counters steps c (ended p.ends) n lt in
      record {
        table = t;
        key = p.key;
        asker = lane args vs col dst (record { rule = c.rule; lanes = c.lanes; columns = c.columns; is_step = c.is_step; is_instr = c.is_instr; begun = c.begun; goes = c.goes; live = T_true _ p.live }) p.misses;
        ends = either (λ q. inl (ap (λ z. z.status) is ∙ q)) (λ q. inr (ap (λ z. z.status) is ∙ q)) p.ends;
        last = inl (p.words, p.older, ap (λ z. z.trace) is ∙ p.last);
        unasked = λ y u ws r le h. not_before E counters steps c y (asks (here k j y) u ws r) (refl, tt) (p.unasked y u ws r le (subst (λ z. In (asks (here k j y) u ws r) z.trace) is h));
      }

  -- ## A prediction

  module _ (k t : ℕ) (key : List ℕ) (vs : List WriteVal) (is : slice_get steps k ≡ Some (prediction t key vs)) (g : (run E counters steps k).status ≡ going) (n : ℕ) (lt : k < n) where
    abbrev s : State
    s = frame (λ _. None) [] [] (run E counters steps k)

    abbrev z : State
    z = predict E (here k 0 0) t key vs s

    pub stepped : run E counters steps (suc k) ≡ z
    unfolding step
    stepped = run_step E counters steps k (prediction t key vs) is g

    pub row_noted : (e : Event) → In e z.trace → In e (run E counters steps n).trace
    row_noted e h = newer_in _ (run E counters steps (suc k)).trace (run E counters steps n).trace (run_grows E counters steps (suc k) n lt).trace (subst (λ x. In e x.trace) (sym stepped) h)

    stops : is_going z.status ≡ false → run E counters steps n ≡ z
    stops ng = still E counters steps (suc k) n lt (ap (λ x. is_going x.status) stepped ∙ ng) ∙ stepped

    pub row_asked_lem : RowWent (here k 0 0) E s (λ _. None) t key vs (answers (here k 0 0) E t key) z → (r : List ℕ) × In (asks (here k 0 0) t key r) z.trace
    row_asked_lem (r, p) = (r, either (λ q. subst (λ x. In (asks (here k 0 0) t key r) x.trace) (sym q.1) (1, refl)) (λ q. subst (λ x. In (asks (here k 0 0) t key r) x.trace) (sym q.3) (1, refl)) p)

    row_cut : find (table_of E t).keys (table_of E t).rows key ≡ None → RowCut (here k 0 0) E s (λ _. None) t key vs z → CutRow E counters steps n (here k 0 0)
    row_cut none' p = record { table = t; key = key; asker = predicts vs is g none'; ends = either (λ q. inl (over ∙ q)) (λ q. inr (over ∙ q)) (ends p); last = inr (vs, is); unasked = λ y u ws r _ h. omega (arith, run_event E counters steps k (here k 0 y) (asks (here k 0 y) u ws r) (refl, tt) (old y u ws r p (subst (λ x. In (asks (here k 0 y) u ws r) x.trace) (stops (ended (ends p))) h))) }
      where
        ends : RowCut (here k 0 0) E s (λ _. None) t key vs z → (z.status ≡ spent) ⊎ (z.status ≡ full)
        ends q = either (λ e. inl (ap (λ x. x.status) e.1)) (λ e. inr (ap (λ x. x.status) e.3)) q.1

        over : (run E counters steps n).status ≡ z.status
        over = ap (λ x. x.status) (stops (ended (ends p)))

        old : (y u : ℕ) (ws r : List ℕ) → RowCut (here k 0 0) E s (λ _. None) t key vs z → In (asks (here k 0 y) u ws r) z.trace → In (asks (here k 0 y) u ws r) (run E counters steps k).trace
        old y u ws r (n, inl e) h = subst (λ x. In (asks (here k 0 y) u ws r) x.trace) e.1 h
        old y u ws r (n, inr e) h = either (λ q. absurd (asks≢reads (sym q))) (λ q. q) (in_cons _ (run E counters steps k).trace (subst (λ x. In (asks (here k 0 y) u ws r) x.trace) e.3 h))

    row_complete : find (table_of E t).keys (table_of E t).rows key ≡ None → Unstuck (run E counters steps n) → ((r : List ℕ) × In (asks (here k 0 0) t key r) (run E counters steps n).trace) ⊎ CutBefore E counters steps n (here k 0 0)
    row_complete none' u = either
        (λ p. absurd (none_some (sym none' ∙ p.1)))
        (λ p. either (λ q. let r = row_asked_lem q in inl (r.0, row_noted _ r.1)) (λ q. inr (0, omega arith, row_cut none' q)) p.1)
        (predict_went (here k 0 0) E s t key vs (λ q. u (ap (λ x. x.status) (stops (ap is_going q)) ∙ q)))

  -- ## Both

  pub asks_complete : AsksComplete E counters steps
  unfolding body
  asks_complete n o t key (lane {k} {j} {i} args vs col dst c misses) lt u = either
      (λ p. inl (p.0, part_noted E counters steps c n lt p.1.0))
      (λ p. inr (p.0, p.1, cut_row c n lt p.0 p.2))
      (part_asks E k j (pre E counters steps c) (going_T c.goes) i (lane_live E counters steps c) t args vs col dst key (λ q. u (ap (λ z. z.status) (stopped_part E counters steps c (ap is_going q) n lt) ∙ q)) misses)
  asks_complete n o t key (predicts {k} vs is g none') lt u = row_complete k t key vs is g n lt none' u
