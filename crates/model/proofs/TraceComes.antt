-- An instruction that comes to a live lane: what it leaves is kept to the end of the run.
use Prim.Native.Nat.{ℕ, suc, ◌≤◌, ◌<◌}
use native.Mathlib.Omega.{arith}
use mathlib.Core.Path.{◌≡◌, refl, sym, ap, ◌∙◌, subst}
use mathlib.Core.Logic.{◌⊎◌, inl, inr}
use mathlib.Core.Bool.{Bool, false, ◌&&◌}
use Rattle.std.specs.Prelude.{Option, None, Some, slice_get}
use mathlib.Core.List.{List}
use lib.Dec.{T}
use lib.ListN.{length, get_or}
use Rattle.model.specs.Basics.{found}
use Rattle.model.specs.Book.Syntax.{Counter, Instr, dst_of, Rule, Step, batch, rule_at}
use Rattle.model.specs.Machine.State.{State, Site, Event, mask, asks, is_going, going, Env, note}
use Rattle.model.specs.Machine.Steps.{here, clear, bind_out, any_live, begin, end, finish, body, instruction, instructions, step, run}
use Rattle.model.specs.Claims.Demand3.{before}
use Rattle.model.specs.Claims.Trace.{In, Comes, pre, post}
use Rattle.model.specs.Laws.Logic.{T_and, when_ind, at_below, either}
use Rattle.model.specs.Safety.Run.{any_live_lem}
use Rattle.model.proofs.Idle.{finish_idle, end_idle, instructions_stay}
use Rattle.model.proofs.Endless.{still}
use Rattle.model.proofs.Grown.{newer_in, newer_cases, going_T, Grows, grows_refl, grows_trans, grows_note}
use Rattle.model.proofs.TracePasses.{At, when_yes}
use Rattle.model.proofs.TraceRun.{EventAt, at_both, InInstrs, GrowsAt, grows_at, instructions_grow, begin_grows, run_grows, run_event}

pub asks≢mask : (o : Site) (t : ℕ) (key ws : List ℕ) (k : ℕ) (l : List Bool) → asks o t key ws ≡ mask k l → ⊥
asks≢mask o t key ws k l e = let z : ◌≡◌ {A = ℕ} 0 1 = cc in omega arith

-- dst is bound after the lanes' part; nothing else changes but for the mask
pub finish_grows : (k : ℕ) (d : Option ℕ) (s : State) → Grows (λ e. (l : List Bool) × (e ≡ mask k l)) (λ _. ⊥) s (finish k d s)
unfolding finish
finish_grows k d s = when_ind (Grows (λ e. (l : List Bool) × (e ≡ mask k l)) (λ _. ⊥) s) (is_going s.status) _ s (λ _. bound d) (grows_refl _ _ s)
  where
    bound : (d : Option ℕ) → Grows (λ e. (l : List Bool) × (e ≡ mask k l)) (λ _. ⊥) s (note (mask k s.live) (bind_out d s))
    bound None = grows_note _ _ s s (grows_refl _ _ s) (mask k s.live) (s.live, refl)
    bound (Some x) = grows_note _ _ s s (grows_refl _ _ s) (mask k s.live) (s.live, refl)

module _ (E : Env) (counters : List Counter) (steps : List Step) where
  pub run_step : (k : ℕ) (st : Step) → slice_get steps k ≡ Some st → (run E counters steps k).status ≡ going → run E counters steps (suc k) ≡ step E k st (run E counters steps k)
  unfolding run
  run_step k st e g = when_yes (is_going (run E counters steps k).status) _ _ (going_T g) ∙ ap (λ o. found o (λ x. step E k x (run E counters steps k)) (λ _. run E counters steps k)) e

  -- a site of instruction m of step k, or after it
  abbrev pub From : ℕ → ℕ → Site → Type 0
  From k m o = ((o.step ≡ k) × (m ≤ o.instr)) ⊎ (suc k ≤ o.step)

  -- what a batch has left before instruction m is kept to the end of the run
  pub batch_grows : (k r lanes : ℕ) (columns : List (List ℕ)) → slice_get steps k ≡ Some (batch r lanes columns) → (run E counters steps k).status ≡ going → (m : ℕ) → m ≤ length (rule_at E.rules r).instrs
      → (n : ℕ) → k < n → GrowsAt (From k m) (λ _. Unit {0}) (before E counters steps k r lanes columns m) (run E counters steps n)
  unfolding step end
  batch_grows k r lanes columns is g m le n lt =
      let R : Rule = rule_at E.rules r in
      let s₀ : State = begin k R lanes columns (run E counters steps k) in
      let s₁ : State = instructions E k R (length R.instrs) s₀ in
      let p : State = instructions E k R m s₀ in
      let a : GrowsAt (From k m) (λ _. Unit {0}) p s₁ = grows_at (λ o q. inl (q.0, q.1)) (λ _ _. tt) p s₁ (instructions_grow E k R s₀ m (length R.instrs) le) in
      let b : GrowsAt (From k m) (λ _. Unit {0}) p (end s₁) = when_ind (GrowsAt (From k m) (λ _. Unit {0}) p) (is_going s₁.status) _ s₁ (λ _. a) a in
      let b' : GrowsAt (From k m) (λ _. Unit {0}) p (run E counters steps (suc k)) = subst (GrowsAt (From k m) (λ _. Unit {0}) p) (sym (run_step k _ is g)) b in
      grows_trans _ _ p (run E counters steps (suc k)) (run E counters steps n) b' (grows_at (λ o q. inr q.0) (λ _ _. tt) (run E counters steps (suc k)) (run E counters steps n) (run_grows E counters steps (suc k) n lt))

  module _ {k j i : ℕ} {ins : Instr} (c : Comes E counters steps k j i ins) where
    -- the lanes' part, and then dst is bound
    abbrev pub lanes_part : State
    lanes_part = body E k j ins (clear (pre E counters steps c))

    pub lane_live : T (get_or (pre E counters steps c).live i false)
    lane_live = subst T (sym c.live) tt

    pub post_is : post E counters steps c ≡ finish k (dst_of ins) lanes_part
    unfolding instructions instruction
    post_is = ap (λ o. found o (λ x. instruction E k j x (pre E counters steps c)) (λ _. pre E counters steps c)) c.is_instr
        ∙ when_yes (is_going (pre E counters steps c).status && any_live (pre E counters steps c).live) _ _ (T_and (is_going (pre E counters steps c).status) _ (going_T c.goes) (any_live_lem (pre E counters steps c).live i lane_live))

    pub part_goes : T (is_going (post E counters steps c).status) → T (is_going lanes_part.status)
    part_goes g = (finish_grows k (dst_of ins) lanes_part).goes (subst (λ z. T (is_going z.status)) post_is g)

    -- a site after the instruction
    abbrev pub Past : Site → Type 0
    Past = From k (suc j)

    pub post_grows : (n : ℕ) → k < n → GrowsAt Past (λ _. Unit {0}) (post E counters steps c) (run E counters steps n)
    post_grows n lt = batch_grows k c.rule c.lanes c.columns c.is_step c.begun (suc j) (at_below (rule_at E.rules c.rule).instrs j c.is_instr) n lt

    pub part_noted : (n : ℕ) → k < n → {e : Event} → In e lanes_part.trace → In e (run E counters steps n).trace
    part_noted n lt {e} h =
        newer_in _ (post E counters steps c).trace (run E counters steps n).trace (post_grows n lt).trace
        (subst (λ z. In e z.trace) (sym post_is) (newer_in _ lanes_part.trace _ (finish_grows k (dst_of ins) lanes_part).trace h))

    -- an event of the instruction's sites was there when the lanes' part ended,
    pub part_event : (n : ℕ) → k < n → (x : ℕ) (e : Event) → At (here k j x) e → In e (run E counters steps n).trace → In e lanes_part.trace
    part_event n lt x e o p = either
        (λ q. absurd (either (λ (v : (k ≡ k) × (suc j ≤ j)). omega (arith, v.1)) (λ (v : suc k ≤ k). omega arith) (at_both Past _ (here k j x) e o q)))
        (λ q. either (λ v. absurd (subst (At (here k j x)) v.1 o)) (λ v. v) (newer_cases (λ y. (l : List Bool) × (y ≡ mask k l)) lanes_part.trace (finish k (dst_of ins) lanes_part).trace (finish_grows k (dst_of ins) lanes_part).trace (subst (λ z. In e z.trace) post_is q)))
        (newer_cases (EventAt Past (λ _. Unit {0})) (post E counters steps c).trace (run E counters steps n).trace (post_grows n lt).trace p)

    -- and not before it began
    pub not_before : (x : ℕ) (e : Event) → At (here k j x) e → In e (pre E counters steps c).trace → ⊥
    unfolding instructions
    not_before x e o h =
        let R : Rule = rule_at E.rules c.rule in
        let s : State = run E counters steps k in
        let s₀ : State = begin k R c.lanes c.columns s in
        either
        (λ q. let p : (k ≡ k) × (0 ≤ j) × (j < j) = at_both (InInstrs k 0 j) _ (here k j x) e o q in omega (arith, p.2))
        (λ q. either (at_both (λ _. ⊥) _ (here k j x) e o) (λ p. omega (arith, run_event E counters steps k (here k j x) e o p)) (newer_cases (EventAt (λ _. ⊥) (λ y. y ≡ k)) s.trace s₀.trace (begin_grows E (λ _. ⊥) k R c.lanes c.columns s).trace q))
        (newer_cases (EventAt (InInstrs k 0 j) (λ y. y ≡ k)) s₀.trace (pre E counters steps c).trace (instructions_grow E k R s₀ 0 j (omega arith)).trace h)

    -- ## Where the run stops in it

    pub post_stays : is_going (post E counters steps c).status ≡ false → (n : ℕ) → k < n → run E counters steps n ≡ post E counters steps c
    unfolding step
    post_stays ng n lt =
        let R : Rule = rule_at E.rules c.rule in
        let m : ℕ = length R.instrs in
        let s₀ : State = begin k R c.lanes c.columns (run E counters steps k) in
        let e : instructions E k R m s₀ ≡ post E counters steps c = instructions_stay E k R (suc j) m (at_below R.instrs j c.is_instr) s₀ ng in
        let e' : run E counters steps (suc k) ≡ post E counters steps c = run_step k _ c.is_step c.begun ∙ ap end e ∙ end_idle (post E counters steps c) ng in
        still E counters steps (suc k) n lt (ap (λ z. is_going z.status) e' ∙ ng) ∙ e'

    -- nothing is bound then
    pub part_stays : is_going lanes_part.status ≡ false → post E counters steps c ≡ lanes_part
    part_stays ng = post_is ∙ finish_idle k (dst_of ins) lanes_part ng

    pub stopped_part : is_going lanes_part.status ≡ false → (n : ℕ) → k < n → run E counters steps n ≡ lanes_part
    stopped_part ng n lt = post_stays (ap (λ z. is_going z.status) (part_stays ng) ∙ ng) n lt ∙ part_stays ng

    pub part_status : (post E counters steps c).status ≡ lanes_part.status
    unfolding finish
    part_status = ap (λ z. z.status) post_is ∙ when_ind (λ z. z.status ≡ lanes_part.status) (is_going lanes_part.status) _ lanes_part (λ _. bound (dst_of ins)) refl
      where
        bound : (d : Option ℕ) → (bind_out d lanes_part).status ≡ lanes_part.status
        bound None = refl
        bound (Some x) = refl
