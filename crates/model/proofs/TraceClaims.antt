-- The claims on what the trace notes: every entry and row that a live lane reads, the row that a prediction answers, and the live lanes.
use Prim.Native.Nat.{ℕ, zero, suc, ◌<◌}
use native.Mathlib.Omega.{arith}
use mathlib.Core.Path.{◌≡◌, refl, sym, ap, ◌∙◌, subst}
use mathlib.Core.Logic.{◌⊎◌, inl, inr, ◌↔◌}
use mathlib.Core.Bool.{Bool, true, false, ◌&&◌}
use Rattle.std.specs.Prelude.{Option, None, Some, slice_get}
use mathlib.Core.List.{List, [], ◌∷◌, ◌++◌, map}
use lib.Dec.{T, T_not, eqb_refl}
use lib.ListN.{get_or}
use Rattle.model.specs.Basics.{when}
use Rattle.model.specs.Book.Syntax.{Counter, QueryEntry, Var, Instr, LookupOrInsertDefault, LookupWithDefault, Lookup, LookupWithFallback, Insert, InsertIfEq, Remove, External, ExternalWithFallback, AssertEq, AssertNe, AssertAnyNe, ReadCounter, dst_of, Step, rule_at}
use Rattle.model.specs.Machine.State.{State, Event, mask, reads, took, asks, going, full, is_going, predicted, Env, note, with_counters, change, logged, frame}
use Rattle.model.specs.Machine.Values.{lane_of, value_of, values_of, find}
use Rattle.model.specs.Machine.Steps.{here, table_of, clear, or_stale, bind_out, any_live, begin, finish, body, instruction, instructions, predict, run}
use Rattle.model.specs.Check.{entries_of, reads_of}
use Rattle.model.specs.Claims.Demand3.{before}
use Rattle.model.specs.Claims.Trace.{In, read_first, read_then, ReadsAll, LookupAt, lookup_of, Comes, pre, post, MasksNoted, StuckStays, CutOff, LastReads, EntriesNoted, TakesFrom, RowsNoted, AnswersNoted, RecordsNoted}
use Rattle.model.specs.Laws.Logic.{none_some, some_inj, either, found_ind, when_ind, when_cases, All-at}
use Rattle.model.specs.Safety.Run.{bind_same, out_column}
use Rattle.model.proofs.Grown.{in_there, in_cons, in_append, in_left, in_right, in_none, newer_in, going_T, T-going, Going, Unstuck, going_unstuck, RecordNoted}
use Rattle.model.proofs.TracePasses.{At, when_yes}
use Rattle.model.proofs.Went.{cut_unlogged, row_of, answers, predict_went}
use Rattle.model.proofs.TraceBodies.{Took}
use Rattle.model.proofs.TraceRun.{run_grows}
use Rattle.model.proofs.TraceComes.{batch_grows, lanes_part, lane_live, post_is, part_goes, part_noted, part_event, not_before, post_stays, part_stays, part_status}
use Rattle.model.proofs.TraceNotes.{noted_more}
use Rattle.model.proofs.TraceReads.{PartCut, part_first, part_then, part_last, part_asks}
use Rattle.model.proofs.TraceRows.{part_took}
use Rattle.model.proofs.TraceComplete.{cut_row, stepped, row_noted}

-- ## Which entries are read

module _ (e : QueryEntry) where
  abbrev Either : List QueryEntry → List QueryEntry → List QueryEntry → Type 0
  Either all first then = In e all ↔ (In e first ⊎ In e then)

  joined : (xs ys : List QueryEntry) → Either (xs ++ ys) xs ys
  joined xs ys = (in_append xs ys, either (in_left xs ys) (in_right xs ys))

  alone : (xs : List QueryEntry) → Either xs xs []
  alone xs = (inl, either (λ h. h) (λ h. absurd (in_none h)))

pub reads_all : ReadsAll
unfolding reads_of read_first read_then
reads_all (LookupOrInsertDefault t args vs col dst) e = joined e args (entries_of vs)
reads_all (LookupWithDefault t args col dst x) e = (
  λ h. either (λ q. inr (0, ap Some q)) inl (in_cons x args h),
  either (in_there x args) (λ h. either (λ q. (0, ap Some q)) (λ q. absurd (in_none q)) (in_cons x [] h)),
)
reads_all (Lookup t args col dst) e = alone e args
reads_all (LookupWithFallback t key f args col dst) e = joined e key args
reads_all (Insert t vals) e = alone e vals
reads_all (InsertIfEq t l r vals) e = joined e (l ∷ r ∷ []) vals
reads_all (Remove t args) e = alone e args
reads_all (External f args dst) e = alone e args
reads_all (ExternalWithFallback f1 args1 f2 args2 dst) e = joined e args1 args2
reads_all (AssertEq l r) e = alone e (l ∷ r ∷ [])
reads_all (AssertNe l r) e = alone e (l ∷ r ∷ [])
reads_all (AssertAnyNe d ops) e = alone e ops
reads_all (ReadCounter c dst) e = alone e []

-- ## After an instruction

pub finish_log : (k : ℕ) (d : Option ℕ) (s : State) → (finish k d s).log ≡ s.log
unfolding finish
finish_log k d s = when_ind (λ z. z.log ≡ s.log) (is_going s.status) _ s (λ _. bound d) refl
  where
    bound : (d : Option ℕ) → (bind_out d s).log ≡ s.log
    bound None = refl
    bound (Some x) = refl

-- dst stands for what the lane was given
pub finish_dst : (k d : ℕ) (s : State) (i w : ℕ) → T (is_going s.status) → get_or s.out i None ≡ Some w → value_of (finish k (Some d) s).bindings i (Var d) ≡ Some w
unfolding finish
finish_dst k d s i w g e =
    subst (λ z. value_of z.bindings i (Var d) ≡ Some w) (sym (when_yes (is_going s.status) _ s g))
    (ap (lane_of i) (bind_same d (map or_stale s.out) s.bindings d (eqb_refl d)) ∙ out_column s.out i w e)

lookup_dst : (ins : Instr) (f : LookupAt) → lookup_of ins ≡ Some f → dst_of ins ≡ Some f.dst
unfolding lookup_of dst_of
lookup_dst (LookupOrInsertDefault t args vs col dst) f e = ap (λ y. Some y.dst) (some_inj e)
lookup_dst (LookupWithDefault t args col dst x) f e = ap (λ y. Some y.dst) (some_inj e)
lookup_dst (Lookup t args col dst) f e = ap (λ y. Some y.dst) (some_inj e)
lookup_dst (LookupWithFallback t key c args col dst) f e = ap (λ y. Some y.dst) (some_inj e)
lookup_dst (Insert t vals) f e = absurd (none_some e)
lookup_dst (InsertIfEq t l r vals) f e = absurd (none_some e)
lookup_dst (Remove t args) f e = absurd (none_some e)
lookup_dst (External c args dst) f e = absurd (none_some e)
lookup_dst (ExternalWithFallback f1 args1 f2 args2 dst) f e = absurd (none_some e)
lookup_dst (AssertEq l r) f e = absurd (none_some e)
lookup_dst (AssertNe l r) f e = absurd (none_some e)
lookup_dst (AssertAnyNe d ops) f e = absurd (none_some e)
lookup_dst (ReadCounter c dst) f e = absurd (none_some e)

module _ (E : Env) (counters : List Counter) (steps : List Step) where
  pub stuck_stays : StuckStays E counters steps
  stuck_stays n k j i ins c lt e = ap (λ z. z.status) (post_stays E counters steps c (ap is_going e) n lt) ∙ e

  cut_off : (n k j i : ℕ) (ins : Instr) (c : Comes E counters steps k j i ins) → k < n → PartCut E k j (pre E counters steps c) (going_T c.goes) i (lane_live E counters steps c) ins → CutOff E counters steps n c
  cut_off n k j i ins c lt p = (
    part_status E counters steps c ∙ p.0,
    λ x ws le h.
        let no : (e : Event) → At (here k j x) e → In e (run E counters steps n).trace → ⊥ = λ e o q. not_before E counters steps c x e o (p.1 x e le o (part_event E counters steps c n lt x e o q)) in
        either (no (reads (here k j x) ws) refl) (no (took (here k j x) ws) refl) h,
  )

  post_part : {k j i : ℕ} {ins : Instr} (c : Comes E counters steps k j i ins) → (post E counters steps c).status ≡ full → post E counters steps c ≡ lanes_part E counters steps c
  post_part c q = part_stays E counters steps c (ap is_going (sym (part_status E counters steps c) ∙ q))

  pub last_reads : LastReads E counters steps
  unfolding body
  last_reads k j i t args vs col dst c q =
      let p = part_last E k j (pre E counters steps c) (going_T c.goes) i (lane_live E counters steps c) dst t args vs col (sym (part_status E counters steps c) ∙ q) in
      (p.0, p.1, p.2, ap (λ z. z.trace) (post_part c q) ∙ p.3)

  pub entries_noted : EntriesNoted E counters steps
  entries_noted n k j i ins c u lt e p =
      let s : State = pre E counters steps c in
      let z : State = lanes_part E counters steps c in
      let u' : Unstuck z = λ q. u (part_status E counters steps c ∙ q) in
      either
      (λ q. inl (noted_more z.trace (run E counters steps n).trace (λ x h. part_noted E counters steps c n lt h) (here k j i) s.bindings e q))
      (λ q. inr (cut_off n k j i ins c lt q))
      (either
      (λ h. part_first E k j s (going_T c.goes) i (lane_live E counters steps c) ins u' e h)
      (λ h. part_then E k j s (going_T c.goes) i (lane_live E counters steps c) ins (post E counters steps c) (ap (λ y. y.log) (post_is E counters steps c) ∙ finish_log k (dst_of ins) z) (post_part c) u' e h.0 h.1) p)

  -- the dst of a lane that took it from a row
  took_dst : {k j i : ℕ} {ins : Instr} (c : Comes E counters steps k j i ins) {col d : ℕ} {r : List ℕ} → T (is_going (lanes_part E counters steps c).status) → dst_of ins ≡ Some d → Took (here k j i) col r (lanes_part E counters steps c)
      → slice_get r col ≡ value_of (post E counters steps c).bindings i (Var d)
  took_dst {k} {j} {i} c {d = d} g e p = p.cell ∙ sym (subst (λ z. value_of z.bindings i (Var d) ≡ Some p.word) (sym (post_is E counters steps c ∙ ap (λ o. finish k o (lanes_part E counters steps c)) e)) (finish_dst k d (lanes_part E counters steps c) i p.word g p.dst))

  -- the row is noted, and dst bound if the instruction ends
  takes_from : (n k j i : ℕ) (ins : Instr) (c : Comes E counters steps k j i ins) → k < n → (l : LookupAt) → lookup_of ins ≡ Some l → (r : List ℕ) → Took (here k j i) l.col r (lanes_part E counters steps c) → TakesFrom E counters steps n c l r
  takes_from n k j i ins c lt l e r p = (part_noted E counters steps c n lt p.noted, λ g. took_dst c (part_goes E counters steps c (going_T g)) (lookup_dst ins l e) p)

  pub rows_noted : RowsNoted E counters steps
  unfolding lookup_of
  rows_noted n k j i ins c u lt f e key read = (
    λ r q. takes_from n k j i ins c lt f e r (part_took E k j (pre E counters steps c) (going_T c.goes) i (lane_live E counters steps c) key r ins f e (λ z. u (part_status E counters steps c ∙ z)) (read, q)),
    λ args vs q none'.
        let c' : Comes E counters steps k j i (LookupOrInsertDefault f.table args vs f.col f.dst) = record { rule = c.rule; lanes = c.lanes; columns = c.columns; is_step = c.is_step; is_instr = c.is_instr ∙ ap Some q; begun = c.begun; goes = c.goes; live = c.live } in
        let same : f.key ≡ args = ap (λ y. y.key) (some_inj (sym e ∙ ap lookup_of q)) in
        either
        (λ p. inl (p.0, part_noted E counters steps c' n lt p.1.0, takes_from n k j i _ c' lt f (ap lookup_of (sym q) ∙ e) p.0 p.1.1))
        (λ p. inr (p.0, p.1, cut_row E counters steps c' n lt p.0 p.2))
        (part_asks E k j (pre E counters steps c') (going_T c'.goes) i (lane_live E counters steps c') f.table args vs f.col f.dst key (λ z. u (part_status E counters steps c' ∙ z)) (subst (λ x. values_of (pre E counters steps c).bindings i x ≡ Some key) same read, none')),
  )

  -- ## A prediction

  abbrev Answered : (n k t : ℕ) → List ℕ → Type 0
  Answered n k t key = (new : Bool) × (r : List ℕ) × ((run E counters steps (suc k)).answers ≡ predicted new r ∷ (run E counters steps k).answers) × In (took (here k 0 0) r) (run E counters steps n).trace
      × ((r' : List ℕ) → find (table_of E t).keys (table_of E t).rows key ≡ Some r' → r ≡ r')
      × (find (table_of E t).keys (table_of E t).rows key ≡ None → In (asks (here k 0 0) t key r) (run E counters steps n).trace)

  -- a predicted row
  answer_made : (n k t : ℕ) (key : List ℕ) {z : State} → run E counters steps (suc k) ≡ z → ((x : Event) → In x z.trace → In x (run E counters steps n).trace) → (new : Bool) (r : List ℕ) (s' : State) → s'.answers ≡ (run E counters steps k).answers
      → z ≡ answers (here k 0 0) E t key new r s' → find (table_of E t).keys (table_of E t).rows key ≡ None → Answered n k t key
  answer_made n k t key {z} e noted new r s' same q none' = (
    new,
    r,
    ap (λ x. x.answers) (e ∙ q) ∙ old new,
    noted _ (subst (λ x. In (took (here k 0 0) r) x.trace) (sym q) (0, refl)),
    (λ r' h. absurd (none_some (sym none' ∙ h))),
    (λ _. noted _ (subst (λ x. In (asks (here k 0 0) t key r) x.trace) (sym q) (1, refl))),
  )
    where
      old : (b : Bool) → predicted new r ∷ (when b change s').answers ≡ predicted new r ∷ (run E counters steps k).answers
      old true = ap (λ l. predicted new r ∷ l) same
      old false = ap (λ l. predicted new r ∷ l) same

  pub answers_noted : AnswersNoted E counters steps
  answers_noted n k t key vs is g lt =
      let s : State = frame (λ _. None) [] [] (run E counters steps k) in
      let z : State = predict E (here k 0 0) t key vs s in
      let g₀ : (run E counters steps k).status ≡ going = T-going _ ((run_grows E counters steps k (suc k) (omega arith)).goes (going_T g)) in
      let e : run E counters steps (suc k) ≡ z = stepped E counters steps k t key vs is g₀ n lt in
      let gz : Going z = subst Going e (going_T g) in
      let noted : (x : Event) → In x z.trace → In x (run E counters steps n).trace = row_noted E counters steps k t key vs is g₀ n lt in
      either
      (λ p. (false, p.0, ap (λ x. x.answers) (e ∙ p.2), noted _ (subst (λ x. In (took (here k 0 0) p.0) x.trace) (sym p.2) (0, refl)), (λ r' q. some_inj (sym p.1 ∙ q)), (λ q. absurd (none_some (sym q ∙ p.1)))))
      (λ p. either (λ q. either (λ y. answer_made n k t key e noted false q.0 s refl y.1 p.0) (λ y. answer_made n k t key e noted true q.0 (logged (row_of (here k 0 0) E s t q.0) (note (reads (here k 0 0) q.0) (with_counters y.0 s))) refl y.3 p.0) q.1) (λ q. absurd ((cut_unlogged (here k 0 0) E s (λ _. None) t key vs z q).0 gz)) p.1)
      (predict_went (here k 0 0) E s t key vs (going_unstuck z gz))

  -- ## Masks

  finish_notes : (k : ℕ) (d : Option ℕ) (s : State) → Going (finish k d s) → In (mask k (finish k d s).live) (finish k d s).trace
  unfolding finish
  finish_notes k d s = when_cases (λ z. Going z → In (mask k z.live) z.trace) (is_going s.status) _ s (λ _ _. bound d) (λ t g. absurd (T_not (is_going s.status) t g))
    where
      bound : (d : Option ℕ) → In (mask k (bind_out d s).live) (mask k s.live ∷ (bind_out d s).trace)
      bound None = (0, refl)
      bound (Some x) = (0, refl)

  -- the mask before instruction j is noted as soon as the batch comes to it
  mask_there : (k r lanes : ℕ) (columns : List (List ℕ)) (j : ℕ) → let s : State = before E counters steps k r lanes columns j in Going s → In (mask k s.live) s.trace
  unfolding instructions instruction begin
  mask_there k r lanes columns zero g = (0, refl)
  mask_there k r lanes columns (suc j) g =
      let s : State = before E counters steps k r lanes columns j in
      let P : State → Type 0 = λ z. Going z → In (mask k z.live) z.trace in
      found_ind P (slice_get (rule_at E.rules r).instrs j) (λ ins. instruction E k j ins s) (λ _. s)
      (λ ins _. when_ind P (is_going s.status && any_live s.live) _ s (λ _. finish_notes k (dst_of ins) (body E k j ins (clear s))) (mask_there k r lanes columns j))
      (λ _. mask_there k r lanes columns j) g

  pub masks_noted : MasksNoted E counters steps
  masks_noted n k r lanes columns is g lt j le going' =
      newer_in _ (before E counters steps k r lanes columns j).trace (run E counters steps n).trace (batch_grows E counters steps k r lanes columns is g j le n lt).trace (mask_there k r lanes columns j (going_T going'))

  -- ## The log

  pub records_noted : RecordsNoted E counters steps
  unfolding run
  records_noted n m r e = let a = run_grows E counters steps 0 n (omega arith) in All-at (RecordNoted (run E counters steps n).trace) a.log.0 m a.noted (sym (ap (λ l. slice_get l m) a.log.1) ∙ e)
