-- What the code leaves of each instruction, and of a rule's instructions, is what the machine leaves.
use Prim.Native.Nat.{ℕ, zero, suc, ◌<◌, ◌≤◌}
use Rattle.std.specs.Prelude.{◌≡◌, Bool, true, false, ◌&&◌, Some, slice_get, None}
use Rattle.std.proofs.Math.Path.{refl, ap, subst}
use Rattle.std.proofs.Common.{sym, ◌∙◌, arith}
use Rattle.std.proofs.Math.Dec.{leb}
use mathlib.Core.List.{List}
use Rattle.model.specs.Machine.State.{State, Answer, going, is_going}
use Rattle.model.specs.Machine.Steps.{body, clear, any_live, finish, instruction, instructions}
use Rattle.ids.specs.declared.TableId.{TableId}
use Rattle.ids.specs.declared.ColumnId.{ColumnId}
use Rattle.ids.specs.declared.Variable.{Variable}
use Rattle.ids.specs.declared.ExternalFunctionId.{ExternalFunctionId}
use Rattle.instr.specs.declared.QueryEntry.{QueryEntry}
use Rattle.mask.specs.Masks.{padded}
use Rattle.bindings.specs.Columns.{columns_of}
use Rattle.instr.specs.declared.Entries.{Entries}
use Rattle.instr.specs.declared.Instr.{Instr}
use Rattle.instr.specs.declared.Instr.TheVariants.{LookupOrInsertDefault, LookupWithDefault, Lookup, LookupWithFallback, Insert, InsertIfEq, Remove, External, ExternalWithFallback, AssertEq, AssertNe, AssertAnyNe, ReadCounter}
use Rattle.instr.specs.Meaning.{instr_of}
use Rattle.lanes.specs.declared.Ask.TheVariants.{Entry as AskEntry}
use Rattle.lanes.specs.LaneLaws.{asked_entry}
use Rattle.lanes.specs.Lanes.{asked, is_some}
use Rattle.action.specs.Act.{Lanes, acted, row_ask}
use Rattle.simulation.specs.Represents.{machine, LogIs, Follows, sticks, stops, goes, not_going}
use Rattle.simulation.specs.Passes.{Start, start_clear}
use Rattle.simulation.specs.Reading.{lookup_default, lookup_fallback, external_fallback}
use Rattle.simulation.specs.Fits.{Fits}
use Rattle.model.specs.Basics.{when, found}
use Rattle.model.specs.Book.Syntax.{dst_of}
use Rattle.model.specs.Laws.Turns.{when_T, when_F}
use Rattle.mask.specs.MaskLaws.{any_padded}
use Rattle.instr.specs.Instr.{instr_at}
use Rattle.instr.specs.InstrLaws.{instr_at_lem}
use Rattle.instr.specs.Stands.{binds_of}
use Rattle.execution.specs.Execution.{RunState, is_going as code_goes}
use Rattle.action.specs.Run.{Running, finished, ran_instr, ran_next, ran_instrs}
use Rattle.simulation.specs.Bodies.{LanesAre, begins, read_only, given_all, ins_1, ins_3, ins_5, ins_6, ins_7, ins_8, ins_10, ins_11, ins_12, ins_13}
use Rattle.simulation.specs.Batches.{left_is, still, halted, BatchIs}
use Rattle.model.specs.Book.Syntax as syntax
use Rattle.model.specs.Book.Decode as decode
use Rattle.simulation.specs.Bodies as bodies
use Rattle.simulation.specs.Batches as batches

-- ## The instructions

module _ (w : List ℕ) (L : ℕ) (s : State) (start : Start s) (x : RunState) (log index : List ℕ) (on : x.stop ≡ None) (is : LogIs w L s.log s.counters s.changed x log index) where
  abbrev m : List ℕ
  m = columns_of s.bindings

  module _ (k j : ℕ) where
    abbrev ran : Instr → State
    ran i = bodies.ran w L s start x log index on is k j i

    abbrev left : Instr → Lanes
    left i = bodies.left w L s start x log index on is k j i

    abbrev Lanewise : Instr → Type 0
    Lanewise i = bodies.Lanewise w L s start x log index on is k j i

    ins_2 : (table : TableId) (args : Entries) (col : ColumnId) (dst : Variable) (e : QueryEntry) → Fits w (LookupWithDefault table args col dst e) → Lanewise (LookupWithDefault table args col dst e)
    unfolding acted asked
    ins_2 table args col dst e f =
        subst (λ (live : List Bool). Follows s (ran (LookupWithDefault table args col dst e)) x.stop (LanesAre w L s (ran (LookupWithDefault table args col dst e)) (record { live = live; state = x; log = log; index = index; out = (left (LookupWithDefault table args col dst e)).out })))
        (sym (given_all w L s start x log index on is k j (asked w m (row_ask w table args col)) (asked w m (AskEntry e)) (λ i. ap is_some (asked_entry w m e i))))
        (read_only w L s start x log index on is (ran (LookupWithDefault table args col dst e)) (padded s.live) (left (LookupWithDefault table args col dst e)).out (lookup_default w (λ n. leb n L) k j s start table args col dst e f.0.known f.1 f.2))

    ins_4 : (table : TableId) (key : Entries) (func : ExternalFunctionId) (args : Entries) (col : ColumnId) (dst : Variable) → Fits w (LookupWithFallback table key func args col dst) → Lanewise (LookupWithFallback table key func args col dst)
    unfolding acted
    ins_4 table key func args col dst f = read_only w L s start x log index on is _ _ _ (lookup_fallback w (λ n. leb n L) k j s start table key func args col dst f.0.known f.1 f.2)

    ins_9 : (f1 : ExternalFunctionId) (args1 : Entries) (f2 : ExternalFunctionId) (args2 : Entries) (dst : Variable) → Fits w (ExternalWithFallback f1 args1 f2 args2 dst) → Lanewise (ExternalWithFallback f1 args1 f2 args2 dst)
    unfolding acted
    ins_9 f1 args1 f2 args2 dst f = read_only w L s start x log index on is _ _ _ (external_fallback w (λ n. leb n L) k j s start f1 args1 f2 args2 dst f.0 f.1)

    pub body_follows : L ≤ 16384 → (i : Instr) → Fits w i → Lanewise i
    body_follows short (LookupOrInsertDefault table args vals col dst) f = ins_1 w L s start x log index on is k j short table args vals col dst f
    body_follows short (LookupWithDefault table args col dst e) f = ins_2 table args col dst e f
    body_follows short (Lookup table args col dst) f = ins_3 w L s start x log index on is k j table args col dst f
    body_follows short (LookupWithFallback table key func args col dst) f = ins_4 table key func args col dst f
    body_follows short (Insert table vals) f = ins_5 w L s start x log index on is k j table vals f
    body_follows short (InsertIfEq table a b vals) f = ins_6 w L s start x log index on is k j table a b vals f
    body_follows short (Remove table args) f = ins_7 w L s start x log index on is k j table args f
    body_follows short (External func args dst) f = ins_8 w L s start x log index on is k j func args dst f
    body_follows short (ExternalWithFallback f1 args1 f2 args2 dst) f = ins_9 f1 args1 f2 args2 dst f
    body_follows short (AssertEq a b) f = ins_10 w L s start x log index on is k j a b f
    body_follows short (AssertNe a b) f = ins_11 w L s start x log index on is k j a b f
    body_follows short (AssertAnyNe ops d) f = ins_12 w L s start x log index on is k j ops d f
    body_follows short (ReadCounter c dst) f = ins_13 w L s start x log index on is k j c dst f

module _ (w : List ℕ) (L : ℕ) (short : L ≤ 16384) (answers : List Answer) where
  -- ## One instruction

  module _ (k j : ℕ) (s : State) (r : Running) (a : s.status ≡ going) (o : r.batch.state.stop ≡ None) (b : BatchIs w L answers s r) (i : Instr) (f : Fits w i) where
    abbrev s₁ : State
    s₁ = clear s

    abbrev s₂ : State
    s₂ = body (machine w L) k j (instr_of w i) s₁

    instr_follows : let s' : State = finish k (dst_of (instr_of w i)) s₂ in Follows s s' (ran_instr w i r).batch.state.stop (BatchIs w L answers s' (ran_instr w i r))
    unfolding ran_instr
    instr_follows = subst (λ (l : Lanes). let s' : State = finish k (dst_of (instr_of w i)) s₂ in Follows s s' l.state.stop (BatchIs w L answers s' (finished (binds_of i) l r))) (sym (left_is w L short answers k j s r a o b i f))
        (batches.ended w L short answers k j s r a o b i f (body_follows w L s₁ (start_clear s a b.few) r.batch.state r.log r.index o b.is k j short i f))

  -- ## The instructions of a rule

  -- instruction j of the rule, which stands at p
  next_follows : (k j p : ℕ) (s : State) (r : Running) → s.status ≡ going → r.batch.state.stop ≡ None → BatchIs w L answers s r → Fits w (instr_at w p)
      → let s' : State = instruction (machine w L) k j (decode.instr_at w p) s in Follows s s' (ran_next w p r).batch.state.stop (BatchIs w L answers s' (ran_next w p r))
  unfolding instruction ran_next
  next_follows k j p s r a o b f = by (any_live s.live) refl
    where
      act : State → State
      act s' = finish k (dst_of (decode.instr_at w p)) (body (machine w L) k j (decode.instr_at w p) (clear s'))

      code_live : (q : Bool) → any_live s.live ≡ q → code_goes r.batch.state && any_live r.batch.mask.live ≡ q
      code_live q e = rw o (ap any_live b.live ∙ any_padded s.live ∙ e)

      by : (q : Bool) → any_live s.live ≡ q → let s' : State = when (is_going s.status && any_live s.live) act s in let r' : Running = when (code_goes r.batch.state && any_live r.batch.mask.live) (ran_instr w (instr_at w p)) r in Follows s s' r'.batch.state.stop (BatchIs w L answers s' r')
      by true e =
          let m : when (is_going s.status && any_live s.live) act s ≡ act s = when_T (is_going s.status && any_live s.live) act s (rw (a, e)) in
          let c : when (code_goes r.batch.state && any_live r.batch.mask.live) (ran_instr w (instr_at w p)) r ≡ ran_instr w (instr_at w p) r = when_T (code_goes r.batch.state && any_live r.batch.mask.live) (ran_instr w (instr_at w p)) r (code_live true e) in
          subst (λ (s' : State). let r' : Running = when (code_goes r.batch.state && any_live r.batch.mask.live) (ran_instr w (instr_at w p)) r in Follows s s' r'.batch.state.stop (BatchIs w L answers s' r')) (sym m)
          (subst (λ (r' : Running). Follows s (act s) r'.batch.state.stop (BatchIs w L answers (act s) r')) (sym c)
          (subst (λ (ins : syntax.Instr). let s' : State = finish k (dst_of ins) (body (machine w L) k j ins (clear s)) in Follows s s' (ran_instr w (instr_at w p) r).batch.state.stop (BatchIs w L answers s' (ran_instr w (instr_at w p) r))) (instr_at_lem w p) (instr_follows k j s r a o b (instr_at w p) f)))
      by false e =
          let m : when (is_going s.status && any_live s.live) act s ≡ s = when_F (is_going s.status && any_live s.live) act s (rw (a, e)) in
          let c : when (code_goes r.batch.state && any_live r.batch.mask.live) (ran_instr w (instr_at w p)) r ≡ r = when_F (code_goes r.batch.state && any_live r.batch.mask.live) (ran_instr w (instr_at w p)) r (code_live false e) in
          subst (λ (s' : State). let r' : Running = when (code_goes r.batch.state && any_live r.batch.mask.live) (ran_instr w (instr_at w p)) r in Follows s s' r'.batch.state.stop (BatchIs w L answers s' r')) (sym m)
          (subst (λ (r' : Running). Follows s s r'.batch.state.stop (BatchIs w L answers s r')) (sym c) (goes a o b))

  -- n of them, of the rule whose body begins at the word `at`
  module _ (k at : ℕ) (n : ℕ) (fit : (j : ℕ) → j < n → Fits w (instr_at w (decode.instr_place w at j))) (rule : syntax.Rule) (its : (j : ℕ) → j < n → slice_get rule.instrs j ≡ Some (decode.instr_at w (decode.instr_place w at j))) (s₀ : State) (r₀ : Running) (a : s₀.status ≡ going) (o : r₀.batch.state.stop ≡ None) (b : BatchIs w L answers s₀ r₀) where
    pub instrs_follow : (m : ℕ) → m ≤ n → let s : State = instructions (machine w L) k rule m s₀ in let r : Running = ran_instrs w at m r₀ in Follows s₀ s r.batch.state.stop (BatchIs w L answers s r)
    unfolding instructions ran_instrs
    instrs_follow zero h = goes a o b
    instrs_follow (suc m) h = by (instrs_follow m (omega arith))
      where
        s : State
        s = instructions (machine w L) k rule m s₀

        r : Running
        r = ran_instrs w at m r₀

        p : ℕ
        p = decode.instr_place w at m

        next : State
        next = instruction (machine w L) k m (decode.instr_at w p) s

        Goal : State → Running → Type 0
        Goal s' r' = Follows s₀ s' r'.batch.state.stop (BatchIs w L answers s' r')

        taken : found (slice_get rule.instrs m) (λ ins. instruction (machine w L) k m ins s) (λ _. s) ≡ next
        taken = rw (its m (omega arith))

        chain : BatchIs w L answers s r → Follows s next (ran_next w p r).batch.state.stop (BatchIs w L answers next (ran_next w p r)) → Goal next (ran_next w p r)
        chain q (sticks x) = sticks x
        chain q (stops x y z) = stops x y (z ∙ q.answered ∙ sym b.answered)
        chain q (goes x y z) = goes x y z

        by : Follows s₀ s r.batch.state.stop (BatchIs w L answers s r) → Goal (found (slice_get rule.instrs m) (λ ins. instruction (machine w L) k m ins s) (λ _. s)) (ran_next w p r)
        by (sticks x) = subst (λ (s' : State). Goal s' (ran_next w p r)) (sym taken) (sticks (ap (λ (t : State). t.status) (still w L short answers k m (decode.instr_at w p) s (ap is_going x)) ∙ x))
        by (stops x y z) = subst (λ (s' : State). Goal s' (ran_next w p r)) (sym taken) (subst (λ (r' : Running). Goal next r') (sym (halted w L short answers p r x)) (let e = still w L short answers k m (decode.instr_at w p) s (not_going r.batch.state.stop s.status x y) in stops x (ap (λ (t : State). t.status) e ∙ y) (ap (λ (t : State). t.answers) e ∙ z)))
        by (goes x y q) = subst (λ (s' : State). Goal s' (ran_next w p r)) (sym taken) (chain q (next_follows k m p s r x y q (fit m (omega arith))))
