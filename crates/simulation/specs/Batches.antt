-- A batch that goes on, in the code and in the machine, and the end of an instruction; `proofs/Instructions` goes from its start to its end.
use Prim.Native.Nat.{ℕ, suc, ◌≤◌}
use Rattle.std.specs.Prelude.{◌≡◌, Bool, true, false, ◌&&◌, ◌||◌, List, [], ◌∷◌, map, eqb, length, take, replicate, Option, None, Some}
use Rattle.std.proofs.Math.Path.{refl, subst}
use Rattle.std.proofs.Common.{sym, ap, ◌∙◌, arith}
use Rattle.std.proofs.Math.Bool.{or-false}
use Rattle.model.specs.Basics.{found, only}
use Rattle.model.specs.Book.Syntax.{dst_of, stale}
use Rattle.model.specs.Book.Syntax as syntax
use Rattle.model.specs.Machine.State.{State, Answer, going, is_going, mask, note}
use Rattle.model.specs.Machine.Values.{bind}
use Rattle.model.specs.Machine.Steps.{or_stale, clear, bind_out, any_live, finish, body, instruction}
use Rattle.model.specs.Laws.Logic.{some_inj}
use Rattle.model.specs.Laws.Turns.{when_T, when_F}
use Rattle.mask.specs.Masks.{padded}
use Rattle.bound_vars.specs.Bound.{has}
use Rattle.bound_vars.specs.BoundLaws.{length_binding, has_binding}
use Rattle.bindings.specs.Columns.{columns_of, bound}
use Rattle.bindings.specs.BindingLaws.{bind_is}
use Rattle.instr.specs.declared.Instr.{Instr}
use Rattle.instr.specs.declared.Instr.TheVariants.{LookupOrInsertDefault, LookupWithDefault, Lookup, LookupWithFallback, Insert, InsertIfEq, Remove, External, ExternalWithFallback, AssertEq, AssertNe, AssertAnyNe, ReadCounter}
use Rattle.instr.specs.Instr.{instr_at}
use Rattle.instr.specs.Meaning.{instr_of}
use Rattle.instr.specs.Stands.{binds_of, IsVariable}
use Rattle.instr.specs.StandsLaws.{binds}
use Rattle.execution.specs.Execution.{goes_on, is_going as code_goes}
use Rattle.action.specs.Act.{Lanes, acted}
use Rattle.action.specs.Run.{Running, begun, finished, ran_instr, ran_next}
use Rattle.simulation.specs.Represents.{machine, LogIs, Follows, sticks, stops, goes, not_going}
use Rattle.simulation.specs.Passes.{start_clear}
use Rattle.simulation.specs.Fits.{Fits}
use Rattle.simulation.specs.Bodies.{LanesAre, begins}

abbrev pub is_bound : Option (List ℕ) → Bool
is_bound o = found o (λ _. true) (λ _. false)

-- a batch that goes on, in the machine and in the code; `answers` are those of the steps before it
pub record BatchIs (w : List ℕ) (L : ℕ) (answers : List Answer) (s : State) (r : Running) : Type 0 where
  pub is : LogIs w L s.log s.counters s.changed r.batch.state r.log r.index
  pub lanes : r.batch.bindings.matches ≡ length s.live
  pub few : length s.live ≤ 256
  pub live : r.batch.mask.live ≡ padded s.live
  pub bindings : r.bindings ≡ columns_of s.bindings
  pub known : length r.batch.bindings.bound.known ≡ 32
  pub bound_is : (v : ℕ) → has r.batch.bindings.bound v ≡ is_bound (s.bindings v)
  pub columns : (v : ℕ) (c : List ℕ) → s.bindings v ≡ Some c → length c ≡ length s.live
  pub answered : s.answers ≡ answers

fits_variable : (w : List ℕ) (i : Instr) → Fits w i → IsVariable (binds_of i)
fits_variable w (LookupOrInsertDefault table args vals col dst) f = f.3
fits_variable w (LookupWithDefault table args col dst e) f = f.3
fits_variable w (Lookup table args col dst) f = f.2
fits_variable w (LookupWithFallback table key func args col dst) f = f.3
fits_variable w (Insert table vals) f = tt
fits_variable w (InsertIfEq table a b vals) f = tt
fits_variable w (Remove table args) f = tt
fits_variable w (External func args dst) f = f.1
fits_variable w (ExternalWithFallback f1 args1 f2 args2 dst) f = f.2
fits_variable w (AssertEq a b) f = tt
fits_variable w (AssertNe a b) f = tt
fits_variable w (AssertAnyNe ops d) f = tt
fits_variable w (ReadCounter c dst) f = f.1

length_map : (out : List (Option ℕ)) → length (map or_stale out) ≡ length out
length_map [] = refl
length_map (x ∷ out) = ap suc (length_map out)

module _ (w : List ℕ) (L : ℕ) (short : L ≤ 16384) (answers : List Answer) where
  -- ## The end of an instruction

  module _ (s : State) (r : Running) (b : BatchIs w L answers s r) (s₂ : State) (l : Lanes) (h : LanesAre w L (clear s) s₂ l) where
    finish_is : (dst : Option ℕ) → IsVariable dst → (k : ℕ) → BatchIs w L answers (note (mask k s₂.live) (bind_out dst s₂)) (finished dst l r)
    finish_is None v k = record {
      is = h.is;
      lanes = b.lanes ∙ sym h.lanes_size;
      few = omega (arith, h.lanes_size, b.few);
      live = h.live;
      bindings = b.bindings ∙ ap columns_of (sym h.bindings);
      known = b.known;
      bound_is = λ u. b.bound_is u ∙ ap (λ f. is_bound (f u)) (sym h.bindings);
      columns = λ u c e. b.columns u c (ap (λ f. f u) (sym h.bindings) ∙ e) ∙ sym h.lanes_size;
      answered = h.answers ∙ b.answered;
    }
    finish_is (Some d) v k = record {
      is = h.is;
      lanes = b.lanes ∙ sym h.lanes_size;
      few = omega (arith, h.lanes_size, b.few);
      live = h.live;
      bindings = ap (λ (m : List ℕ). bound d (take r.batch.bindings.matches l.out) m) b.bindings ∙ ap (λ (c : List ℕ). bound d c (columns_of s.bindings)) column ∙ bind_is s.bindings d (map or_stale s₂.out) v ∙ ap (λ f. columns_of (bind d (map or_stale s₂.out) f)) (sym h.bindings);
      known = length_binding (Some d) r.batch.bindings.bound b.known;
      bound_is = λ u. has_binding (Some d) r.batch.bindings.bound v b.known u ∙ ap (λ (q : Bool). q || eqb u d) (b.bound_is u) ∙ by u (eqb u d) ∙ ap (λ f. is_bound (bind d (map or_stale s₂.out) f u)) (sym h.bindings);
      columns = λ u c e. sized u c (eqb u d) refl e;
      answered = h.answers ∙ b.answered;
    }
      where
        column : take r.batch.bindings.matches l.out ≡ map or_stale s₂.out
        column = ap (λ (n : ℕ). take n l.out) b.lanes ∙ sym h.out

        by : (u : ℕ) (q : Bool) → is_bound (s.bindings u) || q ≡ is_bound (found (only q (Some (map or_stale s₂.out))) Some (λ _. s.bindings u))
        by u true = or_true' (is_bound (s.bindings u))
          where
            or_true' : (a : Bool) → a || true ≡ true
            or_true' true = refl
            or_true' false = refl
        by u false = or-false (is_bound (s.bindings u)) ∙ same (s.bindings u)
          where
            same : (o : Option (List ℕ)) → is_bound o ≡ is_bound (found (only false (Some (map or_stale s₂.out))) Some (λ _. o))
            same o = refl

        sized : (u : ℕ) (c : List ℕ) (q : Bool) → eqb u d ≡ q → found (only (eqb u d) (Some (map or_stale s₂.out))) Some (λ _. s₂.bindings u) ≡ Some c → length c ≡ length s₂.live
        sized u c true e z = ap length (sym (some_inj (rw e at z))) ∙ length_map s₂.out ∙ h.marks ∙ sym h.lanes_size
        sized u c false e z = b.columns u c (ap (λ f. f u) (sym h.bindings) ∙ rw e at z) ∙ sym h.lanes_size

  -- ## One instruction

  module _ (k j : ℕ) (s : State) (r : Running) (a : s.status ≡ going) (o : r.batch.state.stop ≡ None) (b : BatchIs w L answers s r) (i : Instr) (f : Fits w i) where
    abbrev s₁ : State
    s₁ = clear s

    abbrev left : Lanes
    left = acted w (columns_of s.bindings) i (begins w L s₁ (start_clear s a b.few) r.batch.state r.log r.index o b.is)

    abbrev s₂ : State
    s₂ = body (machine w L) k j (instr_of w i) s₁

    pub left_is : acted w r.bindings i (begun r) ≡ left
    left_is = ap (λ (m : List ℕ). acted w m i (begun r)) b.bindings ∙ ap (λ (live : List Bool). acted w (columns_of s.bindings) i (record { live = live; state = r.batch.state; log = r.log; index = r.index; out = replicate 256 stale })) b.live

    pub ended : Follows s₁ s₂ left.state.stop (LanesAre w L s₁ s₂ left) → Follows s (finish k (dst_of (instr_of w i)) s₂) left.state.stop (BatchIs w L answers (finish k (dst_of (instr_of w i)) s₂) (finished (binds_of i) left r))
    unfolding finish
    ended (sticks e) = sticks (ap (λ (t : State). t.status) (when_F (is_going s₂.status) _ s₂ (ap is_going e)) ∙ e)
    ended (stops x y z) =
        let e = when_F (is_going s₂.status) (λ s'. note (mask k s'.live) (bind_out (dst_of (instr_of w i)) s')) s₂ (not_going left.state.stop s₂.status x y) in
        stops x (ap (λ (t : State). t.status) e ∙ y) (ap (λ (t : State). t.answers) e ∙ z)
    ended (goes x y h) = subst (λ (t : State). Follows s t left.state.stop (BatchIs w L answers t (finished (binds_of i) left r))) (sym (when_T (is_going s₂.status) _ s₂ (ap is_going x)))
        (subst (λ (d : Option ℕ). Follows s (note (mask k s₂.live) (bind_out d s₂)) left.state.stop (BatchIs w L answers (note (mask k s₂.live) (bind_out d s₂)) (finished (binds_of i) left r))) (sym (binds w i))
        (goes (status (binds_of i)) y (finish_is s r b s₂ left h (binds_of i) (fits_variable w i f) k)))
      where
        status : (d : Option ℕ) → (bind_out d s₂).status ≡ going
        status None = x
        status (Some v) = x

  -- ## The instructions of a rule

  -- nothing happens to a machine or a code that has stopped
  pub still : (k j : ℕ) (ins : syntax.Instr) (s : State) → is_going s.status ≡ false → instruction (machine w L) k j ins s ≡ s
  unfolding instruction
  still k j ins s e = when_F (is_going s.status && any_live s.live) (λ s'. finish k (dst_of ins) (body (machine w L) k j ins (clear s'))) s (rw e)

  pub halted : (p : ℕ) (r : Running) → goes_on r.batch.state.stop ≡ false → ran_next w p r ≡ r
  unfolding ran_next
  halted p r e = when_F (code_goes r.batch.state && any_live r.batch.mask.live) (ran_instr w (instr_at w p)) r (rw e)
