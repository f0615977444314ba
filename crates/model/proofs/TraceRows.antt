-- The committed row that a live lane's lookup finds is taken, if the machine is not stuck after the lanes' part.
use Prim.Native.Nat.{ℕ}
use mathlib.Core.Path.{◌≡◌, sym, ap, ◌∙◌, subst}
use mathlib.Core.Bool.{false}
use Rattle.std.specs.Prelude.{None, Some}
use mathlib.Core.List.{List}
use lib.Dec.{T}
use lib.ListN.{length, get_or, length-replicate}
use Rattle.model.specs.Book.Syntax.{QueryEntry, Instr, LookupOrInsertDefault, LookupWithDefault, Lookup, LookupWithFallback, Insert, InsertIfEq, Remove, External, ExternalWithFallback, AssertEq, AssertNe, AssertAnyNe, ReadCounter}
use Rattle.model.specs.Machine.State.{State, Site, is_going, Env, lose}
use Rattle.model.specs.Machine.Values.{values_of, find}
use Rattle.model.specs.Machine.Steps.{here, table_of, wait, clear, lanes, missed, lookup, take_default, body}
use Rattle.model.specs.Claims.Trace.{LookupAt, lookup_of}
use Rattle.model.specs.Laws.Logic.{none_some, some_inj, either}
use Rattle.model.proofs.Grown.{Going, Unstuck}
use Rattle.model.proofs.TraceTurns.{Turn, Quiet}
use Rattle.model.proofs.Idle.{missed_idle}
use Rattle.model.proofs.TracePasses.{missed_past}
use Rattle.model.proofs.TraceEnds.{default_on, looks_go}
use Rattle.model.proofs.TraceBodies.{Took, took_later, look_turn, first_turn_lem, call_turn, Served, serve_turn, looked}

-- lane i is live in s₀, where the instruction begins, and its key has the row r
module _ (E : Env) (k j : ℕ) (s₀ : State) (g₀ : Going s₀) (i : ℕ) (l : T (get_or s₀.live i false)) (key r : List ℕ) where
  abbrev o : Site
  o = here k j i

  abbrev s : State
  s = clear s₀

  abbrev Finds : LookupAt → Type 0
  Finds f = (values_of s.bindings i f.key ≡ Some key) × (find (table_of E f.table).keys (table_of E f.table).rows key ≡ Some r)

  look_took : (t : ℕ) (args : List QueryEntry) (col : ℕ) (miss : ℕ → State → State) → ((x : ℕ) (s : State) → Going s → Unstuck (miss x s) → Going (miss x s))
      → (h : (x : ℕ) (s : State) → Turn (here k j x) Quiet s (lookup E (here k j x) t args col (miss x) s)) → (values_of s.bindings i args ≡ Some key) × (find (table_of E t).keys (table_of E t).rows key ≡ Some r)
      → Unstuck (lanes (λ x. lookup E (here k j x) t args col (miss x)) s) → Took o col r (lanes (λ x. lookup E (here k j x) t args col (miss x)) s)
  look_took t args col miss on h p u = either
      (λ q. subst (λ y. Took o col y (lanes (λ x. lookup E (here k j x) t args col (miss x)) s)) (some_inj (sym q.1 ∙ p.1)) q.2.0)
      (λ q. absurd (none_some (sym q.0 ∙ p.1)))
      (looked E k j t args col miss h s (length-replicate (length s₀.live) None) i l key p.0 (looks_go E k j t args col miss on s g₀ u))

  -- a lane that took its dst keeps it while missed lanes are served
  then_took : (t : ℕ) (args : List QueryEntry) (col : ℕ) (f : ℕ → State → State) (A : ℕ → State → ℕ → List ℕ → Type 0) → ((x : ℕ) (s : State) → Turn (here k j x) (A x s) s (f x s))
      → (values_of s.bindings i args ≡ Some key) × (find (table_of E t).keys (table_of E t).rows key ≡ Some r)
      → let z : State = lanes (λ x. lookup E (here k j x) t args col wait) s in Unstuck (missed f z) → Took o col r (missed f z)
  then_took t args col f A h p u =
      let z : State = lanes (λ x. lookup E (here k j x) t args col wait) s in
      let w = look_took t args col (λ _. wait) (λ _ _ g _. g) (look_turn E k j t args col) p (λ q. u (ap (λ y. y.status) (missed_idle f z (ap is_going q)) ∙ q)) in
      took_later w (missed_past k j f A h z i w.word w.dst)

  abbrev part : Instr → State
  part ins = body E k j ins s

  pub part_took : (ins : Instr) (f : LookupAt) → lookup_of ins ≡ Some f → Unstuck (part ins) → Finds f → Took o f.col r (part ins)
  unfolding lookup_of body
  part_took (LookupOrInsertDefault t args vs col dst) f e u = subst (λ y. Finds y → Took o y.col r (part (LookupOrInsertDefault t args vs col dst))) (some_inj e) (λ p. then_took t args col _ (Served E k j dst t args) (serve_turn E k j dst t args vs col) p u)
  part_took (LookupWithDefault t args col dst x) f e u = subst (λ y. Finds y → Took o y.col r (part (LookupWithDefault t args col dst x))) (some_inj e) (λ p. look_took t args col (λ i. take_default (here k j i) x) (λ i z g. default_on (here k j i) z g x) (first_turn_lem E k j (LookupWithDefault t args col dst x)) p u)
  part_took (Lookup t args col dst) f e u = subst (λ y. Finds y → Took o y.col r (part (Lookup t args col dst))) (some_inj e) (λ p. look_took t args col (λ i. lose i) (λ _ _ g _. g) (first_turn_lem E k j (Lookup t args col dst)) p u)
  part_took (LookupWithFallback t key' c args col dst) f e u = subst (λ y. Finds y → Took o y.col r (part (LookupWithFallback t key' c args col dst))) (some_inj e) (λ p. then_took t key' col _ (λ _ _. Quiet) (call_turn E k j 0 dst c args) p u)
  part_took (Insert t vals) f e u = absurd (none_some e)
  part_took (InsertIfEq t x y vals) f e u = absurd (none_some e)
  part_took (Remove t args) f e u = absurd (none_some e)
  part_took (External c args dst) f e u = absurd (none_some e)
  part_took (ExternalWithFallback f1 args1 f2 args2 dst) f e u = absurd (none_some e)
  part_took (AssertEq x y) f e u = absurd (none_some e)
  part_took (AssertNe x y) f e u = absurd (none_some e)
  part_took (AssertAnyNe d ops) f e u = absurd (none_some e)
  part_took (ReadCounter c dst) f e u = absurd (none_some e)
