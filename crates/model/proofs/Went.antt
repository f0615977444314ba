-- What a lane's turn came to if the machine is not stuck after it: the converse of `Turns`.
use Prim.Native.Nat.{ℕ, ◌+◌}
use mathlib.Core.Path.{◌≡◌, refl, ap, subst}
use mathlib.Core.Logic.{◌⊎◌, inl, inr}
use mathlib.Core.Bool.{Bool, true, false, ◌&&◌, not}
use Rattle.std.specs.Prelude.{None, Some, slice_get}
use mathlib.Core.List.{List, [], ◌∷◌, ◌++◌}
use lib.Dec.{eqb, leb}
use lib.ListN.{length, take, drop}
use Rattle.model.specs.Basics.{only, first, when}
use Rattle.model.specs.Book.Syntax.{Counter, QueryEntry, WriteVal, width}
use Rattle.model.specs.Machine.State.{State, Site, Record, reads, took, asks, spent, full, predicted, Bindings, Env, stop, note, give, lose, with_counters, change, reply, logged, log_words}
use Rattle.model.specs.Machine.Values.{hold, value_of, values_of, list_of, find, predicted_rows, Built, is_stuck, is_spent, built, build}
use Rattle.model.specs.Machine.Steps.{table_of, stage_new, row_start, predict_row, take_column, lookup, invoke, take_default, serve_missed, stage_list, read_pair, any_ne, assert_any_ne, predict}
use Rattle.model.specs.Laws.Logic.{found_ind, only_some, only_yes}
use Rattle.model.specs.Laws.Turns.{need_ind, room_ind}
use Rattle.model.proofs.Grown.{Going, Unstuck}

-- where the machine is not stuck, Q holds
abbrev If : (State → Type 0) → State → Type 0
If Q s = Unstuck s → Q s

module _ (o : Site) where
  pub column_went : (col : ℕ) (r : List ℕ) (s : State) → Unstuck (take_column o col r s)
      → (w : ℕ) × (slice_get r col ≡ Some w) × (take_column o col r s ≡ give o.lane w (note (took o r) s))
  unfolding take_column
  column_went col r s =
      need_ind (If (λ z. (w : ℕ) × (slice_get r col ≡ Some w) × (z ≡ give o.lane w (note (took o r) s)))) (slice_get r col) s _
      (λ u. absurd (u refl)) (λ w e g. (w, e, refl))

  module _ (s : State) where
    pub default_went : (e : QueryEntry) → Unstuck (take_default o e s)
        → (w : ℕ) × (value_of s.bindings o.lane e ≡ Some w) × (take_default o e s ≡ give o.lane w (note (reads o (w ∷ [])) s))
    unfolding take_default
    default_went e =
        need_ind (If (λ z. (w : ℕ) × (value_of s.bindings o.lane e ≡ Some w) × (z ≡ give o.lane w (note (reads o (w ∷ [])) s)))) (value_of s.bindings o.lane e) s _
        (λ u. absurd (u refl)) (λ w q g. (w, q, refl))

    pub pair_went : (l r : QueryEntry) (k : ℕ → ℕ → State → State) → Unstuck (read_pair o l r k s)
        → (a b : ℕ) × (value_of s.bindings o.lane l ≡ Some a) × (value_of s.bindings o.lane r ≡ Some b) × (read_pair o l r k s ≡ k a b (note (reads o (a ∷ b ∷ [])) s))
    unfolding read_pair
    pair_went l r k =
        let P : State → Type 0 = If (λ z. (a b : ℕ) × (value_of s.bindings o.lane l ≡ Some a) × (value_of s.bindings o.lane r ≡ Some b) × (z ≡ k a b (note (reads o (a ∷ b ∷ [])) s))) in
        need_ind P (value_of s.bindings o.lane l) s _ (λ u. absurd (u refl)) (λ a p. need_ind P (value_of s.bindings o.lane r) s _ (λ u. absurd (u refl)) (λ b q g. (a, b, p, q, refl)))

    pub any_went : (d : ℕ) (ops : List QueryEntry) → Unstuck (assert_any_ne o d ops s)
        → (ws : List ℕ) × (values_of s.bindings o.lane ops ≡ Some ws) × (assert_any_ne o d ops s ≡ when (not (any_ne (take d ws) (drop d ws))) (lose o.lane) (note (reads o ws) s))
    unfolding assert_any_ne
    any_went d ops =
        need_ind (If (λ z. (ws : List ℕ) × (values_of s.bindings o.lane ops ≡ Some ws) × (z ≡ when (not (any_ne (take d ws) (drop d ws))) (lose o.lane) (note (reads o ws) s))))
        (only (leb d (length ops)) (values_of s.bindings o.lane ops)) s _
        (λ u. absurd (u refl)) (λ ws e g. (ws, (only_some (leb d (length ops)) (values_of s.bindings o.lane ops) e).1, refl))

  module _ (E : Env) where
    module _ (s : State) where
      -- a row that has the key, and its column; or a miss
      pub look_went : (t : ℕ) (args : List QueryEntry) (col : ℕ) (miss : State → State) → Unstuck (lookup E o t args col miss s)
          → (key : List ℕ) × (list_of s.bindings o.lane (table_of E t).keys args ≡ Some key)
          × (((r : List ℕ) × (w : ℕ) × (find (table_of E t).keys (table_of E t).rows key ≡ Some r) × (slice_get r col ≡ Some w) × (lookup E o t args col miss s ≡ give o.lane w (note (took o r) (note (reads o key) s))))
          ⊎ ((find (table_of E t).keys (table_of E t).rows key ≡ None) × (lookup E o t args col miss s ≡ miss (note (reads o key) s))))
      unfolding lookup
      look_went t args col miss =
          let P : State → Type 0 = If (λ z. (key : List ℕ) × (list_of s.bindings o.lane (table_of E t).keys args ≡ Some key)
          × (((r : List ℕ) × (w : ℕ) × (find (table_of E t).keys (table_of E t).rows key ≡ Some r) × (slice_get r col ≡ Some w) × (z ≡ give o.lane w (note (took o r) (note (reads o key) s))))
          ⊎ ((find (table_of E t).keys (table_of E t).rows key ≡ None) × (z ≡ miss (note (reads o key) s))))) in
          need_ind P (list_of s.bindings o.lane (table_of E t).keys args) s _ (λ u. absurd (u refl)) (λ key e.
          found_ind P (find (table_of E t).keys (table_of E t).rows key) _ _
          (λ r f g. let c = column_went col r (note (reads o key) s) g in (key, e, inl (r, c.0, f, c.1, c.2)))
          (λ f g. (key, e, inr (f, refl))))

      pub call_went : (c : ℕ) (held : Bindings → Bindings) (f : ℕ) (args : List QueryEntry) (miss : State → State) → Unstuck (invoke E o c held f args miss s)
          → (ws : List ℕ) × (list_of (held s.bindings) o.lane (E.arity f) args ≡ Some ws)
          × (((w : ℕ) × (E.answer o c f ws ≡ Some w) × (invoke E o c held f args miss s ≡ give o.lane w (note (reads o ws) s)))
          ⊎ ((E.answer o c f ws ≡ None) × (invoke E o c held f args miss s ≡ miss (note (reads o ws) s))))
      unfolding invoke
      call_went c held f args miss =
          let P : State → Type 0 = If (λ z. (ws : List ℕ) × (list_of (held s.bindings) o.lane (E.arity f) args ≡ Some ws)
          × (((w : ℕ) × (E.answer o c f ws ≡ Some w) × (z ≡ give o.lane w (note (reads o ws) s))) ⊎ ((E.answer o c f ws ≡ None) × (z ≡ miss (note (reads o ws) s))))) in
          need_ind P (list_of (held s.bindings) o.lane (E.arity f) args) s _ (λ u. absurd (u refl)) (λ ws e.
          found_ind P (E.answer o c f ws) _ _ (λ w a g. (ws, e, inl (w, a, refl))) (λ a g. (ws, e, inr (a, refl))))

      -- logged, if there is room
      pub list_went : (kind t n : ℕ) (vals : List QueryEntry) → Unstuck (stage_list E o kind t n vals s)
          → let r : List ℕ → Record = λ ws. record { site = o; kind = kind; table = t; words = ws } in
          (ws : List ℕ) × (list_of s.bindings o.lane n vals ≡ Some ws)
          × ((stage_list E o kind t n vals s ≡ logged (r ws) (change (note (reads o ws) s))) ⊎ (stage_list E o kind t n vals s ≡ stop full (change (note (reads o ws) s))))
      unfolding stage_list
      list_went kind t n vals =
          let r : List ℕ → Record = λ ws. record { site = o; kind = kind; table = t; words = ws } in
          let P : State → Type 0 = If (λ z. (ws : List ℕ) × (list_of s.bindings o.lane n vals ≡ Some ws) × ((z ≡ logged (r ws) (change (note (reads o ws) s))) ⊎ (z ≡ stop full (change (note (reads o ws) s))))) in
          need_ind P (list_of s.bindings o.lane n vals) s _ (λ u. absurd (u refl)) (λ ws e.
          room_ind P (E.room (log_words (s.log ++ (r ws ∷ [])))) _ _ _ (λ u. (ws, e, inl refl)) (λ u. (ws, e, inr refl)))

      -- ## Predicted rows

      abbrev pub row_of : ℕ → List ℕ → Record
      row_of t r = record { site = o; kind = 2; table = t; words = r }

      -- the row is there already, or it is built and logged; k goes on with it
      abbrev pub RowWent : Bindings → ℕ → List ℕ → List WriteVal → (Bool → List ℕ → State → State) → State → Type 0
      RowWent b t key vs k z = (r : List ℕ) ×
          (((first (predicted_rows (table_of E t).keys t key s.log) ≡ Some r) × (z ≡ k false r s))
          ⊎ ((cs : List Counter) × (first (predicted_rows (table_of E t).keys t key s.log) ≡ None) × (build b o.lane vs (built key s.counters) ≡ built r cs) × (z ≡ k true r (logged (row_of t r) (note (reads o r) (with_counters cs s))))))

      -- or there is none, and a counter is spent, or the row that is built has no room
      abbrev pub RowCut : Bindings → ℕ → List ℕ → List WriteVal → State → Type 0
      RowCut b t key vs z = (first (predicted_rows (table_of E t).keys t key s.log) ≡ None) × (((build b o.lane vs (built key s.counters) ≡ is_spent) × (z ≡ stop spent s))
          ⊎ ((r : List ℕ) × (cs : List Counter) × (build b o.lane vs (built key s.counters) ≡ built r cs) × (z ≡ stop full (note (reads o r) (with_counters cs s)))))

      -- in both cases the run has stopped, and nothing is logged
      pub cut_unlogged : (b : Bindings) (t : ℕ) (key : List ℕ) (vs : List WriteVal) (z : State) → RowCut b t key vs z → (Going z → ⊥) × (z.log ≡ s.log)
      cut_unlogged b t key vs z (n, inl (q, e)) = (λ g. subst Going e g, ap (λ x. x.log) e)
      cut_unlogged b t key vs z (n, inr (r, cs, q, e)) = (λ g. subst Going e g, ap (λ x. x.log) e)

      pub row_went : (b : Bindings) (t : ℕ) (key : List ℕ) (vs : List WriteVal) (k : Bool → List ℕ → State → State) → Unstuck (predict_row E o b t key vs s k)
          → RowWent b t key vs k (predict_row E o b t key vs s k) ⊎ RowCut b t key vs (predict_row E o b t key vs s k)
      unfolding predict_row
      row_went b t key vs k =
          found_ind P (first (predicted_rows (table_of E t).keys t key s.log)) _ _ (λ r e u. inl (r, inl (e, refl))) (λ e.
          need_ind P (row_start E t key vs s.counters) s _ (λ u. absurd (u refl)) (λ B q.
          new e (build b o.lane vs B) (ap (build b o.lane vs) (only_yes (eqb (length key + length vs) (width (table_of E t))) _ _ q).1)))
        where
          P : State → Type 0
          P = If (λ z. RowWent b t key vs k z ⊎ RowCut b t key vs z)

          new : first (predicted_rows (table_of E t).keys t key s.log) ≡ None → (B : Built) → build b o.lane vs (built key s.counters) ≡ B → P (stage_new E o t B s (k true))
          new e is_stuck q = λ u. absurd (u refl)
          new e is_spent q = λ u. inr (e, inl (q, refl))
          new e (built r cs) q = room_ind P (E.room (log_words (s.log ++ (row_of t r ∷ [])))) _ _ _ (λ u. inl (r, inr (cs, e, q, refl))) (λ u. inr (e, inr (r, cs, q, refl)))

    -- the key, the row, and its column
    pub serve_went : (s : State) (dst t : ℕ) (args : List QueryEntry) (vs : List WriteVal) (col : ℕ) → Unstuck (serve_missed E o dst t args vs col s)
        → (key : List ℕ) × (list_of (hold dst s.bindings) o.lane (table_of E t).keys args ≡ Some key)
        × (RowWent (note (reads o key) s) (hold dst s.bindings) t key vs (λ _ r s'. take_column o col r (note (asks o t key r) s')) (serve_missed E o dst t args vs col s) ⊎ RowCut (note (reads o key) s) (hold dst s.bindings) t key vs (serve_missed E o dst t args vs col s))
    unfolding serve_missed
    serve_went s dst t args vs col =
        need_ind (If (λ z. (key : List ℕ) × (list_of (hold dst s.bindings) o.lane (table_of E t).keys args ≡ Some key)
        × (RowWent (note (reads o key) s) (hold dst s.bindings) t key vs (λ _ r s'. take_column o col r (note (asks o t key r) s')) z ⊎ RowCut (note (reads o key) s) (hold dst s.bindings) t key vs z)))
        (list_of (hold dst s.bindings) o.lane (table_of E t).keys args) s _ (λ u. absurd (u refl)) (λ key e u.
        (key, e, row_went (note (reads o key) s) (hold dst s.bindings) t key vs _ u))

    -- a prediction answers the committed row, or goes on with a predicted one
    abbrev pub answers : ℕ → List ℕ → Bool → List ℕ → State → State
    answers t key new r s' = reply (predicted new r) (note (took o r) (note (asks o t key r) (when new change s')))

    pub predict_went : (s : State) (t : ℕ) (key : List ℕ) (vs : List WriteVal) → Unstuck (predict E o t key vs s)
        → ((r : List ℕ) × (find (table_of E t).keys (table_of E t).rows key ≡ Some r) × (predict E o t key vs s ≡ reply (predicted false r) (note (took o r) s)))
        ⊎ ((find (table_of E t).keys (table_of E t).rows key ≡ None) × (RowWent s (λ _. None) t key vs (answers t key) (predict E o t key vs s) ⊎ RowCut s (λ _. None) t key vs (predict E o t key vs s)))
    unfolding predict
    predict_went s t key vs =
        need_ind P (only (eqb (length key) (table_of E t).keys && eqb (length key + length vs) (width (table_of E t))) (Some key)) s _ (λ u. absurd (u refl)) (λ _ _.
        found_ind P (find (table_of E t).keys (table_of E t).rows key) _ _ (λ r e u. inl (r, e, refl)) (λ e u. inr (e, row_went s (λ _. None) t key vs (answers t key) u)))
      where
        P : State → Type 0
        P = If (λ z. ((r : List ℕ) × (find (table_of E t).keys (table_of E t).rows key ≡ Some r) × (z ≡ reply (predicted false r) (note (took o r) s)))
            ⊎ ((find (table_of E t).keys (table_of E t).rows key ≡ None) × (RowWent s (λ _. None) t key vs (answers t key) z ⊎ RowCut s (λ _. None) t key vs z)))
