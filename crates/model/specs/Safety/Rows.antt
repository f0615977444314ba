-- Predicted rows of a growing log.
use Rattle.std.specs.Prelude.{ℕ, ◌≡◌, refl, ◌⊎◌, Bool, true, false, ◌&&◌, not, List, [], ◌∷◌, ◌++◌, T, eqb, take}
use Rattle.std.proofs.Common.{sym, ◌∙◌, subst, inl, inr, append-nil, eqb→eq}
use Rattle.std.proofs.Math.Dec.{eqb_refl}
use Rattle.model.specs.Basics.{eq_list, keep_if}
use Rattle.model.specs.Book.Syntax.{table_at}
use Rattle.model.specs.Machine.State.{Record, Env}
use Rattle.model.specs.Machine.Values.{is_row, predicted_rows}
use Rattle.model.specs.Laws.Logic.{and_T, T_and, eq_list→eq, eq_list_refl, either, T-cases}

keep_append : {A : Type 0} (b : Bool) (x : A) (xs ys : List A) → keep_if b x (xs ++ ys) ≡ keep_if b x xs ++ ys
keep_append true x xs ys = refl
keep_append false x xs ys = refl

pub rows_append : (k t : ℕ) (key : List ℕ) (xs ys : List Record) → predicted_rows k t key (xs ++ ys) ≡ predicted_rows k t key xs ++ predicted_rows k t key ys
rows_append k t key [] ys = refl
rows_append k t key (x ∷ xs) ys = rw (rows_append k t key xs ys) (keep_append (is_row k t key x) x.words (predicted_rows k t key xs) (predicted_rows k t key ys))

keep_T : {A : Type 0} (b : Bool) (x : A) → T b → keep_if b x [] ≡ x ∷ []
keep_T true x t = refl
keep_T false x t = absurd t

keep_F : {A : Type 0} (b : Bool) (x : A) → T (not b) → keep_if b x [] ≡ []
keep_F true x t = absurd t
keep_F false x t = refl

append_empty : {A : Type 0} (xs ys : List A) → ys ≡ [] → xs ++ ys ≡ xs
append_empty xs ys e = rw e (append-nil xs)

module _ (E : Env) where
  abbrev pub rows_of : ℕ → List ℕ → List Record → List (List ℕ)
  rows_of t key log = predicted_rows (table_at E.tables t).keys t key log

  -- a log grows so that what has a predicted row keeps it, and what has none gets at most one
  abbrev pub Steady : List Record → List Record → Type 0
  Steady log log' = (t : ℕ) (key : List ℕ) → (rows_of t key log' ≡ rows_of t key log) ⊎ ((rows_of t key log ≡ []) × (ws : List ℕ) × (rows_of t key log' ≡ ws ∷ []))

  -- a record that is no row of the key
  no_row : (log : List Record) (r : Record) (t : ℕ) (key : List ℕ) → T (not (is_row (table_at E.tables t).keys t key r)) → rows_of t key (log ++ (r ∷ [])) ≡ rows_of t key log
  no_row log r t key h =
      rows_append (table_at E.tables t).keys t key log (r ∷ [])
      ∙ append_empty (rows_of t key log) (rows_of t key (r ∷ [])) (keep_F (is_row (table_at E.tables t).keys t key r) r.words h)

  a_row : (log : List Record) (r : Record) (t : ℕ) (key : List ℕ) → T (is_row (table_at E.tables t).keys t key r) → rows_of t key log ≡ [] → rows_of t key (log ++ (r ∷ [])) ≡ r.words ∷ []
  a_row log r t key h e =
      rows_append (table_at E.tables t).keys t key log (r ∷ [])
      ∙ rw e (keep_T (is_row (table_at E.tables t).keys t key r) r.words h)

  pub steady_other : (log : List Record) (r : Record) → T (not (eqb r.kind 2)) → Steady log (log ++ (r ∷ []))
  steady_other log r h t key = inl (no_row log r t key (not_and (eqb r.kind 2) (eqb r.table t) (eq_list (take (table_at E.tables t).keys r.words) key) h))
    where
      not_and : (a b c : Bool) → T (not a) → T (not (a && b && c))
      not_and true b c p = absurd p
      not_and false b c p = tt

  module _ (log : List Record) (r : Record) (t₀ : ℕ) (key₀ : List ℕ) (is_kind : r.kind ≡ 2) (is_table : r.table ≡ t₀)
      (is_key : take (table_at E.tables t₀).keys r.words ≡ key₀) (new : rows_of t₀ key₀ log ≡ []) where
    its_row : T (is_row (table_at E.tables t₀).keys t₀ key₀ r)
    its_row = T_and (eqb r.kind 2 && eqb r.table t₀) _ (T_and (eqb r.kind 2) _ (rw is_kind tt) (rw is_table (eqb_refl t₀))) (rw is_key (eq_list_refl key₀))

    pub new_row : rows_of t₀ key₀ (log ++ (r ∷ [])) ≡ r.words ∷ []
    new_row = a_row log r t₀ key₀ its_row new

    pub steady_row : Steady log (log ++ (r ∷ []))
    steady_row t key = either case₁ (λ h. inl (no_row log r t key h)) (T-cases (is_row (table_at E.tables t).keys t key r))
      where
        case₁ : T (is_row (table_at E.tables t).keys t key r) → (rows_of t key (log ++ (r ∷ [])) ≡ rows_of t key log) ⊎ ((rows_of t key log ≡ []) × (ws : List ℕ) × (rows_of t key (log ++ (r ∷ [])) ≡ ws ∷ []))
        case₁ h =
            let p = and_T (eqb r.kind 2 && eqb r.table t) _ h in
            let q = and_T (eqb r.kind 2) (eqb r.table t) p.0 in
            let et : t₀ ≡ t = sym is_table ∙ eqb→eq r.table t q.1 in
            let ek : take (table_at E.tables t).keys r.words ≡ key = eq_list→eq _ key p.1 in
            let same : key₀ ≡ key = sym is_key ∙ subst (λ x. take (table_at E.tables x).keys r.words ≡ key) (sym et) ek in
            let empty : rows_of t key log ≡ [] = subst (λ x. rows_of x key log ≡ []) et (subst (λ y. rows_of t₀ y log ≡ []) same new) in
            inr (empty, r.words, a_row log r t key h empty)
