-- What a lane's turn comes to, case by case, as equations: for the loops of the code.
use Rattle.std.specs.Prelude.{ℕ, ◌+◌, ◌≡◌, refl, Bool, true, false, not, List, [], ◌∷◌, ◌++◌, eqb, leb, length, take, drop, Option, None, Some, slice_get}
use Rattle.model.specs.Basics.{when}
use Rattle.model.specs.Book.Syntax.{Counter, QueryEntry, WriteVal, width}
use Rattle.model.specs.Machine.State.{State, Site, Record, reads, took, stuck, spent, full, Bindings, Env, stop, need, if_room, note, give, lose, with_counters, change, logged, log_words}
use Rattle.model.specs.Machine.Values.{value_of, values_of, list_of, find, predicted_rows, is_spent, built, build}
use Rattle.model.specs.Machine.Steps.{table_of, predict_row, take_column, lookup, invoke, take_default, stage_list, read_pair, any_ne, assert_any_ne}

pub when_T : {A : Type 0} (b : Bool) (f : A → A) (s : A) → b ≡ true → when b f s ≡ f s
when_T b f s e = rw e

pub when_F : {A : Type 0} (b : Bool) (f : A → A) (s : A) → b ≡ false → when b f s ≡ s
when_F b f s e = rw e

-- what each case of a branch has
pub need_ind : {A : Type 0} (P : State → Type 0) (o : Option A) (s : State) (k : A → State) → P (stop stuck s) → ((a : A) → o ≡ Some a → P (k a)) → P (need o s k)
need_ind P None s k p h = p
need_ind P (Some a) s k p h = h a refl

pub room_ind : (P : State → Type 0) (b : Bool) (r : Record) (s : State) (k : State → State) → P (k (logged r s)) → P (stop full s) → P (if_room b r s k)
room_ind P true r s k p q = p
room_ind P false r s k p q = q

module _ (o : Site) (s : State) where
  pub default_is : (e : QueryEntry) (w : ℕ) → value_of s.bindings o.lane e ≡ Some w → take_default o e s ≡ give o.lane w (note (reads o (w ∷ [])) s)
  unfolding take_default
  default_is e w rd = rw rd

  pub two_is : (l r : QueryEntry) (k : ℕ → ℕ → State → State) (a b : ℕ) → value_of s.bindings o.lane l ≡ Some a → value_of s.bindings o.lane r ≡ Some b → read_pair o l r k s ≡ k a b (note (reads o (a ∷ b ∷ [])) s)
  unfolding read_pair
  two_is l r k a b p q = rw (p, q)

  pub any_is : (d : ℕ) (ops : List QueryEntry) (ws : List ℕ) → leb d (length ops) ≡ true → values_of s.bindings o.lane ops ≡ Some ws
      → assert_any_ne o d ops s ≡ when (not (any_ne (take d ws) (drop d ws))) (lose o.lane) (note (reads o ws) s)
  unfolding assert_any_ne
  any_is d ops ws le rd = rw (le, rd)

module _ (E : Env) (o : Site) (s : State) where
  module _ (t : ℕ) (args : List QueryEntry) (col : ℕ) (miss : State → State) (key : List ℕ) (rd : list_of s.bindings o.lane (table_of E t).keys args ≡ Some key) where
    pub look_hit : (r : List ℕ) (w : ℕ) → find (table_of E t).keys (table_of E t).rows key ≡ Some r → slice_get r col ≡ Some w
        → lookup E o t args col miss s ≡ give o.lane w (note (took o r) (note (reads o key) s))
    unfolding lookup take_column
    look_hit r w f c = rw (rd, f, c)

    pub look_miss : find (table_of E t).keys (table_of E t).rows key ≡ None → lookup E o t args col miss s ≡ miss (note (reads o key) s)
    unfolding lookup
    look_miss f = rw (rd, f)

  module _ (c : ℕ) (held : Bindings → Bindings) (f : ℕ) (args : List QueryEntry) (miss : State → State) (ws : List ℕ) (rd : list_of (held s.bindings) o.lane (E.arity f) args ≡ Some ws) where
    pub call_some : (w : ℕ) → E.answer o c f ws ≡ Some w → invoke E o c held f args miss s ≡ give o.lane w (note (reads o ws) s)
    unfolding invoke
    call_some w a = rw (rd, a)

    pub call_none : E.answer o c f ws ≡ None → invoke E o c held f args miss s ≡ miss (note (reads o ws) s)
    unfolding invoke
    call_none a = rw (rd, a)

  module _ (kind t n : ℕ) (vals : List QueryEntry) (ws : List ℕ) (rd : list_of s.bindings o.lane n vals ≡ Some ws) where
    abbrev rec : Record
    rec = record { site = o; kind = kind; table = t; words = ws }

    pub insert_room : E.room (log_words (s.log ++ (rec ∷ []))) ≡ true → stage_list E o kind t n vals s ≡ logged rec (change (note (reads o ws) s))
    unfolding stage_list
    insert_room e = rw (rd, e)

    pub insert_full : E.room (log_words (s.log ++ (rec ∷ []))) ≡ false → stage_list E o kind t n vals s ≡ stop full (change (note (reads o ws) s))
    unfolding stage_list
    insert_full e = rw (rd, e)

  -- a predicted row: found in the log, or built and logged, or refusals 13 and 12
  module _ (b : Bindings) (t : ℕ) (key : List ℕ) (vs : List WriteVal) (k : Bool → List ℕ → State → State) where
    pub predict_old : (r : List ℕ) (rest : List (List ℕ)) → predicted_rows (table_of E t).keys t key s.log ≡ r ∷ rest → predict_row E o b t key vs s k ≡ k false r s
    unfolding predict_row
    predict_old r rest e = rw e

    module _ (e : predicted_rows (table_of E t).keys t key s.log ≡ []) (len : eqb (length key + length vs) (width (table_of E t)) ≡ true) where
      pub predict_spent : build b o.lane vs (built key s.counters) ≡ is_spent → predict_row E o b t key vs s k ≡ stop spent s
      unfolding predict_row
      predict_spent p = rw (e, len, p)

      module _ (r : List ℕ) (cs : List Counter) (p : build b o.lane vs (built key s.counters) ≡ built r cs) where
        abbrev new : Record
        new = record { site = o; kind = 2; table = t; words = r }

        pub predict_new : E.room (log_words (s.log ++ (new ∷ []))) ≡ true → predict_row E o b t key vs s k ≡ k true r (logged new (note (reads o r) (with_counters cs s)))
        unfolding predict_row
        predict_new q = rw (e, len, p, q)

        pub predict_full : E.room (log_words (s.log ++ (new ∷ []))) ≡ false → predict_row E o b t key vs s k ≡ stop full (note (reads o r) (with_counters cs s))
        unfolding predict_row
        predict_full q = rw (e, len, p, q)
