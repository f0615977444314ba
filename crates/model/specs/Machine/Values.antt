-- What entries stand for, which row has a key, and how a row is built.
use Rattle.std.specs.Prelude.{ℕ, suc, Bool, ◌&&◌, not, List, [], ◌∷◌, ◌++◌, eqb, ltb, length, get_or, take, set, Option, None, Some, slice_get}
use Rattle.model.specs.Basics.{found, only, eq_list, keep_if}
use Rattle.model.specs.Book.Syntax.{Counter, no_counter, limit, QueryEntry, Var, Const, WriteVal, Entry, IncCounter, CurrentVal}
use Rattle.model.specs.Machine.State.{Record, Bindings}

-- ## Entries

abbrev pub bind : ℕ → List ℕ → Bindings → Bindings
bind x c b v = found (only (eqb v x) (Some c)) Some (λ _. b v)

-- without x
abbrev pub hold : ℕ → Bindings → Bindings
hold x b v = only (not (eqb v x)) (b v)

abbrev pub lane_of : ℕ → Option (List ℕ) → Option ℕ
lane_of i None = None
lane_of i (Some c) = slice_get c i

-- what an entry stands for in lane i
abbrev pub value_of : Bindings → ℕ → QueryEntry → Option ℕ
value_of b i (Var v) = lane_of i (b v)
value_of b i (Const c) = Some c

abbrev pub cons? : Option ℕ → Option (List ℕ) → Option (List ℕ)
cons? None o = None
cons? (Some w) None = None
cons? (Some w) (Some ws) = Some (w ∷ ws)

abbrev pub values_of : Bindings → ℕ → List QueryEntry → Option (List ℕ)
values_of b i [] = Some []
values_of b i (e ∷ es) = cons? (value_of b i e) (values_of b i es)

-- a list that must have n entries
abbrev pub list_of : Bindings → ℕ → ℕ → List QueryEntry → Option (List ℕ)
list_of b i n es = only (eqb (length es) n) (values_of b i es)

-- ## Rows by key

-- the committed row that has the key
abbrev pub find : ℕ → List (List ℕ) → List ℕ → Option (List ℕ)
find k [] key = None
find k (r ∷ rs) key = found (only (eq_list (take k r) key) (Some r)) Some (λ _. find k rs key)

-- the predicted rows of a table that have the key
abbrev pub is_row : ℕ → ℕ → List ℕ → Record → Bool
is_row k t key r = eqb r.kind 2 && eqb r.table t && eq_list (take k r.words) key

abbrev pub predicted_rows : ℕ → ℕ → List ℕ → List Record → List (List ℕ)
predicted_rows k t key [] = []
predicted_rows k t key (r ∷ rs) = keep_if (is_row k t key r) r.words (predicted_rows k t key rs)

-- ## A new row: its key, and one word more for each write value in turn

pub data Built : Type 0 where
  is_stuck is_spent : Built
  built : (row : List ℕ) (counters : List Counter) → Built

abbrev pub push : List ℕ → List Counter → Option ℕ → Built
push row cs None = is_stuck
push row cs (Some w) = built (row ++ (w ∷ [])) cs

-- the number that a counter gives, and the counter with the number above it, which must not pass the limit
abbrev pub draw : Counter → Option (ℕ × Counter)
draw n = only (ltb n limit) (Some (n, suc n))

abbrev pub hand_out : List ℕ → List Counter → ℕ → Option (ℕ × Counter) → Built
hand_out row cs c None = is_spent
hand_out row cs c (Some p) = built (row ++ (p.0 ∷ [])) (set cs c p.1)

abbrev pub write : Bindings → ℕ → WriteVal → Built → Built
write b i v is_stuck = is_stuck
write b i v is_spent = is_spent
write b i (Entry e) (built row cs) = push row cs (value_of b i e)
write b i (IncCounter c) (built row cs) = hand_out row cs c (draw (get_or cs c no_counter))
write b i (CurrentVal x) (built row cs) = push row cs (slice_get row x)

abbrev pub build : Bindings → ℕ → List WriteVal → Built → Built
build b i [] r = r
build b i (v ∷ vs) r = build b i vs (write b i v r)
