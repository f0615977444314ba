-- The plain machine of document 01, on a book that has been read.
use Rattle.std.specs.Prelude.{ℕ, zero, suc, ◌+◌, Bool, true, false, ◌&&◌, ◌||◌, not, List, [], ◌∷◌, ◌++◌, map, eqb, leb, length, get_or, take, drop, replicate, Option, None, Some, slice_get}
use Rattle.model.specs.Basics.{iter, when, found, only, first}
use Rattle.model.specs.Book.Syntax.{stale, Counter, no_counter, next_of, QueryEntry, WriteVal, Instr, LookupOrInsertDefault, LookupWithDefault, Lookup, LookupWithFallback, Insert, InsertIfEq, Remove, External, ExternalWithFallback, AssertEq, AssertNe, AssertAnyNe, ReadCounter, dst_of, Table, width, Rule, Step, batch, prediction, table_at, rule_at}
use Rattle.model.specs.Machine.State.{State, Site, Record, mask, reads, took, asks, going, stuck, spent, is_going, Bindings, survivors, predicted, Env, stop, note, give, lose, with_counters, change, reply, frame, need, if_room, log_words}
use Rattle.model.specs.Machine.Values.{bind, hold, value_of, values_of, list_of, find, predicted_rows, Built, is_stuck, is_spent, built, build}

abbrev pub here : ℕ → ℕ → ℕ → Site
here k j i = record { step = k; instr = j; lane = i }

-- ## Lanes

abbrev pub is_live : State → ℕ → Bool
is_live s i = is_going s.status && get_or s.live i false

abbrev pub is_none : Option ℕ → Bool
is_none None = true
is_none (Some w) = false

-- each live lane, ascending; each live lane that has no dst yet
unfoldable pub lanes : (ℕ → State → State) → State → State
lanes f s = iter (λ i s'. when (is_live s' i) (f i) s') (length s.live) s

unfoldable pub missed : (ℕ → State → State) → State → State
missed f s = iter (λ i s'. when (is_live s' i && is_none (get_or s'.out i None)) (f i) s') (length s.live) s

-- a missed lane is left as it is, to be served later
abbrev pub wait : State → State
wait s = s

abbrev pub plain : Bindings → Bindings
plain b = b

abbrev pub clear : State → State
clear s = frame s.bindings s.live (replicate (length s.live) None) s

abbrev pub or_stale : Option ℕ → ℕ
or_stale None = stale
or_stale (Some w) = w

abbrev pub bind_out : Option ℕ → State → State
bind_out None s = s
bind_out (Some dst) s = frame (bind dst (map or_stale s.out) s.bindings) s.live s.out s

abbrev pub any_live : List Bool → Bool
any_live [] = false
any_live (b ∷ bs) = b || any_live bs

-- some pair of the two sides differs, up to the shorter
abbrev pub any_ne : List ℕ → List ℕ → Bool
any_ne [] ys = false
any_ne (x ∷ xs) [] = false
any_ne (x ∷ xs) (y ∷ ys) = not (eqb x y) || any_ne xs ys

unfoldable pub read_pair : Site → QueryEntry → QueryEntry → (ℕ → ℕ → State → State) → State → State
read_pair o l r k s =
    need (value_of s.bindings o.lane l) s λ a.
    need (value_of s.bindings o.lane r) s λ b. k a b (note (reads o (a ∷ b ∷ [])) s)

-- its dst is a column of the row
unfoldable pub take_column : Site → ℕ → List ℕ → State → State
take_column o col r s = need (slice_get r col) s λ w. give o.lane w (note (took o r) s)

unfoldable pub take_default : Site → QueryEntry → State → State
take_default o e s = need (value_of s.bindings o.lane e) s λ w. give o.lane w (note (reads o (w ∷ [])) s)

unfoldable pub assert_any_ne : Site → ℕ → List QueryEntry → State → State
assert_any_ne o d ops s =
    need (only (leb d (length ops)) (values_of s.bindings o.lane ops)) s λ ws.
    when (not (any_ne (take d ws) (drop d ws))) (lose o.lane) (note (reads o ws) s)

-- ## A batch's beginning and end, and the end of an instruction

abbrev pub fresh : List Counter → State
fresh counters = record { bindings = λ _. None; live = []; out = []; log = []; counters = counters; changed = false; trace = []; answers = []; status = going }

-- with v = 0 a batch has one lane
abbrev pub all_live : ℕ → ℕ → List Bool
all_live zero n = true ∷ []
all_live (suc v) n = replicate n true

unfoldable pub begin : ℕ → Rule → ℕ → List (List ℕ) → State → State
begin k r n columns s = note (mask k (all_live r.starts n)) (clear (frame (slice_get columns) (all_live r.starts n) [] s))

unfoldable pub end : State → State
end s = when (is_going s.status) (reply (survivors s.bindings s.live)) s

-- dst is bound, and the lanes that are left are noted
unfoldable pub finish : ℕ → Option ℕ → State → State
finish k dst s = when (is_going s.status) (λ s'. note (mask k s'.live) (bind_out dst s')) s

module _ (E : Env) where
  abbrev pub table_of : ℕ → Table
  table_of t = table_at E.tables t

  abbrev pub stage : Record → State → (State → State) → State
  stage r s k = if_room (E.room (log_words (s.log ++ (r ∷ [])))) r s k

  -- a new predicted row
  abbrev pub stage_new : Site → ℕ → Built → State → (List ℕ → State → State) → State
  stage_new o t is_stuck s k = stop stuck s
  stage_new o t is_spent s k = stop spent s
  stage_new o t (built r cs) s k = stage (record { site = o; kind = 2; table = t; words = r }) (note (reads o r) (with_counters cs s)) (k r)

  -- a row begins with its key, if it will have the right length
  abbrev pub row_start : ℕ → List ℕ → List WriteVal → List Counter → Option Built
  row_start t key vs cs = only (eqb (length key + length vs) (width (table_of t))) (Some (built key cs))

  -- the predicted row of the key, else a new one
  unfoldable pub predict_row : Site → Bindings → ℕ → List ℕ → List WriteVal → State → (Bool → List ℕ → State → State) → State
  predict_row o b t key vs s k =
      found (first (predicted_rows (table_of t).keys t key s.log))
      (λ r. k false r s)
      (λ _. need (row_start t key vs s.counters) s λ r. stage_new o t (build b o.lane vs r) s (k true))

  -- ## What a live lane does

  -- the committed row's column, or a miss
  unfoldable pub lookup : Site → ℕ → List QueryEntry → ℕ → (State → State) → State → State
  lookup o t args col miss s =
      need (list_of s.bindings o.lane (table_of t).keys args) s λ key.
      found (find (table_of t).keys (table_of t).rows key) (λ r. take_column o col r (note (reads o key) s)) (λ _. miss (note (reads o key) s))

  -- `held` is `hold dst` while a missed lane is served, else `plain`
  unfoldable pub invoke : Site → ℕ → (Bindings → Bindings) → ℕ → List QueryEntry → (State → State) → State → State
  invoke o c held f args miss s =
      need (list_of (held s.bindings) o.lane (E.arity f) args) s λ ws.
      found (E.answer o c f ws) (λ w. give o.lane w (note (reads o ws) s)) (λ _. miss (note (reads o ws) s))

  -- a missed lane of LookupOrInsertDefault, with dst held out
  unfoldable pub serve_missed : Site → ℕ → ℕ → List QueryEntry → List WriteVal → ℕ → State → State
  serve_missed o dst t args vs col s =
      need (list_of (hold dst s.bindings) o.lane (table_of t).keys args) s λ key.
      predict_row o (hold dst s.bindings) t key vs (note (reads o key) s) λ _ r s'. take_column o col r (note (asks o t key r) s')

  -- an insert (kind 0) of a row, or a removal (kind 1) of a key
  unfoldable pub stage_list : Site → ℕ → ℕ → ℕ → List QueryEntry → State → State
  stage_list o kind t n vals s =
      need (list_of s.bindings o.lane n vals) s λ ws.
      stage (record { site = o; kind = kind; table = t; words = ws }) (change (note (reads o ws) s)) (λ s'. s')

  -- ## Instructions

  module _ (k j : ℕ) where
    -- the lanes' part of an instruction; dst is bound after it
    unfoldable pub body : Instr → State → State
    body (LookupOrInsertDefault t args vs col dst) s = missed (λ i. serve_missed (here k j i) dst t args vs col) (lanes (λ i. lookup (here k j i) t args col wait) s)
    body (LookupWithDefault t args col dst e) s = lanes (λ i. lookup (here k j i) t args col (take_default (here k j i) e)) s
    body (Lookup t args col dst) s = lanes (λ i. lookup (here k j i) t args col (lose i)) s
    body (LookupWithFallback t key f args col dst) s = missed (λ i. invoke (here k j i) 0 (hold dst) f args (lose i)) (lanes (λ i. lookup (here k j i) t key col wait) s)
    body (Insert t vals) s = lanes (λ i. stage_list (here k j i) 0 t (width (table_of t)) vals) s
    body (InsertIfEq t l r vals) s = lanes (λ i. read_pair (here k j i) l r λ a b. when (eqb a b) (stage_list (here k j i) 0 t (width (table_of t)) vals)) s
    body (Remove t args) s = lanes (λ i. stage_list (here k j i) 1 t (table_of t).keys args) s
    body (External f args dst) s = lanes (λ i. invoke (here k j i) 0 plain f args (lose i)) s
    body (ExternalWithFallback f1 args1 f2 args2 dst) s = missed (λ i. invoke (here k j i) 1 (hold dst) f2 args2 (lose i)) (lanes (λ i. invoke (here k j i) 0 plain f1 args1 wait) s)
    body (AssertEq l r) s = lanes (λ i. read_pair (here k j i) l r λ a b. when (not (eqb a b)) (lose i)) s
    body (AssertNe l r) s = lanes (λ i. read_pair (here k j i) l r λ a b. when (eqb a b) (lose i)) s
    body (AssertAnyNe d ops) s = lanes (λ i. assert_any_ne (here k j i) d ops) s
    body (ReadCounter c dst) s = frame s.bindings s.live (replicate (length s.live) (Some (next_of (get_or s.counters c no_counter)))) s

    -- a batch whose lanes are all dead has ended
    unfoldable pub instruction : Instr → State → State
    instruction ins s = when (is_going s.status && any_live s.live) (λ s'. finish k (dst_of ins) (body ins (clear s'))) s

  -- ## Steps

  unfoldable pub instructions : ℕ → Rule → ℕ → State → State
  instructions k r m s = iter (λ j s'. found (slice_get r.instrs j) (λ ins. instruction k j ins s') (λ _. s')) m s

  unfoldable pub predict : Site → ℕ → List ℕ → List WriteVal → State → State
  predict o t key vs s =
      need (only (eqb (length key) (table_of t).keys && eqb (length key + length vs) (width (table_of t))) (Some key)) s λ _.
      found (find (table_of t).keys (table_of t).rows key)
      (λ r. reply (predicted false r) (note (took o r) s))
      (λ _. predict_row o (λ _. None) t key vs s λ new r s'. reply (predicted new r) (note (took o r) (note (asks o t key r) (when new change s'))))

  unfoldable pub step : ℕ → Step → State → State
  step k (batch r n columns) s = end (instructions k (rule_at E.rules r) (length (rule_at E.rules r).instrs) (begin k (rule_at E.rules r) n columns s))
  step k (prediction t key vs) s = predict (here k 0 0) t key vs (frame (λ _. None) [] [] s)

  -- the first n steps of a list
  unfoldable pub run : List Counter → List Step → ℕ → State
  run counters steps n = iter (λ k s. when (is_going s.status) (λ s'. found (slice_get steps k) (λ st. step k st s') (λ _. s')) s) n (fresh counters)
