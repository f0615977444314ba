-- The check of a rule: the four conditions, and the test that refuses with 8, 7, 10 or 9.
use Rattle.std.specs.Prelude.{ℕ, suc, ◌+◌, ◌≤◌, ◌<◌, ◌≡◌, ◌⊎◌, ◌≢◌, Bool, true, false, ◌||◌, not, List, [], ◌∷◌, ◌++◌, eqb, ltb, leb, length, Option, None, Some, slice_get}
use Rattle.model.specs.Basics.{iter, found, all, All}
use Rattle.model.specs.Book.Syntax.{QueryEntry, Var, Const, WriteVal, Entry, IncCounter, CurrentVal, Instr, LookupOrInsertDefault, LookupWithDefault, Lookup, LookupWithFallback, Insert, InsertIfEq, Remove, External, ExternalWithFallback, AssertEq, AssertNe, AssertAnyNe, ReadCounter, dst_of, Table, width, Rule, table_at}

-- a list's length and what it must be, or the number that it must reach
pub data Size : Type 0 where
  exactly at_least : (size needed : ℕ) → Size

abbrev pub entries_of : List WriteVal → List QueryEntry
entries_of [] = []
entries_of (Entry e ∷ vs) = e ∷ entries_of vs
entries_of (IncCounter c ∷ vs) = entries_of vs
entries_of (CurrentVal x ∷ vs) = entries_of vs

-- a current value reads the row built so far, of n words before the first write value
abbrev pub currents_of : ℕ → List WriteVal → List (ℕ × ℕ)
currents_of n [] = []
currents_of n (Entry e ∷ vs) = currents_of (suc n) vs
currents_of n (IncCounter c ∷ vs) = currents_of (suc n) vs
currents_of n (CurrentVal x ∷ vs) = (x, n) ∷ currents_of (suc n) vs

-- every entry that an instruction reads
unfoldable pub reads_of : Instr → List QueryEntry
reads_of (LookupOrInsertDefault t args vs col dst) = args ++ entries_of vs
reads_of (LookupWithDefault t args col dst e) = e ∷ args
reads_of (Lookup t args col dst) = args
reads_of (LookupWithFallback t key f args col dst) = key ++ args
reads_of (Insert t vals) = vals
reads_of (InsertIfEq t l r vals) = l ∷ r ∷ vals
reads_of (Remove t args) = args
reads_of (External f args dst) = args
reads_of (ExternalWithFallback f1 args1 f2 args2 dst) = args1 ++ args2
reads_of (AssertEq l r) = l ∷ r ∷ []
reads_of (AssertNe l r) = l ∷ r ∷ []
reads_of (AssertAnyNe d ops) = ops
reads_of (ReadCounter c dst) = []

abbrev pub against : ℕ → List QueryEntry → List (ℕ × QueryEntry)
against dst [] = []
against dst (e ∷ es) = (dst, e) ∷ against dst es

-- a dst, and the entries that are read while it is held out
unfoldable pub held_of : Instr → List (ℕ × QueryEntry)
held_of (LookupOrInsertDefault t args vs col dst) = against dst (args ++ entries_of vs)
held_of (LookupWithDefault t args col dst e) = []
held_of (Lookup t args col dst) = []
held_of (LookupWithFallback t key f args col dst) = against dst args
held_of (Insert t vals) = []
held_of (InsertIfEq t l r vals) = []
held_of (Remove t args) = []
held_of (External f args dst) = []
held_of (ExternalWithFallback f1 args1 f2 args2 dst) = against dst args2
held_of (AssertEq l r) = []
held_of (AssertNe l r) = []
held_of (AssertAnyNe d ops) = []
held_of (ReadCounter c dst) = []

module _ (ts : List Table) (arity : ℕ → ℕ) where
  abbrev keys_of : ℕ → ℕ
  keys_of t = (table_at ts t).keys

  abbrev width_of : ℕ → ℕ
  width_of t = width (table_at ts t)

  unfoldable pub sizes_of : Instr → List Size
  sizes_of (LookupOrInsertDefault t args vs col dst) = exactly (length args) (keys_of t) ∷ exactly (length args + length vs) (width_of t) ∷ []
  sizes_of (LookupWithDefault t args col dst e) = exactly (length args) (keys_of t) ∷ []
  sizes_of (Lookup t args col dst) = exactly (length args) (keys_of t) ∷ []
  sizes_of (LookupWithFallback t key f args col dst) = exactly (length key) (keys_of t) ∷ exactly (length args) (arity f) ∷ []
  sizes_of (Insert t vals) = exactly (length vals) (width_of t) ∷ []
  sizes_of (InsertIfEq t l r vals) = exactly (length vals) (width_of t) ∷ []
  sizes_of (Remove t args) = exactly (length args) (keys_of t) ∷ []
  sizes_of (External f args dst) = exactly (length args) (arity f) ∷ []
  sizes_of (ExternalWithFallback f1 args1 f2 args2 dst) = exactly (length args1) (arity f1) ∷ exactly (length args2) (arity f2) ∷ []
  sizes_of (AssertEq l r) = []
  sizes_of (AssertNe l r) = []
  sizes_of (AssertAnyNe d ops) = at_least (length ops) d ∷ []
  sizes_of (ReadCounter c dst) = []

  -- a column or current value, and the count of words that it must be below
  unfoldable pub columns_of : Instr → List (ℕ × ℕ)
  columns_of (LookupOrInsertDefault t args vs col dst) = (col, width_of t) ∷ currents_of (keys_of t) vs
  columns_of (LookupWithDefault t args col dst e) = (col, width_of t) ∷ []
  columns_of (Lookup t args col dst) = (col, width_of t) ∷ []
  columns_of (LookupWithFallback t key f args col dst) = (col, width_of t) ∷ []
  columns_of (Insert t vals) = []
  columns_of (InsertIfEq t l r vals) = []
  columns_of (Remove t args) = []
  columns_of (External f args dst) = []
  columns_of (ExternalWithFallback f1 args1 f2 args2 dst) = []
  columns_of (AssertEq l r) = []
  columns_of (AssertNe l r) = []
  columns_of (AssertAnyNe d ops) = []
  columns_of (ReadCounter c dst) = []

-- ## The four conditions

abbrev pub Fits : Size → Type 0
Fits (exactly n m) = n ≡ m
Fits (at_least n m) = m ≤ n

abbrev pub IsKnown : (ℕ → Type 0) → QueryEntry → Type 0
IsKnown K (Var v) = K v
IsKnown K (Const c) = Unit {0}

abbrev pub NotHeld : ℕ × QueryEntry → Type 0
NotHeld p = p.1 ≢ Var p.0

abbrev pub Below : ℕ × ℕ → Type 0
Below p = p.0 < p.1

pub record Sound (ts : List Table) (arity : ℕ → ℕ) (K : ℕ → Type 0) (ins : Instr) : Type 0 where
  pub fit : All Fits (sizes_of ts arity ins)
  pub known : All (IsKnown K) (reads_of ins)
  pub free : All NotHeld (held_of ins)
  pub in_row : All Below (columns_of ts arity ins)

-- bound before instruction j: a starting variable, or the dst of an earlier instruction
abbrev pub Known : Rule → ℕ → ℕ → Type 0
Known r j v = (v < r.starts) ⊎ ((i : ℕ) × (i < j) × (ins : Instr) × (slice_get r.instrs i ≡ Some ins) × (dst_of ins ≡ Some v))

abbrev pub Conditions : List Table → (ℕ → ℕ) → Rule → Type 0
Conditions ts arity r = (j : ℕ) (ins : Instr) → slice_get r.instrs j ≡ Some ins → Sound ts arity (Known r j) ins

-- ## The test

abbrev pub fits? : Size → Bool
fits? (exactly n m) = eqb n m
fits? (at_least n m) = leb m n

abbrev pub known? : (ℕ → Bool) → QueryEntry → Bool
known? b (Var v) = b v
known? b (Const c) = true

abbrev pub is_var : ℕ → QueryEntry → Bool
is_var x (Var v) = eqb v x
is_var x (Const c) = false

abbrev pub free? : ℕ × QueryEntry → Bool
free? p = not (is_var p.0 p.1)

abbrev pub below? : ℕ × ℕ → Bool
below? p = ltb p.0 p.1

abbrev pub refuse : Bool → ℕ → Option ℕ → Option ℕ
refuse true n o = o
refuse false n o = Some n

unfoldable pub check_instr : List Table → (ℕ → ℕ) → (ℕ → Bool) → Instr → Option ℕ
check_instr ts arity b ins =
    refuse (all fits? (sizes_of ts arity ins)) 8
    (refuse (all (known? b) (reads_of ins)) 7
    (refuse (all free? (held_of ins)) 10
    (refuse (all below? (columns_of ts arity ins)) 9 None)))

abbrev pub is_dst : Option ℕ → ℕ → Bool
is_dst None v = false
is_dst (Some x) v = eqb v x

unfoldable pub bound? : Rule → ℕ → ℕ → Bool
bound? r j v = iter (λ i b. b || found (slice_get r.instrs i) (λ ins. is_dst (dst_of ins) v) (λ _. false)) j (ltb v r.starts)

-- a refusal and its instruction
abbrev pub placed : ℕ → Option ℕ → Option (ℕ × ℕ)
placed j None = None
placed j (Some e) = Some (e, j)

abbrev pub check_at : List Table → (ℕ → ℕ) → Rule → ℕ → Option (ℕ × ℕ)
check_at ts arity r j = found (slice_get r.instrs j) (λ ins. placed j (check_instr ts arity (bound? r j) ins)) (λ _. None)

-- the first refusal among the first n instructions
unfoldable pub check : List Table → (ℕ → ℕ) → Rule → ℕ → Option (ℕ × ℕ)
check ts arity r n = iter (λ j o. found o Some (λ _. check_at ts arity r j)) n None
