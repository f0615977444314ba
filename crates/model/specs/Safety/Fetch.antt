-- What a live lane needs is there, and clean.
use Rattle.std.specs.Prelude.{ℕ, suc, ◌<◌, ◌≡◌, refl, ◌≢◌, Bool, true, false, not, List, [], ◌∷◌, ◌++◌, T, eqb, ltb, length, get_or, take, Option, None, Some, slice_get}
use Rattle.std.proofs.Common.{arith, ap, ◌∙◌, subst, append_assoc, eqb→eq, ltb→lt, length-append}
use Rattle.std.proofs.Math.Dec.{eqb_refl, not_T}
use Rattle.model.specs.Basics.{found, only, eq_list, All}
use Rattle.model.specs.Book.Syntax.{Clean, Counter, limit, QueryEntry, Var, Const}
use Rattle.model.specs.Machine.State.{Bindings}
use Rattle.model.specs.Machine.Values.{hold, lane_of, value_of, values_of, list_of, find, Built, is_stuck, is_spent, built, push, draw, hand_out}
use Rattle.model.specs.Check.{IsKnown, NotHeld, against}
use Rattle.model.specs.Laws.Supposed.{CleanConst, CounterOk}
use Rattle.model.specs.Laws.Logic.{some_inj, none_some, only_T, only_some, All-append, All-at, All-set, at_length}

-- each live lane can read the variables K, and what it reads is clean
abbrev pub Readable : (ℕ → Type 0) → Bindings → List Bool → Type 0
Readable K b l = (v i : ℕ) → K v → T (get_or l i false) → (w : ℕ) × (lane_of i (b v) ≡ Some w) × Clean w

-- ## Entries

abbrev pub Reads1 : Bindings → ℕ → QueryEntry → Type 0
Reads1 b i e = (w : ℕ) × (value_of b i e ≡ Some w) × Clean w

abbrev pub Reads : Bindings → ℕ → List QueryEntry → Type 0
Reads b i es = (ws : List ℕ) × (values_of b i es ≡ Some ws) × All Clean ws × (length ws ≡ length es)

module _ (K : ℕ → Type 0) (b : Bindings) (l : List Bool) (rd : Readable K b l) (i : ℕ) (lv : T (get_or l i false)) where
  pub entry_read : (e : QueryEntry) → IsKnown K e → CleanConst e → Reads1 b i e
  entry_read (Var v) k c = rd v i k lv
  entry_read (Const c) k h = (c, refl, h)

  pub entries_read : (es : List QueryEntry) → All (IsKnown K) es → All CleanConst es → Reads b i es
  entries_read [] k c = ([], refl, tt, refl)
  entries_read (e ∷ es) k c =
      let h = entry_read e k.0 c.0 in
      let t = entries_read es k.1 c.1 in
      (h.0 ∷ t.0, rw (h.1, t.1) refl, (h.2, t.2), ap suc t.3)

  pub list_read : (n : ℕ) (es : List QueryEntry) → length es ≡ n → All (IsKnown K) es → All CleanConst es
      → (ws : List ℕ) × (list_of b i n es ≡ Some ws) × All Clean ws × (length ws ≡ n)
  list_read n es e k c =
      let r = entries_read es k c in
      (r.0, only_T (eqb (length es) n) (values_of b i es) (subst (λ x. T (eqb (length es) x)) e (eqb_refl (length es))) ∙ r.1, r.2, r.3 ∙ e)

-- ## With dst held out

abbrev pub But : (ℕ → Type 0) → ℕ → ℕ → Type 0
But K dst v = K v × (v ≢ dst)

pub hold_read : (K : ℕ → Type 0) (dst : ℕ) (b : Bindings) (l : List Bool) → Readable K b l → Readable (But K dst) (hold dst b) l
hold_read K dst b l rd v i k lv =
    let r = rd v i k.0 lv in
    (r.0, ap (lane_of i) (only_T (not (eqb v dst)) (b v) (not_T (eqb v dst) λ t. k.1 (eqb→eq v dst t))) ∙ r.1, r.2)

pub held_known : (K : ℕ → Type 0) (dst : ℕ) (es : List QueryEntry) → All (IsKnown K) es → All NotHeld (against dst es) → All (IsKnown (But K dst)) es
held_known K dst [] k h = tt
held_known K dst (Var v ∷ es) k h = ((k.0, λ e. h.0 (ap Var e)), held_known K dst es k.1 h.1)
held_known K dst (Const c ∷ es) k h = (tt, held_known K dst es k.1 h.1)

-- ## Rows

pub find_All : (P : List ℕ → Type 0) (k : ℕ) (rows : List (List ℕ)) (key : List ℕ) {r : List ℕ} → All P rows → find k rows key ≡ Some r → P r
find_All P k [] key h e = absurd (none_some e)
find_All P k (x ∷ rows) key {r} h e = go (eq_list (take k x) key) e (λ e'. find_All P k rows key h.1 e')
  where
    go : (t : Bool) → found (only t (Some x)) Some (λ _. find k rows key) ≡ Some r → (find k rows key ≡ Some r → P r) → P r
    go true e' rest = subst P (some_inj e') h.0
    go false e' rest = rest e'

pub cell : (r : List ℕ) (c : ℕ) → All Clean r → c < length r → (w : ℕ) × (slice_get r c ≡ Some w) × Clean w
cell r c h lt = let p = at_length r c lt in (p.0, p.1, All-at Clean r c h p.1)

-- ## A row is built

abbrev pub BuiltOk : List ℕ → ℕ → Built → Type 0
BuiltOk key n is_stuck = ⊥
BuiltOk key n is_spent = Unit {0}
BuiltOk key n (built row cs) = (length row ≡ n) × All Clean row × All CounterOk cs × (rest : List ℕ) × (row ≡ key ++ rest)

pub push_ok : (key row : List ℕ) (cs : List Counter) (n w : ℕ) (o : Option ℕ) → o ≡ Some w → Clean w → BuiltOk key n (built row cs) → BuiltOk key (suc n) (push row cs o)
push_ok key row cs n w o e c h =
    rw e (
      length-append row (w ∷ []) ∙ omega (arith, h.0),
      All-append Clean row (w ∷ []) h.1 (c, tt),
      h.2,
      h.3 ++ (w ∷ []),
      ap (λ x. x ++ (w ∷ [])) h.4 ∙ append_assoc key h.3 (w ∷ []),
    )

pub draw_ok : (c : Counter) (p : ℕ × Counter) → CounterOk c → draw c ≡ Some p → Clean p.0 × CounterOk p.1
draw_ok c p h e =
    let q = only_some (ltb c limit) (Some (c, suc c)) e in
    subst (λ x. Clean x.0 × CounterOk x.1) (some_inj q.1) (omega arith, omega (arith, ltb→lt c limit q.0))

pub hand_ok : (key row : List ℕ) (cs : List Counter) (n c : ℕ) (o : Option (ℕ × Counter)) → ((p : ℕ × Counter) → o ≡ Some p → Clean p.0 × CounterOk p.1) → BuiltOk key n (built row cs) → BuiltOk key (suc n) (hand_out row cs c o)
hand_ok key row cs n c None d h = tt
hand_ok key row cs n c (Some p) d h =
    let r : BuiltOk key (suc n) (push row cs (Some p.0)) = push_ok key row cs n p.0 (Some p.0) refl (d p refl).0 h in
    (r.0, r.1, All-set CounterOk cs c p.1 h.2 (d p refl).1, r.3, r.4)
