-- What a live lane does keeps the invariant, drops no other lane and takes no dst back.
use Prim.Native.Nat.{ℕ, zero, suc, ◌+◌, ◌≤◌, ◌<◌}
use Rattle.std.proofs.Common.{arith, ap, ◌∙◌, eqb→eq, le→leb, length-set, get_or-set_same, take_at}
use Rattle.std.specs.Prelude.{◌≡◌, ◌≢◌, Bool, true, ◌&&◌, not, leb, get_or, set, take, drop, Option, None, Some, slice_get}
use Rattle.std.proofs.Math.Path.{refl, sym, subst}
use Rattle.std.proofs.Math.Bool.{false}
use mathlib.Core.List.{List, [], ◌∷◌, ◌++◌}
use Rattle.std.proofs.Math.Dec.{T, eqb, eqb_refl}
use Rattle.std.proofs.Math.ListN.{length}
use Rattle.model.specs.Basics.{first, keep_if, All}
use Rattle.model.specs.Book.Syntax.{Clean, QueryEntry, WriteVal, width, table_at}
use Rattle.model.specs.Machine.State.{State, Record, record_size, reads, took, stuck, spent, full, is_going, Bindings, Env, stop, note, give, lose, with_counters, change, logged, need, log_words}
use Rattle.model.specs.Machine.Values.{find, is_row, predicted_rows, Built, is_stuck, is_spent, built, build}
use Rattle.model.specs.Machine.Steps.{here, table_of, stage_new, predict_row, take_column, lookup, invoke, take_default, stage_list, read_pair, any_ne, assert_any_ne}
use Rattle.model.specs.Check.{IsKnown}
use Rattle.model.specs.Claims.Demand3.{Within}
use Rattle.model.specs.Laws.Supposed.{TableOk, CleanConst}
use Rattle.model.specs.Laws.Logic.{and_T, some_inj, none_some, found_ind, when_ind, only_T, All-get_or, All-zip}
use Rattle.model.specs.Safety.Rows.{rows_of, steady_other, new_row, steady_row}
use Rattle.model.specs.Safety.Fetch.{Readable, entry_read, entries_read, list_read, find_All, cell, BuiltOk}
use Rattle.model.specs.Safety.Inv.{Inv, stop_inv, reads_inv, took_inv, counters_inv, give_inv, lose_inv, logged_inv, weaken, set_within, RowSized}
use Rattle.model.specs.Laws.Turns.{room_ind}

-- ## Small facts

pub live_below : (l : List Bool) (i : ℕ) → T (get_or l i false) → i < length l
live_below [] i t = absurd t
live_below (b ∷ l) zero t = omega arith
live_below (b ∷ l) (suc i) t = let h = live_below l i t in omega arith

lost : (l : List Bool) (i : ℕ) → T (get_or (set l i false) i false) → ⊥
lost [] i t = t
lost (b ∷ l) zero t = t
lost (b ∷ l) (suc i) t = lost l i t

still_some : (xs : List (Option ℕ)) (x w i a : ℕ) → get_or xs i None ≡ Some a → (b : ℕ) × (get_or (set xs x (Some w)) i None ≡ Some b)
still_some [] x w i a e = (a, e)
still_some (o ∷ xs) zero w zero a e = (w, refl)
still_some (o ∷ xs) zero w (suc i) a e = (a, e)
still_some (o ∷ xs) (suc x) w zero a e = (a, e)
still_some (o ∷ xs) (suc x) w (suc i) a e = still_some xs x w i a e

pub first_none : {A : Type 0} (xs : List A) → first xs ≡ None → xs ≡ []
first_none [] e = refl
first_none (x ∷ xs) e = absurd (none_some (sym e))

first_single : {A : Type 0} (xs : List A) (r : A) → length xs ≤ 1 → first xs ≡ Some r → xs ≡ r ∷ []
first_single [] r h e = absurd (none_some e)
first_single (x ∷ []) r h e = ap (λ y. y ∷ []) (some_inj e)
first_single (x ∷ y ∷ xs) r h e = absurd (omega arith)

pub need_some : {A : Type 0} (P : State → Type 0) (o : Option A) (s : State) (k : A → State) (a : A) → o ≡ Some a → P (k a) → P (need o s k)
need_some P o s k a e p = rw e p

spent≢stuck : spent ≢ stuck
spent≢stuck e = let z : ◌≡◌ {A = ℕ} 0 1 = cc in omega arith

full≢stuck : full ≢ stuck
full≢stuck e = let z : ◌≡◌ {A = ℕ} 0 1 = cc in omega arith

keep_All : {A : Type 0} (P : A → Type 0) (b : Bool) (x : A) (xs : List A) → (T b → P x) → All P xs → All P (keep_if b x xs)
keep_All P true x xs h k = (h tt, k)
keep_All P false x xs h k = k

rows_All : (P : List ℕ → Type 0) (n t : ℕ) (key : List ℕ) (log : List Record) → All (λ r. T (is_row n t key r) → P r.words) log → All P (predicted_rows n t key log)
rows_All P n t key [] h = tt
rows_All P n t key (r ∷ log) h = keep_All P (is_row n t key r) r.words (predicted_rows n t key log) h.0 (rows_All P n t key log h.1)

-- ## What a turn of a lane leaves

pub record Same (s s' : State) : Type 0 where
  pub live : s'.live ≡ s.live
  pub out : s'.out ≡ s.out

abbrev pub HasDst : State → ℕ → Type 0
HasDst s i = (w : ℕ) × (get_or s.out i None ≡ Some w)

-- a lane that is live has its dst
abbrev pub Settled : ℕ → State → Type 0
Settled i s = T (is_going s.status) → T (get_or s.live i false) → HasDst s i

module _ (E : Env) (K : ℕ → Type 0) (k j : ℕ) where
  pub record Lane (q : ℕ) (s s' : State) : Type 0 where
    pub inv : Inv E K k j q s'
    pub fewer : Within s'.live s.live
    pub kept : (x : ℕ) → HasDst s x → HasDst s' x
    pub size : length s'.live ≡ length s.live

  abbrev pub Done : ℕ → ℕ → State → State → Type 0
  Done q i s s' = Lane q s s' × Settled i s'

  module _ (q : ℕ) (s s' : State) (v : Inv E K k j q s') (m : Same s s') where
    pub wait_lane : Lane q s s'
    wait_lane = record { inv = v; fewer = λ x t. rw m.live at t; kept = λ x h. (h.0, rw m.out h.1); size = ap length m.live }

    pub stop_done : (i : ℕ) → (T (is_going s'.status) → ⊥) → Done q i s s'
    stop_done i n = (wait_lane, λ g t. absurd (n g))

    pub lose_done : (i : ℕ) → Done q i s (lose i s')
    lose_done i = (
      record {
        inv = lose_inv E K k j q s' v i;
        fewer = λ x t. rw m.live at (set_within s'.live i x t);
        kept = λ x h. (h.0, rw m.out h.1);
        size = length-set s'.live i false ∙ ap length m.live;
      },
      λ g t. absurd (lost s'.live i t),
    )

    pub give_done : (i w : ℕ) → Clean w → Done q i s (give i w s')
    give_done i w c = (
      record {
        inv = give_inv E K k j q s' v i w c;
        fewer = λ x t. rw m.live at t;
        kept = λ x h. still_some s'.out i w x h.0 (rw m.out h.1);
        size = ap length m.live;
      },
      λ g t. (w, get_or-set_same s'.out i (Some w) None (omega (arith, live_below s'.live i t, v.out_size))),
    )

  -- ## Lookups and calls

  module _ (tok : All TableOk E.tables) where
    pub table_ok : (t : ℕ) → TableOk (table_at E.tables t)
    table_ok t = All-get_or TableOk E.tables t _ tok (record { sized = tt; clean = tt; distinct = tt })

    module _ (q i : ℕ) (s : State) (v : Inv E K k j q s) (g : T (is_going s.status)) (lv : T (get_or s.live i false)) where
      abbrev self : Same s s
      self = record { live = refl; out = refl }

      -- the states that a lane comes to before it is given or loses anything
      abbrev pub Then : (State → Type 0) → Type 0
      Then P = (s' : State) → Inv E K k j q s' → Same s s' → T (is_going s'.status) → P s'

      pub take_ok : (col : ℕ) (r : List ℕ) (s' : State) → Inv E K k j q s' → Same s s' → All Clean r → col < length r → Done q i s (take_column (here k j i) col r s')
      unfolding take_column
      take_ok col r s' v' m c lt =
          let p = cell r col c lt in
          need_some (Done q i s) (slice_get r col) s' (λ w. give i w (note (took (here k j i) r) s')) p.0 p.1
          (give_done q s (note (took (here k j i) r) s') (took_inv E K k j q s' v' (here k j i) r c) (record { live = m.live; out = m.out }) i p.0 p.2)

      pub look_ok : (P : State → Type 0) (t : ℕ) (args : List QueryEntry) (col : ℕ) (miss : State → State)
          → length args ≡ (table_of E t).keys → col < width (table_of E t) → All (IsKnown K) args → All CleanConst args
          → ((s' : State) → Done q i s s' → P s') → Then (λ s'. P (miss s'))
          → P (lookup E (here k j i) t args col miss s)
      unfolding lookup
      look_ok P t args col miss len lt kn cn hit missed =
          let p = list_read K s.bindings s.live (v.readable g) i lv (table_of E t).keys args len kn cn in
          let v₁ : Inv E K k j q (note (reads (here k j i) p.0) s) = reads_inv E K k j q s v (here k j i) p.0 p.2 in
          need_some P _ s _ p.0 p.1
          (found_ind P (find (table_of E t).keys (table_of E t).rows p.0) _ _
          (λ r e. hit _ (take_ok col r (note (reads (here k j i) p.0) s) v₁ (record { live = refl; out = refl })
          (find_All (All Clean) (table_of E t).keys (table_of E t).rows p.0 (table_ok t).clean e)
          (omega (arith, lt, find_All (λ x. length x ≡ width (table_of E t)) (table_of E t).keys (table_of E t).rows p.0 (table_ok t).sized e))))
          (λ e. missed _ v₁ (record { live = refl; out = refl }) g))

      pub call_ok : (P : State → Type 0) (K' : ℕ → Type 0) (held : Bindings → Bindings) (c f : ℕ) (args : List QueryEntry) (miss : State → State)
          → Readable K' (held s.bindings) s.live → length args ≡ E.arity f → All (IsKnown K') args → All CleanConst args
          → ((ws : List ℕ) (w : ℕ) → All Clean ws → E.answer (here k j i) c f ws ≡ Some w → Clean w)
          → ((s' : State) → Done q i s s' → P s') → Then (λ s'. P (miss s'))
          → P (invoke E (here k j i) c held f args miss s)
      unfolding invoke
      call_ok P K' held c f args miss rd len kn cn fn hit missed =
          let p = list_read K' (held s.bindings) s.live rd i lv (E.arity f) args len kn cn in
          let v₁ : Inv E K k j q (note (reads (here k j i) p.0) s) = reads_inv E K k j q s v (here k j i) p.0 p.2 in
          need_some P _ s _ p.0 p.1
          (found_ind P (E.answer (here k j i) c f p.0) _ _
          (λ w e. hit _ (give_done q s (note (reads (here k j i) p.0) s) v₁ (record { live = refl; out = refl }) i w (fn p.0 w p.2 e)))
          (λ e. missed _ v₁ (record { live = refl; out = refl }) g))

      pub default_ok : (e : QueryEntry) → IsKnown K e → CleanConst e → Then (λ s'. Done q i s (take_default (here k j i) e s'))
      unfolding take_default
      default_ok e kn cn s' v' m g' =
          let p = entry_read K s'.bindings s'.live (v'.readable g') i (rw m.live lv) e kn cn in
          need_some (Done q i s) _ s' _ p.0 p.1
          (give_done q s (note (reads (here k j i) (p.0 ∷ [])) s') (reads_inv E K k j q s' v' (here k j i) (p.0 ∷ []) (p.2, tt)) (record { live = m.live; out = m.out }) i p.0 p.2)

      pub two_ok : (P : State → Type 0) (l r : QueryEntry) (kk : ℕ → ℕ → State → State) → All (IsKnown K) (l ∷ r ∷ []) → All CleanConst (l ∷ r ∷ [])
          → ((a b : ℕ) → Then (λ s'. P (kk a b s'))) → P (read_pair (here k j i) l r kk s)
      unfolding read_pair
      two_ok P l r kk kn cn h =
          let p = entry_read K s.bindings s.live (v.readable g) i lv l kn.0 cn.0 in
          let p' = entry_read K s.bindings s.live (v.readable g) i lv r kn.1.0 cn.1.0 in
          need_some P _ s _ p.0 p.1
          (need_some P _ s _ p'.0 p'.1
          (h p.0 p'.0 _ (reads_inv E K k j q s v (here k j i) (p.0 ∷ p'.0 ∷ []) (p.2, (p'.2, tt))) (record { live = refl; out = refl }) g))

      pub any_ok : (d : ℕ) (ops : List QueryEntry) → d ≤ length ops → All (IsKnown K) ops → All CleanConst ops → Lane q s (assert_any_ne (here k j i) d ops s)
      unfolding assert_any_ne
      any_ok d ops le kn cn =
          let p = entries_read K s.bindings s.live (v.readable g) i lv ops kn cn in
          let v₁ : Inv E K k j q (note (reads (here k j i) p.0) s) = reads_inv E K k j q s v (here k j i) p.0 p.2 in
          need_some (Lane q s) _ s _ p.0 (only_T (leb d (length ops)) _ (le→leb d (length ops) le) ∙ p.1)
          (when_ind (Lane q s) (not (any_ne (take d p.0) (drop d p.0))) (lose i) _
          (λ t. (lose_done q s _ v₁ (record { live = refl; out = refl }) i).0)
          (wait_lane q s _ v₁ (record { live = refl; out = refl })))

  -- ## Records

  module _ (i : ℕ) (s : State) (v : Inv E K k j i s) where
    pub insert_ok : (s₀ : State) → Same s₀ s → T (is_going s.status) → T (get_or s.live i false) → (kind t n : ℕ) (vals : List QueryEntry) → T (not (eqb kind 2)) → n ≡ record_size (table_of E t) kind → length vals ≡ n → All (IsKnown K) vals → All CleanConst vals
        → Lane (suc i) s₀ (stage_list E (here k j i) kind t n vals s)
    unfolding stage_list
    insert_ok s₀ m g lv kind t n vals nk sz len kn cn =
        let p = list_read K s.bindings s.live (v.readable g) i lv n vals len kn cn in
        let s₁ : State = change (note (reads (here k j i) p.0) s) in
        let v₁ : Inv E K k j i s₁ = reads_inv E K k j i s v (here k j i) p.0 p.2 in
        let rec : Record = record { site = here k j i; kind = kind; table = t; words = p.0 } in
        need_some (Lane (suc i) s₀) _ s _ p.0 p.1
        (room_ind (Lane (suc i) s₀) (E.room (log_words (s.log ++ (rec ∷ [])))) rec s₁ (λ s'. s')
        (wait_lane (suc i) s₀ (logged rec s₁)
        (logged_inv E K k j i s₁ v₁ rec refl p.2 (p.3 ∙ sz) (steady_other E s.log rec nk))
        (record { live = m.live; out = m.out }))
        (wait_lane (suc i) s₀ (stop full s₁) (weaken E K k j i (stop full s₁) (stop_inv E K k j i s₁ v₁ full full≢stuck (λ g. g))) (record { live = m.live; out = m.out })))

    pub made_ok : (P : State → Type 0) (t : ℕ) (key : List ℕ) (B : Built) (kk : List ℕ → State → State) → BuiltOk key (width (table_of E t)) B → length key ≡ (table_of E t).keys
        → rows_of E t key s.log ≡ []
        → ((r : List ℕ) (s' : State) → Inv E K k j (suc i) s' → Same s s' → All Clean r → length r ≡ width (table_of E t) → rows_of E t key s'.log ≡ r ∷ [] → P (kk r s'))
        → ((s' : State) → Inv E K k j (suc i) s' → Same s s' → (T (is_going s'.status) → ⊥) → P s')
        → P (stage_new E (here k j i) t B s kk)
    made_ok P t key is_stuck kk ok len new go end = absurd ok
    made_ok P t key is_spent kk ok len new go end = end (stop spent s) (weaken E K k j i (stop spent s) (stop_inv E K k j i s v spent spent≢stuck (λ g. g))) (record { live = refl; out = refl }) (λ g. g)
    made_ok P t key (built r cs) kk ok len new go end =
        let s₁ : State = note (reads (here k j i) r) (with_counters cs s) in
        let v₁ : Inv E K k j i s₁ = reads_inv E K k j i (with_counters cs s) (counters_inv E K k j i s v cs ok.2) (here k j i) r ok.1 in
        let rec : Record = record { site = here k j i; kind = 2; table = t; words = r } in
        let is_key : take (table_of E t).keys r ≡ key = rw ok.4 (take_at key ok.3 (table_of E t).keys len) in
        room_ind P (E.room (log_words (s.log ++ (rec ∷ [])))) rec s₁ (kk r)
        (go r (logged rec s₁)
        (logged_inv E K k j i s₁ v₁ rec refl ok.1 ok.0 (steady_row E s.log rec t key refl refl is_key new))
        (record { live = refl; out = refl }) ok.1 ok.0
        (new_row E s.log rec t key refl refl is_key new))
        (end (stop full s₁) (weaken E K k j i (stop full s₁) (stop_inv E K k j i s₁ v₁ full full≢stuck (λ g. g))) (record { live = refl; out = refl }) (λ g. g))

    pub predict_ok : (P : State → Type 0) (b : Bindings) (t : ℕ) (key : List ℕ) (vs : List WriteVal) (kk : Bool → List ℕ → State → State)
        → BuiltOk key (width (table_of E t)) (build b i vs (built key s.counters)) → length key ≡ (table_of E t).keys → length key + length vs ≡ width (table_of E t)
        → ((new : Bool) (r : List ℕ) (s' : State) → Inv E K k j (suc i) s' → Same s s' → All Clean r → length r ≡ width (table_of E t) → rows_of E t key s'.log ≡ r ∷ [] → P (kk new r s'))
        → ((s' : State) → Inv E K k j (suc i) s' → Same s s' → (T (is_going s'.status) → ⊥) → P s')
        → P (predict_row E (here k j i) b t key vs s kk)
    unfolding predict_row
    predict_ok P b t key vs kk ok len all go end =
        found_ind P (first (predicted_rows (table_of E t).keys t key s.log)) _ _
        (λ r e. let one : rows_of E t key s.log ≡ r ∷ [] = first_single _ r (v.logs.single t key) e in
        let ro = row_ok t key r one in
        go false r s (weaken E K k j i s v) (record { live = refl; out = refl }) ro.0 ro.1 one)
        (λ e. need_some P _ s _ (built key s.counters) (only_T (eqb (length key + length vs) (width (table_of E t))) _ (rw all (eqb_refl (width (table_of E t)))))
        (made_ok P t key (build b i vs (built key s.counters)) (kk true) ok len (first_none _ e) (go true) end))
      where
        its : (t : ℕ) (key : List ℕ) (r : Record) → All Clean r.words → RowSized E r → T (is_row (table_of E t).keys t key r) → All Clean r.words × (length r.words ≡ width (table_of E t))
        its t key r c z h =
            let p = and_T (eqb r.kind 2 && eqb r.table t) _ h in
            let p' = and_T (eqb r.kind 2) (eqb r.table t) p.0 in
            (c, subst (λ x. length r.words ≡ width (table_of E x)) (eqb→eq r.table t p'.1) (subst (λ x. length r.words ≡ record_size (table_of E r.table) x) (eqb→eq r.kind 2 p'.0) z))

        row_ok : (t : ℕ) (key r : List ℕ) → rows_of E t key s.log ≡ r ∷ [] → All Clean r × (length r ≡ width (table_of E t))
        row_ok t key r e =
            (subst (All (λ ws. All Clean ws × (length ws ≡ width (table_of E t)))) e
            (rows_All (λ ws. All Clean ws × (length ws ≡ width (table_of E t))) (table_of E t).keys t key s.log
            (All-zip (its t key) s.log v.logs.clean v.logs.sized))).0
