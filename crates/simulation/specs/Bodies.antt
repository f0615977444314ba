-- The lanes' part of each instruction: what the code leaves is what the machine leaves. Those that answer missed lanes by a default or a fallback, and all of them together, stand in `proofs/Instructions`.
use Prim.Native.Nat.{ℕ, zero, suc, ◌<◌, ◌≤◌}
use Rattle.std.specs.Prelude.{◌≡◌, Bool, true, false, ◌&&◌, ◌||◌, length, get_or, take, replicate, Option, None, Some}
use Rattle.std.proofs.Math.Path.{refl, ap, subst}
use Rattle.std.proofs.Common.{sym, ◌∙◌, arith, ext_get_or, get_or-take, length-take-le}
use Rattle.std.proofs.Math.Dec.{leb}
use Rattle.ids.specs.declared.CounterId.{CounterId}
use mathlib.Core.List.{List, [], ◌∷◌, map}
use Rattle.std.proofs.Math.Decide.{dec_lt}
use Rattle.std.proofs.Math.ListN.{length-replicate, get_or-eq_default}
use Rattle.model.specs.Basics.{only}
use Rattle.model.specs.Book.Syntax.{Counter, no_counter, next_of, stale, width}
use Rattle.model.specs.Machine.State.{State, Bindings, Record, stuck}
use Rattle.model.specs.Machine.Steps.{here, or_stale, is_none, wait, lanes, missed, lookup, serve_missed, table_of, body}
use Rattle.model.specs.Laws.Logic.{either}
use Rattle.model.specs.Laws.Passes.{Passed}
use Rattle.ids.specs.declared.TableId.{TableId}
use Rattle.ids.specs.declared.ColumnId.{ColumnId}
use Rattle.ids.specs.declared.Variable.{Variable}
use Rattle.ids.specs.declared.ExternalFunctionId.{ExternalFunctionId}
use Rattle.instr.specs.declared.QueryEntry.{QueryEntry}
use Rattle.mask.specs.Masks.{padded, united, but_not}
use Rattle.mask.specs.MaskLaws.{has_both, has_padded, is_padded}
use Rattle.counter.specs.CounterLaws.{get_or_padded}
use Rattle.bindings.specs.Columns.{columns_of}
use Rattle.instr.specs.declared.Entries.{Entries}
use Rattle.instr.specs.declared.Instr.{Instr}
use Rattle.instr.specs.declared.Instr.TheVariants.{LookupOrInsertDefault, Lookup, Insert, InsertIfEq, Remove, External, AssertEq, AssertNe, AssertAnyNe, ReadCounter}
use Rattle.instr.specs.Meaning.{entries_of, writes_of, instr_of}
use Rattle.lanes.specs.Lanes.{asked, is_some, answered_lanes, answered_words}
use Rattle.record_log.specs.declared.Change.TheVariants as change
use Rattle.execution.specs.Execution.{RunState, Logged}
use Rattle.predict.specs.Predict.{Served, served_lanes}
use Rattle.action.specs.Act.{Lanes, acted, row_ask, asking, with_log, with_served}
use Rattle.simulation.specs.Represents.{machine, LogIs, Follows, follows_map, sticks, stops, goes}
use Rattle.simulation.specs.Passes.{no_words, Start, Ended, Ends, Waits, dst_is, out_word, length_words, length_both, missed_stuck, missed_lanes, missed_none, waits_words, waits_missed, answered_lane}
use Rattle.simulation.specs.Reading.{lookup_first, lookup_drop, external_drop, assert_eq, assert_ne, assert_any_ne_lem}
use Rattle.simulation.specs.Staging.{Kept, Staged, list_pass, if_pass}
use Rattle.simulation.specs.Serving.{OutIs, Serving, serve_pass}
use Rattle.simulation.specs.Fits.{Fits}

-- ## What the lanes' part leaves

pub record LanesAre (w : List ℕ) (L : ℕ) (s₀ s : State) (l : Lanes) : Type 0 where
  pub bindings : s.bindings ≡ s₀.bindings
  pub answers : s.answers ≡ s₀.answers
  pub lanes_size : length s.live ≡ length s₀.live
  pub marks : length s.out ≡ length s₀.live
  pub live : l.live ≡ padded s.live
  pub out : map or_stale s.out ≡ take (length s₀.live) l.out
  pub is : LogIs w L s.log s.counters s.changed l.state l.log l.index

-- the column of an array that has what was found
out_column : (n : ℕ) (out : List (Option ℕ)) (words : List ℕ) → n ≤ 256 → OutIs n out words → map or_stale out ≡ take n words
out_column n out words l o =
    let z : length (map or_stale out) ≡ n = length_mapped out ∙ o.marks in
    ext_get_or 0 (map or_stale out) (take n words) (z ∙ sym (length-take-le n words (omega (arith, o.size)))) (λ i h. at i (omega arith))
  where
    length_mapped : (out : List (Option ℕ)) → length (map or_stale out) ≡ length out
    length_mapped [] = refl
    length_mapped (x ∷ out) = ap suc (length_mapped out)

    mapped : (out : List (Option ℕ)) (i : ℕ) → i < length out → get_or (map or_stale out) i 0 ≡ or_stale (get_or out i None)
    mapped [] i h = absurd (omega arith)
    mapped (x ∷ out) zero h = refl
    mapped (x ∷ out) (suc i) h = mapped out i (omega arith)

    at : (i : ℕ) → i < n → get_or (map or_stale out) i 0 ≡ get_or (take n words) i 0
    at i h = mapped out i (omega (arith, o.marks)) ∙ sym (o.word i h) ∙ sym (get_or-take n words i 0 h)

marks_at : (n j x : ℕ) → j < n → get_or (replicate n x) j 0 ≡ x
marks_at zero j x h = absurd (omega arith)
marks_at (suc n) zero x h = refl
marks_at (suc n) (suc j) x h = marks_at n j x (omega arith)

blank : (n j : ℕ) → ◌≡◌ {A = Option ℕ} (get_or (replicate n None) j None) None
blank zero j = refl
blank (suc n) zero = refl
blank (suc n) (suc j) = blank n j

pub filled_mark : (n j x : ℕ) → j < n → ◌≡◌ {A = Option ℕ} (get_or (replicate n (Some x)) j None) (Some x)
filled_mark zero j x h = absurd (omega arith)
filled_mark (suc n) zero x h = refl
filled_mark (suc n) (suc j) x h = filled_mark n j x (omega arith)

-- nothing was found yet
no_out : (n : ℕ) → n ≤ 256 → OutIs n (replicate n None) no_words
no_out n l = record { marks = length-replicate n None; size = length-replicate 256 stale; word = λ j h. marks_at 256 j stale (omega arith) ∙ sym (ap or_stale (blank n j)) }

module _ (w : List ℕ) (L : ℕ) (s : State) (start : Start s) (x : RunState) (log index : List ℕ) (on : x.stop ≡ None) (is : LogIs w L s.log s.counters s.changed x log index) where
  abbrev m : List ℕ
  m = columns_of s.bindings

  abbrev n : ℕ
  n = length s.live

  -- the lanes before the instruction
  abbrev pub begins : Lanes
  begins = record { live = padded s.live; state = x; log = log; index = index; out = no_words }

  -- the log and the counters are as they were
  same_log : (s' : State) (live : List Bool) (out : List (Option ℕ)) → Passed s s' live out → LogIs w L s'.log s'.counters s'.changed x log index
  same_log s' live out p = subst (λ (r : List Record). LogIs w L r s'.counters s'.changed x log index) (sym p.log) (subst (λ (c : List Counter). LogIs w L s.log c s'.changed x log index) (sym p.counters) (subst (λ (b : Bool). LogIs w L s.log s.counters b x log index) (sym p.changed) is))

  -- a pass that only reads
  pub read_only : (s' : State) (live : List Bool) (words : List ℕ) → Ends s s' live words → Follows s s' x.stop (LanesAre w L s s' (record { live = live; state = x; log = log; index = index; out = words }))
  read_only s' live words e = either (λ q. sticks q) (λ (q : Ended s s' live words). goes (q.passed.status ∙ start.status) on (record {
    bindings = q.passed.bindings;
    answers = q.passed.answers;
    lanes_size = q.live_size;
    marks = q.out_size_lem;
    live = sym q.live_is;
    out = dst_is s s' live words start.few q;
    is = same_log s' s'.live s'.out q.passed;
  })) e

  -- a pass that stages
  module _ (c : Logged) (s' : State) (kept : Kept s s') where
    log_only : LogIs w L s'.log s'.counters s'.changed c.state c.log index → LanesAre w L s s' (with_log c begins)
    log_only q = record {
      bindings = kept.bindings;
      answers = kept.answers;
      lanes_size = ap length kept.live;
      marks = ap length (kept.out ∙ start.out) ∙ length-replicate n None;
      live = ap padded (sym kept.live);
      out = ap (map or_stale) (kept.out ∙ start.out) ∙ out_column n (replicate n None) no_words start.few (no_out n start.few);
      is = q;
    }

  -- ## By instruction

  module _ (k j : ℕ) where
    abbrev pub ran : Instr → State
    ran i = body (machine w L) k j (instr_of w i) s

    abbrev pub left : Instr → Lanes
    left i = acted w m i begins

    abbrev pub Lanewise : Instr → Type 0
    Lanewise i = Follows s (ran i) (left i).state.stop (LanesAre w L s (ran i) (left i))

    -- an answer for every lane drops none
    pub given_all : (a b : ℕ → Option ℕ) → ((i : ℕ) → is_some (b i) ≡ true) → united (answered_lanes a (padded s.live)) (answered_lanes b (missed_lanes a (padded s.live))) ≡ padded s.live
    given_all a b all = is_padded _ s.live start.few (length_both ◌||◌ (answered_lanes a (padded s.live)) (answered_lanes b (missed_lanes a (padded s.live)))) (λ i h. has_both ◌||◌ (answered_lanes a (padded s.live)) (answered_lanes b (missed_lanes a (padded s.live))) i h ∙ rw (answered_lane a (padded s.live) i h, answered_lane b (missed_lanes a (padded s.live)) i h, has_both but_not (padded s.live) (answered_lanes a (padded s.live)) i h, answered_lane a (padded s.live) i h, has_padded s.live i) (lane (get_or s.live i false) (a i) (b i) (all i)))
      where
        lane : (p : Bool) (x y : Option ℕ) → is_some y ≡ true → is_some (only p x) || is_some (only (but_not p (is_some (only p x))) y) ≡ p
        lane false x y e = refl
        lane true (Some x) y e = refl
        lane true None y e = e

    pub ins_3 : (table : TableId) (args : Entries) (col : ColumnId) (dst : Variable) → Fits w (Lookup table args col dst) → Lanewise (Lookup table args col dst)
    unfolding acted
    ins_3 table args col dst f = read_only _ _ _ (lookup_drop w (λ n. leb n L) k j s start table args col dst f.0.known f.1)

    pub ins_8 : (func : ExternalFunctionId) (args : Entries) (dst : Variable) → Fits w (External func args dst) → Lanewise (External func args dst)
    unfolding acted
    ins_8 func args dst f = read_only _ _ _ (external_drop w (λ n. leb n L) k j s start func args dst f.0)

    pub ins_10 : (a b : QueryEntry) → Fits w (AssertEq a b) → Lanewise (AssertEq a b)
    unfolding acted
    ins_10 a b f = read_only _ _ _ (assert_eq w (λ n. leb n L) k j s start a b f.0 f.1)

    pub ins_11 : (a b : QueryEntry) → Fits w (AssertNe a b) → Lanewise (AssertNe a b)
    unfolding acted
    ins_11 a b f = read_only _ _ _ (assert_ne w (λ n. leb n L) k j s start a b f.0 f.1)

    pub ins_12 : (ops : Entries) (d : ℕ) → Fits w (AssertAnyNe ops d) → Lanewise (AssertAnyNe ops d)
    unfolding acted
    ins_12 ops d f = read_only _ _ _ (assert_any_ne_lem w (λ n. leb n L) k j s start ops d f)

    -- ## Staged

    pub ins_5 : (table : TableId) (vals : Entries) → Fits w (Insert table vals) → Lanewise (Insert table vals)
    unfolding acted body instr_of
    ins_5 table vals f = follows_map (λ (q : Staged w L index s change.Insert table.0 (width (table_of (machine w L) table.0)) f.0.known refl vals f.1.0.1 f.1.1 _ _). log_only _ _ q.kept q.is)
        (list_pass w L index s change.Insert table.0 (width (table_of (machine w L) table.0)) f.0.known refl vals f.1.0.1 f.1.1 k j start.few (record { state = x; log = log }) start.status on is)

    pub ins_7 : (table : TableId) (args : Entries) → Fits w (Remove table args) → Lanewise (Remove table args)
    unfolding acted body instr_of
    ins_7 table args f = follows_map (λ (q : Staged w L index s change.Remove table.0 (table_of (machine w L) table.0).keys f.0.known refl args f.1.0.1 f.1.1 _ _). log_only _ _ q.kept q.is)
        (list_pass w L index s change.Remove table.0 (table_of (machine w L) table.0).keys f.0.known refl args f.1.0.1 f.1.1 k j start.few (record { state = x; log = log }) start.status on is)

    pub ins_6 : (table : TableId) (a b : QueryEntry) (vals : Entries) → Fits w (InsertIfEq table a b vals) → Lanewise (InsertIfEq table a b vals)
    unfolding acted body instr_of
    ins_6 table a b vals f = follows_map (λ (q : Staged w L index s change.Insert table.0 (width (table_of (machine w L) table.0)) f.0.known refl vals f.3.0.1 f.3.1 _ _). log_only _ _ q.kept q.is)
        (if_pass w L index s change.Insert table.0 (width (table_of (machine w L) table.0)) f.0.known refl vals f.3.0.1 f.3.1 a b f.1 f.2 k j start.few (record { state = x; log = log }) start.status on is)

    -- ## A counter's next

    pub ins_13 : (c : CounterId) (dst : Variable) → Fits w (ReadCounter c dst) → Lanewise (ReadCounter c dst)
    unfolding acted body instr_of
    ins_13 c dst f = goes start.status on (record {
      bindings = refl;
      answers = refl;
      lanes_size = refl;
      marks = length-replicate n (Some next);
      live = refl;
      out = out_column n (replicate n (Some next)) (replicate 256 given) start.few (record {
        marks = length-replicate n (Some next);
        size = length-replicate 256 given;
        word = λ i h. marks_at 256 i given (omega (arith, start.few)) ∙ given_is ∙ ap or_stale (sym (filled_mark n i next h));
      });
      is = is;
    })
      where
        next : ℕ
        next = next_of (get_or s.counters c.0 no_counter)

        given : ℕ
        given = get_or x.counters.next c.0 0

        given_is : given ≡ next
        given_is = ap (λ (l : List ℕ). get_or l c.0 0) is.next ∙ get_or_padded s.counters c.0 (omega (arith, is.counted, f.0))

    -- ## The missed lanes are served

    pub ins_1 : L ≤ 16384 → (table : TableId) (args vals : Entries) (col : ColumnId) (dst : Variable) → Fits w (LookupOrInsertDefault table args vals col dst) → Lanewise (LookupOrInsertDefault table args vals col dst)
    unfolding acted body instr_of
    ins_1 short table args vals col dst f = either stuck_first served (lookup_first w (λ n. leb n L) k j s start table args col f.0.known f.1)
      where
        s₁ : State
        s₁ = lanes (λ i. lookup (machine w L) (here k j i) table.0 (entries_of w args) col.0 wait) s

        ask : ℕ → Option ℕ
        ask = asked w m (row_ask w table args col)

        s₂ : State
        s₂ = missed (λ i. serve_missed (machine w L) (here k j i) dst.0 table.0 (entries_of w args) (writes_of w vals) col.0) s₁

        c₀ : Served
        c₀ = record { state = x; log = log; index = index; out = answered_words ask (padded s.live) no_words }

        who : List Bool
        who = missed_lanes ask (padded s.live)

        Goal : Type 0
        Goal = Follows s s₂ (served_lanes w m (asking w table args vals col) who c₀).state.stop (LanesAre w L s s₂ (with_served (served_lanes w m (asking w table args vals col) who c₀) begins))

        stuck_first : s₁.status ≡ stuck → Goal
        stuck_first e = sticks (ap (λ (t : State). t.status) (missed_stuck (λ i. serve_missed (machine w L) (here k j i) dst.0 table.0 (entries_of w args) (writes_of w vals) col.0) s₁ e) ∙ e)

        served : Waits s s₁ ask → Goal
        served q = by (subst (λ (mm : List ℕ). Follows s₁ s₂ (served_lanes w mm (asking w table args vals col) who c₀).state.stop (Serving w L short s₁ few₁ dst.0 table args vals col f.0 f.2.0.1 f.2.1 f.1.0.1 f.1.1 (length s₁.live) s₂ (served_lanes w mm (asking w table args vals col) who c₀))) (ap columns_of q.passed.bindings)
            (serve_pass w L short s₁ few₁ dst.0 table args vals col f.0 f.2.0.1 f.2.1 f.1.0.1 f.1.1 k j who waits misses c₀ (q.passed.status ∙ start.status) on (same_log s₁ s.live s₁.out q.passed) found))
          where
            few₁ : length s₁.live ≤ 256
            few₁ = rw q.passed.live_is start.few

            waits : (i : ℕ) → get_or who i false ≡ get_or s₁.live i false && is_none (get_or s₁.out i None)
            waits i = elim (dec_lt i 256) [ yes h ↦ waits_missed s start ask s₁ q i h | no h ↦ get_or-eq_default who false {n = i} (omega (arith, length_both but_not (padded s.live) (answered_lanes ask (padded s.live)))) ∙ sym (rw (get_or-eq_default s₁.live false {n = i} (omega (arith, few₁)))) ]

            misses : (i : ℕ) → i < 256 → get_or who i false ≡ true → asked w (columns_of s₁.bindings) (row_ask w table args col) i ≡ None
            misses i h e = ap (λ (b : Bindings). asked w (columns_of b) (row_ask w table args col) i) q.passed.bindings ∙ missed_none s start ask i h e

            found : OutIs (length s₁.live) s₁.out (answered_words ask (padded s.live) no_words)
            found = record {
              marks = q.out_size_lem ∙ ap length (sym q.passed.live_is);
              size = length_words ask (padded s.live) no_words;
              word = λ i h. ap (λ (l : List ℕ). get_or l i 0) (sym (waits_words s start ask s₁ q)) ∙ out_word s₁.out i 0 (omega (arith, few₁));
            }

            by : Follows s₁ s₂ (served_lanes w m (asking w table args vals col) who c₀).state.stop (Serving w L short s₁ few₁ dst.0 table args vals col f.0 f.2.0.1 f.2.1 f.1.0.1 f.1.1 (length s₁.live) s₂ (served_lanes w m (asking w table args vals col) who c₀)) → Goal
            by (sticks e) = sticks e
            by (stops a b c) = stops a b (c ∙ q.passed.answers)
            by (goes a b v) = goes a b (record {
              bindings = v.bindings ∙ q.passed.bindings;
              answers = v.answers ∙ q.passed.answers;
              lanes_size = ap length (v.live ∙ q.passed.live_is);
              marks = v.out.marks ∙ ap length q.passed.live_is;
              live = ap padded (sym (v.live ∙ q.passed.live_is));
              out = out_column (length s₁.live) s₂.out (served_lanes w m (asking w table args vals col) who c₀).out few₁ v.out ∙ ap (λ (l : List Bool). take (length l) (served_lanes w m (asking w table args vals col) who c₀).out) q.passed.live_is;
              is = v.is;
            })
