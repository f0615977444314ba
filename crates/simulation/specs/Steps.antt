-- The steps: a batch and a prediction in the code and in the machine.
use Rattle.std.specs.Prelude.{ℕ, zero, suc, ◌+◌, ◌*◌, ◌<◌, ◌≤◌, ◌≡◌, refl, Bool, ◌&&◌, ◌||◌, ltb, get_or, Option, None, Some, slice_get}
use Rattle.std.proofs.Math.Path.{sym, ap, subst}
use Rattle.std.proofs.Common.{◌∙◌, arith, lt-ltb, le-ltb, eqb-true}
use Rattle.std.proofs.Math.Bool.{true, false, or-true, or-false}
use mathlib.Core.List.{List, [], ◌∷◌}
use Rattle.std.proofs.Math.Decide.{dec_lt}
use Rattle.std.proofs.Math.Dec.{eqb}
use Rattle.std.proofs.Math.ListN.{length}
use Rattle.std.proofs.lemmas.List.{length-replicate}
use Rattle.model.specs.Basics.{when, found, only, tab}
use Rattle.model.specs.Book.Syntax.{Rule, Counter, WriteVal, width}
use Rattle.model.specs.Book.Contents.{first_of, end_of, first_rule}
use Rattle.model.specs.Book.Decode.{part, instr_at, instr_place, read_table, read_rule, read_batch, read_prediction}
use Rattle.model.specs.Book.Read.{sizes, rules, step_fits}
use Rattle.model.specs.Book.Read as read
use Rattle.model.specs.Machine.Values.{find}
use Rattle.model.specs.Machine.State.{State, Record, Answer, survivors, predicted, going, is_going, took, asks, note, change, frame, reply}
use Rattle.model.specs.Machine.Steps.{here, all_live, begin, end, table_of, predict_row, predict, instructions, step}
use Rattle.model.specs.Laws.Logic.{and_split, some_inj, none_some, at_below, at_length}
use Rattle.model.specs.Laws.Lists.{length_tab}
use Rattle.model.specs.Laws.Turns.{need_ind, when_T, when_F}
use Rattle.model.specs.Laws.Book.{Readable, keys_of, width_of, table_is}
use Rattle.model.specs.Laws.Bodies.{length_part}
use Rattle.model.specs.Laws.Scan.{BatchWords, PredictionWords}
use Rattle.model.specs.Laws.Kinds.{rule_read}
use Rattle.tables.specs.TablesLaws.{row_within, row_found, keys_is, find_model}
use Rattle.mask.specs.Masks.{padded, first_lanes}
use Rattle.mask.specs.MaskLaws.{first_padded}
use Rattle.bound_vars.specs.BoundLaws.{has_first, length_first}
use Rattle.bindings.specs.BindingLaws.{load_is}
use Rattle.instr.specs.Instr as code
use Rattle.instr.specs.Instr.{write_at}
use Rattle.instr.specs.Meaning.{writes_of}
use Rattle.instr.specs.declared.QueryEntry.TheVariants.{Var, Const}
use Rattle.args.specs.declared.Args.{Args}
use Rattle.args.specs.Args.{words_at}
use Rattle.args.specs.ArgsLaws.{words_list, words_count, words_length}
use Rattle.predict.specs.Predict as flat
use Rattle.predict.specs.Predict.{Held, Gotten, noted, by_row}
use Rattle.predicted_index.specs.Row.{row_of}
use Rattle.predicted_index.specs.RecordLaws.{at_past}
use Rattle.tables.specs.Tables as tables
use Rattle.tables.specs.Tables.{front}
use Rattle.rules.specs.RuleLaws.{at_tab, At, small_here}
use Rattle.rules.specs.StepLaws.{batch_test, prediction_test}
use Rattle.execution.specs.Execution.{RunState}
use Rattle.action.specs.Run.{Running}
use Rattle.step.specs.Steps.{lane_count, start_batch, rule_of, ran_batch, row_asked, asked_row, row_answered}
use Rattle.step.specs.StepsLaws.{lane_count_more, lane_count_most}
use Rattle.simulation.specs.Represents.{machine, LogIs, ListIs, key_front, Follows, sticks, stops, goes, not_going}
use Rattle.simulation.specs.Building.{Writable, ReadsAs}
use Rattle.simulation.specs.Predicting.{TableOk, HasRow, got_read, got_ind}
use Rattle.simulation.specs.Fits.{Fits, fits, table_ok, writable_at}
use Rattle.simulation.specs.Batches.{is_bound, BatchIs}

-- ## A batch begins

length_all_live : (v n : ℕ) → length (all_live v n) ≡ lane_count v n
length_all_live zero n = refl
length_all_live (suc v) n = length-replicate n true

all_live_padded : (v n : ℕ) → n ≤ 256 → first_lanes (lane_count v n) ≡ padded (all_live v n)
all_live_padded zero n h = first_padded 1 (omega arith)
all_live_padded (suc v) n h = first_padded n h

-- a variable is bound where the batch has a column for it
bound_below : (cs : List (List ℕ)) (u : ℕ) → ltb u (length cs) ≡ is_bound (slice_get cs u)
bound_below cs u = elim (dec_lt u (length cs)) [ yes h ↦ lt-ltb u (length cs) h ∙ sym (ap is_bound (at_length cs u h).1) | no h ↦ le-ltb u (length cs) (omega arith) ∙ sym (ap is_bound (at_past cs u (omega arith))) ]

module _ (w : List ℕ) (h : Readable w) (L : ℕ) (short : L ≤ 16384) where
  -- the batch whose body begins at the word `at`
  module _ (at end_at : ℕ) (words : BatchWords (sizes w) w end_at at) (within : at + 3 + get_or w (at + 2) 0 * get_or w (at + 1) 0 ≤ length w) (fit : step_fits (read.tables w) (rules w) (read_batch w at) ≡ true) where
    abbrev v : ℕ
    v = get_or w (at + 2) 0

    abbrev n : ℕ
    n = get_or w (at + 1) 0

    abbrev columns : List (List ℕ)
    columns = tab (λ c. part w (at + 3 + c * n) n) v

    abbrev rule : Rule
    rule = read_rule w (rule_of w at)

    starts_is : rule.starts ≡ v
    unfolding read_rule
    starts_is = sym (eqb-true v (get_or w (rule_of w at) 0) (and_split (eqb v (get_or w (rule_of w at) 0)) (ltb 0 v || eqb n 0) (sym (batch_test w h at words.rule) ∙ fit)).0)

    column_size : (u : ℕ) (c : List ℕ) → slice_get columns u ≡ Some c → length c ≡ lane_count v n
    column_size u c e =
        let l : u < v = omega (arith, at_below columns u e, length_tab (λ c. part w (at + 3 + c * n) n) v) in
        let p : part w (at + 3 + u * n) n ≡ c = some_inj (sym (at_tab (λ c. part w (at + 3 + c * n) n) v u l) ∙ e) in
        ap length (sym p) ∙ length_part w (at + 3 + u * n) n (omega (arith, row_within u v n l)) ∙ lane_count_more v n (λ z. omega arith)

    module _ (k : ℕ) (s : State) (x : RunState) (log index : List ℕ) (a : s.status ≡ going) (o : x.stop ≡ None) (is : LogIs w L s.log s.counters s.changed x log index) where
      abbrev s₀ : State
      s₀ = begin k rule n columns s

      abbrev r₀ : Running
      r₀ = start_batch w at x log index

      pub started : BatchIs w L s.answers s₀ r₀
      unfolding begin
      started = record {
        is = is;
        lanes = sym lanes_are;
        few = omega (arith, lanes_are, lane_count_most v n words.lanes);
        live = all_live_padded v n words.lanes ∙ ap (λ (u : ℕ). padded (all_live u n)) (sym starts_is);
        bindings = load_is w (at + 3) n v words.columns;
        known = length_first v;
        bound_is = λ u. has_first v words.columns u ∙ ap (ltb u) (sym (length_tab (λ c. part w (at + 3 + c * n) n) v)) ∙ bound_below columns u;
        columns = λ u c e. column_size u c e ∙ sym lanes_are;
        answered = refl;
      }
        where
          lanes_are : length (all_live rule.starts n) ≡ lane_count v n
          lanes_are = ap (λ (u : ℕ). length (all_live u n)) starts_is ∙ length_all_live v n

      -- ## A batch runs and ends

      abbrev many : ℕ
      many = get_or w (rule_of w at + 1) 0

      instr_here : (j : ℕ) → j < many → At w (get_or w at 0) j (instr_place w (rule_of w at) j) (code.instr_at w (instr_place w (rule_of w at) j))
      instr_here j l = record { readable = h; rule = words.rule; below = l; place = refl; is = refl }

      pub its : (j : ℕ) → j < many → slice_get rule.instrs j ≡ Some (instr_at w (instr_place w (rule_of w at) j))
      unfolding read_rule
      its j l = at_tab (λ j. instr_at w (instr_place w (rule_of w at) j)) many j l

      pub count_is : length rule.instrs ≡ many
      unfolding read_rule
      count_is = length_tab (λ j. instr_at w (instr_place w (rule_of w at) j)) many

      pub all_fit : (j : ℕ) → j < many → Fits w (code.instr_at w (instr_place w (rule_of w at) j))
      all_fit j l = fits w h (end_of w (first_rule w + get_or w at 0)) (instr_place w (rule_of w at) j) (small_here (instr_here j l)) ((rule_read w h.contents h.bodies (get_or w at 0) words.rule).1.instrs j l)

      abbrev pub last : State
      last = instructions (machine w L) k rule many s₀

      abbrev r : Running
      r = ran_batch w at x log index

      pub record BatchDone (s' : State) : Type 0 where
        pub batch_is : BatchIs w L s.answers last r
        pub ends : s' ≡ reply (survivors last.bindings last.live) last

      pub ended : Follows s₀ last r.batch.state.stop (BatchIs w L s.answers last r) → Follows s (end last) r.batch.state.stop (BatchDone (end last))
      unfolding end begin
      ended (sticks e) = sticks (ap (λ (t : State). t.status) (when_F (is_going last.status) _ last (ap is_going e)) ∙ e)
      ended (stops p q z) =
          let e = when_F (is_going last.status) (reply (survivors last.bindings last.live)) last (not_going r.batch.state.stop last.status p q) in
          stops p (ap (λ (t : State). t.status) e ∙ q) (ap (λ (t : State). t.answers) e ∙ z)
      ended (goes p q z) =
          let e = when_T (is_going last.status) (reply (survivors last.bindings last.live)) last (ap is_going p) in
          goes (ap (λ (t : State). t.status) e ∙ p) q (record { batch_is = z; ends = e })

  -- ## A prediction

  -- the prediction whose body begins at the word `at`
  module _ (at end_at : ℕ) (words : PredictionWords (sizes w) w end_at at) (within : at + 2 + get_or w (at + 1) 0 ≤ length w) (fit : step_fits (read.tables w) (rules w) (read_prediction w at) ≡ true) where
    abbrev t : ℕ
    t = get_or w at 0

    abbrev long : ℕ
    long = get_or w (at + 1) 0

    abbrev key : List ℕ
    key = part w (at + 2) long

    abbrev a : Args
    a = words_at w (at + 2) long

    abbrev writes : List WriteVal
    writes = writes_of w (row_asked w at).vals

    table : TableOk w t
    table = table_ok w h t words.table

    tests : (eqb long (keys_of w t) ≡ true) × (eqb (long + get_or w (at + 2 + long) 0) (width_of w t) ≡ true)
    tests = and_split (eqb long (keys_of w t)) (eqb (long + get_or w (at + 2 + long) 0) (width_of w t)) (sym (prediction_test w h at words.table within) ∙ fit)

    long_is : long ≡ keys_of w t
    long_is = eqb-true long (keys_of w t) tests.0

    key_is : ListIs key (keys_of w t) a
    unfolding words_at
    key_is = record {
      words = words_list w (at + 2) long within;
      size = length_part w (at + 2) long within ∙ long_is;
      count = words_count w (at + 2) long ∙ long_is;
      room = words_length w (at + 2) long words.keys;
      few = omega (arith, long_is, words.keys);
    }

    front_is : front a.vals (keys_of w t) ≡ key
    front_is = key_front a key (keys_of w t) key_is

    -- a prediction's write values read no variable
    reads_constants : (m : List ℕ) → ReadsAs (λ _. None) 0 m
    reads_constants m (Var u) x q e = absurd (none_some e)
    reads_constants m (Const c) x q e = some_inj e

    ok_writes : (k : ℕ) → k < (row_asked w at).vals.count → Writable w (write_at w ((row_asked w at).vals.at + 2 * k))
    ok_writes k l = writable_at w h end_at 1 2 (at + 2 + long + 1 + 2 * k) (words.writes k l)

    module _ (k : ℕ) (s : State) (x : RunState) (m log index : List ℕ) (on : s.status ≡ going) (o : x.stop ≡ None) (is : LogIs w L s.log s.counters s.changed x log index) where
      abbrev held : Held
      held = record { state = x; log = log; index = index }

      -- the row that was answered
      pub record RowDone (s' : State) (g : Gotten) : Type 0 where
        pub row : List ℕ
        pub made : Bool
        pub log_is : LogIs w L s'.log s'.counters s'.changed g.got.state g.log g.index
        pub answered : s'.answers ≡ predicted made row ∷ s.answers
        pub made_is : g.got.made ≡ made
        pub row_is : row_answered w at g.log g.index ≡ row

      abbrev s₁ : State
      s₁ = frame (λ _. None) [] [] s

      abbrev answer : Bool → List ℕ → State → State
      answer new r s' = reply (predicted new r) (note (took (here k 0 0) r) (note (asks (here k 0 0) t key r) (when new change s')))

      -- by the predicted row, where none is committed
      abbrev from_log : Gotten → Gotten
      from_log g = record { got = noted g.got; log = g.log; index = g.index }

      kept_log : (g : Gotten) {records : List Record} {cs : List Counter} {ch : Bool} (ch' : Bool) → g.got.state.changed || g.got.made ≡ ch' → LogIs w L records cs ch g.got.state g.log g.index → LogIs w L records cs ch' (noted g.got).state g.log g.index
      kept_log g ch' e q = record { fits = q.fits; log_is = q.log_is; used = q.used; index_ok = q.index_ok; next = q.next; counted = q.counted; flag = e; sized = q.sized }

      having : find (table_of (machine w L) t).keys (table_of (machine w L) t).rows key ≡ None → (made : Bool) (r : List ℕ) (s' : State) (g : Gotten) → HasRow w L t key s₁ made r s' g → Follows s (answer made r s') (from_log g).got.state.stop (RowDone (answer made r s') (from_log g))
      unfolding row_answered
      having missing true r s' g q = goes (q.status ∙ on) q.goes_on_lem (record {
        row = r;
        made = true;
        log_is = kept_log g true (ap (λ (u : Bool). g.got.state.changed || u) q.made_is ∙ or-true g.got.state.changed) q.is;
        answered = ap (λ (l : List Answer). predicted true r ∷ l) q.kept.answers;
        made_is = q.made_is;
        row_is = got_read w L short (record { 0 = t }) words.table q a.vals front_is missing;
      })
      having missing false r s' g q = goes (q.status ∙ on) q.goes_on_lem (record {
        row = r;
        made = false;
        log_is = kept_log g s'.changed (ap (λ (u : Bool). g.got.state.changed || u) q.made_is ∙ or-false g.got.state.changed ∙ q.is.flag) q.is;
        answered = ap (λ (l : List Answer). predicted false r ∷ l) q.kept.answers;
        made_is = q.made_is;
        row_is = got_read w L short (record { 0 = t }) words.table q a.vals front_is missing;
      })

      -- by the committed row
      in_table : (p : ℕ) → tables.found_row w (tables.info_of w t) a.vals ≡ Some p → let s' : State = reply (predicted false (part w p (width_of w t))) (note (took (here k 0 0) (part w p (width_of w t))) s₁) in Follows s s' x.stop (RowDone s' (by_row w m (row_asked w at) a held (Some p)))
      unfolding row_answered row_of
      in_table p e = goes on o (record {
        row = part w p (width_of w t);
        made = false;
        log_is = is;
        answered = refl;
        made_is = refl;
        row_is = rw e;
      })

      pub prediction_follows : let s' : State = step (machine w L) k (read_prediction w at) s in let g : Gotten = asked_row w m at x log index in Follows s s' g.got.state.stop (RowDone s' g)
      unfolding step read_prediction predict asked_row flat.answered
      prediction_follows = need_ind (λ z. Follows s z G.got.state.stop (RowDone z G)) (only (eqb (length key) (table_of (machine w L) t).keys && eqb (length key + length writes) (width (table_of (machine w L) t))) (Some key)) s₁ _ (sticks refl) (λ _ _. by (tables.found_row w (tables.info_of w t) a.vals) refl)
        where
          G : Gotten
          G = by_row w m (row_asked w at) a held (tables.found_row w (tables.info_of w t) a.vals)

          z : Option (List ℕ) → State
          z f = found f (λ r. reply (predicted false r) (note (took (here k 0 0) r) s₁)) (λ _. predict_row (machine w L) (here k 0 0) (λ _. None) t key writes s₁ answer)

          find_is : find (table_of (machine w L) t).keys (table_of (machine w L) t).rows key ≡ row_found w (width_of w t) (tables.found_row w (tables.info_of w t) a.vals)
          find_is = rw (table_is w t words.table) (ap (find (read_table w (first_of w t)).keys (read_table w (first_of w t)).rows) (sym front_is ∙ ap (front a.vals) (sym (keys_is w (first_of w t)))) ∙ find_model w (first_of w t) a.vals)

          by : (F : Option ℕ) → tables.found_row w (tables.info_of w t) a.vals ≡ F → let u : State = z (find (table_of (machine w L) t).keys (table_of (machine w L) t).rows key) in Follows s u G.got.state.stop (RowDone u G)
          by F e = subst (λ (o : Option (List ℕ)). let u : State = z o in Follows s u G.got.state.stop (RowDone u G)) (sym (find_is ∙ ap (row_found w (width_of w t)) e))
              (subst (λ (f : Option ℕ). let u : State = z (row_found w (width_of w t) F) in let g : Gotten = by_row w m (row_asked w at) a held f in Follows s u g.got.state.stop (RowDone u g)) (sym e) (at_last F e))
            where
              at_last : (F : Option ℕ) → tables.found_row w (tables.info_of w t) a.vals ≡ F → let u : State = z (row_found w (width_of w t) F) in let g : Gotten = by_row w m (row_asked w at) a held F in Follows s u g.got.state.stop (RowDone u g)
              at_last (Some p) e = in_table p e
              at_last None e = got_ind w L short s₁ x log index is o (record { 0 = t }) table (row_asked w at).vals words.vals ok_writes (here k 0 0) (λ _. None) m (reads_constants m) key a key_is
                  (λ u g. Follows s u (from_log g).got.state.stop (RowDone u (from_log g))) answer
                  (record { sticking = λ u g e. sticks e; stopping = λ u g p q r. stops p q r; having = having (find_is ∙ ap (row_found w (width_of w t)) e) })
