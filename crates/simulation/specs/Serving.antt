-- The lanes that a lookup-or-insert missed: each is served from the predicted rows, in the code as in the machine.
use Rattle.std.specs.Prelude.{ℕ, suc, ◌+◌, ◌*◌, ◌<◌, ◌≤◌, ◌≡◌, ◌≢◌, Bool, ◌&&◌, cond, eqb, set, Option, None, Some, slice_get}
use Rattle.std.proofs.Math.Path.{refl, ap, subst}
use Rattle.std.proofs.Common.{sym, ◌∙◌, arith, length-set, get_or-set_same}
use Rattle.std.proofs.Math.Bool.{true, false}
use mathlib.Core.List.{List, []}
use Rattle.std.proofs.Math.ListN.{length, get_or, get_or-eq_default}
use Rattle.std.proofs.Math.Seq.{get_or-set_other}
use Rattle.model.specs.Basics.{All}
use Rattle.model.specs.Book.Syntax.{QueryEntry}
use Rattle.model.specs.Machine.State.{State, Bindings, going, note, reads, took, asks, give}
use Rattle.model.specs.Book.Contents.{first_of}
use Rattle.model.specs.Book.Decode.{part, read_table}
use Rattle.model.specs.Machine.Values.{hold, values_of, list_of, find}
use Rattle.model.specs.Machine.Steps.{here, is_live, is_none, or_stale, missed, take_column, table_of, predict_row, serve_missed}
use Rattle.model.specs.Laws.Logic.{only_some, only_T, either, none_some, some_inj, at_below}
use Rattle.model.specs.Laws.Turns.{need_ind, when_T, when_F}
use Rattle.model.specs.Laws.Passes.{eq_or_not}
use Rattle.model.specs.Laws.Book.{keys_of, width_of, table_is, table_keys}
use Rattle.model.specs.Laws.Bodies.{length_part}
use Rattle.ids.specs.declared.TableId.{TableId}
use Rattle.ids.specs.declared.ColumnId.{ColumnId}
use Rattle.tables.specs.Tables.{info_of, front, found_row}
use Rattle.tables.specs.TablesLaws.{row_found, find_model, found_within}
use Rattle.predicted_index.specs.Home.{home_of}
use Rattle.predicted_index.specs.Index.{slot_of, probed}
use Rattle.predicted_index.specs.Row.{sought_in, committed_part, row_of}
use Rattle.predicted_index.specs.RecordLaws.{at_here}
use Rattle.bindings.specs.Columns.{columns_of}
use Rattle.bindings.specs.BindingLaws.{Named, word_is, held_value, held_values}
use Rattle.instr.specs.declared.Entries.{Entries}
use Rattle.instr.specs.Instr.{write_at}
use Rattle.instr.specs.Meaning.{entry_of, entries_of, writes_of}
use Rattle.lanes.specs.Lanes.{listed, asked}
use Rattle.execution.specs.Execution.{goes_on, is_going}
use Rattle.predict.specs.Predict.{Asked, Held, Gotten, Served, gotten, taken, taken_word, served_lane, served_lanes}
use Rattle.action.specs.Act.{row_ask, asking}
use Rattle.simulation.specs.Represents.{machine, LogIs, Follows, sticks, stops, goes, ListIs, list_read, key_front, pass_ends}
use Rattle.simulation.specs.Building.{Writable}
use Rattle.simulation.specs.Predicting.{TableOk, HasRow, got_read, got_ind}

-- what can be read with a variable held out can be read
pub held_list : (x : ℕ) (b : Bindings) (i n : ℕ) (es : List QueryEntry) (ws : List ℕ) → list_of (hold x b) i n es ≡ Some ws → list_of b i n es ≡ Some ws
held_list x b i n es ws e =
    let p = only_some (eqb (length es) n) (values_of (hold x b) i es) e in
    only_T (eqb (length es) n) (values_of b i es) p.0 ∙ held_values x b i es ws p.1

-- the lanes' words are what was found for dst, the stale mark where nothing was
pub record OutIs (n : ℕ) (out : List (Option ℕ)) (words : List ℕ) : Type 0 where
  pub marks : length out ≡ n
  pub size : length words ≡ 256
  pub word : (j : ℕ) → j < n → get_or words j 0 ≡ or_stale (get_or out j None)

out_more : (n i y : ℕ) (out : List (Option ℕ)) (words : List ℕ) → n ≤ 256 → i < n → OutIs n out words → OutIs n (set out i (Some y)) (set words i y)
out_more n i y out words l h o = record {
  marks = length-set out i (Some y) ∙ o.marks;
  size = length-set words i y ∙ o.size;
  word = λ j k.
      either
      (λ (e : j ≡ i). rw (e, get_or-set_same words i y 0 (omega (arith, o.size)), get_or-set_same out i (Some y) None (omega (arith, o.marks))))
      (λ (d : j ≢ i). get_or-set_other words i j y 0 d ∙ o.word j k ∙ ap or_stale (sym (get_or-set_other out i j (Some y) None d)))
      (eq_or_not i j);
}

module _ (w : List ℕ) (L : ℕ) (short : L ≤ 16384) (s₀ : State) (small : length s₀.live ≤ 256) (dst : ℕ) (id : TableId) (args vals : Entries) (column : ColumnId)
    (table : TableOk w id.0) (few : vals.count ≤ 16) (ok : (k : ℕ) → k < vals.count → Writable w (write_at w (vals.at + 2 * k)))
    (short-key : args.count ≤ 16) (named : All Named (entries_of w args)) where
  abbrev t : ℕ
  t = id.0

  abbrev col : ℕ
  col = column.0

  abbrev ask : Asked
  ask = asking w id args vals column

  abbrev m : List ℕ
  m = columns_of s₀.bindings

  abbrev n : ℕ
  n = length s₀.live

  -- after i turns
  pub record Serving (i : ℕ) (s : State) (c : Served) : Type 0 where
    pub bindings : s.bindings ≡ s₀.bindings
    pub live : s.live ≡ s₀.live
    pub answers : s.answers ≡ s₀.answers
    pub is : LogIs w L s.log s.counters s.changed c.state c.log c.index
    pub out : OutIs n s.out c.out
    pub later : (j : ℕ) → i ≤ j → get_or s.out j None ≡ get_or s₀.out j None

  abbrev turn : ℕ → ℕ → ℕ → State → State
  turn k j i = serve_missed (machine w L) (here k j i) dst t (entries_of w args) (writes_of w vals) col

  -- what lane i looks its row up by
  abbrev key_in : ℕ → List ℕ
  key_in i = (listed w m i args).vals

  -- a lane that was missed has no committed row, since that would have the column
  no_row : (i : ℕ) (key : List ℕ) → front (key_in i) (keys_of w t) ≡ key → col < width_of w t → asked w m (row_ask w id args column) i ≡ None → find (table_of (machine w L) t).keys (table_of (machine w L) t).rows key ≡ None
  unfolding asked row_of slot_of probed read_table
  no_row i key e l miss = rw (← e, table_is w t table.known) (find_model w (first_of w t) (key_in i) ∙ by (found_row w (info_of w t) (key_in i)) refl miss)
    where
      by : (f : Option ℕ) → found_row w (info_of w t) (key_in i) ≡ f → slice_get (committed_part w (width_of w t) f []) col ≡ None → row_found w (width_of w t) f ≡ None
      by None q z = refl
      by (Some p) q z =
          let n : length (part w p (width_of w t)) ≡ width_of w t = length_part w p (width_of w t) (omega (arith, found_within w (info_of w t) (key_in i) p q, table.stands.rows)) in
          absurd (none_some (sym z ∙ at_here (part w p (width_of w t)) col 0 (omega arith)))

  -- a column of the row that was got
  took_row : (k j i : ℕ) (s : State) (c : Served) → i < n → s.status ≡ going → Serving i s c → (key : List ℕ) → front (key_in i) (keys_of w t) ≡ key → asked w m (row_ask w id args column) i ≡ None → (made : Bool) (r : List ℕ) (s' : State) (g : Gotten) → HasRow w L t key (note (reads (here k j i) key) s) made r s' g
      → Follows s (take_column (here k j i) col r (note (asks (here k j i) t key r) s')) (taken w ask (key_in i) i c.out g).state.stop (Serving (suc i) (take_column (here k j i) col r (note (asks (here k j i) t key r) s')) (taken w ask (key_in i) i c.out g))
  unfolding take_column
  took_row k j i s c l a v key key_is miss made r s' g h = need_ind (λ z. Follows s z (taken w ask (key_in i) i c.out g).state.stop (Serving (suc i) z (taken w ask (key_in i) i c.out g))) (slice_get r col) _ _ (sticks refl) given
    where
      given : (y : ℕ) → slice_get r col ≡ Some y → let z : State = give i y (note (took (here k j i) r) (note (asks (here k j i) t key r) s')) in Follows s z g.got.state.stop (Serving (suc i) z (taken w ask (key_in i) i c.out g))
      given y e = goes (h.status ∙ a) h.goes_on_lem (record {
        bindings = h.kept.bindings ∙ v.bindings;
        live = h.kept.live ∙ v.live;
        answers = h.kept.answers ∙ v.answers;
        is = h.is;
        out = subst (λ (words : List ℕ). OutIs n (set s'.out i (Some y)) words) (sym word) (subst (λ (o : List (Option ℕ)). OutIs n (set o i (Some y)) (set c.out i y)) (sym h.kept.out) (out_more n i y s.out c.out small l v.out));
        later = λ q p. ap (λ (o : List (Option ℕ)). get_or (set o i (Some y)) q None) h.kept.out ∙ get_or-set_other s.out i q (Some y) None (λ e. omega arith) ∙ v.later q (omega arith);
      })
        where
          row : row_of home_of w g.log g.index (sought_in w id) (key_in i) ≡ r
          row = got_read w L short id table.known h (key_in i) key_is (no_row i key key_is (omega (arith, at_below r col e, h.size)) miss)

          is_y : get_or r col 0 ≡ y
          is_y = some_inj (sym (at_here r col 0 (at_below r col e)) ∙ e)

          word : (taken w ask (key_in i) i c.out g).out ≡ set c.out i y
          word = subst (λ (u : Bool). cond u (taken_word w ask (key_in i) i g.log g.index c.out) c.out ≡ set c.out i y) (sym (ap goes_on h.goes_on_lem)) (ap (set c.out i) (ap (λ (q : List ℕ). get_or q col 0) row ∙ is_y))

  serve_turn : (k j i : ℕ) (s : State) (c : Served) → i < n → s.status ≡ going → c.state.stop ≡ None → Serving i s c → asked w m (row_ask w id args column) i ≡ None
      → let d : Served = served_lane w m ask true i c in Follows s (turn k j i s) d.state.stop (Serving (suc i) (turn k j i s) d)
  unfolding serve_missed served_lane
  serve_turn k j i s c l a b v miss = subst (λ (d : Served). Follows s (turn k j i s) d.state.stop (Serving (suc i) (turn k j i s) d)) (sym (when_T (is_going c.state) _ c (ap goes_on b))) (need_ind (λ z. Follows s z code.state.stop (Serving (suc i) z code)) (list_of (hold dst s.bindings) i (table_of (machine w L) t).keys (entries_of w args)) s _ (sticks refl) read)
    where
      held : Held
      held = record { state = c.state; log = c.log; index = c.index }

      g : Gotten
      g = gotten w m i ask.row (listed w m i args) held

      code : Served
      code = taken w ask (key_in i) i c.out g

      read : (key : List ℕ) → list_of (hold dst s.bindings) i (table_of (machine w L) t).keys (entries_of w args) ≡ Some key
          → let z : State = predict_row (machine w L) (here k j i) (hold dst s.bindings) t key (writes_of w vals) (note (reads (here k j i) key) s) (λ _ r s'. take_column (here k j i) col r (note (asks (here k j i) t key r) s')) in Follows s z code.state.stop (Serving (suc i) z code)
      read key e =
          let key_is : ListIs key (keys_of w t) (listed w m i args) = list_read w s₀.bindings i (omega arith) args (keys_of w t) key short-key named (rw (v.bindings, table_keys w t table.known) at (held_list dst s.bindings i (table_of (machine w L) t).keys (entries_of w args) key e)) in
          got_ind w L short (note (reads (here k j i) key) s) c.state c.log c.index v.is b id table vals few ok (here k j i) (hold dst s.bindings) m
          (λ q x n p. word_is s₀.bindings i (omega arith) (entry_of q) x n (rw v.bindings at (held_value dst s.bindings i (entry_of q) x p)))
          key (listed w m i args) key_is
          (λ z g. Follows s z (taken w ask (key_in i) i c.out g).state.stop (Serving (suc i) z (taken w ask (key_in i) i c.out g)))
          (λ _ r s'. take_column (here k j i) col r (note (asks (here k j i) t key r) s'))
          (record {
            sticking = λ z g e. sticks e;
            stopping = λ z g p q r. stops p q r;
            having = λ made r s' g h. took_row k j i s c l a v key (key_front (listed w m i args) key (keys_of w t) key_is) miss made r s' g h;
          })

  -- ## All of them

  halted : (i : ℕ) (b : Bool) (c : Served) → goes_on c.state.stop ≡ false → served_lane w m ask b i c ≡ c
  unfolding served_lane
  halted i b c e = when_F (b && is_going c.state) _ c (by b (is_going c.state) e)
    where
      by : (b g : Bool) → g ≡ false → b && g ≡ false
      by true g e = e
      by false g e = refl

  idle : (i : ℕ) (c : Served) → served_lane w m ask false i c ≡ c
  unfolding served_lane
  idle i c = refl

  -- `who` are the live lanes that have no dst yet: their lookup was not answered
  pub serve_pass : (k j : ℕ) (who : List Bool) → ((i : ℕ) → get_or who i false ≡ get_or s₀.live i false && is_none (get_or s₀.out i None)) → ((i : ℕ) → i < 256 → get_or who i false ≡ true → asked w m (row_ask w id args column) i ≡ None)
      → (c₀ : Served) → s₀.status ≡ going → c₀.state.stop ≡ None → LogIs w L s₀.log s₀.counters s₀.changed c₀.state c₀.log c₀.index → OutIs n s₀.out c₀.out
      → let s : State = missed (turn k j) s₀ in
      let c : Served = served_lanes w m ask who c₀ in
      Follows s₀ s c.state.stop (Serving n s c)
  unfolding missed served_lanes
  serve_pass k j who waits misses c₀ a b is out = pass_ends (λ c. c.state.stop) (λ s i. is_live s i && is_none (get_or s.out i None)) (turn k j) (λ i. served_lane w m ask (get_or who i false) i) Serving (λ i. get_or who i false) n s₀ (record {
    quiet = λ s i e. rw e;
    same = λ i s c l e v. rw (e, v.live, v.later i (omega arith)) (sym (waits i));
    past = λ i l. waits i ∙ rw (get_or-eq_default s₀.live false {n = i} l);
    halted = λ i c e. halted i (get_or who i false) c e;
    idle = λ i c e. ap (λ (b : Bool). served_lane w m ask b i c) e ∙ idle i c;
    kept = λ i s c v. v.answers;
    skip = λ i s c l e v. record { bindings = v.bindings; live = v.live; answers = v.answers; is = v.is; out = v.out; later = λ q p. v.later q (omega arith) };
    turn = λ i s c l e x y v. subst (λ (u : Bool). Follows s (turn k j i s) (served_lane w m ask u i c).state.stop (Serving (suc i) (turn k j i s) (served_lane w m ask u i c))) (sym e) (serve_turn k j i s c l x y v (misses i (omega arith) e));
  }) c₀ a b (record { bindings = refl; live = refl; answers = refl; is = is; out = out; later = λ q p. refl }) small
