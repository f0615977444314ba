-- The predicted row of a key: found in the log, or built and logged, in the code as in the machine.
use Rattle.std.specs.Prelude.{ℕ, ◌+◌, ◌*◌, ◌<◌, ◌≤◌, ◌≡◌, Bool, true, cond, List, [], ◌∷◌, ◌++◌, eqb, leb, set, take, None, Some, Option}
use Rattle.std.proofs.Math.Path.{refl, ap}
use Rattle.std.proofs.Common.{sym, ◌∙◌, subst, arith, leb-true, eqb-true, eq-eqb}
use Rattle.std.proofs.Math.Bool.{false}
use Rattle.std.proofs.Math.ListN.{length}
use Rattle.model.specs.Basics.{first}
use Rattle.model.specs.Book.Syntax.{Counter, width}
use Rattle.model.specs.Book.Contents.{table_count}
use Rattle.model.specs.Book.Decode as decode
use Rattle.model.specs.Machine.State.{State, Site, Record, Bindings, Env, stuck, spent, full, stop, note, reads, with_counters, logged, if_room, log_words}
use Rattle.model.specs.Machine.Values.{Built, is_stuck, is_spent, built, build, find, is_row, predicted_rows}
use Rattle.model.specs.Machine.Steps.{table_of, row_start, stage_new, predict_row}
use Rattle.model.specs.Laws.Logic.{All-append, All-at, only_yes, eq_eq_list}
use Rattle.model.specs.Laws.Lists.{length_tab}
use Rattle.model.specs.Laws.Turns.{need_ind}
use Rattle.model.specs.Laws.Book.{keys_of, width_of, table_keys, table_width}
use Rattle.args.specs.declared.Args.{Args}
use Rattle.ids.specs.declared.TableId.{TableId}
use Rattle.tables.specs.Tables.{info_of, Stands, front}
use Rattle.record_log.specs.Log.{log_of}
use Rattle.predicted_index.specs.declared.Slot.{Slot}
use Rattle.predicted_index.specs.declared.Slot.TheVariants.{Hit, Free, Full as NoSlot}
use Rattle.predicted_index.specs.Home.{home_of}
use Rattle.predicted_index.specs.Index.{slot_of}
use Rattle.predicted_index.specs.Right.{IndexOk}
use Rattle.predicted_index.specs.Row.{sought_in, row_of, row_among}
use Rattle.predicted_index.specs.RecordLaws.{rows_more}
use Rattle.predicted_index.specs.HomeLaws.{home_below}
use Rattle.predicted_index.specs.RightLaws.{get_hit, get_free, get_room, insert_ok}
use Rattle.predicted_index.specs.RowLaws.{row_is}
use Rattle.instr.specs.declared.Entries.{Entries}
use Rattle.instr.specs.Instr.{write_at}
use Rattle.instr.specs.Meaning.{writes_of}
use Rattle.build.specs.declared.Building.{Building}
use Rattle.build.specs.Build as code
use Rattle.record_log.specs.RecordLaws.{Sized}
use Rattle.execution.specs.declared.Stop.TheVariants.{Spent, Full}
use Rattle.execution.specs.Execution.{RunState, goes_on, Logged, after_append}
use Rattle.predict.specs.declared.Row.{Row}
use Rattle.predict.specs.Predict as flat
use Rattle.predict.specs.Predict.{Held, Gotten, gotten}
use Rattle.simulation.specs.Represents.{machine, LogIs, status_of, ListIs, key_front}
use Rattle.simulation.specs.Staging.{Kept, record_is, stage_is}
use Rattle.simulation.specs.Building.{Writable, RowIs, BuildIs, ReadsAs, built_is, starts_with}

-- a table of a book that can be read
pub record TableOk (w : List ℕ) (t : ℕ) : Type 0 where
  pub known : t < table_count w
  pub stands : Stands w (info_of w t)
  pub few : width_of w t ≤ 16
  pub some_column : 0 < width_of w t

-- row r was got, and the state is s', in which it is the predicted row of the key
pub record HasRow (w : List ℕ) (L t : ℕ) (key : List ℕ) (s : State) (made : Bool) (r : List ℕ) (s' : State) (g : Gotten) : Type 0 where
  pub kept : Kept s s'
  pub unchanged : s'.changed ≡ s.changed
  pub status : s'.status ≡ s.status
  pub is : LogIs w L s'.log s'.counters s'.changed g.got.state g.log g.index
  pub made_is : g.got.made ≡ made
  pub goes_on_lem : g.got.state.stop ≡ None
  pub size : length r ≡ width_of w t
  pub row_is : first (predicted_rows (table_of (machine w L) t).keys t key s'.log) ≡ Some r

module _ (w : List ℕ) (L : ℕ) (short : L ≤ 16384) (t : TableId) (known : t.0 < table_count w) where
  -- what the code reads of a key is the model's row
  row_among_lem : {records : List Record} {cs : List Counter} {ch : Bool} {x : RunState} {log index : List ℕ} → LogIs w L records cs ch x log index → (vals : List ℕ)
      → row_of home_of w log index (sought_in w t) vals ≡ row_among (table_of (machine w L) t.0) t.0 (front vals (keys_of w t.0)) records
  row_among_lem {records} {index = index} is vals =
      ap (λ (l : List ℕ). row_of home_of w l index (sought_in w t) vals) is.log_is
      ∙ row_is home_of w t known vals home_below index records is.index_ok L is.fits short (λ n r e kind table. (All-at (Sized w) records n is.sized e).size ∙ rw (kind, table) (table_width w t.0 known))

  -- where none is committed it is the row that was got
  pub got_read : {s s' : State} {made : Bool} {r key : List ℕ} {g : Gotten} → HasRow w L t.0 key s made r s' g → (vals : List ℕ) → front vals (keys_of w t.0) ≡ key → find (table_of (machine w L) t.0).keys (table_of (machine w L) t.0).rows key ≡ None → row_of home_of w g.log g.index (sought_in w t) vals ≡ r
  got_read h vals e f = row_among_lem h.is vals ∙ rw (e, f, h.row_is)

module _ (w : List ℕ) (L : ℕ) (short : L ≤ 16384) (s : State) (x : RunState) (log index : List ℕ) (is : LogIs w L s.log s.counters s.changed x log index) (on : x.stop ≡ None)
    (id : TableId) (table : TableOk w id.0) (vals : Entries) (few : vals.count ≤ 16) (ok : (k : ℕ) → k < vals.count → Writable w (write_at w (vals.at + 2 * k)))
    (o : Site) (b : Bindings) (m : List ℕ) (reads_as : ReadsAs b o.lane m) (key : List ℕ) (a : Args) (key_is : ListIs key (keys_of w id.0) a) where
  abbrev t : ℕ
  t = id.0

  abbrev row : Row
  row = record { of = sought_in w id; vals = vals }

  abbrev E : Env
  E = machine w L

  abbrev held : Held
  held = record { state = x; log = log; index = index }

  abbrev g : Gotten
  g = gotten w m o.lane row a held

  -- the three ways in which it comes out
  pub record Cases (P : State → Gotten → Type 0) (k : Bool → List ℕ → State → State) : Type 0 where
    pub sticking : (s' : State) (g : Gotten) → s'.status ≡ stuck → P s' g
    pub stopping : (s' : State) (g : Gotten) → goes_on g.got.state.stop ≡ false → s'.status ≡ status_of g.got.state.stop → s'.answers ≡ s.answers → P s' g
    pub having : (made : Bool) (r : List ℕ) (s' : State) (g : Gotten) → HasRow w L t key s made r s' g → P (k made r s') g

  front_is : front a.vals (keys_of w t) ≡ key
  front_is = key_front a key (keys_of w t) key_is

  slot_is : slot_of home_of index log t a.vals (keys_of w t) ≡ slot_of home_of index (log_of s.log L) t a.vals (keys_of w t)
  slot_is = rw is.log_is

  module _ (P : State → Gotten → Type 0) (k : Bool → List ℕ → State → State) (c : Cases P k) where
    -- a predicted row that is there
    hit : (p : ℕ) → slot_of home_of index (log_of s.log L) t a.vals (keys_of w t) ≡ Hit p → P (predict_row E o b t key (writes_of w row.vals) s k) (flat.by_slot w m o.lane row a held (Hit p))
    unfolding predict_row
    hit p e =
        let r = get_hit home_of home_below (keys_of w) index s.log is.index_ok L is.fits t a.vals p e in
        let f : first (predicted_rows (table_of E t).keys t key s.log) ≡ Some r.row.words = rw (table_keys w t table.known, ← front_is) r.first_row in
        let z : length r.row.words ≡ width_of w t = (All-at (Sized w) s.log r.index is.sized r.is).size ∙ rw (r.kind, r.table) (table_width w t table.known) in
        rw f
        (c.having false r.row.words s (flat.by_slot w m o.lane row a held (Hit p)) (record {
          kept = record { bindings = refl; live = refl; out = refl; answers = refl };
          unchanged = refl;
          status = refl;
          is = is;
          made_is = refl;
          goes_on_lem = on;
          size = z;
          row_is = f;
        }))

    -- a new one, in a free slot
    module _ (slot : ℕ) (e : slot_of home_of index (log_of s.log L) t a.vals (keys_of w t) ≡ Free slot) where
      abbrev O : Option Building
      O = code.built w m o.lane a row.vals.at row.vals.count x.counters

      none_yet : predicted_rows (table_of E t).keys t key s.log ≡ []
      none_yet = rw (table_keys w t table.known, ← front_is) (get_free home_of home_below (keys_of w) index s.log is.index_ok L is.fits t a.vals slot e)

      -- it was built, and is logged if it has room
      module _ (r : List ℕ) (cs : List Counter) (n : ℕ) (n_is : n ≡ width_of w t) (starts : take (keys_of w t) r ≡ key) (B : Building) (B_is : O ≡ Some B) (h : RowIs w n r cs B) where
        abbrev given : Logged
        given = record { state = record { used = x.used; counters = B.counters; changed = x.changed; stop = x.stop }; log = log }

        abbrev new : Record
        new = record { site = o; kind = 2; table = t; words = r }

        abbrev s₁ : State
        s₁ = note (reads o r) (with_counters cs s)

        abbrev all : List Record
        all = s.log ++ (new ∷ [])

        -- the new row is the key's only one
        is_one : is_row (table_of E t).keys t key new ≡ true
        is_one = rw (eq-eqb t t refl) (eq_eq_list (take (table_of E t).keys r) key (rw (table_keys w t table.known) starts))

        only_one : first (predicted_rows (table_of E t).keys t key all) ≡ Some r
        only_one = rw (rows_more (table_of E t).keys t key s.log new, none_yet, is_one)

        given_is : LogIs w L s.log cs s.changed given.state log index
        given_is = record { fits = is.fits; log_is = is.log_is; used = is.used; index_ok = is.index_ok; next = h.next; counted = h.counted; flag = is.flag; sized = is.sized }

        roomy : (q : Bool) → leb (log_words all) L ≡ q
            → P (if_room q new s₁ (k true r)) (flat.logged slot x.used (record { state = after_append (cond q (Some (log_words all)) None) given.state; log = cond q (log_of all L) (log_of s.log L) }) index)
        roomy false q = c.stopping (stop full s₁) (record { got = flat.stopped_by (Some Full) (record { used = x.used; counters = B.counters; changed = x.changed; stop = (Some Full) }); log = log_of s.log L; index = index }) refl refl refl
        roomy true q = subst (λ (u : Bool). P (k true r (logged new s₁)) (cond u made_it not_made)) (sym (ap goes_on on)) (c.having true r (logged new s₁) made_it (record {
          kept = record { bindings = refl; live = refl; out = refl; answers = refl };
          unchanged = refl;
          status = refl;
          is = record {
            fits = leb-true (log_words all) L q;
            log_is = refl;
            used = refl;
            index_ok = subst (λ (v : ℕ). IndexOk home_of (keys_of w) (set index slot (v + 1)) all) (sym is.used) (insert_ok home_of home_below (keys_of w) index s.log is.index_ok new L is.fits t a.vals slot e refl refl (starts ∙ sym front_is) (omega (arith, h.row_is.size, table.some_column)) (omega (arith, h.row_is.size)));
            next = h.next;
            counted = h.counted;
            flag = is.flag;
            sized = All-append (Sized w) s.log (new ∷ []) is.sized (record { table = table.known; size = h.row_is.size ∙ n_is ∙ sym (table_width w t table.known) }, tt);
          };
          made_is = refl;
          goes_on_lem = on;
          size = h.row_is.size ∙ n_is;
          row_is = only_one;
        }))
          where
            made_it : Gotten
            made_it = record { got = record { made = true; state = record { used = log_words all; counters = B.counters; changed = x.changed; stop = x.stop } }; log = log_of all L; index = set index slot (x.used + 1) }

            not_made : Gotten
            not_made = record { got = flat.stopped_by x.stop (record { used = log_words all; counters = B.counters; changed = x.changed; stop = x.stop }); log = log_of all L; index = index }

        whole_is : P (if_room (leb (log_words all) L) new s₁ (k true r)) (flat.whole t slot O held)
        whole_is = subst (λ (q : Option Building). P (if_room (leb (log_words all) L) new s₁ (k true r)) (flat.whole t slot q held)) (sym B_is)
            (subst (λ (v : Logged). P (if_room (leb (log_words all) L) new s₁ (k true r)) (flat.logged slot x.used v index)) (sym (stage_is w L s.log cs s.changed given.state log index given_is new B.row.vals B.row.count (record_is new B.row n h.row_is)))
            (roomy (leb (log_words all) L) refl))

      abbrev G : Gotten
      G = flat.whole t slot O held

      came : (R : Built) → build b o.lane (writes_of w row.vals) (built key s.counters) ≡ R → (n : ℕ) → n ≡ width_of w t → BuildIs w n R O → P (stage_new E o t R s (k true)) G
      came is_stuck q n n_is h = c.sticking (stop stuck s) G refl
      came is_spent q n n_is h = subst (λ (v : Option Building). P (stop spent s) (flat.whole t slot v held)) (sym h) (c.stopping (stop spent s) (record { got = flat.stopped_by (Some Spent) x; log = log; index = index }) refl refl refl)
      came (built r cs) q n n_is (B, e, h) = whole_is r cs n n_is (ap (λ (u : ℕ). take u r) (sym key_is.size) ∙ starts_with b o.lane key (writes_of w row.vals) s.counters cs r q) B e h

      begun : (r : Built) → row_start E t key (writes_of w row.vals) s.counters ≡ Some r → P (stage_new E o t (build b o.lane (writes_of w row.vals) r) s (k true)) G
      begun r q =
          let y = only_yes (eqb (length key + length (writes_of w row.vals)) (width (table_of E t))) (built key s.counters) r q in
          let n_is : keys_of w t + row.vals.count ≡ width_of w t = omega (arith, eqb-true (length key + length (writes_of w row.vals)) (width (table_of E t)) y.0, key_is.size, length_tab (λ k. decode.write_at w (row.vals.at + 2 * k)) row.vals.count, table_width w t table.known) in
          subst (λ (r : Built). P (stage_new E o t (build b o.lane (writes_of w row.vals) r) s (k true)) G) y.1
          (came (build b o.lane (writes_of w row.vals) (built key s.counters)) refl (keys_of w t + row.vals.count) n_is
          (built_is w b o.lane m reads_as row.vals.at row.vals.count (keys_of w t) (omega (arith, table.few)) ok key s.counters a x.counters (record { row_is = key_is; next = is.next; counted = is.counted })))

      free : P (predict_row E o b t key (writes_of w row.vals) s k) (flat.by_slot w m o.lane row a held (Free slot))
      unfolding predict_row flat.inserted
      free =
          let f : first (predicted_rows (table_of E t).keys t key s.log) ≡ None = ap first none_yet in
          rw f (need_ind (λ s'. P s' G) (row_start E t key (writes_of w row.vals) s.counters) s _ (c.sticking (stop stuck s) G refl) begun)

    by_slot_lem : (z : Slot) → slot_of home_of index (log_of s.log L) t a.vals (keys_of w t) ≡ z → P (predict_row E o b t key (writes_of w row.vals) s k) (flat.by_slot w m o.lane row a held z)
    by_slot_lem (Hit p) e = hit p e
    by_slot_lem (Free slot) e = free slot e
    by_slot_lem NoSlot e = absurd (get_room home_of home_below (keys_of w) index s.log is.index_ok L is.fits short (log_of s.log L) t a.vals (keys_of w t) e)

    pub got_ind : P (predict_row E o b t key (writes_of w row.vals) s k) g
    unfolding gotten
    got_ind = rw slot_is (by_slot_lem (slot_of home_of index (log_of s.log L) t a.vals (keys_of w t)) refl)
