-- An index that is right for the records answers as the model's predicted rows do, has room, and stays right as records are appended, for any home below 8192.
use Rattle.std.specs.Prelude.{ℕ, zero, suc, ◌+◌, ◌<◌, ◌≤◌, ◌≡◌, Bool, ◌&&◌, List, [], ◌∷◌, ◌++◌, leb, get_or, take, set, replicate, Some, slice_get}
use Rattle.std.proofs.Math.Path.{refl, sym, ap, subst}
use Rattle.std.proofs.Common.{◌∙◌, append-nil, length-set, get_or-set_same, get_or-set_other}
use Rattle.std.proofs.Math.Bool.{true, false}
use Rattle.std.proofs.Math.Logic.{⊎_elim}
use native.Mathlib.Omega.{arith}
use borrow.Author.Tests.{le-leb, eq-eqb, ne_eqb}
use Rattle.std.proofs.Math.ListN.{length, length-replicate}
use Rattle.model.specs.Basics.{keep_if, eq_list}
use Rattle.model.specs.Machine.State.{Record, log_words}
use Rattle.model.specs.Machine.Values.{is_row, predicted_rows}
use Rattle.model.specs.Laws.Logic.{none_some, All-at, All-append, at_below}
use Rattle.tables.specs.Tables.{front, same_words}
use Rattle.record_log.specs.Log.{log_of, place_of}
use Rattle.record_log.specs.LogLaws.{length_log, record_within, table_at_lem, words_at_lem, place_more, place_last}
use Rattle.predicted_index.specs.declared.Slot.{Slot}
use Rattle.predicted_index.specs.declared.Slot.TheVariants.{Hit, Free, Full}
use Rattle.predicted_index.specs.Index.{answers, slot_of, Chain}
use Rattle.predicted_index.specs.IndexLaws.{eq_cases, bool_cases, hit_at, FreeAt, free_at, not_free, free_below, chain_kept, chain_new}
use Rattle.predicted_index.specs.Right.{predicted_count, Stored, Whole, home_of_row, RowAt, IndexOk}
use Rattle.predicted_index.specs.Room.{none_busy, busy_more, never_full}
use Rattle.predicted_index.specs.RecordLaws.{at_append, at_last, at_cases, is_row_lem, rows_more, no_rows, only_row, count_more, count_words}

all_zero : (s : ℕ) → ◌≡◌ {A = ℕ} (get_or (replicate 8192 0) s 0) 0
all_zero s = zeros 8192 s
  where
    zeros : (n s : ℕ) → ◌≡◌ {A = ℕ} (get_or (replicate n 0) s 0) 0
    zeros zero s = refl
    zeros (suc n) zero = refl
    zeros (suc n) (suc s) = zeros n s

module _ (home : ℕ → List ℕ → ℕ) (low : (t : ℕ) (key : List ℕ) → home t key < 8192) where
  -- the free slot that was found is a slot
  pub get_below : (ix log : List ℕ) (t : ℕ) (key : List ℕ) (k s : ℕ) → slot_of home ix log t key k ≡ Free s → s < 8192
  unfolding slot_of
  get_below ix log t key k s e = free_below ix (answers log t key k) (home t (front key k)) s (low t (front key k)) e

  -- an index of zeros, and no records
  pub none_ok : (keys_of : ℕ → ℕ) → IndexOk home keys_of (replicate 8192 0) []
  unfolding predicted_count
  none_ok keys_of = record {
    size = length-replicate {A = ℕ} 8192 0;
    whole = tt;
    once = λ t key. omega arith;
    stored = λ s b. absurd (b (all_zero s));
    reached = λ n r e. absurd (none_some e);
    busy = none_busy 8192;
  }

  row_home : (keys_of : ℕ → ℕ) (t : ℕ) (key : List ℕ) (r : Record) → r.table ≡ t → take (keys_of t) r.words ≡ key → home_of_row home keys_of r ≡ home t key
  row_home keys_of t key r e k = rw (e, k)

  module _ (keys_of : ℕ → ℕ) (ix : List ℕ) (records : List Record) (ok : IndexOk home keys_of ix records) (L : ℕ) (fits : log_words records ≤ L) where
    -- ## What a stored word answers

    module _ (t : ℕ) (key : List ℕ) where
      abbrev Key : List ℕ
      Key = front key (keys_of t)

      abbrev Asked : ℕ → Bool
      Asked = answers (log_of records L) t key (keys_of t)

      module _ (n : ℕ) (r : Record) (is : slice_get records n ≡ Some r) (kind : r.kind ≡ 2) where
        -- a record of the table, of whose words the key is asked
        same_table : r.table ≡ t → Asked (place_of records n + 1) ≡ eq_list (take (keys_of t) r.words) Key
        unfolding answers same_words
        same_table e =
            let k : keys_of t ≤ length r.words = rw e at ((All-at (Whole keys_of) records n ok.whole is).key kind) in
            let p : place_of records n + 1 + 1 ≡ place_of records n + 2 = omega arith in
            let len : place_of records n + 1 + 1 + keys_of t ≤ length (log_of records L) = omega (arith, length_log records L fits, record_within records n r is) in
            rw (le-leb _ _ len, table_at_lem records n r is L, eq-eqb _ _ e, p, words_at_lem records n r is L (keys_of t) k)

        other_table : (r.table ≡ t → ⊥) → Asked (place_of records n + 1) ≡ false
        unfolding answers
        other_table d = rw (table_at_lem records n r is L, ne_eqb _ _ d) (by (leb (place_of records n + 1 + 1 + keys_of t) (length (log_of records L))))
          where
            by : (b : Bool) → b && false && same_words (log_of records L) (place_of records n + 1 + 1) key (keys_of t) ≡ false
            by true = refl
            by false = refl

        asked_row_lem : Asked (place_of records n + 1) ≡ is_row (keys_of t) t Key r
        asked_row_lem =
            ⊎_elim
            (λ (e : r.table ≡ t). same_table e ∙ rw (eq-eqb _ _ kind, eq-eqb _ _ e))
            (λ (d : r.table ≡ t → ⊥). other_table d ∙ rw (eq-eqb _ _ kind, ne_eqb _ _ d))
            (eq_cases r.table t)

      -- ## What is found

      abbrev Got : Slot
      Got = slot_of home ix (log_of records L) t key (keys_of t)

      pub get_hit : (p : ℕ) → Got ≡ Hit p → RowAt keys_of records t Key p
      unfolding slot_of
      get_hit p e =
          let h = hit_at ix Asked 8192 (home t Key) p e in
          let s = ok.stored h.slot h.busy in
          let y : is_row (keys_of t) t Key s.row ≡ true = sym (asked_row_lem s.index s.row s.is s.kind) ∙ ap Asked (sym s.place) ∙ h.yes in
          record {
            index = s.index;
            row = s.row;
            is = s.is;
            kind = s.kind;
            table = (is_row_lem (keys_of t) t Key s.row y).1;
            place = omega (arith, s.place, h.is);
            first_row = only_row (keys_of t) t Key records s.index s.row s.is y (ok.once t Key);
          }

      pub get_free : (s : ℕ) → Got ≡ Free s → predicted_rows (keys_of t) t Key records ≡ []
      unfolding slot_of
      get_free s e = no_rows (keys_of t) t Key records none
        where
          none : (n : ℕ) (r : Record) → slice_get records n ≡ Some r → is_row (keys_of t) t Key r ≡ false
          none n r is = ⊎_elim there (λ f. f) (bool_cases (is_row (keys_of t) t Key r))
            where
              there : is_row (keys_of t) t Key r ≡ true → is_row (keys_of t) t Key r ≡ false
              there y =
                  let q = is_row_lem (keys_of t) t Key r y in
                  let c = ok.reached n r is q.0 in
                  let at : Chain ix (home t Key) (place_of records n + 1) c.0 = subst (λ (h : ℕ). Chain ix h (place_of records n + 1) c.0) (row_home keys_of t Key r q.1 q.2) c.1 in
                  absurd (not_free ix Asked (home t Key) (place_of records n + 1) c.0 s at (λ z. omega arith) (asked_row_lem n r is q.0 ∙ y) e)

    -- there is room, however many records a log of 16384 words holds
    pub get_room : L ≤ 16384 → (log : List ℕ) (t : ℕ) (key : List ℕ) (k : ℕ) → slot_of home ix log t key k ≡ Full → ⊥
    unfolding slot_of
    get_room l log t key k e = never_full ix (answers log t key k) (home t (front key k)) (low t (front key k)) ok.size (omega (arith, ok.busy, count_words keys_of records ok.whole)) e

  -- ## One record more

  module _ (keys_of : ℕ → ℕ) (ix : List ℕ) (records : List Record) (ok : IndexOk home keys_of ix records) (r : Record) where
    abbrev all : List Record
    all = records ++ (r ∷ [])

    place_kept : (n : ℕ) (x : Record) → slice_get records n ≡ Some x → place_of all n ≡ place_of records n
    place_kept n x is = place_more records r n (omega (arith, at_below records n is))

    stored_kept : (v : ℕ) → Stored records v → Stored all v
    stored_kept v s = record {
      index = s.index;
      row = s.row;
      is = at_append records (r ∷ []) s.index s.row s.is;
      kind = s.kind;
      place = s.place ∙ ap (λ (p : ℕ). p + 1) (sym (place_kept s.index s.row s.is));
    }

    -- one that is no predicted row
    pub other_ok : (r.kind ≡ 2 → ⊥) → IndexOk home keys_of ix all
    other_ok d = record {
      size = ok.size;
      whole = All-append (Whole keys_of) records (r ∷ []) ok.whole (record { word = λ e. absurd (d e); key = λ e. absurd (d e) }, tt);
      once = λ t key. rw (rows_more (keys_of t) t key records r, ne_eqb _ _ d, append-nil) (ok.once t key);
      stored = λ s b. stored_kept (get_or ix s 0) (ok.stored s b);
      reached = λ n x is kind.
          ⊎_elim
          (λ (q : slice_get records n ≡ Some x). rw (place_kept n x q) (ok.reached n x q kind))
          (λ (q : (n ≡ length records) × (r ≡ x)). absurd (d (ap (λ (y : Record). y.kind) q.1 ∙ kind)))
          (at_cases records r n x is);
      busy = ok.busy ∙ sym (count_more records r ∙ rw (ne_eqb _ _ d) (omega arith));
    }

    -- the predicted row of a key that was looked for, its place stored at the free slot
    module _ (L : ℕ) (fits : log_words records ≤ L) (t : ℕ) (key : List ℕ) (s : ℕ) (free : slot_of home ix (log_of records L) t key (keys_of t) ≡ Free s) where
      abbrev v : ℕ
      v = log_words records + 1

      not_zero : v ≡ 0 → ⊥
      not_zero e = omega arith

      inside : s < length ix
      inside = omega (arith, get_below ix (log_of records L) t key (keys_of t) s free, ok.size)

      met : FreeAt ix 8192 (home t (front key (keys_of t))) s
      unfolding slot_of
      met = free_at ix (answers (log_of records L) t key (keys_of t)) 8192 (home t (front key (keys_of t))) s free

      module _ (kind : r.kind ≡ 2) (table : r.table ≡ t) (starts : take (keys_of t) r.words ≡ front key (keys_of t)) where
        -- no row had the key before
        once_more : (u : ℕ) (k : List ℕ) → length (predicted_rows (keys_of u) u k all) ≤ 1
        once_more u k = rw (rows_more (keys_of u) u k records r) (by (is_row (keys_of u) u k r) refl)
          where
            none_yet : is_row (keys_of u) u k r ≡ true → predicted_rows (keys_of u) u k records ≡ []
            none_yet y =
                let q = is_row_lem (keys_of u) u k r y in
                let e : t ≡ u = sym table ∙ q.1 in
                let f : front key (keys_of t) ≡ k = sym starts ∙ ap (λ (x : ℕ). take (keys_of x) r.words) e ∙ q.2 in
                rw (← e, ← f) (get_free keys_of ix records ok L fits t key s free)

            by : (b : Bool) → is_row (keys_of u) u k r ≡ b → length (predicted_rows (keys_of u) u k records ++ keep_if b r.words []) ≤ 1
            by false e = rw append-nil (ok.once u k)
            by true e = rw (none_yet e) (omega arith)

        stored_more : (i : ℕ) → (get_or (set ix s v) i 0 ≡ 0 → ⊥) → Stored all (get_or (set ix s v) i 0)
        stored_more i b =
            ⊎_elim
            (λ (e : i ≡ s).
            rw (e, get_or-set_same ix s v 0 inside) (record { index = length records; row = r; is = at_last records r; kind = kind; place = ap (λ (p : ℕ). p + 1) (sym (place_last records r)) }))
            (λ (d : i ≡ s → ⊥).
            let o = get_or-set_other ix s i v 0 d in
            rw o (stored_kept (get_or ix i 0) (ok.stored i (rw o at b))))
            (eq_cases i s)

        reached_more : (n : ℕ) (x : Record) → slice_get all n ≡ Some x → x.kind ≡ 2 → (j : ℕ) × Chain (set ix s v) (home_of_row home keys_of x) (place_of all n + 1) j
        reached_more n x is k =
            ⊎_elim
            (λ (q : slice_get records n ≡ Some x).
            let c = ok.reached n x q k in
            rw (place_kept n x q) (c.0, chain_kept ix s v inside not_zero (home_of_row home keys_of x) (place_of records n + 1) c.0 met.free (λ z. omega arith) c.1))
            (λ (q : (n ≡ length records) × (r ≡ x)).
            rw (q.0, ← q.1, place_last records r, row_home keys_of t (front key (keys_of t)) r table starts) (met.steps, chain_new ix s v inside not_zero (home t (front key (keys_of t))) met))
            (at_cases records r n x is)

        pub insert_ok : 0 < length r.words → keys_of t ≤ length r.words → IndexOk home keys_of (set ix s (log_words records + 1)) all
        insert_ok word long = record {
          size = length-set ix s v ∙ ok.size;
          whole = All-append (Whole keys_of) records (r ∷ []) ok.whole (record { word = λ _. word; key = λ _. rw table long }, tt);
          once = once_more;
          stored = stored_more;
          reached = reached_more;
          busy = busy_more ix s v inside met.free not_zero ∙ rw ok.busy (sym (count_more records r ∙ rw (eq-eqb _ _ kind)));
        }
