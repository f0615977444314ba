-- What a lane's turn in the plain machine does, in the terms of the code: w is the book's words.
use Rattle.std.specs.Prelude.{ℕ, ◌+◌, ◌*◌, ◌<◌, ◌≤◌, ◌≡◌, refl, Bool, true, false, leb, drop, replicate, Option, None, Some, slice_get}
use Rattle.std.proofs.Common.{sym, ◌∙◌, inl, inr, arith, eqb→eq}
use Rattle.std.proofs.Math.Path.{ap, subst}
use Rattle.std.proofs.Math.Bool.{not}
use mathlib.Core.List.{List, [], ◌∷◌}
use Rattle.std.proofs.Math.Dec.{eqb}
use Rattle.std.proofs.Math.ListN.{length, take}
use Rattle.model.specs.Basics.{found, only, when, All}
use Rattle.model.specs.Book.Syntax.{QueryEntry as ModelEntry}
use Rattle.model.specs.Book.Contents.{table_count}
use Rattle.model.specs.Book.Decode.{entry_at}
use Rattle.model.specs.Machine.State.{State, Event, reads, took, Bindings, Env, note, give, lose}
use Rattle.model.specs.Machine.Values.{value_of, values_of, list_of, find}
use Rattle.model.specs.Machine.Functions.{apply}
use Rattle.model.specs.Machine.Steps.{here, wait, table_of, take_column, lookup, invoke, take_default, read_pair, any_ne, assert_any_ne}
use Rattle.model.specs.Outcome.{env_of}
use Rattle.model.specs.Laws.Logic.{only_some, either}
use Rattle.model.specs.Laws.Lists.{length_tab}
use Rattle.model.specs.Laws.Book.{keys_of, table_keys}
use Rattle.model.specs.Laws.Passes.{Effect, keeps, loses, gives, live_by, out_by, Passed, passed_on, Does}
use Rattle.model.specs.Laws.Turns.{need_ind}
use Rattle.words.specs.Filled.{length_filled}
use Rattle.args.specs.Args.{as_list}
use Rattle.bindings.specs.Columns.{columns_of, word_of, fetched, value_at}
use Rattle.bindings.specs.BindingLaws.{Named, word_is, fetch_is}
use Rattle.tables.specs.Tables.{front}
use Rattle.tables.specs.TablesLaws.{front_take}
use Rattle.predicted_index.specs.Home.{home_of}
use Rattle.predicted_index.specs.Row.{sought_in}
use Rattle.predicted_index.specs.RowLaws.{row_committed}
use Rattle.ids.specs.declared.TableId.{TableId}
use Rattle.ids.specs.declared.ColumnId.{ColumnId}
use Rattle.ids.specs.declared.ExternalFunctionId.{ExternalFunctionId}
use Rattle.instr.specs.declared.Entries.{Entries}
use Rattle.instr.specs.declared.QueryEntry.{QueryEntry}
use Rattle.instr.specs.Meaning.{entry_of, entries_of}
use Rattle.lanes.specs.Lanes.{listed, asked, holds}
use Rattle.lanes.specs.declared.Ask.TheVariants.{Lookup, External}
use Rattle.lanes.specs.declared.Test.TheVariants.{Eq, Ne, AnyNe}

-- ## What an answer and a test come to

-- the lane gets its answer; `miss` is what happens where there is none
abbrev pub effect : Effect → Option ℕ → Effect
effect miss None = miss
effect miss (Some x) = gives x

abbrev pub verdict : Bool → Effect
verdict true = keeps
verdict false = loses

-- a turn f, by what it does on a miss, gives each lane its answer while the bindings are b
abbrev pub Answers : Bindings → (ℕ → Option ℕ) → (ℕ → (State → State) → State → State) → Type 0
Answers b ask f = (i : ℕ) (s : State) (miss : State → State) (e : Effect) → i < 256 → s.bindings ≡ b → ((s' : State) → s'.bindings ≡ b → Does e i s' (miss s')) → Does (effect e (ask i)) i s (f i miss s)

-- a turn f drops the lanes that fail
abbrev pub Judges : Bindings → (ℕ → Bool) → (ℕ → State → State) → Type 0
Judges b test f = (i : ℕ) (s : State) → i < 256 → s.bindings ≡ b → Does (verdict (test i)) i s (f i s)

-- what can be read while something is held out is as it was
abbrev pub Holding : (Bindings → Bindings) → Type 0
Holding held = (b : Bindings) (i : ℕ) (es : List ModelEntry) (ws : List ℕ) → values_of (held b) i es ≡ Some ws → values_of b i es ≡ Some ws

-- ## The same state but for its trace

noted : (x : Event) (s : State) → Passed s (note x s) s.live s.out
noted x s = record { bindings = refl; live_is = refl; out_is = refl; log = refl; counters = refl; changed = refl; answers = refl; status = refl }

-- a turn that goes on from a state with a longer trace
after_note : (x : Event) (e : Effect) (i : ℕ) (s s' : State) → Does e i (note x s) s' → Does e i s s'
after_note x e i s s' d = either inl (λ p. inr (passed_on s (note x s) s' s.live (live_by e i s.live) s.out (out_by e i s.out) (noted x s) p)) d

pub wait_does : (i : ℕ) (s : State) → Does keeps i s (wait s)
wait_does i s = inr (record { bindings = refl; live_is = refl; out_is = refl; log = refl; counters = refl; changed = refl; answers = refl; status = refl })

pub lose_does : (i : ℕ) (s : State) → Does loses i s (lose i s)
lose_does i s = inr (record { bindings = refl; live_is = refl; out_is = refl; log = refl; counters = refl; changed = refl; answers = refl; status = refl })

give_does : (i x : ℕ) (s : State) → Does (gives x) i s (give i x s)
give_does i x s = inr (record { bindings = refl; live_is = refl; out_is = refl; log = refl; counters = refl; changed = refl; answers = refl; status = refl })

not_not : (b : Bool) → b ≡ not (not b)
not_not true = refl
not_not false = refl

verdict_does : (b : Bool) (i : ℕ) (s : State) → Does (verdict b) i s (when (not b) (lose i) s)
verdict_does true i s = wait_does i s
verdict_does false i s = lose_does i s

-- ## What is read

module _ (w : List ℕ) (b : Bindings) (i : ℕ) (h : i < 256) (l : Entries) (short : l.count ≤ 16) (named : All Named (entries_of w l)) where
  pub list_is : (ws : List ℕ) → values_of b i (entries_of w l) ≡ Some ws → as_list (listed w (columns_of b) i l) ≡ ws
  list_is ws e = fetch_is b i h w l.at l.count ws short named e

  pub sized_is : (n : ℕ) (ws : List ℕ) → list_of b i n (entries_of w l) ≡ Some ws → (l.count ≡ n) × (as_list (listed w (columns_of b) i l) ≡ ws)
  sized_is n ws e =
      let p = only_some (eqb (length (entries_of w l)) n) (values_of b i (entries_of w l)) e in
      (sym (length_tab (λ k. entry_at w (l.at + 2 * k)) l.count) ∙ eqb→eq (length (entries_of w l)) n p.0, list_is ws p.1)

  -- the words of a key that has n
  pub key_is : (n : ℕ) (ws : List ℕ) → list_of b i n (entries_of w l) ≡ Some ws → front (listed w (columns_of b) i l).vals n ≡ ws
  unfolding fetched
  key_is n ws e =
      let p = sized_is n ws e in
      let size : length (listed w (columns_of b) i l).vals ≡ 16 = length_filled (λ k. value_at w (columns_of b) i (l.at + 2 * k)) l.count (replicate 16 0) short in
      front_take (listed w (columns_of b) i l).vals n (omega (arith, size, p.0)) ∙ ap (λ (k : ℕ). take k (listed w (columns_of b) i l).vals) (sym p.0) ∙ p.1

-- ## What asks

module _ (w : List ℕ) (room : ℕ → Bool) (k j : ℕ) where
  abbrev E : Env
  E = env_of w room

  -- the rest of a lookup: the row that was found, or a miss
  module _ (i : ℕ) (s : State) (ks : List ℕ) (col : ℕ) (miss : State → State) (e : Effect) (d : Does e i (note (reads (here k j i) ks) s) (miss (note (reads (here k j i) ks) s))) where
    abbrev s₁ : State
    s₁ = note (reads (here k j i) ks) s

    abbrev taken : Option (List ℕ) → State
    taken o = found o (λ r. take_column (here k j i) col r s₁) (λ _. miss s₁)

    -- a row has the column, or the machine is stuck
    taken_does : (o : Option (List ℕ)) → Does (effect e (slice_get (found o (λ r. r) (λ _. [])) col)) i s (taken o)
    unfolding take_column
    taken_does (Some r) =
        need_ind (Does (effect e (slice_get r col)) i s) (slice_get r col) s₁ (λ x. give i x (note (took (here k j i) r) s₁)) (inl refl)
        (λ x q. subst (λ (o : Option ℕ). Does (effect e o) i s (give i x (note (took (here k j i) r) s₁))) (sym q)
        (after_note (reads (here k j i) ks) (gives x) i s (give i x (note (took (here k j i) r) s₁))
        (after_note (took (here k j i) r) (gives x) i s₁ (give i x (note (took (here k j i) r) s₁)) (give_does i x (note (took (here k j i) r) s₁)))))
    taken_does None = after_note (reads (here k j i) ks) e i s (miss s₁) d

  module _ (t : TableId) (l : t.0 < table_count w) (key : Entries) (col : ColumnId) (short : key.count ≤ 16) (named : All Named (entries_of w key)) where
    -- a column of the row with the key that was read
    asked_row_lem : (b : Bindings) (i : ℕ) → i < 256 → (ks : List ℕ) → list_of b i (table_of E t.0).keys (entries_of w key) ≡ Some ks
        → asked w (columns_of b) (Lookup (sought_in w t) key col) i ≡ slice_get (found (find (table_of E t.0).keys (table_of E t.0).rows ks) (λ r. r) (λ _. [])) col.0
    unfolding asked
    asked_row_lem b i h ks e =
        let q = rw (table_keys w t.0 l) at e in
        ap (λ (r : List ℕ). slice_get r col.0) (row_committed home_of w t l (listed w (columns_of b) i key).vals [] ∙ ap (λ (k : List ℕ). found (find (table_of E t.0).keys (table_of E t.0).rows k) (λ r. r) (λ _. [])) (key_is w b i h key short named (keys_of w t.0) ks q))

    pub lookup_does : (b : Bindings) → Answers b (asked w (columns_of b) (Lookup (sought_in w t) key col)) (λ i miss. lookup E (here k j i) t.0 (entries_of w key) col.0 miss)
    unfolding lookup
    lookup_does b i s miss e h same d =
        subst (λ (b : Bindings). Does (effect e (asked w (columns_of b) (Lookup (sought_in w t) key col) i)) i s (lookup E (here k j i) t.0 (entries_of w key) col.0 miss s)) same
        (need_ind (Does (effect e (asked w (columns_of s.bindings) (Lookup (sought_in w t) key col) i)) i s) (list_of s.bindings i (table_of E t.0).keys (entries_of w key)) s _ (inl refl)
        (λ ks q. subst (λ (o : Option ℕ). Does (effect e o) i s (taken i s ks col.0 miss e (d (note (reads (here k j i) ks) s) same) (find (table_of E t.0).keys (table_of E t.0).rows ks))) (sym (asked_row_lem s.bindings i h ks q))
        (taken_does i s ks col.0 miss e (d (note (reads (here k j i) ks) s) same) (find (table_of E t.0).keys (table_of E t.0).rows ks))))

  -- ## What is called

  called_does : (o : Option ℕ) (i : ℕ) (s : State) (ws : List ℕ) (miss : State → State) (e : Effect) → Does e i (note (reads (here k j i) ws) s) (miss (note (reads (here k j i) ws) s))
      → Does (effect e o) i s (found o (λ x. give i x (note (reads (here k j i) ws) s)) (λ _. miss (note (reads (here k j i) ws) s)))
  called_does None i s ws miss e d = after_note (reads (here k j i) ws) e i s (miss (note (reads (here k j i) ws) s)) d
  called_does (Some x) i s ws miss e d = after_note (reads (here k j i) ws) (gives x) i s (give i x (note (reads (here k j i) ws) s)) (give_does i x (note (reads (here k j i) ws) s))

  module _ (c : ℕ) (held : Bindings → Bindings) (holding : Holding held) (func : ExternalFunctionId) (args : Entries) (short : args.count ≤ 16) (named : All Named (entries_of w args)) where
    pub invoke_does : (b : Bindings) → Answers b (asked w (columns_of b) (External func args)) (λ i miss. invoke E (here k j i) c held func.0 (entries_of w args) miss)
    unfolding invoke asked
    invoke_does b i s miss e h same d =
        subst (λ (b : Bindings). Does (effect e (asked w (columns_of b) (External func args) i)) i s (invoke E (here k j i) c held func.0 (entries_of w args) miss s)) same
        (need_ind (Does (effect e (asked w (columns_of s.bindings) (External func args) i)) i s) (list_of (held s.bindings) i (E.arity func.0) (entries_of w args)) s _ (inl refl)
        (λ ws q. subst (λ (xs : List ℕ). Does (effect e (apply func.0 xs)) i s (found (apply func.0 ws) (λ x. give i x (note (reads (here k j i) ws) s)) (λ _. miss (note (reads (here k j i) ws) s)))) (sym (read ws q))
        (called_does (apply func.0 ws) i s ws miss e (d (note (reads (here k j i) ws) s) same))))
      where
        read : (ws : List ℕ) → list_of (held s.bindings) i (E.arity func.0) (entries_of w args) ≡ Some ws → as_list (listed w (columns_of s.bindings) i args) ≡ ws
        read ws q = list_is w s.bindings i h args short named ws (holding s.bindings i (entries_of w args) ws (only_some (eqb (length (entries_of w args)) (E.arity func.0)) (values_of (held s.bindings) i (entries_of w args)) q).1)

  -- ## What an entry stands for

  pub default_does : (b : Bindings) (e : QueryEntry) → Named (entry_of e) → (i : ℕ) (s : State) → i < 256 → s.bindings ≡ b → Does (gives (word_of (columns_of b) i (entry_of e))) i s (take_default (here k j i) (entry_of e) s)
  unfolding take_default
  default_does b e named i s h same =
      subst (λ (b : Bindings). Does (gives (word_of (columns_of b) i (entry_of e))) i s (take_default (here k j i) (entry_of e) s)) same
      (need_ind (Does (gives (word_of (columns_of s.bindings) i (entry_of e))) i s) (value_of s.bindings i (entry_of e)) s (λ x. give i x (note (reads (here k j i) (x ∷ [])) s)) (inl refl)
      (λ x q. subst (λ (y : ℕ). Does (gives y) i s (give i x (note (reads (here k j i) (x ∷ [])) s))) (sym (word_is s.bindings i h (entry_of e) x named q))
      (after_note (reads (here k j i) (x ∷ [])) (gives x) i s (give i x (note (reads (here k j i) (x ∷ [])) s)) (give_does i x (note (reads (here k j i) (x ∷ [])) s)))))

  -- ## Tests

  -- a lane drops where the test of what it read fails
  judged_does : (b : Bool) (i : ℕ) (s : State) (ws : List ℕ) → Does (verdict b) i s (when (not b) (lose i) (note (reads (here k j i) ws) s))
  judged_does b i s ws = after_note (reads (here k j i) ws) (verdict b) i s (when (not b) (lose i) (note (reads (here k j i) ws) s)) (verdict_does b i (note (reads (here k j i) ws) s))

  -- two entries: the lanes are dropped where a test of what they stand for fails
  module _ (l r : QueryEntry) (nl : Named (entry_of l)) (nr : Named (entry_of r)) (test drops : ℕ → ℕ → Bool) (agree : (x y : ℕ) → drops x y ≡ not (test x y)) where
    abbrev verdict_of : Bindings → ℕ → Effect
    verdict_of b i = verdict (test (word_of (columns_of b) i (entry_of l)) (word_of (columns_of b) i (entry_of r)))

    abbrev pair : ℕ → State → State
    pair i = read_pair (here k j i) (entry_of l) (entry_of r) (λ x y. when (drops x y) (lose i))

    pair_does : (b : Bindings) (i : ℕ) (s : State) → i < 256 → s.bindings ≡ b → Does (verdict_of b i) i s (pair i s)
    unfolding read_pair
    pair_does b i s h same =
        subst (λ (b : Bindings). Does (verdict_of b i) i s (pair i s)) same
        (need_ind (Does (verdict_of s.bindings i) i s) (value_of s.bindings i (entry_of l)) s _ (inl refl)
        (λ x p. need_ind (Does (verdict_of s.bindings i) i s) (value_of s.bindings i (entry_of r)) s _ (inl refl)
        (λ y q. rw (word_is s.bindings i h (entry_of l) x nl p, word_is s.bindings i h (entry_of r) y nr q, agree x y) (judged_does (test x y) i s (x ∷ y ∷ [])))))

  module _ (l r : QueryEntry) (nl : Named (entry_of l)) (nr : Named (entry_of r)) where
    pub eq_does : (b : Bindings) → Judges b (holds w (columns_of b) (Eq l r)) (λ i. read_pair (here k j i) (entry_of l) (entry_of r) (λ x y. when (not (eqb x y)) (lose i)))
    unfolding holds
    eq_does b = pair_does l r nl nr eqb (λ x y. not (eqb x y)) (λ x y. refl) b

    pub ne_does : (b : Bindings) → Judges b (holds w (columns_of b) (Ne l r)) (λ i. read_pair (here k j i) (entry_of l) (entry_of r) (λ x y. when (eqb x y) (lose i)))
    unfolding holds
    ne_does b = pair_does l r nl nr (λ x y. not (eqb x y)) eqb (λ x y. not_not (eqb x y)) b

  module _ (ops : Entries) (d : ℕ) (short : ops.count ≤ 16) (named : All Named (entries_of w ops)) where
    pub any_ne_does : (b : Bindings) → Judges b (holds w (columns_of b) (AnyNe ops d)) (λ i. assert_any_ne (here k j i) d (entries_of w ops))
    unfolding holds assert_any_ne
    any_ne_does b i s h same =
        subst (λ (b : Bindings). Does (verdict (holds w (columns_of b) (AnyNe ops d) i)) i s (assert_any_ne (here k j i) d (entries_of w ops) s)) same
        (need_ind (Does (verdict (holds w (columns_of s.bindings) (AnyNe ops d) i)) i s) (only (leb d (length (entries_of w ops))) (values_of s.bindings i (entries_of w ops))) s _ (inl refl)
        (λ ws q. rw (list_is w s.bindings i h ops short named ws (only_some (leb d (length (entries_of w ops))) (values_of s.bindings i (entries_of w ops)) q).1) (judged_does (any_ne (take d ws) (drop d ws)) i s ws)))
