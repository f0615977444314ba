-- A commit leaves tables as a book must have them: rows of the right length, clean, with distinct keys.
use Rattle.std.specs.Prelude.{ℕ, zero, suc, ◌+◌, ◌<◌, min, max, ◌≡◌, refl, ◌≢◌, Bool, true, false, not, cond, T, eqb, length, take, drop, slice_get}
use Rattle.std.proofs.Common.{add-zero, add-suc, suc-add, arith, ◌∙◌, subst, eqb→eq, length-append, take-append-drop, length-take-le, take_at}
use Rattle.std.proofs.Math.Path.{sym, ap}
use mathlib.Core.List.{List, [], ◌∷◌, ◌++◌}
use Rattle.model.specs.Basics.{when, eq_list, keep_if, All, AllPairs}
use Rattle.model.specs.Book.Syntax.{Clean, Table, width, table_at}
use Rattle.model.specs.Machine.State.{Record, record_size}
use Rattle.model.specs.Commit.{merge_words, has_key, without, put, removal, insertion, removals, insertions, committed, commit}
use Rattle.model.specs.Laws.Supposed.{TableOk}
use Rattle.model.specs.Laws.Logic.{and_T, eq_list_refl, found_ind, when_ind, All-map, All-append, All-left, All-right, All-get_or, All-at, All-zip}

take_drop_All : (P : ℕ → Type 0) (k : ℕ) (r : List ℕ) → All P r → All P (take k r) × All P (drop k r)
take_drop_All P k r h =
    let h' : All P (take k r ++ drop k r) = rw (take-append-drop k r) h in
    (All-left P (take k r) (drop k r) h', All-right P (take k r) (drop k r) h')

merge_length : (m : ℕ) (a b : List ℕ) → length (merge_words m a b) ≡ length a
merge_length m [] b = refl
merge_length m (x ∷ a) [] = refl
merge_length m (x ∷ a) (y ∷ b) = ap suc (merge_length m a b)

merge_clean : (m : ℕ) (a b : List ℕ) → All Clean a → All Clean b → All Clean (merge_words m a b)
merge_clean m [] b p q = tt
merge_clean m (x ∷ a) [] p q = p
merge_clean m (x ∷ a) (y ∷ b) p q =
    let cx : Clean x = p.0 in
    let cy : Clean y = q.0 in
    (All-get_or Clean (x ∷ y ∷ min x y ∷ max x y ∷ []) m x (cx, (cy, (omega arith, (omega arith, tt)))) cx, merge_clean m a b p.1 q.1)

without_All : (P : List ℕ → Type 0) (k : ℕ) (key : List ℕ) (rows : List (List ℕ)) → All P rows → All P (without k key rows)
without_All P k key [] h = tt
without_All P k key (r ∷ rows) h = go (not (has_key k key r)) (without_All P k key rows h.1)
  where
    go : (b : Bool) → All P (without k key rows) → All P (keep_if b r (without k key rows))
    go true t = (h.0, t)
    go false t = t

without_pairs : (R : List ℕ → List ℕ → Type 0) (k : ℕ) (key : List ℕ) (rows : List (List ℕ)) → AllPairs R rows → AllPairs R (without k key rows)
without_pairs R k key [] h = tt
without_pairs R k key (r ∷ rows) h = go (not (has_key k key r)) (without_pairs R k key rows h.1)
  where
    go : (b : Bool) → AllPairs R (without k key rows) → AllPairs R (keep_if b r (without k key rows))
    go true t = (without_All (R r) k key rows h.0, t)
    go false t = t

module _ (T₀ : Table) where
  abbrev k : ℕ
  k = T₀.keys

  record RowsOk (rows : List (List ℕ)) : Type 0 where
    sized : All (λ r. length r ≡ width T₀) rows
    clean : All (All Clean) rows
    distinct : AllPairs (λ a b. take k a ≢ take k b) rows

  module _ (row : List ℕ) (len : length row ≡ width T₀) (cl : All Clean row) where
    abbrev m : ℕ
    m = T₀.merge

    abbrev merged : List ℕ → List ℕ
    merged r = take k r ++ merge_words m (drop k r) (drop k row)

    merged_length : (r : List ℕ) → length (merged r) ≡ length r
    merged_length r = omega (arith, length-append (take k r) (merge_words m (drop k r) (drop k row)), merge_length m (drop k r) (drop k row), length-append (take k r) (drop k r), ap length (take-append-drop k r))

    merged_key : (r : List ℕ) → length r ≡ width T₀ → take k (merged r) ≡ take k r
    merged_key r e = take_at (take k r) (merge_words m (drop k r) (drop k row)) k (length-take-le k r (omega arith))

    put_All : (P : List ℕ → Type 0) → P row → ((r : List ℕ) → P r → P (merged r)) → (rows : List (List ℕ)) → All P rows → All P (put k m row rows)
    put_All P p f [] h = (p, tt)
    put_All P p f (r ∷ rows) h = go (has_key k (take k row) r) (put_All P p f rows h.1)
      where
        go : (b : Bool) → All P (put k m row rows) → All P (cond b (merged r ∷ rows) (r ∷ put k m row rows))
        go true t = (f r h.0, h.1)
        go false t = (h.0, t)

    -- a key that no row has, and that is not the new one's, stays so
    put_other : (key : List ℕ) → key ≢ take k row → (rows : List (List ℕ)) → All (λ r. length r ≡ width T₀) rows → All (λ r. key ≢ take k r) rows → All (λ r. key ≢ take k r) (put k m row rows)
    put_other key n rows z h =
        All-map (λ r p. p.1) (put k m row rows)
        (put_All (λ r. (length r ≡ width T₀) × (key ≢ take k r)) (len, n) (λ r p. (merged_length r ∙ p.0, λ e. p.1 (e ∙ merged_key r p.0))) rows (both rows z h))
      where
        both : (xs : List (List ℕ)) → All (λ r. length r ≡ width T₀) xs → All (λ r. key ≢ take k r) xs → All (λ r. (length r ≡ width T₀) × (key ≢ take k r)) xs
        both [] a c = tt
        both (x ∷ xs) a c = ((a.0, c.0), both xs a.1 c.1)

    put_distinct : (rows : List (List ℕ)) → All (λ r. length r ≡ width T₀) rows → AllPairs (λ a b. take k a ≢ take k b) rows → AllPairs (λ a b. take k a ≢ take k b) (put k m row rows)
    put_distinct [] z h = (tt, tt)
    put_distinct (r ∷ rows) z h = go (has_key k (take k row) r) refl (put_distinct rows z.1 h.1)
      where
        go : (b : Bool) → has_key k (take k row) r ≡ b → AllPairs (λ a c. take k a ≢ take k c) (put k m row rows) → AllPairs (λ a c. take k a ≢ take k c) (cond b (merged r ∷ rows) (r ∷ put k m row rows))
        go true e t = (All-map (λ x p q. p (sym (merged_key r z.0) ∙ q)) rows h.0, h.1)
        go false e t = (put_other (take k r) (λ q. subst T e (subst (λ y. T (eq_list (take k r) y)) q (eq_list_refl (take k r)))) rows z.1 h.0, t)

    put_ok : (rows : List (List ℕ)) → RowsOk rows → RowsOk (put k m row rows)
    put_ok rows h = record {
      sized = put_All (λ r. length r ≡ width T₀) len (λ r p. merged_length r ∙ p) rows h.sized;
      clean = put_All (All Clean) cl (λ r p. All-append Clean (take k r) _ (take_drop_All Clean k r p).0 (merge_clean m (drop k r) (drop k row) (take_drop_All Clean k r p).1 (take_drop_All Clean k row cl).1)) rows h.clean;
      distinct = put_distinct rows h.sized h.distinct;
    }

  without_ok : (key : List ℕ) (rows : List (List ℕ)) → RowsOk rows → RowsOk (without k key rows)
  without_ok key rows h = record { sized = without_All _ k key rows h.sized; clean = without_All (All Clean) k key rows h.clean; distinct = without_pairs _ k key rows h.distinct }

  module _ (log : List Record) (t : ℕ) (fits : All (λ r. T (insertion t r) → (length r.words ≡ width T₀) × All Clean r.words) log) where
    removals_ok : (n : ℕ) (rows : List (List ℕ)) → RowsOk rows → RowsOk (removals log t T₀ n rows)
    removals_ok zero rows h = h
    removals_ok (suc n) rows h =
        let p : RowsOk (removals log t T₀ n rows) = removals_ok n rows h in
        found_ind RowsOk (slice_get log n) (λ r. when (removal t r) (without k r.words) (removals log t T₀ n rows)) (λ _. removals log t T₀ n rows)
        (λ r e. when_ind RowsOk (removal t r) (without k r.words) (removals log t T₀ n rows) (λ _. without_ok r.words _ p) p) (λ _. p)

    insertions_ok : (n : ℕ) (rows : List (List ℕ)) → RowsOk rows → RowsOk (insertions log t T₀ n rows)
    insertions_ok zero rows h = h
    insertions_ok (suc n) rows h =
        let p : RowsOk (insertions log t T₀ n rows) = insertions_ok n rows h in
        found_ind RowsOk (slice_get log n) (λ r. when (insertion t r) (put k T₀.merge r.words) (insertions log t T₀ n rows)) (λ _. insertions log t T₀ n rows)
        (λ r e. when_ind RowsOk (insertion t r) (put k T₀.merge r.words) (insertions log t T₀ n rows)
        (λ i. let q = All-at (λ x. T (insertion t x) → (length x.words ≡ width T₀) × All Clean x.words) log n fits e i in put_ok r.words q.0 q.1 _ p) p) (λ _. p)

    pub committed_ok : TableOk T₀ → TableOk (committed log t T₀)
    unfolding committed
    committed_ok h =
        let p = insertions_ok (length log) _ (removals_ok (length log) T₀.rows (record { sized = h.sized; clean = h.clean; distinct = h.distinct })) in
        record { sized = p.sized; clean = p.clean; distinct = p.distinct }

-- ## After a run

insert_size : (t : Table) (kind : ℕ) → T (not (eqb kind 1)) → record_size t kind ≡ width t
insert_size t kind n = go (eqb kind 1) n
  where
    go : (b : Bool) → T (not b) → cond b t.keys (width t) ≡ width t
    go true p = absurd p
    go false p = refl

module _ (ts : List Table) (log : List Record) (cl : All (λ r. All Clean r.words) log) (sz : All (λ r. length r.words ≡ record_size (table_at ts r.table) r.kind) log) where
  fits_at : (t : ℕ) (T₀ : Table) → table_at ts t ≡ T₀ → All (λ r. T (insertion t r) → (length r.words ≡ width T₀) × All Clean r.words) log
  fits_at t T₀ e = All-zip one log cl sz
    where
      one : (r : Record) → All Clean r.words → length r.words ≡ record_size (table_at ts r.table) r.kind → T (insertion t r) → (length r.words ≡ width T₀) × All Clean r.words
      one r c z i =
          let p = and_T (eqb r.table t) (not (eqb r.kind 1)) i in
          let et : table_at ts r.table ≡ T₀ = ap (table_at ts) (eqb→eq r.table t p.0) ∙ e in
          (z ∙ insert_size (table_at ts r.table) r.kind p.1 ∙ ap width et, c)

  pub commit_ok : (rest : List Table) (t : ℕ) → ((i : ℕ) → i < length rest → table_at ts (t + i) ≡ table_at rest i) → All TableOk rest → All TableOk (commit log rest t)
  unfolding commit
  commit_ok [] t h ok = tt
  commit_ok (T₀ ∷ rest) t h ok = (
    committed_ok T₀ log t (fits_at t T₀ (ap (table_at ts) (sym (add-zero t)) ∙ h 0 (omega arith))) ok.0,
    commit_ok rest (suc t) (λ i lt. ap (table_at ts) (suc-add t i ∙ sym (add-suc t i)) ∙ h (suc i) (omega arith)) ok.1,
  )
