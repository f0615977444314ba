-- The commit of a log that holds records is the model's: over exactly where its rows have no room, else its rows, table by table.
use Prim.Native.Nat.{ℕ, zero, suc, ◌+◌, ◌<◌, ◌≤◌}
use Rattle.std.specs.Prelude.{◌≡◌, ◌⊎◌, Bool, not, cond, ltb, eqb, get_or, set, take, drop, replicate, None, Some, slice_get}
use Rattle.std.proofs.Math.Path.{refl, ap}
use Rattle.std.proofs.Common.{sym, ◌∙◌, inr, add-zero, length-append, get_or-drop, take_at, drop_at, take-take, drop-cons}
use Rattle.std.proofs.Math.Logic.{inl}
use Rattle.std.proofs.Math.Bool.{true, false}
use mathlib.Core.List.{List, [], ◌∷◌, ◌++◌, map, append-nil, append_assoc}
use native.Mathlib.Omega.{arith}
use borrow.Author.Tests.{lt-ltb, le-ltb, eqb-true, not-true}
use Rattle.std.proofs.Math.ListN.{length}
use Rattle.std.proofs.lemmas.List.{set_at}
use Rattle.std.proofs.Math.Seq.{append_snoc}
use Rattle.model.specs.Basics.{iter, when, found, keep_if, join, All, tab}
use Rattle.model.specs.Book.Syntax.{Table, width, table_at}
use Rattle.model.specs.Book.Contents.{first_of, contents_refusal, table_count}
use Rattle.model.specs.Book.Decode.{part, row_place, read_table}
use Rattle.model.specs.Book.Read.{bodies_refusal, tables}
use Rattle.model.specs.Machine.State.{Record}
use Rattle.model.specs.Commit.{put, insertion, removals, insertions, committed, commit}
use Rattle.model.specs.Answer.{row_words}
use Rattle.model.specs.Laws.Logic.{and_split, at_length}
use Rattle.model.specs.Laws.Lists.{length_tab, get_or_tab, all_tab}
use Rattle.record_log.specs.Log.{place_of}
use Rattle.tables.specs.declared.TableInfo.{TableInfo}
use Rattle.tables.specs.Tables.{info_of, row_at, RowsStand}
use Rattle.commit.specs.Rows.{Rows, onto, appended, put_row}
use Rattle.commit.specs.Walk.{insert_row, inserted}
use Rattle.commit.specs.Commit.{Left, keep_row, kept, begun, ended, table_committed, committed_rows}
use Rattle.commit.specs.Laid.{Wide, length_join, put_wide, laid, Laid, append_laid, put_laid}
use Rattle.record_log.specs.RecordLaws.{Sized, records_of, size_is, its_size, insertion_is, words_are, walk_records}
use Rattle.commit.specs.Removals.{remain, remain_snoc, remain_all, named, removals_remain, removed_is}
use Rattle.model.specs.Laws.Book.{table_is}
use Rattle.commit.specs.BookLaws.{rows_wide, ready_table, few_tables}

module _ (w : List ℕ) (rs : List Record) (sized : All (Sized w) rs) (base : List ℕ) where
  abbrev log : List ℕ
  log = records_of rs

  -- ## A table

  module _ (t : ℕ) (ready : RowsStand w (info_of w t)) (done : List ℕ) where
    abbrev T : Table
    T = read_table w (first_of w t)

    abbrev i : TableInfo
    i = info_of w t

    abbrev gone : List ℕ → Bool
    gone = named rs t T (length rs)

    abbrev row : ℕ → List ℕ
    row j = part w (row_place w (first_of w t) j) i.width

    -- the rows that no removal names
    keep_laid : (n : ℕ) (s : Rows) → Laid base done (remain gone (tab row n)) s → Laid base done (remain gone (tab row (suc n))) (keep_row w log t i (row_at i n) s)
    unfolding keep_row tab read_table
    keep_laid n s h = rw (removed_is w rs sized t T refl (row n) (part w (row_at i n) i.keys) (take-take i.keys i.width (drop (row_at i n) w) ready.stands.keys), remain_snoc gone (tab row n) (row n)) (by (gone (row n)))
      where
        by : (b : Bool) → Laid base done (remain gone (tab row n) ++ keep_if (not b) (row n) []) (cond b s (appended (row n) s))
        by true = rw (append-nil (remain gone (tab row n))) h
        by false = append_laid base done (remain gone (tab row n)) (row n) s h

    module _ (s : Rows) (h : Laid base done [] s) where
      kept_laid : (n : ℕ) → Laid base done (remain gone (tab row n)) (kept w log t i n s)
      unfolding kept tab
      kept_laid zero = h
      kept_laid (suc n) = keep_laid n (kept w log t i n s) (kept_laid n)

      old_laid : Laid base done (removals rs t T (length rs) T.rows) (kept w log t i i.rows s)
      unfolding read_table
      old_laid = rw (removals_remain rs t T (length rs) T.rows) (kept_laid i.rows)

    old_wide : All (Wide i.width) (removals rs t T (length rs) T.rows)
    old_wide = rw (removals_remain rs t T (length rs) T.rows) (remain_all (Wide i.width) gone T.rows (rows_wide w (first_of w t) ready))

    -- rows of the table's width, laid out
    abbrev Placed : List (List ℕ) → Rows → Type 0
    Placed rows s = All (Wide i.width) rows × Laid base done rows s

    -- the log's rows
    insert_laid : (n : ℕ) (rows : List (List ℕ)) (s : Rows) → n < length rs → Placed rows s → Placed (found (slice_get rs n) (λ r. when (insertion t r) (put T.keys T.merge r.words) rows) (λ _. rows)) (insert_row log t i (place_of rs n) s)
    unfolding insert_row read_table
    insert_laid n rows s l h =
        let p = at_length rs n l in
        rw (p.1, insertion_is w rs sized n p.0 p.1 t) (by p.0 p.1 (insertion t p.0) refl)
      where
        by : (r : Record) → slice_get rs n ≡ Some r → (b : Bool) → insertion t r ≡ b → Placed (when b (put i.keys i.merge r.words) rows) (when b (put_row i (part log (place_of rs n + 2) i.width)) s)
        by r e false q = h
        by r e true q =
            let d = and_split (eqb r.table t) (not (eqb r.kind 1)) q in
            let z : length r.words ≡ i.width = size_is (its_size w rs sized n r e) ∙ rw (not-true (eqb r.kind 1) d.1, eqb-true r.table t d.0) in
            rw (words_are w rs sized n r e i.width z) (put_wide i.keys i.merge r.words i.width z rows h.0, put_laid base done rows i r.words ready.stands.keys z h.0 s h.1)

    inserted_laid : (rows : List (List ℕ)) (s : Rows) → Placed rows s → Placed (insertions rs t T (length rs) rows) (inserted w log t i s)
    unfolding inserted
    inserted_laid rows s h = rw (walk_records w rs sized (insert_row log t i) s) (go (length rs) (omega arith))
      where
        go : (n : ℕ) → n ≤ length rs → Placed (insertions rs t T n rows) (iter (λ j. insert_row log t i (place_of rs j)) n s)
        go zero l = h
        go (suc n) l = insert_laid n (insertions rs t T n rows) (iter (λ j. insert_row log t i (place_of rs j)) n s) (omega arith) (go n (omega arith))

    table_laid : (s : Rows) → Laid base done [] s → Placed (committed rs t T).rows (inserted w log t i (kept w log t i i.rows s))
    unfolding committed
    table_laid s h = inserted_laid (removals rs t T (length rs) T.rows) (kept w log t i i.rows s) (old_wide, old_laid s h)

-- ## All tables

-- the rows of all tables, one after the other; how many each has
abbrev pub all_rows : List Table → List ℕ
all_rows ts = join (map (λ (T : Table). join T.rows) ts)

abbrev pub row_counts : List Table → List ℕ
row_counts ts = map (λ (T : Table). length T.rows) ts

-- the words lent for rows, and the answer, where n words of rows have room
abbrev pub whole : List ℕ → List Table → ℕ → Left
whole base ts n = record { words = all_rows ts ++ drop n base; result = record { counts = onto (replicate 16 0) (row_counts ts); used = n; over = false } }

rows_snoc : (ts : List Table) (T : Table) → all_rows (ts ++ (T ∷ [])) ≡ all_rows ts ++ join T.rows
rows_snoc [] T = append-nil (join T.rows)
rows_snoc (S ∷ ts) T = ap (λ (x : List ℕ). join S.rows ++ x) (rows_snoc ts T) ∙ sym (append_assoc (join S.rows) (all_rows ts) (join T.rows))

counts_snoc : (ts : List Table) (T : Table) → row_counts (ts ++ (T ∷ [])) ≡ row_counts ts ++ (length T.rows ∷ [])
counts_snoc [] T = refl
counts_snoc (S ∷ ts) T = ap (λ (x : List ℕ). length S.rows ∷ x) (counts_snoc ts T)

length_counts : (ts : List Table) → length (row_counts ts) ≡ length ts
length_counts [] = refl
length_counts (T ∷ ts) = ap suc (length_counts ts)

set_onto : (base x : List ℕ) (n v : ℕ) → length x ≡ n → n < length base → set (onto base x) n v ≡ onto base (x ++ (v ∷ []))
set_onto base x n v e h =
    let d : drop (length x) base ≡ get_or base (length x) 0 ∷ drop (suc (length x)) base = drop-cons base (length x) 0 (omega arith) in
    let m : length (x ++ (v ∷ [])) ≡ suc (length x) = omega (arith, length-append x (v ∷ [])) in
    rw (m, d, set_at x (get_or base (length x) 0) (drop (suc (length x)) base) v n e) (sym (append_snoc x v (drop (suc (length x)) base)))

-- there is room for the rows of all tables, and they stand there; or there is none
abbrev Stage : List ℕ → List Table → Left → Type 0
Stage base ts c = ((length (all_rows ts) ≤ length base) × (c ≡ whole base ts (length (all_rows ts)))) ⊎ ((length base < length (all_rows ts)) × (c.result.over ≡ true))

begun_laid : (base : List ℕ) (ts : List Table) (c : Left) → Stage base ts c → Laid base (all_rows ts) [] (begun c)
begun_laid base ts c (inl (h, e)) = rw (e, append-nil (all_rows ts)) (inl (h, refl))
begun_laid base ts c (inr (h, o)) = rw (append-nil (all_rows ts)) (inr (h, o))

next_stage : (base : List ℕ) (ts : List Table) (n : ℕ) (T : Table) (c : Left) (s : Rows) → length ts ≡ n → n < 16 → Stage base ts c → Laid base (all_rows ts) T.rows s → Stage base (ts ++ (T ∷ [])) (ended n c s)
next_stage base ts n T c s m f (inl (h, e)) (inl (g, q)) = rw (rows_snoc ts T) (inl (g, rw (e, q, counts_snoc ts T, ← set_onto (replicate 16 0) (row_counts ts) n (length T.rows) (length_counts ts ∙ m) f)))
next_stage base ts n T c s m f (inr (h, o)) (inl (g, q)) = absurd (omega (arith, length-append (all_rows ts) (join T.rows)))
next_stage base ts n T c s m f (inl d) (inr (g, o)) = inr (rw (rows_snoc ts T) g, o)
next_stage base ts n T c s m f (inr d) (inr (g, o)) = inr (rw (rows_snoc ts T) g, o)

-- ## The model's tables

commit_snoc : (log : List Record) (ts : List Table) (T : Table) (t : ℕ) → commit log (ts ++ (T ∷ [])) t ≡ commit log ts t ++ (committed log (t + length ts) T ∷ [])
unfolding commit
commit_snoc log [] T t = rw (add-zero t)
commit_snoc log (S ∷ ts) T t =
    let e : suc t + length ts ≡ t + suc (length ts) = omega arith in
    ap (λ (x : List Table). committed log t S ∷ x) (commit_snoc log ts T (suc t)) ∙ rw e

pub commit_tab : (log : List Record) (f : ℕ → Table) (n : ℕ) → commit log (tab f n) 0 ≡ tab (λ t. committed log t (f t)) n
unfolding commit tab
commit_tab log f zero = refl
commit_tab log f (suc n) =
    let e : 0 + length (tab f n) ≡ n = omega (arith, length_tab f n) in
    commit_snoc log (tab f n) (f n) 0 ∙ rw (e, commit_tab log f n)

-- rows as wide as their table says
abbrev pub WideTable : Table → Type 0
WideTable T = All (Wide (width T)) T.rows

pub row_words_lem : (ts : List Table) → All WideTable ts → row_words ts ≡ length (all_rows ts)
row_words_lem [] h = refl
row_words_lem (T ∷ ts) h = omega (arith, length-append (join T.rows) (all_rows ts), length_join (width T) T.rows h.0, row_words_lem ts h.1)

-- ## The commit

-- a table that keeps its sizes and its merge rule
pub record Kept (T U : Table) : Type 0 where
  pub keys : U.keys ≡ T.keys
  pub vals : U.vals ≡ T.vals
  pub merge : U.merge ≡ T.merge

module _ (w : List ℕ) (no_contents : contents_refusal w ≡ None) (no_bodies : bodies_refusal w ≡ None) (rs : List Record) (sized : All (Sized w) rs) where
  abbrev after : ℕ → Table
  after t = committed rs t (read_table w (first_of w t))

  -- the tables after the commit
  abbrev ts : List Table
  ts = commit rs (tables w) 0

  tables_are : ts ≡ tab after (table_count w)
  unfolding tables
  tables_are = commit_tab rs (λ t. read_table w (first_of w t)) (table_count w)

  pub commit_length : length ts ≡ table_count w
  commit_length = ap length tables_are ∙ length_tab after (table_count w)

  pub commit_kept : (t : ℕ) → t < table_count w → Kept (table_at (tables w) t) (table_at ts t)
  unfolding committed
  commit_kept t h =
      let e : table_at ts t ≡ after t = ap (λ (x : List Table). table_at x t) tables_are ∙ get_or_tab after (table_count w) t _ h in
      rw (e, table_is w t h) (record { keys = refl; vals = refl; merge = refl })

  pub commit_wide : All WideTable ts
  unfolding committed read_table
  commit_wide = rw tables_are (all_tab WideTable after (table_count w) (λ t h. (table_laid w rs sized [] t (ready_table w no_contents no_bodies t h) [] (laid [] [] []) (inl (omega arith, refl))).0))

  -- the words lent for rows
  module _ (base : List ℕ) where
    abbrev turn : ℕ → Left → Left
    turn = table_committed w (records_of rs)

    abbrev nothing : Left
    nothing = record { words = base; result = record { counts = replicate 16 0; used = 0; over = false } }

    stage : (n : ℕ) → n ≤ table_count w → Stage base (tab after n) (iter turn n nothing)
    unfolding tab table_committed
    stage zero h = inl (omega arith, refl)
    stage (suc n) h =
        let d = stage n (omega arith) in
        next_stage base (tab after n) n (after n) (iter turn n nothing) _ (length_tab after n) (omega (arith, few_tables w no_contents no_bodies)) d
        (table_laid w rs sized base n (ready_table w no_contents no_bodies n (omega arith)) (all_rows (tab after n)) (begun (iter turn n nothing)) (begun_laid base (tab after n) (iter turn n nothing) d)).1

    all_stages : Stage base ts (committed_rows w (table_count w) (records_of rs) base)
    unfolding committed_rows
    all_stages = rw tables_are (stage (table_count w) (omega arith))

    -- refusal 15 exactly where the rows have no room
    pub over_is : (committed_rows w (table_count w) (records_of rs) base).result.over ≡ ltb (length base) (row_words ts)
    over_is = rw (row_words_lem ts commit_wide) (by all_stages)
      where
        by : Stage base ts (committed_rows w (table_count w) (records_of rs) base) → (committed_rows w (table_count w) (records_of rs) base).result.over ≡ ltb (length base) (length (all_rows ts))
        by (inl (h, e)) = ap (λ (c : Left). c.result.over) e ∙ sym (le-ltb (length base) (length (all_rows ts)) h)
        by (inr (h, o)) = o ∙ sym (lt-ltb (length base) (length (all_rows ts)) h)

    -- else all rows stand there, table by table
    pub committed_is : row_words ts ≤ length base → committed_rows w (table_count w) (records_of rs) base ≡ whole base ts (row_words ts)
    committed_is h = rw (row_words_lem ts commit_wide) (by all_stages)
      where
        by : Stage base ts (committed_rows w (table_count w) (records_of rs) base) → committed_rows w (table_count w) (records_of rs) base ≡ whole base ts (length (all_rows ts))
        by (inl (g, e)) = e
        by (inr (g, o)) = absurd (omega (arith, row_words_lem ts commit_wide))

-- ## What stands where

pub rows_first : (base : List ℕ) (ts : List Table) (n : ℕ) → n ≡ length (all_rows ts) → take n (whole base ts n).words ≡ all_rows ts
rows_first base ts n e = take_at (all_rows ts) (drop n base) n (sym e)

pub rest_as_was : (base : List ℕ) (ts : List Table) (n : ℕ) → n ≡ length (all_rows ts) → drop n (whole base ts n).words ≡ drop n base
rest_as_was base ts n e = drop_at (all_rows ts) (drop n base) n (sym e)

counts_at : (ts : List Table) (zeros : List ℕ) (t : ℕ) → ((j : ℕ) → get_or zeros j 0 ≡ 0) → get_or (row_counts ts ++ zeros) t 0 ≡ length (table_at ts t).rows
counts_at [] zeros t z = z t
counts_at (T ∷ ts) zeros zero z = refl
counts_at (T ∷ ts) zeros (suc t) z = counts_at ts zeros t z

-- 0 past the last table
pub count_at : (base : List ℕ) (ts : List Table) (n t : ℕ) → get_or (whole base ts n).result.counts t 0 ≡ length (table_at ts t).rows
count_at base ts n t = counts_at ts (drop (length (row_counts ts)) (replicate 16 0)) t (λ j. get_or-drop (length (row_counts ts)) (replicate 16 0) j 0 ∙ zero_at 16 (length (row_counts ts) + j))
  where
    zero_at : (n j : ℕ) → ◌≡◌ {A = ℕ} (get_or (replicate n 0) j 0) 0
    zero_at zero j = refl
    zero_at (suc n) zero = refl
    zero_at (suc n) (suc j) = zero_at n j
