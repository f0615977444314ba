-- The walk over a log that holds records: each of them in turn, with its kind, its table and its words.
use Prim.Native.Nat.{ℕ, zero, suc, ◌+◌, ◌<◌, ◌≤◌}
use Rattle.std.specs.Prelude.{◌≡◌, cond, List, [], ◌∷◌, map, eqb, length, get_or, Some, slice_get}
use Rattle.std.proofs.Math.Path.{refl, sym, ap}
use Rattle.std.proofs.Common.{◌∙◌, append-nil, arith}
use Rattle.std.proofs.Math.Nat.{zero-sub}
use Rattle.std.proofs.Math.Seq.{take-length}
use Rattle.model.specs.Basics.{iter, join, All}
use Rattle.model.specs.Book.Syntax.{Table, table_at}
use Rattle.model.specs.Book.Contents.{table_count}
use Rattle.model.specs.Book.Decode.{part, read_table}
use Rattle.model.specs.Book.Read.{tables}
use Rattle.model.specs.Machine.State.{Record, record_size, log_words}
use Rattle.model.specs.Answer.{record_words}
use Rattle.model.specs.Commit.{removal, insertion}
use Rattle.model.specs.Laws.Logic.{none_some, some_inj, at_length, All-at}
use Rattle.record_log.specs.Log.{log_of, place_of}
use Rattle.record_log.specs.LogLaws.{length_records, record_within, kind_at, table_at_lem, row_at_lem}
use Rattle.tables.specs.Tables.{info_of}
use Rattle.record_log.specs.Walk.{end_of, walked, is_removal, is_insertion}
use Rattle.record_log.specs.WalkLaws.{Reached, reached_none, reached_more, reached_end, end_after}
use Rattle.model.specs.Laws.Book.{table_is}

-- a record of a table of the book, with as many words as its kind asks for
pub record Sized (w : List ℕ) (r : Record) : Type 0 where
  pub table : r.table < table_count w
  pub size : length r.words ≡ record_size (table_at (tables w) r.table) r.kind

-- by the book's words
pub size_is : {w : List ℕ} {r : Record} → Sized w r → length r.words ≡ cond (eqb r.kind 1) (info_of w r.table).keys (info_of w r.table).width
unfolding read_table
size_is {w} {r} s = s.size ∙ ap (λ (T : Table). record_size T r.kind) (table_is w r.table s.table)

next_place : (rs : List Record) (n : ℕ) (r : Record) → slice_get rs n ≡ Some r → place_of rs (suc n) ≡ place_of rs n + 2 + length r.words
unfolding place_of
next_place [] n r e = absurd (none_some e)
next_place (s ∷ rs) zero r e = omega (arith, ap (λ (x : Record). length x.words) (some_inj e))
next_place (s ∷ rs) (suc n) r e = omega (arith, next_place rs n r e)

-- the words of the records, as the log has them
abbrev pub records_of : List Record → List ℕ
records_of rs = join (map record_words rs)

no_zeros : (rs : List Record) → log_of rs 0 ≡ records_of rs
unfolding log_of
no_zeros rs = rw zero-sub (append-nil (records_of rs))

module _ (w : List ℕ) (rs : List Record) (sized : All (Sized w) rs) where
  abbrev log : List ℕ
  log = records_of rs

  module _ (n : ℕ) (r : Record) (e : slice_get rs n ≡ Some r) where
    kind_here : get_or log (place_of rs n) 0 ≡ r.kind
    kind_here = rw (no_zeros rs) at (kind_at rs n r e 0)

    table_here : get_or log (place_of rs n + 1) 0 ≡ r.table
    table_here = rw (no_zeros rs) at (table_at_lem rs n r e 0)

    pub its_size : Sized w r
    its_size = All-at (Sized w) rs n sized e

    end_is : place_of rs (suc n) ≡ end_of w log (place_of rs n)
    unfolding end_of
    end_is = rw (kind_here, table_here) (next_place rs n r e ∙ ap (λ (k : ℕ). place_of rs n + 2 + k) (size_is its_size))

    pub removal_is : (t : ℕ) → is_removal log t (place_of rs n) ≡ removal t r
    removal_is t = rw (kind_here, table_here)

    pub insertion_is : (t : ℕ) → is_insertion log t (place_of rs n) ≡ insertion t r
    insertion_is t = rw (kind_here, table_here)

    pub words_are : (k : ℕ) → length r.words ≡ k → part log (place_of rs n + 2) k ≡ r.words
    words_are k q = rw (← q) (rw (no_zeros rs) at (row_at_lem rs n r e 0))

  module _ {A : Type 0} (f : ℕ → A → A) (a : A) where
    abbrev turn : ℕ → A → A
    turn i = f (place_of rs i)

    reach : (n : ℕ) → n ≤ length rs → Reached (end_of w log) (length log) f a (place_of rs n) (iter turn n a)
    unfolding place_of
    reach zero h = reached_none (end_of w log) (length log) f a
    reach (suc n) h =
        let p = at_length rs n (omega arith) in
        let e = end_is n p.0 p.1 in
        reached_more (end_of w log) (length log) f a (reach n (omega arith)) e (omega (arith, e, end_after w log (place_of rs n))) (omega (arith, record_within rs n p.0 p.1, next_place rs n p.0 p.1, length_records rs)) refl

    -- as many turns as there are records
    pub walk_records : walked (end_of w log) (length log) f a ≡ iter turn (length rs) a
    unfolding place_of
    walk_records = sym (reached_end (end_of w log) (length log) f a (reach (length rs) (omega arith)) refl (omega (arith, end_after w log (place_of rs (length rs)), ap log_words (take-length rs), length_records rs)))
