-- A record appended to a log that holds records, and where each record stands.
use Prim.Native.Nat.{ℕ, zero, suc, ◌+◌, ◌-◌, ◌<◌, ◌≤◌}
use Rattle.std.specs.Prelude.{◌≡◌, Bool, length, get_or, set, take, Some, slice_get, None}
use Rattle.std.proofs.Math.Path.{refl, ap}
use Rattle.std.proofs.Common.{sym, ◌∙◌, add-zero, add-one, le-leb, leb-true, length-append, drop-drop, get_or-drop}
use Rattle.std.proofs.Math.Bool.{true, false, cond}
use mathlib.Core.List.{List, [], ◌∷◌, ◌++◌, map, append_assoc, append-nil}
use Rattle.std.proofs.Math.Nat.{sub-zero, zero-sub}
use native.Mathlib.Omega.{arith}
use Rattle.std.proofs.Math.Dec.{leb}
use Rattle.std.proofs.lemmas.Bool.{lt-leb}
use Rattle.std.proofs.Math.ListN.{drop, replicate}
use Rattle.std.proofs.lemmas.List.{length-replicate, take-append-le}
use Rattle.std.proofs.lemmas.List.Edits.{sets}
use Rattle.std.proofs.Math.Seq.{sets-eq, take_at, drop-append-add, drop-append-le, take-append_seam, take-length}
use Rattle.model.specs.Basics.{tab, join}
use Rattle.model.specs.Machine.State.{Record, log_words}
use Rattle.model.specs.Answer.{record_words}
use Rattle.model.specs.Book.Decode.{part}
use Rattle.model.specs.Laws.Logic.{none_some, some_inj}
use Rattle.model.specs.Laws.Lists.{length_tab}
use Rattle.tables.specs.TablesLaws.{front_taken}
use Rattle.record_log.specs.Log.{record_of, appended, stored, log_of, place_of}

-- ## What the code leans on

-- one store more
pub sets_more : (vs l : List ℕ) (at x : ℕ) → set (sets l at vs) (at + length vs) x ≡ sets l at (vs ++ (x ∷ []))
sets_more [] l at x = ap (λ (k : ℕ). set l k x) (add-zero at)
sets_more (v ∷ vs) l at x =
    let e : at + suc (length vs) ≡ suc at + length vs = omega arith in
    ap (λ (k : ℕ). set (sets (set l at v) (suc at) vs) k x) e ∙ sets_more vs (set l at v) (suc at) x

pub store_more : (f : ℕ → ℕ) (i : ℕ) (l : List ℕ) (at : ℕ) → set (sets l at (tab f i)) (at + i) (f i) ≡ sets l at (tab f (i + 1))
unfolding tab
store_more f i l at =
    ap (λ (k : ℕ). set (sets l at (tab f i)) (at + k) (f i)) (sym (length_tab f i)) ∙ sets_more (tab f i) l at (f i) ∙ rw add-one

module _ (kind table : ℕ) (row : List ℕ) (n : ℕ) where
  pub length_record : length (record_of kind table row n) ≡ 2 + n
  length_record = omega (arith, length_tab (λ i. get_or row i 0) n)

  pub store_record : (log : List ℕ) (used : ℕ) → sets (set (set log used kind) (used + 1) table) (used + 2) (tab (λ i. get_or row i 0) n) ≡ sets log used (record_of kind table row n)
  store_record log used =
      let e : used + 2 ≡ suc (suc used) = omega arith in
      rw (e, add-one)

-- a row cut to its words
pub record_of_taken : (kind table : ℕ) (row : List ℕ) (n : ℕ) → n ≤ length row → record_of kind table (take n row) (length (take n row)) ≡ record_of kind table row n
record_of_taken kind table row n h = ap (λ (l : List ℕ). kind ∷ table ∷ l) (front_taken row n h)

module _ (log : List ℕ) (used : ℕ) (r : List ℕ) where
  pub no_room : length log < used + length r → (None ≡ appended log used r) × (log ≡ stored log used r)
  unfolding appended stored
  no_room h = (rw (lt-leb _ _ h), rw (lt-leb _ _ h))

  pub room : used + length r ≤ length log → (Some (used + length r) ≡ appended log used r) × (sets log used r ≡ stored log used r)
  unfolding appended stored
  room h = (rw (le-leb _ _ h), rw (le-leb _ _ h))

-- ## A log that holds records

pub length_records : (rs : List Record) → length (join (map record_words rs)) ≡ log_words rs
length_records [] = refl
length_records (r ∷ rs) = omega (arith, length-append r.words (join (map record_words rs)), length_records rs)

pub length_log : (rs : List Record) (L : ℕ) → log_words rs ≤ L → length (log_of rs L) ≡ L
unfolding log_of
length_log rs L h = simp (length-append, length_records, length-replicate) (omega arith)

pub no_records : (L : ℕ) → log_of [] L ≡ replicate L 0
unfolding log_of
no_records L = rw sub-zero

pub used_words : (rs : List Record) (L : ℕ) → take (log_words rs) (log_of rs L) ≡ join (map record_words rs)
unfolding log_of
used_words rs L = take_at (join (map record_words rs)) (replicate (L - log_words rs) 0) (log_words rs) (length_records rs)

-- one record more
pub more_words : (rs : List Record) (r : Record) → log_words (rs ++ (r ∷ [])) ≡ log_words rs + length (record_words r)
more_words [] r = omega arith
more_words (s ∷ rs) r = omega (arith, more_words rs r)

more_records : (rs : List Record) (r : Record) → join (map record_words (rs ++ (r ∷ []))) ≡ join (map record_words rs) ++ record_words r
more_records [] r = append-nil (record_words r)
more_records (s ∷ rs) r = ap (λ (l : List ℕ). record_words s ++ l) (more_records rs r) ∙ sym (append_assoc (record_words s) (join (map record_words rs)) (record_words r))

drop_replicate : (m n : ℕ) → ◌≡◌ {A = List ℕ} (drop m (replicate n 0)) (replicate (n - m) 0)
drop_replicate zero n = rw sub-zero
drop_replicate (suc m) zero = rw zero-sub
drop_replicate (suc m) (suc n) = let e : n - m ≡ suc n - suc m = omega arith in drop_replicate m n ∙ ap (λ (k : ℕ). replicate k 0) e

module _ (rs : List Record) (L : ℕ) (r : Record) where
  abbrev old : List ℕ
  old = join (map record_words rs)

  abbrev zeros : List ℕ
  zeros = replicate (L - log_words rs) 0

  abbrev size : ℕ
  size = length (record_words r)

  abbrev all : List Record
  all = rs ++ (r ∷ [])

  sets_log : log_words all ≤ L → sets (log_of rs L) (log_words rs) (record_words r) ≡ log_of all L
  unfolding log_of
  sets_log h =
      let m = more_words rs r in
      let t = take_at old zeros (log_words rs) (length_records rs) in
      let z : L - log_words rs - size ≡ L - log_words all = omega arith in
      let d : drop (log_words rs + size) (old ++ zeros) ≡ replicate (L - log_words all) 0 =
      ap (λ (n : ℕ). drop (n + size) (old ++ zeros)) (sym (length_records rs)) ∙ drop-append-add old zeros size ∙ drop_replicate size (L - log_words rs) ∙ ap (λ (n : ℕ). replicate n 0) z in
      sets-eq (record_words r) (log_of rs L) (log_words rs) (omega (arith, length_log rs L (omega arith)))
      ∙ ap (λ (l : List ℕ). l ++ record_words r ++ drop (log_words rs + size) (old ++ zeros)) t
      ∙ ap (λ (l : List ℕ). old ++ record_words r ++ l) d
      ∙ ap (λ (l : List ℕ). l ++ replicate (L - log_words all) 0) (sym (more_records rs r))

  -- the record is appended exactly where the machine has room for it
  module _ (h : log_words rs ≤ L) where
    test : leb (log_words rs + size) (length (log_of rs L)) ≡ leb (log_words all) L
    test = rw (length_log rs L h, more_words rs r)

    pub append_answer : appended (log_of rs L) (log_words rs) (record_words r) ≡ cond (leb (log_words all) L) (Some (log_words all)) None
    unfolding appended
    append_answer = rw (test, more_words rs r)

    pub append_log : stored (log_of rs L) (log_words rs) (record_words r) ≡ cond (leb (log_words all) L) (log_of all L) (log_of rs L)
    unfolding stored
    append_log = rw test (by (leb (log_words all) L) refl)
      where
        by : (b : Bool) → leb (log_words all) L ≡ b → cond b (sets (log_of rs L) (log_words rs) (record_words r)) (log_of rs L) ≡ cond b (log_of all L) (log_of rs L)
        by true e = sets_log (leb-true _ _ e)
        by false e = refl

-- ## Where a record stands

-- the records' words from record n on begin with its own
from_record : (rs : List Record) (n : ℕ) (r : Record) → slice_get rs n ≡ Some r → (rest : List ℕ) × (drop (log_words (take n rs)) (join (map record_words rs)) ≡ record_words r ++ rest)
from_record [] n r e = absurd (none_some e)
from_record (s ∷ rs) zero r e = (join (map record_words rs), ap (λ (x : Record). record_words x ++ join (map record_words rs)) (some_inj e))
from_record (s ∷ rs) (suc n) r e =
    let q = from_record rs n r e in
    let k : log_words (s ∷ take n rs) ≡ length (record_words s) + log_words (take n rs) = omega arith in
    (q.0, rw k (drop-append-add (record_words s) (join (map record_words rs)) (log_words (take n rs))) ∙ q.1)

before_within : (rs : List Record) (n : ℕ) (r : Record) → slice_get rs n ≡ Some r → log_words (take n rs) + length (record_words r) ≤ log_words rs
before_within [] n r e = absurd (none_some e)
before_within (s ∷ rs) zero r e = omega (arith, ap (λ (x : Record). length x.words) (some_inj e))
before_within (s ∷ rs) (suc n) r e = omega (arith, before_within rs n r e)

module _ (rs : List Record) (n : ℕ) (r : Record) (e : slice_get rs n ≡ Some r) where
  pub record_within : place_of rs n + length (record_words r) ≤ log_words rs
  unfolding place_of
  record_within = before_within rs n r e

  module _ (L : ℕ) where
    at_place : (rest : List ℕ) × (drop (place_of rs n) (log_of rs L) ≡ record_words r ++ rest)
    unfolding place_of log_of
    at_place =
        let q = from_record rs n r e in
        let zeros : List ℕ = replicate (L - log_words rs) 0 in (
          q.0 ++ zeros,
          drop-append-le (log_words (take n rs)) (join (map record_words rs)) zeros (omega (arith, before_within rs n r e, length_records rs)) ∙ ap (λ (l : List ℕ). l ++ zeros) q.1 ∙ append_assoc (record_words r) q.0 zeros,
        )

    word_at_lem : (i : ℕ) → get_or (log_of rs L) (place_of rs n + i) 0 ≡ get_or (record_words r ++ at_place.0) i 0
    word_at_lem i = sym (get_or-drop (place_of rs n) (log_of rs L) i 0) ∙ ap (λ (l : List ℕ). get_or l i 0) at_place.1

    pub kind_at : get_or (log_of rs L) (place_of rs n) 0 ≡ r.kind
    kind_at = ap (λ (p : ℕ). get_or (log_of rs L) p 0) (sym (add-zero (place_of rs n))) ∙ word_at_lem 0

    pub table_at_lem : get_or (log_of rs L) (place_of rs n + 1) 0 ≡ r.table
    table_at_lem = word_at_lem 1

    -- a part of its words, as a row's key
    pub words_at_lem : (k : ℕ) → k ≤ length r.words → part (log_of rs L) (place_of rs n + 2) k ≡ take k r.words
    words_at_lem k h =
        ap (λ (l : List ℕ). take k l) (sym (drop-drop 2 (place_of rs n) (log_of rs L)) ∙ ap (λ (l : List ℕ). drop 2 l) at_place.1)
        ∙ take-append-le k r.words at_place.0 h

    pub row_at_lem : part (log_of rs L) (place_of rs n + 2) (length r.words) ≡ r.words
    row_at_lem = words_at_lem (length r.words) (omega arith) ∙ take-length r.words

-- places stay as records are appended
pub place_more : (rs : List Record) (r : Record) (n : ℕ) → n ≤ length rs → place_of (rs ++ (r ∷ [])) n ≡ place_of rs n
unfolding place_of
place_more rs r n h = ap log_words (take-append-le n rs (r ∷ []) h)

pub place_last : (rs : List Record) (r : Record) → place_of (rs ++ (r ∷ [])) (length rs) ≡ log_words rs
unfolding place_of
place_last rs r = ap log_words (take-append_seam rs (r ∷ []))
