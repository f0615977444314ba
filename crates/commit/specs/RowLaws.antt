-- What the code that appends and puts rows leans on.
use Rattle.std.specs.Prelude.{ℕ, ◌+◌, ◌<◌, ◌≤◌, ◌≡◌, refl, Bool, true, false, cond, List, ◌++◌, leb, length, get_or, drop, replicate, Option, Some, None}
use Rattle.std.proofs.Common.{sym, ap, ◌∙◌, mul-le-mul_left, mul-one, arith, leb-true, length-append, length-drop, take_at, drop-drop}
use Rattle.std.proofs.Math.Seq.{paste, take-length, drop-append-add, length-sets}
use Rattle.std.proofs.lemmas.List.Edits.{length-paste}
use Rattle.model.specs.Book.Decode.{part}
use Rattle.model.specs.Commit.{merge_words}
use Rattle.words.specs.Filled.{filled}
use Rattle.tables.specs.declared.TableInfo.{TableInfo}
use Rattle.tables.specs.Tables.{Stands, front, found_row}
use Rattle.tables.specs.TablesLaws.{front_take, found_same, key_front, next_row}
use Rattle.commit.specs.Rows.{Rows, Sound, Stand, onto, grown, overrun, new_info, appended, put_at, put_row}

-- ## A key in an array

pub key_found : (w : List ℕ) (t : TableInfo) (row key : List ℕ) → key ≡ filled (λ i. get_or row i 0) t.keys (replicate 16 0) → t.keys ≤ length row → t.keys ≤ 16 → found_row w t row ≡ found_row w t key
key_found w t row key e h l = found_same w t row key (front_take row t.keys h ∙ sym (ap (λ (x : List ℕ). front x t.keys) e ∙ key_front row t.keys h l))

-- ## Words laid onto the front

module _ (base x : List ℕ) where
  pub length_onto : length x ≤ length base → length (onto base x) ≡ length base
  length_onto h = omega (arith, length-append x (drop (length x) base), length-drop (length x) base)

  -- others stored past them
  pub paste_onto : (y : List ℕ) → paste (onto base x) (length x) y (length y) ≡ onto base (x ++ y)
  paste_onto y = rw (take_at x (drop (length x) base) (length x) refl, take-length y, drop-append-add x (drop (length x) base) (length y), drop-drop (length y) (length x) base, length-append x y)

-- ## Rows that stand

module _ {width : ℕ} (Some : 0 < width) {s : Rows} (st : Stand width s) where
  pub few_rows : s.part.count ≤ length s.words
  few_rows = omega (arith, st.used, st.within, mul-le-mul_left s.part.count Some, mul-one s.part.count)

pub new_stands : {i : TableInfo} {s : Rows} → Sound i → Stand i.width s → Stands s.words (new_info i s.part)
new_stands {i} {s} ok st = record { rows = omega (arith, st.used, st.within); keys = ok.keys; few = ok.few }

-- what a row appended or put keeps
abbrev pub Keeps : ℕ → Rows → Rows → Type 0
Keeps width s s' = Stand width s' × (length s'.words ≡ length s.words)

pub append_keeps : {width : ℕ} (row : List ℕ) → length row ≡ width → (s : Rows) → Stand width s → Keeps width s (appended row s)
unfolding appended
append_keeps {width} row len s st = by s.part.over (leb (s.part.used + length row) (length s.words)) refl
  where
    longer : Rows
    longer = record { words = paste s.words s.part.used row (length row); part = grown s.part (length row) }

    by : (b c : Bool) → leb (s.part.used + length row) (length s.words) ≡ c → Keeps width s (cond b s (cond c longer (record { words = s.words; part = overrun s.part })))
    by true c e = (st, refl)
    by false false e = (record { used = st.used; within = st.within }, refl)
    by false true e =
        let l = leb-true (s.part.used + length row) (length s.words) e in
        let n = length-paste s.words s.part.used row (length row) l (omega arith) in
        (record { used = omega (arith, st.used, next_row s.part.count width); within = omega arith }, n)

pub put_keeps : (i : TableInfo) (row : List ℕ) → length row ≡ i.width → (s : Rows) → Stand i.width s → Keeps i.width s (put_row i row s)
unfolding put_row
put_keeps i row len s st = by (found_row s.words (new_info i s.part) row)
  where
    by : (o : Option ℕ) → Keeps i.width s (put_at o i row s)
    by None = append_keeps row len s st
    by (Some p) =
        let n = length-sets s.words (p + i.keys) (merge_words i.merge (part s.words (p + i.keys) (length (drop i.keys row))) (drop i.keys row)) in
        (record { used = st.used; within = omega (arith, st.within) }, n)
