-- The index stays that of the rows: a row appended has the home of its key, and values that are merged are no words of a key.
use Prim.Native.Nat.{ℕ, ◌+◌, ◌-◌, ◌*◌, ◌≤◌, ◌<◌}
use Rattle.std.specs.Prelude.{◌≡◌, ◌≢◌, ◌⊎◌, Bool, ◌&&◌, not, cond, List, ◌++◌, get_or, take, replicate, Option, None, Some}
use Rattle.std.proofs.Math.Path.{refl, sym, ap}
use Rattle.std.proofs.Common.{◌∙◌, subst, zero-add, mul-le-mul_left, mul-one, add-one, arith}
use Rattle.std.proofs.Math.Logic.{inl, inr}
use Rattle.std.proofs.Math.Bool.{true, false, true≢false}
use Rattle.std.proofs.Math.Decide.{dec_lt}
use Rattle.std.proofs.Math.Dec.{leb}
use borrow.Author.Tests.{leb-true}
use Rattle.std.proofs.Math.ListN.{length, drop, length-take, length-drop}
use Rattle.std.proofs.lemmas.List.Edits.{sets, sets-eq}
use Rattle.std.proofs.Math.Seq.{paste, take-length}
use Rattle.model.specs.Basics.{found, least}
use Rattle.model.specs.Book.Decode.{part}
use Rattle.model.specs.Commit.{merge_words}
use Rattle.model.specs.Laws.Iter.{iter_agree}
use Rattle.words.specs.Filled.{tab_agree}
use Rattle.tables.specs.declared.TableInfo.{TableInfo}
use Rattle.tables.specs.Tables.{same_words, row_at, found_row}
use Rattle.tables.specs.TablesLaws.{row_within}
use Rattle.hash_index.specs.Index.{home_of, home_at, home_in, added, indexed, Tails}
use Rattle.hash_index.specs.IndexLaws.{indexed_tails}
use Rattle.hash_index.specs.SearchLaws.{row_home_below}
use Rattle.commit.specs.Rows.{Rows, Sound, Stand, grown, overrun, new_info, has_room, appended, merged_at}
use Rattle.commit.specs.Indexed.{index_for, IndexedRows}
use Rattle.commit.specs.MergeLaws.{length_merge, sets_other, sets_here}

-- ## None, or that of all rows

module _ (i : TableInfo) where
  -- no index is as good for any rows
  pub none_stays : (s s' : Rows) → IndexedRows i s None → IndexedRows i s' None
  none_stays s s' h = tt

  pub index_of : (s : Rows) (index : Option (List ℕ)) → IndexedRows i s index → (index ≡ None) ⊎ (index ≡ Some (indexed (home_in s.words (new_info i s.part)) s.part.count))
  index_of s None h = inl refl
  index_of s (Some x) h = inr (ap Some h.1)

  pub of_index : (s : Rows) (x : List ℕ) → length s.words ≤ 16384 → x ≡ indexed (home_in s.words (new_info i s.part)) s.part.count → IndexedRows i s (Some x)
  of_index s x few e = (few, e)

-- other rows that have the same index
pub same_indexed : (i : TableInfo) (s s' : Rows) → length s'.words ≤ 16384 → index_for i s ≡ index_for i s' → (index : Option (List ℕ)) → IndexedRows i s index → IndexedRows i s' index
same_indexed i s s' few e None h = tt
same_indexed i s s' few e (Some x) h = (few, h.1 ∙ e)

-- ## Homes

-- an index goes by the homes of its rows, and these by their keys
same_homes : (f g : ℕ → ℕ) (n : ℕ) → ((j : ℕ) → j < n → f j ≡ g j) → indexed f n ≡ indexed g n
unfolding indexed
same_homes f g n h = iter_agree _ _ n (replicate 18432 0) (λ j x l. ap (λ (k : ℕ). added j k x) (h j l))

same_keys : (w v : List ℕ) (t : TableInfo) (n : ℕ) → ((j k : ℕ) → j < n → k < t.keys → get_or w (row_at t j + k) 0 ≡ get_or v (row_at t j + k) 0) → indexed (home_in w t) n ≡ indexed (home_in v t) n
same_keys w v t n h = same_homes (home_in w t) (home_in v t) n (λ j l. ap home_of (tab_agree (λ k. get_or w (row_at t j + k) 0) (λ k. get_or v (row_at t j + k) 0) t.keys (λ k m. h j k l m)))

-- what is found is a row
found_place : (w : List ℕ) (t : TableInfo) (key : List ℕ) (p : ℕ) → found_row w t key ≡ Some p → (r : ℕ) × (row_at t r ≡ p)
unfolding found_row
found_place w t key p e = by (least (λ i. same_words w (row_at t i) key t.keys) t.rows) e
  where
    by : (o : Option ℕ) → found o (λ i. Some (row_at t i)) (λ _. None) ≡ Some p → (r : ℕ) × (row_at t r ≡ p)
    by None g = let z : ◌≡◌ {A = ℕ} 0 1 = cc in absurd (omega arith)
    by (Some r) g = (r, cc)

module _ (i : TableInfo) (ok : Sound i) (row : List ℕ) (len : length row ≡ i.width) (s : Rows) (st : Stand i.width s) where
  abbrev table : TableInfo
  table = new_info i s.part

  -- ## Merged

  -- a row's values are no words of a key
  apart : (r j k x : ℕ) → k < i.keys → i.keys + x < i.width → row_at table j + k ≢ row_at table r + i.keys + x
  apart r j k x h l e = elim (dec_lt j r) [ yes m ↦ omega (arith, row_within j r i.width m, ok.keys) | no m ↦ after m ]
    where
      after : (j < r → ⊥) → ⊥
      after m = elim (dec_lt r j) [ yes q ↦ omega (arith, row_within r j i.width q) | no q ↦ same (omega arith) ]
        where
          same : j ≡ r → ⊥
          same z = omega (arith, e, ap (λ (y : ℕ). y * i.width) z)

  pub merge_indexed : (key : List ℕ) (p : ℕ) → found_row s.words table key ≡ Some p → index_for i s ≡ index_for i (merged_at i row p s)
  merge_indexed key p e =
      let values = drop i.keys row in
      let old = part s.words (p + i.keys) (length values) in
      let new = merge_words i.merge old values in
      let at = found_place s.words table key p e in
      let short : length new ≤ length row - i.keys = omega (arith, length_merge i.merge old values, length-take (length values) (drop (p + i.keys) s.words), length-drop i.keys row) in
      same_keys s.words (sets s.words (p + i.keys) new) table s.part.count (λ j k l m. sym (sets_other new s.words (p + i.keys) (row_at table j + k) (λ x q z. apart at.0 j k x m (omega arith) (omega (arith, at.1)))))

  -- ## Appended

  abbrev longer : Rows
  longer = record { words = paste s.words s.part.used row (length row); part = grown s.part (length row) }

  -- a row that had no room
  pub uncounted : has_room row s ≡ false → index_for i s ≡ index_for i (appended row s)
  unfolding appended
  uncounted = by s.part.over (leb (s.part.used + length row) (length s.words))
    where
      by : (b c : Bool) → (not b && c) ≡ false → index_for i s ≡ index_for i (cond b s (cond c longer (record { words = s.words; part = overrun s.part })))
      by true c e = refl
      by false false e = refl
      by false true e = absurd (true≢false e)

  -- one that had
  abbrev pub Counted : Type 0
  Counted = has_room row s ≡ true

  grows : Counted → (appended row s ≡ longer) × (s.part.used + length row ≤ length s.words)
  unfolding appended
  grows = by s.part.over (leb (s.part.used + length row) (length s.words)) refl
    where
      by : (b c : Bool) → leb (s.part.used + length row) (length s.words) ≡ c → (not b && c) ≡ true → (cond b s (cond c longer (record { words = s.words; part = overrun s.part })) ≡ longer) × (s.part.used + length row ≤ length s.words)
      by true c e n = absurd (true≢false (sym n))
      by false false e n = absurd (true≢false (sym n))
      by false true e n = (refl, leb-true (s.part.used + length row) (length s.words) e)

  module _ (counted : Counted) where
    abbrev words : List ℕ
    words = longer.words

    room : s.part.used + length row ≤ length s.words
    room = (grows counted).1

    pub row_counted : s.part.count < length s.words
    row_counted = omega (arith, room, len, ok.some, st.used, mul-le-mul_left s.part.count ok.some, mul-one s.part.count)

    stored : words ≡ sets s.words s.part.used row
    stored = ap (λ (x : List ℕ). take s.part.used s.words ++ x ++ drop (s.part.used + length row) s.words) (take-length row) ∙ sym (sets-eq row s.words s.part.used room)

    new_home : home_in words table s.part.count ≡ home_at row 0 i.keys
    new_home = ap home_of (tab_agree (λ k. get_or words (row_at table s.part.count + k) 0) (λ k. get_or row (0 + k) 0) i.keys (λ k l. rw (stored, ← st.used, zero-add k) (sets_here row s.words s.part.used k room (omega (arith, len, ok.keys)))))

    old_homes : indexed (home_in s.words table) s.part.count ≡ indexed (home_in words table) s.part.count
    old_homes = same_keys s.words words table s.part.count (λ j k l m. rw stored (sym (sets_other row s.words s.part.used (row_at table j + k) (λ x q z. omega (arith, st.used, row_within j s.part.count i.width l, ok.keys)))))

    one_more : (index : List ℕ) → index ≡ indexed (home_in s.words table) s.part.count → added s.part.count (home_at row 0 i.keys) index ≡ indexed (home_in words table) (s.part.count + 1)
    unfolding indexed
    one_more index is = rw (add-one, new_home) (ap (added s.part.count (home_at row 0 i.keys)) (is ∙ old_homes))

    -- what `add` asks for, and what it leaves
    pub append_tails : (index : List ℕ) → index ≡ index_for i s → Tails s.part.count index
    append_tails index is = subst (Tails s.part.count) (sym is) (indexed_tails (home_in s.words table) s.part.count (row_home_below s.words table))

    pub append_indexed : (index : List ℕ) → index ≡ index_for i s → added s.part.count (home_at row 0 i.keys) index ≡ index_for i (appended row s)
    append_indexed index is = rw (grows counted).0 (one_more index is)
