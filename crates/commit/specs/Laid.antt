-- Rows laid out in the words that are lent for them, and the model's rows after one more.
use Rattle.std.specs.Prelude.{ℕ, zero, suc, ◌+◌, ◌*◌, ◌<◌, ◌≤◌, ◌≡◌, ◌⊎◌, Bool, cond, List, [], ◌∷◌, ◌++◌, get_or, drop, set, Option, None, Some}
use Rattle.std.proofs.Math.Path.{refl, sym, ap}
use Rattle.std.proofs.Common.{◌∙◌, append_assoc, append-nil, suc-mul, arith, length-set, length-take, length-drop, take-append-drop, take_at, drop_at, take-take, drop-drop}
use Rattle.std.proofs.Math.Logic.{inl, inr}
use Rattle.std.proofs.Math.Bool.{true, false}
use Rattle.std.proofs.Math.Dec.{leb}
use borrow.Author.Tests.{leb-true, leb-false}
use Rattle.std.proofs.Math.ListN.{length, take, length-append}
use Rattle.std.proofs.lemmas.List.Edits.{sets, sets-eq}
use Rattle.std.proofs.Math.Seq.{paste, drop-append-add}
use Rattle.model.specs.Basics.{found, only, join, All, least}
use Rattle.model.specs.Book.Decode.{part}
use Rattle.model.specs.Commit.{merge_words, has_key, put}
use Rattle.model.specs.Laws.Iter.{iter_agree}
use Rattle.model.specs.Laws.Lists.{least_none, least_some}
use Rattle.tables.specs.declared.TableInfo.{TableInfo}
use Rattle.tables.specs.Tables.{same_words, row_at, found_row}
use Rattle.tables.specs.TablesLaws.{front_take}
use Rattle.commit.specs.Rows.{Rows, onto, new_info, appended, merged_at, put_at, put_row}
use Rattle.commit.specs.MergeLaws.{length_merge}
use Rattle.commit.specs.RowLaws.{length_onto, paste_onto}

-- ## Rows one after the other

abbrev pub Wide : ℕ → List ℕ → Type 0
Wide n r = length r ≡ n

pub length_join : (n : ℕ) (rs : List (List ℕ)) → All (Wide n) rs → length (join rs) ≡ length rs * n
length_join n [] h = omega arith
length_join n (r ∷ rs) h = omega (arith, length-append r (join rs), h.0, length_join n rs h.1, suc-mul (length rs) n)

join_snoc : (rs : List (List ℕ)) (r : List ℕ) → join (rs ++ (r ∷ [])) ≡ join rs ++ r
join_snoc [] r = append-nil r
join_snoc (s ∷ rs) r = ap (λ (l : List ℕ). s ++ l) (join_snoc rs r) ∙ sym (append_assoc s (join rs) r)

-- row j stands at j * n
row_part : (n : ℕ) (rs : List (List ℕ)) (rest : List ℕ) (j : ℕ) → All (Wide n) rs → j < length rs → part (join rs ++ rest) (j * n) n ≡ get_or rs j []
row_part n [] rest j h l = absurd (omega arith)
row_part n (r ∷ rs) rest zero h l = let e : 0 * n ≡ 0 = omega arith in rw (e, append_assoc r (join rs) rest) (take_at r (join rs ++ rest) n h.0)
row_part n (r ∷ rs) rest (suc j) h l =
    let e : suc j * n ≡ length r + j * n = omega (arith, suc-mul j n, h.0) in
    rw (e, append_assoc r (join rs) rest, drop-append-add r (join rs ++ rest) (j * n)) (row_part n rs rest j h.1 (omega arith))

-- around row j: what is before it, and what is past it
record Around (n : ℕ) (rs : List (List ℕ)) (j : ℕ) : Type 0 where
  ahead : List ℕ
  behind : List ℕ
  place : length ahead ≡ j * n
  here : join rs ≡ ahead ++ get_or rs j [] ++ behind
  changed : (r : List ℕ) → join (set rs j r) ≡ ahead ++ r ++ behind

around : (n : ℕ) (rs : List (List ℕ)) (j : ℕ) → All (Wide n) rs → j < length rs → Around n rs j
around n [] j h l = absurd (omega arith)
around n (r ∷ rs) zero h l = record { ahead = []; behind = join rs; place = omega arith; here = refl; changed = λ x. refl }
around n (r ∷ rs) (suc j) h l =
    let a = around n rs j h.1 (omega arith) in
    record {
      ahead = r ++ a.ahead;
      behind = a.behind;
      place = omega (arith, length-append r a.ahead, h.0, a.place, suc-mul j n);
      here = ap (λ (x : List ℕ). r ++ x) a.here ∙ simp append_assoc;
      changed = λ x. ap (λ (y : List ℕ). r ++ y) (a.changed x) ∙ simp append_assoc;
    }

-- ## The model's rows after one more

module _ (k m : ℕ) (row : List ℕ) where
  abbrev pub merged : List ℕ → List ℕ
  merged r = take k r ++ merge_words m (drop k r) (drop k row)

  length_merged : (r : List ℕ) → length (merged r) ≡ length r
  length_merged r = omega (arith, length-append (take k r) (merge_words m (drop k r) (drop k row)), length_merge m (drop k r) (drop k row), length-append (take k r) (drop k r), ap length (take-append-drop k r))

  abbrev has : List ℕ → Bool
  has r = has_key k (take k row) r

  -- merged into the first row with its key
  put_first : (rs : List (List ℕ)) (j : ℕ) → j < length rs → has (get_or rs j []) ≡ true → ((i : ℕ) → i < j → has (get_or rs i []) ≡ false) → put k m row rs ≡ set rs j (merged (get_or rs j []))
  put_first [] j l e h = absurd (omega arith)
  put_first (r ∷ rs) zero l e h = rw e
  put_first (r ∷ rs) (suc j) l e h = rw (h 0 (omega arith)) (ap (λ (x : List (List ℕ)). r ∷ x) (put_first rs j (omega arith) e (λ i q. h (suc i) (omega arith))))

  -- else added
  put_last : (rs : List (List ℕ)) → ((i : ℕ) → i < length rs → has (get_or rs i []) ≡ false) → put k m row rs ≡ rs ++ (row ∷ [])
  put_last [] h = refl
  put_last (r ∷ rs) h = rw (h 0 (omega arith)) (ap (λ (x : List (List ℕ)). r ∷ x) (put_last rs (λ i q. h (suc i) (omega arith))))

  pub put_wide : (n : ℕ) → length row ≡ n → (rs : List (List ℕ)) → All (Wide n) rs → All (Wide n) (put k m row rs)
  put_wide n e [] h = (e, tt)
  put_wide n e (r ∷ rs) h = by (has r) (put_wide n e rs h.1)
    where
      by : (b : Bool) → All (Wide n) (put k m row rs) → All (Wide n) (cond b (merged r ∷ rs) (r ∷ put k m row rs))
      by true t = (length_merged r ∙ h.0, h.1)
      by false t = (h.0, t)

  -- the rows never take fewer words
  put_longer : (rs : List (List ℕ)) → length (join rs) ≤ length (join (put k m row rs))
  put_longer [] = omega arith
  put_longer (r ∷ rs) = by (has r) (put_longer rs)
    where
      by : (b : Bool) → length (join rs) ≤ length (join (put k m row rs)) → length (r ++ join rs) ≤ length (join (cond b (merged r ∷ rs) (r ∷ put k m row rs)))
      by true t = omega (arith, length-append r (join rs), length-append (merged r) (join rs), length_merged r)
      by false t = omega (arith, length-append r (join rs), length-append r (join (put k m row rs)))

-- ## Laid out

-- what stands in the middle of a list
part_mid : (x y z : List ℕ) (p n : ℕ) → length x ≡ p → length y ≡ n → part (x ++ y ++ z) p n ≡ y
part_mid x y z p n e f = rw (append_assoc x y z, drop_at x (y ++ z) p e) (take_at y z n f)

sets_mid : (x y z v : List ℕ) (p : ℕ) → length x ≡ p → length v ≡ length y → sets (x ++ y ++ z) p v ≡ x ++ v ++ z
sets_mid x y z v p e f =
    let d : drop (p + length v) (x ++ y ++ z) ≡ z = rw (f) (drop_at (x ++ y) z (p + length y) (omega (arith, length-append x y))) in
    sets-eq v (x ++ y ++ z) p (omega (arith, length-append (x ++ y) z, length-append x y))
    ∙ rw (d, append_assoc x y z, take_at x (y ++ z) p e)

-- a row's values, merged where it stands
merge_mid : (k m : ℕ) (row x r z : List ℕ) (p : ℕ) → length x ≡ p → k ≤ length r → length r ≡ length row → sets (x ++ r ++ z) (p + k) (merge_words m (part (x ++ r ++ z) (p + k) (length (drop k row))) (drop k row)) ≡ x ++ merged k m row r ++ z
merge_mid k m row x r z p e h l =
    let head = x ++ take k r in
    let n : length head ≡ p + k = omega (arith, length-append x (take k r), length-take k r) in
    let split : x ++ r ++ z ≡ head ++ drop k r ++ z = ap (λ (y : List ℕ). x ++ y ++ z) (sym (take-append-drop k r)) ∙ simp append_assoc in
    let d : length (drop k r) ≡ length (drop k row) = simp length-drop (omega arith) in
    rw (split, part_mid head (drop k r) z (p + k) (length (drop k row)) n d)
    (sets_mid head (drop k r) z (merge_words m (drop k r) (drop k row)) (p + k) n (length_merge m (drop k r) (drop k row)) ∙ simp append_assoc)

module _ (base : List ℕ) where
  -- the rows rs of a table, past the words `done` of the tables before it
  abbrev pub laid : List ℕ → List (List ℕ) → Rows
  laid done rs = record { words = onto base (done ++ join rs); part = record { from = length done; count = length rs; used = length (done ++ join rs); over = false } }

  -- there is room for them, and they stand there; or there is none
  abbrev pub Laid : List ℕ → List (List ℕ) → Rows → Type 0
  Laid done rs s = ((length (done ++ join rs) ≤ length base) × (s ≡ laid done rs)) ⊎ ((length base < length (done ++ join rs)) × (s.part.over ≡ true))

  module _ (done : List ℕ) (rs : List (List ℕ)) where
    abbrev here : List ℕ
    here = done ++ join rs

    -- ## A row appended

    module _ (row : List ℕ) where
      one_more : done ++ join (rs ++ (row ∷ [])) ≡ here ++ row
      one_more = ap (λ (x : List ℕ). done ++ x) (join_snoc rs row) ∙ sym (append_assoc done (join rs) row)

      length_more : length (done ++ join (rs ++ (row ∷ []))) ≡ length here + length row
      length_more = ap length one_more ∙ length-append here row

      still_over : (s : Rows) → s.part.over ≡ true → (appended row s).part.over ≡ true
      unfolding appended
      still_over s o = rw o

      append_here : length here ≤ length base → Laid done (rs ++ (row ∷ [])) (appended row (laid done rs))
      unfolding appended
      append_here h = by (leb (length here + length row) (length (onto base here))) refl
        where
          by : (b : Bool) → leb (length here + length row) (length (onto base here)) ≡ b
              → Laid done (rs ++ (row ∷ [])) (cond b (record { words = paste (onto base here) (length here) row (length row); part = record { from = length done; count = length rs + 1; used = length here + length row; over = false } }) (record { words = onto base here; part = record { from = length done; count = length rs; used = length here; over = true } }))
          by true e =
              let n : length (rs ++ (row ∷ [])) ≡ length rs + 1 = length-append rs (row ∷ []) in
              inl (omega (arith, leb-true (length here + length row) (length (onto base here)) e, length_onto base here h, length_more), rw (n, one_more, paste_onto base here row, length-append here row))
          by false e = inr (omega (arith, leb-false (length here + length row) (length (onto base here)) e, length_onto base here h, length_more), refl)

      pub append_laid : (s : Rows) → Laid done rs s → Laid done (rs ++ (row ∷ [])) (appended row s)
      append_laid s (inl (h, e)) = rw e (append_here h)
      append_laid s (inr (h, o)) = inr (omega (arith, length_more), still_over s o)

    -- ## A row put

    module _ (i : TableInfo) (row : List ℕ) (keys : i.keys ≤ i.width) (len : length row ≡ i.width) (wide : All (Wide i.width) rs) where
      abbrev k : ℕ
      k = i.keys

      -- the table as it stands among the rows
      abbrev info : TableInfo
      info = new_info i (laid done rs).part

      abbrev words : List ℕ
      words = onto base here

      row_at_lem : (j : ℕ) → j < length rs → part words (row_at info j) i.width ≡ get_or rs j []
      row_at_lem j l =
          ap (take i.width) (sym (drop-drop (j * i.width) (length done) words) ∙ ap (drop (j * i.width)) (ap (drop (length done)) (append_assoc done (join rs) (drop (length here) base)) ∙ drop_at done (join rs ++ drop (length here) base) (length done) refl))
          ∙ row_part i.width rs (drop (length here) base) j wide l

      abbrev has_at : ℕ → Bool
      has_at j = has_key k (take k row) (get_or rs j [])

      -- the code's test of a key is the model's
      same_key : (j : ℕ) → j < length rs → same_words words (row_at info j) row k ≡ has_at j
      unfolding same_words
      same_key j l =
          let a : part words (row_at info j) k ≡ take k (get_or rs j []) = sym (take-take k i.width (drop (row_at info j) words) keys) ∙ ap (take k) (row_at_lem j l) in
          rw (a, front_take row k (omega arith))

      found_is : found_row words info row ≡ found (least has_at (length rs)) (λ j. Some (row_at info j)) (λ _. None)
      unfolding found_row
      found_is = ap (λ (o : Option ℕ). found o (λ j. Some (row_at info j)) (λ _. None)) (iter_agree _ _ (length rs) None (λ j o l. ap (λ (b : Bool). found o Some (λ _. only b (Some j))) (same_key j l)))

      -- another row in the place of row j
      module _ (j : ℕ) (l : j < length rs) where
        abbrev r : List ℕ
        r = get_or rs j []

        abbrev rest : List ℕ
        rest = drop (length here) base

        a : Around i.width rs j
        a = around i.width rs j wide l

        same_length : (x : List ℕ) → length x ≡ length r → length (done ++ join (set rs j x)) ≡ length here
        same_length x e = rw (a.changed x, a.here) (simp length-append (omega arith))

        with_row : (x : List ℕ) → length x ≡ length r → (done ++ a.ahead) ++ x ++ (a.behind ++ rest) ≡ onto base (done ++ join (set rs j x))
        with_row x e = rw (same_length x e, a.changed x) (simp append_assoc)

        old_row : words ≡ (done ++ a.ahead) ++ r ++ (a.behind ++ rest)
        old_row = ap (λ (y : List ℕ). done ++ y ++ rest) a.here ∙ simp append_assoc

        wide_row : (xs : List (List ℕ)) (j : ℕ) → All (Wide i.width) xs → j < length xs → length (get_or xs j []) ≡ i.width
        wide_row [] j h q = absurd (omega arith)
        wide_row (x ∷ xs) zero h q = h.0
        wide_row (x ∷ xs) (suc j) h q = wide_row xs j h.1 (omega arith)

        merge_words_lem : (merged_at i row (row_at info j) (laid done rs)).words ≡ onto base (done ++ join (set rs j (merged k i.merge row r)))
        merge_words_lem =
            let n = wide_row rs j wide l in
            rw old_row (merge_mid k i.merge row (done ++ a.ahead) r (a.behind ++ rest) (row_at info j) (omega (arith, length-append done a.ahead, a.place)) (omega arith) (omega arith))
            ∙ with_row (merged k i.merge row r) (length_merged k i.merge row r)

        merge_laid : length here ≤ length base → Laid done (set rs j (merged k i.merge row r)) (merged_at i row (row_at info j) (laid done rs))
        merge_laid h =
            let n = same_length (merged k i.merge row r) (length_merged k i.merge row r) in
            inl (omega arith, rw (merge_words_lem, length-set rs j (merged k i.merge row r), n))

      put_here : length here ≤ length base → Laid done (put k i.merge row rs) (put_row i row (laid done rs))
      unfolding put_row
      put_here h = rw found_is (by (least has_at (length rs)) refl)
        where
          by : (o : Option ℕ) → least has_at (length rs) ≡ o → Laid done (put k i.merge row rs) (put_at (found o (λ j. Some (row_at info j)) (λ _. None)) i row (laid done rs))
          by None e = rw (put_last k i.merge row rs (least_none has_at (length rs) e)) (append_here row h)
          by (Some j) e =
              let f = least_some has_at (length rs) j e in
              rw (put_first k i.merge row rs j f.below f.here f.before) (merge_laid j f.below h)

      put_over : (s : Rows) → s.part.over ≡ true → (put_row i row s).part.over ≡ true
      unfolding put_row
      put_over s o = by (found_row s.words (new_info i s.part) row)
        where
          by : (f : Option ℕ) → (put_at f i row s).part.over ≡ true
          by (Some p) = o
          by None = still_over row s o

      pub put_laid : (s : Rows) → Laid done rs s → Laid done (put k i.merge row rs) (put_row i row s)
      put_laid s (inl (h, e)) = rw e (put_here h)
      put_laid s (inr (h, o)) = inr (omega (arith, length-append done (join rs), length-append done (join (put k i.merge row rs)), put_longer k i.merge row rs), put_over s o)
