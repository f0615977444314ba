-- A search along the chain of a key's home passes over no row that has the key.
use Rattle.std.specs.Prelude.{◌≡◌, ℕ, zero, suc, ◌+◌, ◌-◌, ◌<◌, ◌≤◌, Bool, true, false, ◌&&◌, ◌≢◌, List, length, nat_le, nat_lt, slice_index, Some}
use Rattle.std.proofs.Math.Path.{refl, sym, ap}
use Rattle.std.proofs.Common.{◌∙◌, subst, zero-add}
use Rattle.std.proofs.Math.Decide.{dec_lt}
use native.Mathlib.Omega.{arith}
use borrow.Author.Tests.{lt-ltb, le-leb, ltb-true, leb-true}
use Rattle.model.specs.Basics.{eq_list, tab}
use Rattle.model.specs.Book.Decode.{part}
use Rattle.model.specs.Laws.Logic.{eq_list_eq, either, le_cases, and_split}
use Rattle.words.specs.Filled.{tab_agree}
use Rattle.tables.specs.declared.TableInfo.{TableInfo}
use Rattle.tables.specs.Tables.{front, same_words, row_at, found_row}
use Rattle.tables.specs.TablesLaws.{part_word, key_word, found_at}
use Rattle.hash_index.specs.FoldLaws.{folded_below}
use Rattle.hash_index.specs.Index.{home_of, home_at, home_in, Has, is_row}
use Rattle.hash_index.specs.Chains.{First, none, some}
use Rattle.hash_index.specs.IndexLaws.{Right, indexed_right}

pub home_below : (key : List ℕ) → home_of key < 1024
unfolding home_of
home_below key = let h = folded_below 0 key (omega arith) in omega arith

pub row_home_below : (w : List ℕ) (t : TableInfo) (j : ℕ) → home_in w t j < 1024
row_home_below w t j = home_below (tab (λ i. slice_index w (row_at t j + i)) t.keys)

-- rows that a search has still to come to, at p
abbrev pub left : ℕ → ℕ
left zero = 0
left (suc j) = 16384 - j

module _ (w : List ℕ) (t : TableInfo) (key : List ℕ) where
  abbrev Missed : ℕ → Type 0
  Missed j = same_words w (row_at t j) key t.keys ≡ false

  abbrev its : ℕ
  its = home_at key 0 t.keys

  -- a row of another home has another key
  elsewhere : (j : ℕ) → home_in w t j ≢ its → Missed j
  unfolding same_words
  elsewhere j other = by (same_words w (row_at t j) key t.keys) refl
    where
      by : (b : Bool) → eq_list (part w (row_at t j) t.keys) (front key t.keys) ≡ b → b ≡ false
      by false e = refl
      by true e =
          let q = eq_list_eq (part w (row_at t j) t.keys) (front key t.keys) e in
          absurd (other (ap home_of (tab_agree (λ i. slice_index w (row_at t j + i)) (λ i. slice_index key (0 + i)) t.keys (λ i l. sym (part_word w (row_at t j) key t.keys i l) ∙ ap (λ (x : List ℕ). slice_index x i) q ∙ key_word w (row_at t j) key t.keys i l ∙ ap (λ (k : ℕ). slice_index key k) (sym (zero-add i))))))

  -- p tells row p - 1 - b of the table
  pub record Told (b p : ℕ) : Type 0 where
    pub after : b < p
    pub within : p ≤ b + t.rows
    pub same : same_words w (row_at t (p - 1 - b)) key t.keys ≡ true

  pub row_told_lem : (b p : ℕ) → is_row w t key b p ≡ true → Told b p
  unfolding is_row
  row_told_lem b p e =
      let q = and_split (nat_lt b p && nat_le p (b + t.rows)) (same_words w (row_at t (p - 1 - b)) key t.keys) e in
      let r = and_split (nat_lt b p) (nat_le p (b + t.rows)) q.0 in
      record { after = ltb-true b p r.0; within = leb-true p (b + t.rows) r.1; same = q.1 }

  module _ (b : ℕ) (index : List ℕ) (has : Has w t b index) where
    right : Right has.home has.rows index
    right = subst (Right has.home has.rows) (sym has.is) (indexed_right has.home has.rows has.few has.small)

    away : (j : ℕ) → j < t.rows → has.home (b + j) ≢ its → Missed j
    away j lt other = elsewhere j (λ e. other (has.agree j lt ∙ e))

    -- a search stands at p: no row of the table before the first of its chain from i on has the key
    abbrev pub Reached : ℕ → Type 0
    Reached p = (i : ℕ) × First has.home has.rows its i p × ((j : ℕ) → j < t.rows → b + j < i → Missed j)

    pub reached_head : Reached (slice_index index its)
    reached_head = (0, right.heads its (home_below (tab (λ i. slice_index key (0 + i)) t.keys)), λ j lt m. absurd (omega arith))

    pub none_left : Reached 0 → (j : ℕ) → j < t.rows → Missed j
    none_left (i, none f, before) j lt = elim (dec_lt (b + j) i) [ yes l ↦ before j lt l | no l ↦ away j lt (f (b + j) (omega arith) (omega (arith, has.within))) ]

    -- it stands at a row: where it goes on, if that is not the row looked for, it is nearer to the end
    pub record Standing (p : ℕ) : Type 0 where
      pub below : p ≤ 16384
      pub before : (j : ℕ) → j < t.rows → b + j < p - 1 → Missed j
      pub on : is_row w t key b p ≡ false → Reached (slice_index index (2047 + p))
      pub less : left (slice_index index (2047 + p)) < left p

    nearer : (j v : ℕ) → j < has.rows → First has.home has.rows (has.home j) (suc j) v → left v < left (suc j)
    nearer j v lt (none f) = omega (arith, has.few)
    nearer j v lt (some x le m e f) = omega (arith, has.few)

    -- row p - 1 of all rows, if it is one of the table
    missed_here : (p j : ℕ) → is_row w t key b p ≡ false → j < t.rows → b + j ≡ p - 1 → p ≢ 0 → Missed j
    unfolding is_row
    missed_here p j e lt q n =
        let same : p - 1 - b ≡ j = omega arith in
        rw (lt-ltb b p (omega arith), le-leb p (b + t.rows) (omega arith), same) at e

    pub standing : (p : ℕ) → Reached p → p ≢ 0 → Standing p
    standing p (i, none f, before) q = absurd (q refl)
    standing p (i, some j le lt e f, before) q =
        let missed : (x : ℕ) → x < t.rows → b + x < j → Missed x = λ x r m. elim (dec_lt (b + x) i) [ yes l ↦ before x r l | no l ↦ away x r (f (b + x) (omega arith) m) ] in
        let link : 2047 + suc j ≡ 2048 + j = omega arith in
        record {
          below = omega (arith, has.few);
          before = λ x r m. missed x r (omega arith);
          on = λ miss. rw link (suc j, subst (λ (h : ℕ). First has.home has.rows h (suc j) (slice_index index (2048 + j))) e (right.links j lt), λ x r m. either (missed x r) (λ z. missed_here (suc j) x miss r (omega arith) q) (le_cases m));
          less = rw link (nearer j (slice_index index (2048 + j)) lt (right.links j lt));
        }

    -- the row that a search has come to is the first with the key
    pub first_row : (p : ℕ) → Standing p → is_row w t key b p ≡ true → Some (row_at t (p - 1 - b)) ≡ found_row w t key
    first_row p s e =
        let r = row_told_lem b p e in
        found_at w t key (p - 1 - b) (omega (arith, r.after, r.within)) (λ j l. s.before j (omega (arith, r.after, r.within)) (omega (arith, r.after))) r.same

    pub has_length : length index ≡ 18432
    has_length = right.size

  -- the same, where the homes by which the index was made are not at hand
  abbrev pub Searching : ℕ → List ℕ → ℕ → Type 0
  Searching b index p = ∥ ((has : Has w t b index) × Reached b index has p) ∥₁
