-- What the code of the passes leans on.
use Rattle.std.specs.Prelude.{ℕ, zero, suc, ◌+◌, ◌-◌, ◌*◌, ◌≤◌, ◌<◌, min, ◌≡◌, refl, true, false, List, [], ◌∷◌, length, get_or, take, drop, replicate, Option, None, Some, slice_get}
use Rattle.std.proofs.Common.{sym, ap, ◌∙◌, arith, add-one, length-drop, length-take, get_or-take, get_or-drop, eq-eqb, ne_eqb}
use Rattle.model.specs.Basics.{tab}
use Rattle.model.specs.Book.Decode.{part}
use Rattle.model.specs.Laws.Lists.{length_tab}
use Rattle.model.specs.Machine.Steps.{any_ne}
use Rattle.words.specs.Filled.{filled, front_again}
use Rattle.args.specs.Args.{as_list}
use Rattle.bindings.specs.Columns.{word_of, value_at, fetched}
use Rattle.instr.specs.declared.QueryEntry.{QueryEntry}
use Rattle.instr.specs.declared.Entries.{Entries}
use Rattle.instr.specs.Meaning.{entry_of}
use Rattle.ids.specs.declared.ColumnId.{ColumnId}
use Rattle.tables.specs.Tables.{found_row}
use Rattle.predicted_index.specs.declared.row.Sought.{Sought}
use Rattle.predicted_index.specs.Home.{home_of}
use Rattle.predicted_index.specs.Row.{committed_part}
use Rattle.predicted_index.specs.RowLaws.{row_alone}
use Rattle.lanes.specs.declared.Ask.{Ask}
use Rattle.lanes.specs.declared.Ask.TheVariants.{Lookup, Entry}
use Rattle.lanes.specs.Lanes.{listed, asked, AskFits}

-- the front of an array that a list of entries was fetched into, whatever stands behind
pub listed_words : (w m : List ℕ) (i : ℕ) (l : Entries) (was vals : List ℕ) → vals ≡ filled (λ k. value_at w m i (l.at + 2 * k)) l.count was → take l.count vals ≡ as_list (listed w m i l)
unfolding fetched
listed_words w m i l was vals e =
    let f : ℕ → ℕ = λ (k : ℕ). value_at w m i (l.at + 2 * k) in
    rw e (front_again l.count (tab f l.count) was (length_tab f l.count) ∙ sym (front_again l.count (tab f l.count) (replicate 16 0) (length_tab f l.count)))

-- ## A row that is asked for

module _ (w m : List ℕ) (of : Sought) (key : Entries) (col : ColumnId) (i : ℕ) where
  -- by where it was found
  abbrev in_row : Option ℕ → Option ℕ
  in_row None = None
  in_row (Some p) = slice_get (part w p of.info.width) col.0

  asked_row : asked w m (Lookup of key col) i ≡ in_row (found_row w of.info (listed w m i key).vals)
  unfolding asked
  asked_row = ap (λ (r : List ℕ). slice_get r col.0) (row_alone home_of w [] of (listed w m i key).vals) ∙ by (found_row w of.info (listed w m i key).vals)
    where
      by : (f : Option ℕ) → slice_get (committed_part w of.info.width f []) col.0 ≡ in_row f
      by None = refl
      by (Some p) = refl

  pub asked_none : None ≡ found_row w of.info (listed w m i key).vals → None ≡ asked w m (Lookup of key col) i
  asked_none e = rw (asked_row, ← e) refl

  pub asked_some : (p : ℕ) → Some p ≡ found_row w of.info (listed w m i key).vals → slice_get (part w p of.info.width) col.0 ≡ asked w m (Lookup of key col) i
  asked_some p e = rw (asked_row, ← e) refl

-- ## An entry that is asked for

pub asked_entry : (w m : List ℕ) (e : QueryEntry) (i : ℕ) → asked w m (Entry e) i ≡ Some (word_of m i (entry_of e))
unfolding asked
asked_entry w m e i = refl

-- it asks for no table
pub entry_fits_lem : (w : List ℕ) (chains : Option (List ℕ)) (a : Ask) (e : QueryEntry) → a ≡ Entry e → AskFits w chains a
entry_fits_lem w chains a e q = rw q tt

-- ## Pairs of two lists

pub pairs_differ : (xs ys : List ℕ) (k : ℕ) → k < length xs → k < length ys → (get_or xs k 0 ≡ get_or ys k 0 → ⊥) → true ≡ any_ne (drop k xs) (drop k ys)
pairs_differ [] ys k h l n = absurd (omega arith)
pairs_differ (x ∷ xs) [] k h l n = absurd (omega arith)
pairs_differ (x ∷ xs) (y ∷ ys) zero h l n = rw (ne_eqb x y n)
pairs_differ (x ∷ xs) (y ∷ ys) (suc k) h l n = pairs_differ xs ys k (omega arith) (omega arith) n

pub pairs_agree : (xs ys : List ℕ) (k : ℕ) → k < length xs → k < length ys → get_or xs k 0 ≡ get_or ys k 0 → any_ne (drop k xs) (drop k ys) ≡ any_ne (drop (suc k) xs) (drop (suc k) ys)
pairs_agree [] ys k h l e = absurd (omega arith)
pairs_agree (x ∷ xs) [] k h l e = absurd (omega arith)
pairs_agree (x ∷ xs) (y ∷ ys) zero h l e = rw (eq-eqb x y e)
pairs_agree (x ∷ xs) (y ∷ ys) (suc k) h l e = pairs_agree xs ys k (omega arith) (omega arith) e

no_left : (ys : List ℕ) → any_ne [] ys ≡ false
no_left ys = refl

no_right : (xs : List ℕ) → any_ne xs [] ≡ false
no_right [] = refl
no_right (x ∷ xs) = refl

pub pairs_end : (xs ys : List ℕ) (k : ℕ) → min (length xs) (length ys) ≤ k → false ≡ any_ne (drop k xs) (drop k ys)
pairs_end [] ys zero h = refl
pairs_end [] ys (suc k) h = refl
pairs_end (x ∷ xs) [] zero h = refl
pairs_end (x ∷ xs) [] (suc k) h = sym (no_right (drop k xs))
pairs_end (x ∷ xs) (y ∷ ys) zero h = absurd (omega arith)
pairs_end (x ∷ xs) (y ∷ ys) (suc k) h = pairs_end xs ys k (omega arith)

-- ## The two sides of a list

module _ (v : List ℕ) (d : ℕ) where
  abbrev count : ℕ
  count = length v

  abbrev pairs : ℕ
  pairs = min (min d count) (count - min d count)

  sides_count : min (length (take d v)) (length (drop d v)) ≡ pairs
  sides_count = omega (arith, length-take d v, length-drop d v)

  left_word : (k : ℕ) → k < pairs → get_or (take d v) k 0 ≡ get_or v k 0
  left_word k l = get_or-take d v k 0 (omega arith)

  right_word : (k : ℕ) → k < pairs → get_or (drop d v) k 0 ≡ get_or v (min d count + k) 0
  right_word k l =
      let e : min d count ≡ d = omega arith in
      rw e (get_or-drop d v k 0)

  pub pair_differs : (k : ℕ) → k < pairs → (get_or v k 0 ≡ get_or v (min d count + k) 0 → ⊥) → true ≡ any_ne (drop k (take d v)) (drop k (drop d v))
  pair_differs k l n = pairs_differ (take d v) (drop d v) k (omega (arith, sides_count)) (omega (arith, sides_count)) (λ e. n (sym (left_word k l) ∙ e ∙ right_word k l))

  pub pair_agrees : (k : ℕ) → k < pairs → get_or v k 0 ≡ get_or v (min d count + k) 0 → any_ne (drop k (take d v)) (drop k (drop d v)) ≡ any_ne (drop (k + 1) (take d v)) (drop (k + 1) (drop d v))
  pair_agrees k l e = rw add-one (pairs_agree (take d v) (drop d v) k (omega (arith, sides_count)) (omega (arith, sides_count)) (left_word k l ∙ e ∙ sym (right_word k l)))

  pub no_more_pairs : (k : ℕ) → pairs ≤ k → false ≡ any_ne (drop k (take d v)) (drop k (drop d v))
  no_more_pairs k l = pairs_end (take d v) (drop d v) k (omega (arith, sides_count))
