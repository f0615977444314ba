-- What the code of repeated keys leans on: refusal 5 from the first rows that have each row's key.
use Rattle.std.specs.Prelude.{ℕ, ◌+◌, ◌*◌, ◌<◌, ◌≤◌, ◌≡◌, refl, ◌≢◌, Bool, true, false, List, [], ltb, length, get_or, take, drop, Option, None, Some}
use Rattle.std.proofs.Math.Path.{sym}
use Rattle.std.proofs.Common.{ap, ◌∙◌, subst, mul-le-mul_right, arith, take-take, lt-ltb, le-ltb}
use Rattle.std.proofs.Math.Bool.{true≢false}
use Rattle.std.proofs.Math.Decide.{dec_lt}
use Rattle.model.specs.Laws.Logic.{eq_list_eq, eq_eq_list}
use Rattle.model.specs.Laws.Lists.{length_tab, get_or_tab, none_least, some_least}
use Rattle.model.specs.Laws.Rows.{repeat_true, repeat_false}
use Rattle.model.specs.Claims.Refusals.{Repeats}
use Rattle.model.specs.Book.Words.{Refusal}
use Rattle.model.specs.Book.Decode.{part, read_table}
use Rattle.model.specs.Book.Read.{is_repeat, rows_refusal}
use Rattle.tables.specs.declared.TableInfo.{TableInfo}
use Rattle.tables.specs.Tables.{info_at, front, same_words, row_at, found_row, RowsStand}
use Rattle.tables.specs.TablesLaws.{row_within, found_first, missing_all}
use Rattle.reader.specs.Places.{rows_of, RowAt}

module _ {w : List ℕ} {t : TableInfo} (ok : RowsStand w t) where
  abbrev rows : List (List ℕ)
  rows = rows_of w t

  abbrev key_at : ℕ → List ℕ
  key_at i = part w (row_at t i) t.keys

  pub row_fit : (i : ℕ) → i < t.rows → row_at t i + t.width ≤ length w
  row_fit i h = omega (arith, row_within i t.rows t.width h, ok.stands.rows)

  rows_length_lem : length rows ≡ t.rows
  rows_length_lem = length_tab (λ i. part w (row_at t i) t.width) t.rows

  key_is : (i : ℕ) → i < t.rows → take t.keys (get_or rows i []) ≡ key_at i
  key_is i h = ap (take t.keys) (get_or_tab (λ i. part w (row_at t i) t.width) t.rows i [] h) ∙ take-take t.keys t.width (drop (row_at t i) w) ok.stands.keys

  -- rows stand in their order
  before_row : (j i : ℕ) → row_at t j < row_at t i → j < i
  before_row j i h = elim (dec_lt j i) [ yes l ↦ l | no l ↦ absurd (let m : i * t.width ≤ j * t.width = mul-le-mul_right t.width (omega arith) in omega arith) ]

  from_row : (j i : ℕ) → row_at t i ≤ row_at t j → i ≤ j
  from_row j i h = elim (dec_lt j i) [ yes l ↦ absurd (let m : j * t.width + t.width ≤ i * t.width = row_within j i t.width l in omega (arith, ok.some)) | no l ↦ omega arith ]

  -- ## Row i against the rows before it
  module _ (i : ℕ) (h : i < t.rows) where
    abbrev repeats : Bool
    repeats = is_repeat t.keys rows i

    repeated_yes : (j : ℕ) → j < i → key_at j ≡ key_at i → repeats ≡ true
    repeated_yes j l e = by repeats refl
      where
        by : (c : Bool) → repeats ≡ c → c ≡ true
        by true q = refl
        by false q = absurd (repeat_false t.keys rows i (omega (arith, rows_length_lem)) q (record { earlier = j; less = l; same = key_is j (omega arith) ∙ e ∙ sym (key_is i h) }))

    repeated_no : ((j : ℕ) → j < i → key_at j ≢ key_at i) → repeats ≡ false
    repeated_no all = by repeats refl
      where
        clash : Repeats t.keys rows i → ⊥
        clash r = all r.earlier r.less (sym (key_is r.earlier (omega (arith, r.less))) ∙ r.same ∙ key_is i h)

        by : (c : Bool) → repeats ≡ c → c ≡ false
        by false q = refl
        by true q = absurd (clash (repeat_true t.keys rows i (omega (arith, rows_length_lem)) q))

  -- ## The first row with the key of row i
  module _ (i own : ℕ) (r : RowAt t i own) (key : List ℕ) (starts : front key t.keys ≡ part w own t.keys) where
    its_key : front key t.keys ≡ key_at i
    its_key = starts ∙ ap (λ (p : ℕ). part w p t.keys) r.is_own

    abbrev has : ℕ → Bool
    has j = same_words w (row_at t j) key t.keys

    has_yes : (j : ℕ) → has j ≡ true → key_at j ≡ key_at i
    unfolding same_words
    has_yes j e = eq_list_eq (key_at j) (front key t.keys) e ∙ its_key

    has_no : (j : ℕ) → has j ≡ false → key_at j ≢ key_at i
    unfolding same_words
    has_no j e q = true≢false (sym (eq_eq_list (key_at j) (front key t.keys) (q ∙ sym its_key)) ∙ e)

    pub repeat_at : (p : ℕ) → found_row w t key ≡ Some p → ltb p own ≡ repeats i r.below
    repeat_at p e =
        let f = found_first w t key p e in
        elim (dec_lt p own) [
          | yes l ↦ lt-ltb p own l ∙ sym (repeated_yes i r.below f.0 (before_row f.0 i (omega (arith, f.1, r.is_own))) (has_yes f.0 f.2.here))
          | no l ↦ le-ltb p own (omega arith) ∙ sym (repeated_no i r.below (λ j m. has_no j (f.2.before j (omega (arith, from_row f.0 i (omega (arith, f.1, r.is_own)))))))
        ]

    pub repeat_nothing : found_row w t key ≡ None → false ≡ repeats i r.below
    repeat_nothing e = sym (repeated_no i r.below (λ j m. has_no j (missing_all w t key e j (omega (arith, r.below)))))

-- ## All rows

module _ (w : List ℕ) (at : ℕ) where
  abbrev T : TableInfo
  T = info_at w at

  abbrev repeat_in : ℕ → Bool
  repeat_in = is_repeat T.keys (rows_of w T)

  rows_count : length (rows_of w T) ≡ T.rows
  rows_count = length_tab (λ i. part w (row_at T i) T.width) T.rows

  first_row : (i : ℕ) → i < T.rows → ((j : ℕ) → j < i → false ≡ repeat_in j) → true ≡ repeat_in i → Some (record { number = 5; place = row_at T i }) ≡ rows_refusal w at
  unfolding read_table
  first_row i h before here = rw (some_least repeat_in (length (rows_of w T)) i (record { below = omega (arith, rows_count); here = sym here; before = λ j l. sym (before j l) }))

  no_row : ((j : ℕ) → j < T.rows → false ≡ repeat_in j) → None ≡ rows_refusal w at
  unfolding read_table
  no_row all = rw (none_least repeat_in (length (rows_of w T)) (λ j l. sym (all j (omega (arith, rows_count)))))

-- of a table that was read from the words
module _ (w : List ℕ) (t : TableInfo) (at : ℕ) (e : t ≡ info_at w at) where
  abbrev Free : TableInfo → ℕ → Type 0
  Free t n = (j : ℕ) → j < n → false ≡ is_repeat t.keys (rows_of w t) j

  abbrev Refused : Option Refusal → Type 0
  Refused r = r ≡ rows_refusal w at

  pub refuse_row : (i p : ℕ) → RowAt t i p → Free t i → true ≡ is_repeat t.keys (rows_of w t) i → Refused (Some (record { number = 5; place = p }))
  refuse_row i p r = subst (λ (t : TableInfo). RowAt t i p → Free t i → true ≡ is_repeat t.keys (rows_of w t) i → Refused (Some (record { number = 5; place = p }))) (sym e) (λ r before here. ap (λ (p : ℕ). Some (record { number = 5; place = p })) r.is_own ∙ first_row w at i r.below before here) r

  pub pass_rows : Free t t.rows → Refused None
  pass_rows = subst (λ (t : TableInfo). Free t t.rows → Refused None) (sym e) (no_row w at)
