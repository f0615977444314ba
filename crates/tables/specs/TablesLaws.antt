-- What the searches of the code lean on, and the row that they find in the model's terms.
use Prim.Native.Nat.{ℕ, zero, suc, ◌+◌, ◌*◌, ◌<◌, ◌≤◌}
use Rattle.std.proofs.Math.Path.{◌≡◌, refl, sym, ap}
use Rattle.std.proofs.Common.{◌∙◌, add-mul, one-mul, mul-le-mul_right, le-add_right, add-one-le, get_or-take, get_or-drop, take_at, take-take, ext_get_or}
use Rattle.std.specs.Prelude.{Bool, take, drop, replicate, Option, None, Some}
use Rattle.std.proofs.Math.Bool.{true, false}
use mathlib.Core.List.{List, [], ◌∷◌, ◌++◌}
use native.Mathlib.Omega.{arith}
use Rattle.std.proofs.Math.ListN.{length, get_or, length-drop}
use Rattle.std.proofs.Math.Seq.{length-take-le, take-length}
use Rattle.model.specs.Basics.{eq_list, found, only, least, tab}
use Rattle.model.specs.Book.Syntax.{width}
use Rattle.model.specs.Book.Scan.{Sizes}
use Rattle.model.specs.Book.Decode.{part, row_place, read_table}
use Rattle.model.specs.Machine.Values.{find}
use Rattle.model.specs.Laws.Logic.{eq_list_eq, eq_eq_list}
use Rattle.model.specs.Laws.Lists.{Least, least_none, least_some, none_least, some_least, length_tab, get_or_tab}
use Rattle.model.specs.Laws.Bodies.{length_part}
use Rattle.model.specs.Laws.Scan.{TableWords}
use Rattle.words.specs.Filled.{filled, length_filled}
use Rattle.tables.specs.declared.TableInfo.{TableInfo}
use Rattle.tables.specs.Tables.{info_at, Stands, front, same_words, row_at, found_row}

-- ## The words of a key

pub front_take : (key : List ℕ) (k : ℕ) → k ≤ length key → front key k ≡ take k key
front_take key k h =
    let n : length (take k key) ≡ k = length-take-le k key h in
    ext_get_or 0 (front key k) (take k key) (length_tab (λ i. get_or key i 0) k ∙ sym n)
    (λ i l. let m : i < k = omega (arith, length_tab (λ i. get_or key i 0) k) in get_or_tab (λ i. get_or key i 0) k i 0 m ∙ sym (get_or-take k key i 0 m))

pub front_all : (key : List ℕ) → front key (length key) ≡ key
front_all key = front_take key (length key) (omega arith) ∙ take-length key

-- a key cut to its words
pub front_taken : (key : List ℕ) (k : ℕ) → k ≤ length key → front (take k key) (length (take k key)) ≡ front key k
front_taken key k h = front_all (take k key) ∙ sym (front_take key k h)

pub same_taken : (w : List ℕ) (at : ℕ) (key : List ℕ) (k : ℕ) → k ≤ length key → same_words w at (take k key) (length (take k key)) ≡ same_words w at key k
unfolding same_words
same_taken w at key k h =
    let n : length (take k key) ≡ k = length-take-le k key h in
    ap (eq_list (part w at (length (take k key)))) (front_taken key k h) ∙ ap (λ (x : ℕ). eq_list (part w at x) (front key k)) n

-- a search goes by the key's words alone
pub found_same : (w : List ℕ) (t : TableInfo) (a b : List ℕ) → front a t.keys ≡ front b t.keys → found_row w t a ≡ found_row w t b
unfolding found_row same_words
found_same w t a b e = ap (λ (key : List ℕ). found (least (λ i. eq_list (part w (row_at t i) t.keys) key) t.rows) (λ i. Some (row_at t i)) (λ _. None)) e

pub found_taken : (w : List ℕ) (t : TableInfo) (row : List ℕ) → t.keys ≤ length row → found_row w t (take t.keys row) ≡ found_row w t row
found_taken w t row h = found_same w t (take t.keys row) row (ap (front (take t.keys row)) (sym (length-take-le t.keys row h)) ∙ front_taken row t.keys h)

-- a key that was copied into an array
pub key_front : (row : List ℕ) (k : ℕ) → k ≤ length row → k ≤ 16 → front (filled (λ i. get_or row i 0) k (replicate 16 0)) k ≡ take k row
key_front row k h l =
    let n = length_tab (λ (i : ℕ). get_or row i 0) k in
    front_take (filled (λ i. get_or row i 0) k (replicate 16 0)) k (omega (arith, length_filled (λ (i : ℕ). get_or row i 0) k (replicate 16 0) l))
    ∙ take_at (tab (λ i. get_or row i 0) k) (drop k (replicate 16 0)) k n
    ∙ front_take row k h

pub key_part : (w : List ℕ) (at width k : ℕ) (key : List ℕ) → key ≡ filled (λ i. get_or (part w at width) i 0) k (replicate 16 0) → k ≤ width → at + width ≤ length w → k ≤ 16 → front key k ≡ part w at k
key_part w at width k key e h l f =
    ap (λ (x : List ℕ). front x k) e
    ∙ key_front (part w at width) k (omega (arith, length_part w at width l)) f
    ∙ take-take k width (drop at w) h

module _ (w : List ℕ) (at : ℕ) (key : List ℕ) (k : ℕ) where
  pub part_word : (i : ℕ) → i < k → get_or (part w at k) i 0 ≡ get_or w (at + i) 0
  part_word i l = get_or-take k (drop at w) i 0 l ∙ get_or-drop at w i 0

  pub key_word : (i : ℕ) → i < k → get_or (front key k) i 0 ≡ get_or key i 0
  key_word i l = get_or_tab (λ i. get_or key i 0) k i 0 l

  pub same_all : at + k ≤ length w → ((i : ℕ) → i < k → get_or w (at + i) 0 ≡ get_or key i 0) → same_words w at key k ≡ true
  unfolding same_words
  same_all h all =
      let n : length (part w at k) ≡ k = length-take-le k (drop at w) (simp length-drop (omega arith)) in
      eq_eq_list _ _ (ext_get_or 0 (part w at k) (front key k) (n ∙ sym (length_tab (λ i. get_or key i 0) k)) (λ i l. let m : i < k = omega arith in part_word i m ∙ all i m ∙ sym (key_word i m)))

  pub same_not : (i : ℕ) → i < k → (get_or w (at + i) 0 ≡ get_or key i 0 → ⊥) → same_words w at key k ≡ false
  unfolding same_words
  same_not i l n = by (eq_list (part w at k) (front key k)) refl
    where
      by : (b : Bool) → eq_list (part w at k) (front key k) ≡ b → b ≡ false
      by false e = refl
      by true e = absurd (n (sym (part_word i l) ∙ ap (λ (x : List ℕ). get_or x i 0) (eq_list_eq (part w at k) (front key k) e) ∙ key_word i l))

-- ## The search

pub next_row : (i s : ℕ) → (i + 1) * s ≡ i * s + s
next_row i s = add-mul i 1 s ∙ ap (λ (k : ℕ). i * s + k) (one-mul s)

-- row i of n rows is within them
pub row_within : (i n s : ℕ) → i < n → i * s + s ≤ n * s
row_within i n s h = rw (← next_row i s) (mul-le-mul_right s (add-one-le h))

module _ (w : List ℕ) (t : TableInfo) (key : List ℕ) where
  abbrev Missed : ℕ → Type 0
  Missed i = same_words w (row_at t i) key t.keys ≡ false

  pub found_at : (i : ℕ) → i < t.rows → ((j : ℕ) → j < i → Missed j) → same_words w (row_at t i) key t.keys ≡ true → Some (row_at t i) ≡ found_row w t key
  unfolding found_row
  found_at i l before here = rw (some_least (λ i. same_words w (row_at t i) key t.keys) t.rows i (record { below = l; here = here; before = before }))

  pub found_nothing : ((j : ℕ) → j < t.rows → Missed j) → None ≡ found_row w t key
  unfolding found_row
  found_nothing all = rw (none_least (λ i. same_words w (row_at t i) key t.keys) t.rows all)

  abbrev Has : ℕ → Bool
  Has i = same_words w (row_at t i) key t.keys

  -- the row that was found is the first with the key
  pub found_first : (p : ℕ) → found_row w t key ≡ Some p → (i : ℕ) × (row_at t i ≡ p) × Least Has t.rows i
  unfolding found_row
  found_first p e = by (least Has t.rows) refl e
    where
      by : (o : Option ℕ) → least Has t.rows ≡ o → found o (λ i. Some (row_at t i)) (λ _. None) ≡ Some p → (i : ℕ) × (row_at t i ≡ p) × Least Has t.rows i
      by None q g = let z : ◌≡◌ {A = ℕ} 0 1 = cc in absurd (omega arith)
      by (Some i) q g = let r : row_at t i ≡ p = cc in (i, r, least_some Has t.rows i q)

  pub missing_all : found_row w t key ≡ None → (j : ℕ) → j < t.rows → Missed j
  unfolding found_row
  missing_all e = by (least Has t.rows) refl e
    where
      by : (o : Option ℕ) → least Has t.rows ≡ o → found o (λ i. Some (row_at t i)) (λ _. None) ≡ None → (j : ℕ) → j < t.rows → Missed j
      by None q g = least_none Has t.rows q
      by (Some i) q g = let z : ◌≡◌ {A = ℕ} 0 1 = cc in absurd (omega arith)

  -- it stands in the words
  pub found_within : (p : ℕ) → found_row w t key ≡ Some p → p + t.width ≤ t.at + t.rows * t.width
  found_within p e =
      let f = found_first p e in
      omega (arith, f.1, row_within f.0 t.rows t.width f.2.below)

-- ## The model's row

abbrev pub row_found : List ℕ → ℕ → Option ℕ → Option (List ℕ)
row_found w n (Some p) = Some (part w p n)
row_found w n None = None

find_last : (k : ℕ) (rows : List (List ℕ)) (r key : List ℕ) → find k (rows ++ (r ∷ [])) key ≡ found (find k rows key) Some (λ _. only (eq_list (take k r) key) (Some r))
find_last k [] r key = by (eq_list (take k r) key)
  where
    by : (b : Bool) → found (only b (Some r)) Some (λ _. None) ≡ only b (Some r)
    by true = refl
    by false = refl
find_last k (x ∷ rows) r key = by (eq_list (take k x) key) (find_last k rows r key)
  where
    by : (b : Bool) → find k (rows ++ (r ∷ [])) key ≡ found (find k rows key) Some (λ _. only (eq_list (take k r) key) (Some r)) → found (only b (Some x)) Some (λ _. find k (rows ++ (r ∷ [])) key) ≡ found (found (only b (Some x)) Some (λ _. find k rows key)) Some (λ _. only (eq_list (take k r) key) (Some r))
    by true e = refl
    by false e = e

-- rows by an index: the least that has the key
module _ (k : ℕ) (f : ℕ → List ℕ) (key : List ℕ) (q : ℕ → Bool) (agree : (i : ℕ) → eq_list (take k (f i)) key ≡ q i) where
  find_tab : (n : ℕ) → find k (tab f n) key ≡ found (least q n) (λ i. Some (f i)) (λ _. None)
  unfolding tab
  find_tab zero = refl
  find_tab (suc n) = find_last k (tab f n) (f n) key ∙ rw (find_tab n, agree n) (by (least q n) (q n))
    where
      by : (o : Option ℕ) (b : Bool) → found (found o (λ i. Some (f i)) (λ _. None)) Some (λ _. only b (Some (f n))) ≡ found (found o Some (λ _. only b (Some n))) (λ i. Some (f i)) (λ _. None)
      by (Some i) b = refl
      by None true = refl
      by None false = refl

-- the table whose body begins at b
module _ (w : List ℕ) (b : ℕ) where
  -- a table that draws no refusal
  pub stands : (z : Sizes) (end : ℕ) → TableWords z w end b → end ≤ length w → Stands w (info_at w b)
  stands z end t h = record { rows = omega (arith, t.fills); keys = omega arith; few = omega (arith, t.keys) }

  pub keys_is : (read_table w b).keys ≡ (info_at w b).keys
  unfolding read_table
  keys_is = refl

  pub width_is : width (read_table w b) ≡ (info_at w b).width
  unfolding read_table
  width_is = refl

  pub merge_is : (read_table w b).merge ≡ (info_at w b).merge
  unfolding read_table
  merge_is = refl

  pub rows_is : length (read_table w b).rows ≡ (info_at w b).rows
  unfolding read_table
  rows_is = length_tab _ (info_at w b).rows

-- what the code finds is what the model finds in the table that is read
module _ (w : List ℕ) (b : ℕ) (key : List ℕ) where
  abbrev Info : TableInfo
  Info = info_at w b

  pub find_model : find (read_table w b).keys (read_table w b).rows (front key (read_table w b).keys) ≡ row_found w Info.width (found_row w Info key)
  unfolding read_table found_row same_words
  find_model =
      find_tab Info.keys (λ i. part w (row_place w b i) Info.width) (front key Info.keys) (λ i. same_words w (row_at Info i) key Info.keys) (λ i. ap (λ (x : List ℕ). eq_list x (front key Info.keys)) (take-take Info.keys Info.width (drop (row_place w b i) w) (le-add_right _ _))) Info.rows
      ∙ by (least (λ i. same_words w (row_at Info i) key Info.keys) Info.rows)
    where
      by : (o : Option ℕ) → found o (λ i. Some (part w (row_at Info i) Info.width)) (λ _. None) ≡ row_found w Info.width (found o (λ i. Some (row_at Info i)) (λ _. None))
      by None = refl
      by (Some i) = refl

  pub row_found_lem : (p : ℕ) → found_row w Info key ≡ Some p → find (read_table w b).keys (read_table w b).rows (front key (read_table w b).keys) ≡ Some (part w p Info.width)
  row_found_lem p e = find_model ∙ ap (row_found w Info.width) e

  pub row_missing : found_row w Info key ≡ None → find (read_table w b).keys (read_table w b).rows (front key (read_table w b).keys) ≡ None
  row_missing e = find_model ∙ ap (row_found w Info.width) e
