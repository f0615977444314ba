-- The words of a step's body against the model's, and how many there are.
use Prim.Native.Nat.{ℕ, zero, suc, ◌+◌, ◌*◌, ◌<◌, ◌≤◌}
use Rattle.std.specs.Prelude.{◌≡◌, Bool, true, false, cond, leb, List, [], ◌∷◌, map, Option, None, Some}
use Rattle.std.proofs.Math.Path.{refl}
use Rattle.std.proofs.Common.{sym, ap, ◌∙◌, append-nil, suc-mul, mul-le-mul_right, le-leb, ext_get_or}
use native.Mathlib.Omega.{arith}
use Rattle.std.proofs.lemmas.Bool.{lt-leb}
use Rattle.std.proofs.Math.ListN.{length, get_or, length-append, get_or-map}
use Rattle.std.proofs.lemmas.List.{length-map}
use Rattle.std.proofs.lemmas.List.Edits.{sets}
use Rattle.std.proofs.Math.Seq.{length-sets}
use Rattle.std.specs.Int.{from_bool}
use Rattle.model.specs.Basics.{tab, how_many, when, found, join}
use Rattle.model.specs.Book.Decode.{part}
use Rattle.model.specs.Machine.State.{Bindings, survivors, predicted}
use Rattle.model.specs.Answer.{flag, column, step_body}
use Rattle.model.specs.Laws.Bodies.{length_part}
use Rattle.model.specs.Laws.Lists.{length_tab, get_or_tab}
use Rattle.mask.specs.Masks.{count, padded}
use Rattle.mask.specs.MaskLaws.{how_many_le, count_padded, has_padded}
use Rattle.bindings.specs.Columns.{columns_of}
use Rattle.bindings.specs.BindingLaws.{column_at}
use Rattle.step_bodies.specs.Runs.{join_append, join_snoc, runs, runs_none, runs_suc, length_suc}
use Rattle.step_bodies.specs.Steps.{placed, prediction_words, column_words, batch_words}

module _ (l : List ℕ) (at : ℕ) (b : List ℕ) where
  pub placed_fits : at + length l ≤ length b → sets b at l ≡ placed l at b
  unfolding placed
  placed_fits h = rw (le-leb _ _ h)

  pub placed_not : length b < at + length l → b ≡ placed l at b
  unfolding placed
  placed_not h = rw (lt-leb _ _ h)

  pub length_placed : length (placed l at b) ≡ length b
  unfolding placed
  length_placed = by (leb (at + length l) (length b))
    where
      by : (c : Bool) → length (cond c (sets b at l) b) ≡ length b
      by true = length-sets b at l
      by false = refl

-- a word that says whether a lane is live
pub flag_word : (b : Bool) → from_bool b ≡ flag b
flag_word true = refl
flag_word false = refl

-- ## How many words a batch's body has

module _ (lanes : ℕ) (known : List Bool) (m : List ℕ) (few : lanes ≤ 256) (all : length m ≡ 8192) where
  abbrev has : ℕ → Bool
  has v = get_or known v false

  abbrev column_of : ℕ → List ℕ
  column_of v = column_words m lanes (has v) v

  length_column : (b : Bool) (v : ℕ) → v < 32 → (n : ℕ) → n * (1 + lanes) + length (column_words m lanes b v) ≡ when b suc n * (1 + lanes)
  length_column true v h n = omega (arith, length_part m (256 * v) lanes (omega arith), suc-mul n (1 + lanes))
  length_column false v h n = omega arith

  pub length_columns : (n : ℕ) → n ≤ 32 → length (runs column_of n) ≡ how_many has n * (1 + lanes)
  length_columns zero h = rw (runs_none column_of) (omega arith)
  length_columns (suc n) h = omega (arith, length_suc column_of n, length_columns n (omega arith), length_column (has n) n (omega arith) (how_many has n))

  pub length_batch : (live : List Bool) → length (batch_words lanes known m live) ≡ 3 + how_many has 32 * (1 + lanes) + lanes
  unfolding batch_words
  length_batch live = omega (arith, length-append (runs column_of 32) (tab (λ i. flag (get_or live i false)) lanes), length_columns 32 (omega arith), length_tab (λ i. flag (get_or live i false)) lanes)

  -- no body of a batch has more words than this
  pub batch_most : (live : List Bool) → length (batch_words lanes known m live) ≤ 8483
  batch_most live = omega (arith, length_batch live, mul-le-mul_right (1 + lanes) (how_many_le has 32))

-- how many lanes are live, of 256
pub count_most : (live : List Bool) → length live ≡ 256 → count live ≤ 256
unfolding count
count_most live e = omega (arith, how_many_le (λ i. get_or live i false) (length live))

-- ## The model's body of a batch

module _ (b : Bindings) (live : List Bool) (known : List Bool) (few : length live ≤ 256)
    (bound : (v : ℕ) → v < 32 → get_or known v false ≡ found (b v) (λ _. true) (λ _. false))
    (sized : (v : ℕ) (c : List ℕ) → v < 32 → b v ≡ Some c → length c ≡ length live) where
  abbrev words : ℕ → List ℕ
  words v = column_words (columns_of b) (length live) (get_or known v false) v

  -- a variable's words, and whether there are any
  column_is : (v : ℕ) → v < 32 → words v ≡ join (column b v)
  column_is v h = rw (bound v h) (by (b v) refl)
    where
      by : (o : Option (List ℕ)) → b v ≡ o → column_words (columns_of b) (length live) (found o (λ _. true) (λ _. false)) v ≡ join (found o (λ c. (v ∷ c) ∷ []) (λ _. []))
      by None e = refl
      by (Some c) e = ap (λ (x : List ℕ). v ∷ x) (ap (part (columns_of b) (256 * v)) (sym (sized v c h e)) ∙ column_at b v c h e (omega (arith, sized v c h e)) ∙ sym (append-nil c))

  columns_are : (n : ℕ) → n ≤ 32 → runs words n ≡ join (join (tab (column b) n))
  unfolding tab
  columns_are zero h = runs_none words
  columns_are (suc n) h =
      runs_suc words n ∙ rw (columns_are n (omega arith), column_is n h)
      (sym (ap join (join_snoc (tab (column b) n) (column b n)) ∙ join_append (join (tab (column b) n)) (column b n)))

  counted : (n : ℕ) → n ≤ 32 → how_many (λ v. get_or known v false) n ≡ length (join (tab (column b) n))
  unfolding tab
  counted zero h = refl
  counted (suc n) h =
      rw (bound n h, join_snoc (tab (column b) n) (column b n), length-append (join (tab (column b) n)) (column b n), ← counted n (omega arith)) (by (b n) (how_many (λ v. get_or known v false) n))
    where
      by : (o : Option (List ℕ)) (k : ℕ) → when (found o (λ _. true) (λ _. false)) suc k ≡ k + length (found o (λ c. (n ∷ c) ∷ []) (λ _. []))
      by None k = omega arith
      by (Some c) k = omega arith

  flags_are : tab (λ i. flag (get_or (padded live) i false)) (length live) ≡ map flag live
  flags_are = ext_get_or 0 (tab (λ i. flag (get_or (padded live) i false)) (length live)) (map flag live) (length_tab (λ i. flag (get_or (padded live) i false)) (length live) ∙ sym (length-map live flag))
      (λ i h. let l : i < length live = omega (arith, length_tab (λ i. flag (get_or (padded live) i false)) (length live)) in
      get_or_tab (λ i. flag (get_or (padded live) i false)) (length live) i 0 l ∙ ap flag (has_padded live i) ∙ sym (get_or-map flag live i false))

  pub batch_is : batch_words (length live) known (columns_of b) (padded live) ≡ (step_body (survivors b live)).words
  unfolding batch_words
  batch_is = rw (count_padded live few, counted 32 (omega arith), columns_are 32 (omega arith), flags_are)

-- ## The model's body of a prediction

pub prediction_is : (made : Bool) (row : List ℕ) → prediction_words made row ≡ (step_body (predicted made row)).words
prediction_is made row = refl
