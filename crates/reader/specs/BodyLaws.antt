-- What the code of the bodies leans on: a body's end, a table that is refused at once, and a kind that is none.
use Rattle.std.specs.Prelude.{ℕ, zero, suc, ◌+◌, ◌<◌, ◌≡◌, Bool, List, [], ◌∷◌, eqb, leb, ltb, None}
use Rattle.std.proofs.Math.Path.{refl, ap}
use Rattle.std.proofs.Common.{sym, arith, add-zero, le-ltb, leb-true}
use Rattle.std.proofs.Math.Bool.{true, false}
use Rattle.std.proofs.lemmas.Bool.{lt-leb}
use Rattle.std.proofs.Math.ListN.{get_or, get_or-eq_default}
use Rattle.contents.specs.Kinds.{kind_by}
use Rattle.contents.specs.KindLaws.{no_kind}
use Rattle.model.specs.Book.Scan.{Scan, bad, good, ◌▹◌, fine, three, up_to, require, Sizes, step, finish, left, word, scan_table, scan_counter, scan_rule, scan_batch, scan_prediction, scan}

module _ (end : ℕ) where
  pub finish_is : (s : Scan) → finish end s ≡ left end 0 s
  unfolding finish left
  finish_is bad = refl
  finish_is (good at p q) = ap (λ (n : ℕ). require (eqb n end) (good at p q)) (sym (add-zero at))

-- ## A table

module _ (end : ℕ) (w : List ℕ) (z : Sizes) (at : ℕ) where
  abbrev counts : Scan
  counts = good at 0 0 ▹ word end w (up_to 8) ▹ word end w (up_to 8)

  step_three : (s : Scan) → step end three s ≡ bad
  unfolding step
  step_three bad = refl
  step_three (good p a b) = by (ltb p end)
    where
      by : (c : Bool) → require c bad ≡ bad
      by true = refl
      by false = refl

  first : step end fine (good at 0 0) ≡ require (ltb at end) (good (at + 1) 0 0)
  unfolding step
  first = refl

  never : (s : Scan) → s ▹ require false ≡ bad
  never bad = refl
  never (good p a b) = refl

  pub table_empty : get_or w at 0 + get_or w (at + 1) 0 ≡ 0 → scan_table end w z at ≡ bad
  unfolding scan_table
  table_empty e = rw (le-ltb 0 (get_or w at 0 + get_or w (at + 1) 0) (omega arith), never counts)

  -- 8 and 8 are the most
  counts_bad : 16 < get_or w at 0 + get_or w (at + 1) 0 → counts ≡ bad
  counts_bad h = by (leb (get_or w at 0) 8) refl
    where
      second : 8 < get_or w (at + 1) 0 → (c : Bool) → require c (good (at + 1) 0 0) ▹ word end w (up_to 8) ≡ bad
      second l true = rw (lt-leb (get_or w (at + 1) 0) 8 l) (step_three (good (at + 1) 0 0))
      second l false = refl

      by : (b : Bool) → leb (get_or w at 0) 8 ≡ b → counts ≡ bad
      by true e = rw (e, first) (second (omega (arith, leb-true (get_or w at 0) 8 e)) (ltb at end))
      by false e = rw (e, step_three (good at 0 0))

  pub table_wide : 16 < get_or w at 0 + get_or w (at + 1) 0 → scan_table end w z at ≡ bad
  unfolding scan_table
  table_wide h = rw (counts_bad h)

pub scan_rest : (end : ℕ) (w : List ℕ) (z : Sizes) (kind at : ℕ) → (0 < kind → 5 < kind) → scan end w z kind at ≡ bad
unfolding scan
scan_rest end w z zero at h = refl
scan_rest end w z (suc k) at h = ap (λ (f : ℕ → Scan). f at) (get_or-eq_default (scan_table end w z ∷ scan_counter end w z ∷ scan_rule end w z ∷ scan_batch end w z ∷ scan_prediction end w z ∷ []) (λ (at : ℕ). bad) {n = k} (omega (arith, h (omega arith))))

-- what is of no kind is bad
pub scan_none : (end : ℕ) (w : List ℕ) (z : Sizes) (kind at : ℕ) → kind_by kind ≡ None → scan end w z kind at ≡ bad
scan_none end w z kind at e = scan_rest end w z kind at (λ l. no_kind kind e l)
