-- What the code of all bodies leans on: refusals 3, 6, 4 and 5 of a body from its walk, and the first body that is refused.
use Prim.Native.Nat.{ℕ, zero, suc, ◌<◌}
use Rattle.std.specs.Prelude.{◌≡◌, true, false, List, eqb, Option, None, Some}
use Rattle.std.proofs.Math.Path.{refl, sym}
use Rattle.std.proofs.Common.{arith}
use borrow.Author.Tests.{eq-eqb, ne_eqb}
use Rattle.model.specs.Basics.{◌else◌}
use Rattle.model.specs.Laws.Lists.{none_first_some, some_first_some}
use Rattle.model.specs.Laws.Contents.{contents_ok, Inside, inside}
use Rattle.model.specs.Laws.Scan.{table_words_lem}
use Rattle.model.specs.Book.Words.{Refusal}
use Rattle.model.specs.Book.Contents.{count, kind_of, first_of, end_of}
use Rattle.model.specs.Book.Scan.{bad, good, Sizes, scan, scan_table}
use Rattle.model.specs.Book.Read.{drew_at, sizes, walk, rows_refusal, body_refusal, bodies_refusal}
use Rattle.refusal.specs.declared.Refusal.{Refusal as Fault}
use Rattle.refusal.specs.Refusal.{told}
use Rattle.tables.specs.Tables.{info_at, RowsStand}
use Rattle.tables.specs.TablesLaws.{stands}
use Rattle.reader.specs.Places.{BodyAt}

-- ## A body

module _ {w : List ℕ} {z : Sizes} {i : ℕ} (b : BodyAt w z i) where
  there : Inside w (contents_ok w b.contents) i
  there = inside w (contents_ok w b.contents) i b.below

  pub few : i < 128
  few = omega (arith, b.below, (contents_ok w b.contents).counted.most)

  -- bodies stand past the contents
  pub after_contents : 0 < first_of w i
  after_contents = there.after

  pub body_bad : bad ≡ walk w i → Some (record { number = 3; place = i }) ≡ body_refusal w i
  unfolding body_refusal
  body_bad e = rw (← e)

  -- a walk that is not bad
  module _ {at p q : ℕ} (e : good at p q ≡ walk w i) where
    abbrev rest : Option Refusal
    rest = elim (eqb (kind_of w i) 1) [ true ↦ rows_refusal w (first_of w i) | false ↦ None ]

    pub body_six : (p ≡ 0 → ⊥) → Some (record { number = 6; place = p }) ≡ body_refusal w i
    unfolding body_refusal
    body_six h = rw (← e) (by p h)
      where
        by : (p : ℕ) → (p ≡ 0 → ⊥) → Some (record { number = 6; place = p }) ≡ (drew_at 6 p else λ _. drew_at 4 q else λ _. rest)
        by zero h = absurd (h refl)
        by (suc p) h = refl

    pub body_four : p ≡ 0 → (q ≡ 0 → ⊥) → Some (record { number = 4; place = q }) ≡ body_refusal w i
    unfolding body_refusal
    body_four zp h = rw (← e, zp) (by q h)
      where
        by : (q : ℕ) → (q ≡ 0 → ⊥) → Some (record { number = 4; place = q }) ≡ (drew_at 4 q else λ _. rest)
        by zero h = absurd (h refl)
        by (suc q) h = refl

    pub body_rows : (r : Option Refusal) → p ≡ 0 → q ≡ 0 → kind_of w i ≡ 1 → r ≡ rows_refusal w (first_of w i) → r ≡ body_refusal w i
    unfolding body_refusal
    body_rows r zp zq k h = rw (← e, zp, zq, eq-eqb (kind_of w i) 1 k) h

    pub body_pass : p ≡ 0 → q ≡ 0 → (kind_of w i ≡ 1 → ⊥) → None ≡ body_refusal w i
    unfolding body_refusal
    body_pass zp zq k = rw (← e, zp, zq, ne_eqb (kind_of w i) 1 k)

    pub table_at_lem : p ≡ 0 → q ≡ 0 → kind_of w i ≡ 1 → RowsStand w (info_at w (first_of w i))
    unfolding scan
    table_at_lem zp zq k =
        let s : scan_table (end_of w i) w (sizes w) (first_of w i) ≡ good at 0 0 = rw (k, zp, zq) at (sym e) in
        let t = table_words_lem (sizes w) w (end_of w i) (first_of w i) there.after there.order s in
        record { stands = stands w (first_of w i) (sizes w) (end_of w i) t there.within; some = t.sum }

-- ## All bodies

module _ (w : List ℕ) where
  pub bodies_refused : (e : Fault) (i : ℕ) → i < count w → ((j : ℕ) → j < i → None ≡ body_refusal w j) → Some (told e) ≡ body_refusal w i → Some (told e) ≡ bodies_refusal w
  unfolding bodies_refusal
  bodies_refused e i l before here = sym (some_first_some (body_refusal w) (count w) (told e) (record { index = i; below = l; here = sym here; before = λ j l. sym (before j l) }))

  pub bodies_pass : ((j : ℕ) → j < count w → None ≡ body_refusal w j) → None ≡ bodies_refusal w
  unfolding bodies_refusal
  bodies_pass all = sym (none_first_some (body_refusal w) (count w) (λ j l. sym (all j l)))
