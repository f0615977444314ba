-- Refusals 3, 6, 4 and 5 of a body are exact.
use Prim.Native.Nat.{ℕ, zero, suc, ◌+◌, ◌<◌}
use mathlib.Core.Path.{◌≡◌, refl, sym, ap, ◌∙◌, subst}
use mathlib.Core.Logic.{◌⊎◌, inl, inr}
use mathlib.Core.Bool.{Bool, true, false, true≢false}
use Rattle.std.specs.Prelude.{Option, None, Some, slice_get}
use mathlib.Core.List.{List, [], ◌∷◌}
use native.Mathlib.Omega.{arith}
use lib.Dec.{eqb}
use borrow.Author.Tests.{eqb-true, eqb-false}
use lib.ListN.{length, length-map}
use Rattle.model.specs.Basics.{◌else◌}
use Rattle.model.specs.Book.Words.{Refusal}
use Rattle.model.specs.Book.Contents.{count, kind_of, first_of, length_of, end_of}
use Rattle.model.specs.Book.Scan.{good}
use Rattle.model.specs.Book.Decode.{part, read_table, row_place}
use Rattle.model.specs.Book.Read.{drew3, drew6, drew4, repeated, rows_refusal, sizes, walk, body_refusal}
use Rattle.model.specs.Claims.Grammar.{Word, Missing, Stale, BodyForm}
use Rattle.model.specs.Claims.Refusals.{LaidOut, WordAt, Repeats, InBody, layout, absent, mark, repeat, AtBody, number_of, place_of, body, body_order, Before}
use Rattle.model.specs.Laws.Logic.{none_some, some_inj, seq_none, seq_some, either}
use Rattle.model.specs.Laws.Bodies.{length_part}
use Rattle.model.specs.Laws.Contents.{ContentsOk, Inside, inside}
use Rattle.model.specs.Laws.Rows.{repeated_none, repeated_some}
use Rattle.model.proofs.Parses.{Fits, Parse, is_bad, is_good}
use Rattle.model.proofs.BodyLayouts.{Ends, parse_body}
use Rattle.model.proofs.Drawn.{is_missing, is_stale, first_place, pass_draws, place_none, FirstAt, place_some, is_missing_lem, missing_is, is_stale_lem, stale_is, stands_part, part_stands}
use Rattle.model.proofs.Exact.{Exact}

module _ (w : List ℕ) (ok : ContentsOk w) (i : ℕ) (h : i < count w) where
  abbrev first : ℕ
  first = first_of w i

  abbrev end : ℕ
  end = end_of w i

  s : Inside w ok i
  s = inside w ok i h

  -- laid out in the contents' words, and in the walk's
  abbrev Form : List Word → Type 0
  Form = Ends w end first (BodyForm (sizes w) (kind_of w i))

  laid_fits : (ms : List Word) → LaidOut w i ms → Fits w end Form first ms
  laid_fits ms v =
      let l : length ms ≡ length_of w i = sym (length-map ms (λ (m : Word). m.word)) ∙ ap length v.1 ∙ length_part w first (length_of w i) s.within in
      ((v.0, omega arith), part_stands w ms first (omega (arith, s.within)) (v.1 ∙ ap (part w first) (sym l)), omega arith)

  fits_laid : (ms : List Word) → Fits w end Form first ms → LaidOut w i ms
  fits_laid ms v =
      let l : length ms ≡ length_of w i = omega (arith, v.0.1) in
      (v.0.0, stands_part w ms first v.1 (omega (arith, v.0.1, s.within)) ∙ ap (part w first) l)

  -- ## Words at fault, where the body is laid out in one way

  module _ (ms : List Word) (only : (ns : List Word) → LaidOut w i ns → ns ≡ ms) (F : Word → Type 0) (t : Word → Bool) (back : (m : Word) → F m → t m ≡ true) where
    no_word : first_place t first ms ≡ 0 → (p : ℕ) → WordAt w F i p → ⊥
    no_word e p v =
        let m = subst (λ (l : List Word). slice_get l v.2 ≡ Some v.3) (only v.0 v.1) v.4 in
        true≢false (sym (back v.3 v.5) ∙ place_none t ms first s.after e v.2 v.3 m)

    no_earlier : (p : ℕ) → FirstAt t ms first p → (q : ℕ) → q < p → WordAt w F i q → ⊥
    no_earlier p r q l v =
        let m = subst (λ (x : List Word). slice_get x v.2 ≡ Some v.3) (only v.0 v.1) v.4 in
        true≢false (sym (back v.3 v.5) ∙ r.before v.2 v.3 (omega (arith, l, r.is_place, v.6)) m)

  -- ## The four in their order

  abbrev says : InBody → Refusal
  says c = record { number = number_of (body i c); place = place_of w (body i c) }

  abbrev Is : Option Refusal → Type 0
  Is o = Exact InBody body_order (AtBody w i) says o

  -- none before the layout; only the layout before a missing number; only these before a stale mark
  before_layout : (c : InBody) → Before (body_order c) (0 ∷ []) → ⊥
  before_layout layout b = either (λ l. omega arith) (λ l. l.1) b
  before_layout (absent p) b = either (λ l. omega arith) (λ l. omega (arith, l.0)) b
  before_layout (mark p) b = either (λ l. omega arith) (λ l. omega (arith, l.0)) b
  before_layout (repeat r) b = either (λ l. omega arith) (λ l. omega (arith, l.0)) b

  within_place : (k p q : ℕ) → Before (k ∷ p ∷ []) (k ∷ q ∷ []) → p < q
  within_place k p q (inl l) = absurd (omega arith)
  within_place k p q (inr (e, inl l)) = l
  within_place k p q (inr (e, inr l)) = absurd l.1

  module _ (ms : List Word) (laid : LaidOut w i ms) (only : (ns : List Word) → LaidOut w i ns → ns ≡ ms) where
    abbrev no_layout : AtBody w i layout → ⊥
    no_layout v = v ms laid

    found_absent : (p : ℕ) → first_place is_missing first ms ≡ suc p → Is (Some (record { number = 6; place = suc p }))
    found_absent p e = record {
      clear = λ n. absurd (none_some (sym n));
      first = λ r n. (absent (suc p), (ms, laid, a.index, a.here, a.there, is_missing_lem a.here a.holds, a.is_place), some_inj n, earlier);
    }
      where
        a : FirstAt is_missing ms first (suc p)
        a = place_some is_missing ms first (suc p) (omega arith) e

        earlier : (c : InBody) → Before (body_order c) (1 ∷ suc p ∷ []) → AtBody w i c → ⊥
        earlier layout b v = no_layout v
        earlier (absent q) b v = no_earlier ms only Missing is_missing missing_is (suc p) a q (within_place 1 q (suc p) b) v
        earlier (mark q) b v = either (λ l. omega arith) (λ l. omega (arith, l.0)) b
        earlier (repeat q) b v = either (λ l. omega arith) (λ l. omega (arith, l.0)) b

    module _ (none6 : first_place is_missing first ms ≡ 0) where
      abbrev no_absent : (p : ℕ) → AtBody w i (absent p) → ⊥
      no_absent p v = no_word ms only Missing is_missing missing_is none6 p v

      found_mark : (q : ℕ) → first_place is_stale first ms ≡ suc q → Is (Some (record { number = 4; place = suc q }))
      found_mark p e = record {
        clear = λ n. absurd (none_some (sym n));
        first = λ r n. (mark (suc p), (ms, laid, a.index, a.here, a.there, is_stale_lem a.here a.holds, a.is_place), some_inj n, earlier);
      }
        where
          a : FirstAt is_stale ms first (suc p)
          a = place_some is_stale ms first (suc p) (omega arith) e

          earlier : (c : InBody) → Before (body_order c) (2 ∷ suc p ∷ []) → AtBody w i c → ⊥
          earlier layout b v = no_layout v
          earlier (absent q) b v = no_absent q v
          earlier (mark q) b v = no_earlier ms only Stale is_stale stale_is (suc p) a q (within_place 2 q (suc p) b) v
          earlier (repeat q) b v = either (λ l. omega arith) (λ l. omega (arith, l.0)) b

      module _ (none4 : first_place is_stale first ms ≡ 0) where
        abbrev no_mark : (p : ℕ) → AtBody w i (mark p) → ⊥
        no_mark p v = no_word ms only Stale is_stale stale_is none4 p v

        abbrev is_table : Bool
        is_table = eqb (kind_of w i) 1

        rows : (b : Bool) → is_table ≡ b → Is (elim b [ true ↦ rows_refusal w first | false ↦ None ])
        rows false e = record { clear = λ n c v. by c v; first = λ r n. absurd (none_some n) }
          where
            by : (c : InBody) → AtBody w i c → ⊥
            by layout v = no_layout v
            by (absent p) v = no_absent p v
            by (mark p) v = no_mark p v
            by (repeat row) v = eqb-false (kind_of w i) 1 e v.0
        rows true e = record { clear = λ n c v. by n c v; first = λ r n. of r (seq_some (repeated (read_table w first)) _ _ r n) }
          where
            by : rows_refusal w first ≡ None → (c : InBody) → AtBody w i c → ⊥
            by n layout v = no_layout v
            by n (absent p) v = no_absent p v
            by n (mark p) v = no_mark p v
            by n (repeat row) v = repeated_none (read_table w first) (seq_none (repeated (read_table w first)) _ _ n).0 row v.1 v.2

            of : (r : Refusal) → ((row : ℕ) × (repeated (read_table w first) ≡ Some row) × (record { number = 5; place = row_place w first row } ≡ r)) ⊎ ((repeated (read_table w first) ≡ None) × (None ≡ Some r))
                → (c : InBody) × AtBody w i c × (says c ≡ r) × ((d : InBody) → Before (body_order d) (body_order c) → AtBody w i d → ⊥)
            of r (inr n) = absurd (none_some n.1)
            of r (inl n) = (repeat n.0, (eqb-true (kind_of w i) 1 e, a.0, a.1), n.2, earlier)
              where
                a : (n.0 < length (read_table w first).rows) × Repeats (read_table w first).keys (read_table w first).rows n.0 × ((j : ℕ) → j < n.0 → Repeats (read_table w first).keys (read_table w first).rows j → ⊥)
                a = repeated_some (read_table w first) n.0 n.1

                earlier : (c : InBody) → Before (body_order c) (3 ∷ n.0 ∷ []) → AtBody w i c → ⊥
                earlier layout b v = no_layout v
                earlier (absent q) b v = no_absent q v
                earlier (mark q) b v = no_mark q v
                earlier (repeat q) b v = a.2 q (within_place 3 q n.0 b) v.2

    -- after the walk came to its end
    laid_exact : (n p q : ℕ) → first_place is_missing first ms ≡ p → first_place is_stale first ms ≡ q
        → Is (drew6 (good n p q) else λ _. drew4 (good n p q) else λ _. elim (eqb (kind_of w i) 1) [ true ↦ rows_refusal w first | false ↦ None ])
    laid_exact n (suc p) q a b = found_absent p a
    laid_exact n zero (suc q) a b = found_mark a q b
    laid_exact n zero zero a b = rows a b (eqb (kind_of w i) 1) refl

  pub body_exact : Is (body_refusal w i)
  unfolding body_refusal
  body_exact = of (parse_body w end (sizes w) first s.order (kind_of w i))
    where
      of : Parse w end Form first 0 0 (walk w i) → Is (drew3 i (walk w i) else λ _. drew6 (walk w i) else λ _. drew4 (walk w i) else λ _. elim (eqb (kind_of w i) 1) [ true ↦ rows_refusal w first | false ↦ None ])
      of (is_bad e no') = rw e (record {
        clear = λ n. absurd (none_some (sym n));
        first = λ r n. (layout, (λ ms v. no' ms (laid_fits ms v)), some_inj n, λ c b v. before_layout c b);
      })
      of (is_good ms v only e) =
          let d = e ∙ pass_draws ms first 0 0 s.after in
          rw d (laid_exact ms (fits_laid ms v) (λ ns l. only ns (laid_fits ns l)) (first + length ms) _ _ refl refl)
