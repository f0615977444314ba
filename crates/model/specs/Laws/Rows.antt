-- Rows by key: what a search for a key found, and refusal 5 with no search.
use Rattle.std.specs.Prelude.{ℕ, zero, suc, ◌<◌, ◌≡◌, refl, ◌≢◌, true, false, List, [], ◌∷◌, length, get_or, take, Option, None, Some}
use Rattle.std.proofs.Common.{sym, ◌∙◌, true≢false, arith, length-take-le, get_or-take}
use Rattle.std.proofs.lemmas.Bool.{false≢true}
use Rattle.model.specs.Basics.{found, only, eq_list}
use Rattle.model.specs.Book.Syntax.{Table}
use Rattle.model.specs.Book.Read.{is_repeat, repeated}
use Rattle.model.specs.Machine.Values.{find}
use Rattle.model.specs.Claims.Refusals.{Repeats}
use Rattle.model.specs.Laws.Logic.{none_some, eq_list_eq, eq_eq_list, only_yes, only_no, else_none, else_some, either}
use Rattle.model.specs.Laws.Lists.{Least, least_none, least_some}

pub find_none : (k : ℕ) (rows : List (List ℕ)) (key : List ℕ) → find k rows key ≡ None → (j : ℕ) → j < length rows → take k (get_or rows j []) ≢ key
find_none k [] key e j h = absurd (omega arith)
find_none k (r ∷ rows) key e zero h = λ q. true≢false (sym (eq_eq_list _ _ q) ∙ only_no _ r (else_none (only (eq_list (take k r) key) (Some r)) (λ _. find k rows key) e).0)
find_none k (r ∷ rows) key e (suc j) h = find_none k rows key (else_none (only (eq_list (take k r) key) (Some r)) (λ _. find k rows key) e).1 j (omega arith)

pub find_some : (k : ℕ) (rows : List (List ℕ)) (key r : List ℕ) → find k rows key ≡ Some r → (j : ℕ) × (j < length rows) × (take k (get_or rows j []) ≡ key)
find_some k [] key r e = absurd (none_some e)
find_some k (x ∷ rows) key r e =
    either (λ p. (0, omega arith, eq_list_eq _ _ (only_yes _ x _ p).0))
    (λ p. let q = find_some k rows key r p.1 in (suc q.0, omega (arith, q.1), q.2))
    (else_some (only (eq_list (take k x) key) (Some x)) (λ _. find k rows key) r e)

module _ (keys : ℕ) (rows : List (List ℕ)) (i : ℕ) (h : i < length rows) where
  len : length (take i rows) ≡ i
  len = length-take-le i rows (omega arith)

  pub repeat_true : is_repeat keys rows i ≡ true → Repeats keys rows i
  repeat_true e = by (find keys (take i rows) (take keys (get_or rows i []))) refl e
    where
      by : (o : Option (List ℕ)) → find keys (take i rows) (take keys (get_or rows i [])) ≡ o → found o (λ _. true) (λ _. false) ≡ true → Repeats keys rows i
      by None q f = absurd (false≢true f)
      by (Some r) q f =
          let p = find_some keys (take i rows) _ r q in
          let l : p.0 < i = omega (arith, p.1, len) in
          record { earlier = p.0; less = l; same = rw (get_or-take i rows p.0 [] l) at p.2 }

  pub repeat_false : is_repeat keys rows i ≡ false → Repeats keys rows i → ⊥
  repeat_false e r = by (find keys (take i rows) (take keys (get_or rows i []))) refl e
    where
      by : (o : Option (List ℕ)) → find keys (take i rows) (take keys (get_or rows i [])) ≡ o → found o (λ _. true) (λ _. false) ≡ false → ⊥
      by (Some x) q f = true≢false f
      by None q f = find_none keys (take i rows) _ q r.earlier (omega (arith, r.less, len)) (rw (get_or-take i rows r.earlier [] r.less) r.same)

-- 5 exactly where a key is repeated, at the first such row
module _ (t : Table) where
  pub repeated_none : repeated t ≡ None → (i : ℕ) → i < length t.rows → Repeats t.keys t.rows i → ⊥
  repeated_none e i h = repeat_false t.keys t.rows i h (least_none (is_repeat t.keys t.rows) (length t.rows) e i h)

  pub repeated_some : (i : ℕ) → repeated t ≡ Some i → (i < length t.rows) × Repeats t.keys t.rows i × ((j : ℕ) → j < i → Repeats t.keys t.rows j → ⊥)
  repeated_some i e = of (least_some (is_repeat t.keys t.rows) (length t.rows) i e)
    where
      of : Least (is_repeat t.keys t.rows) (length t.rows) i → (i < length t.rows) × Repeats t.keys t.rows i × ((j : ℕ) → j < i → Repeats t.keys t.rows j → ⊥)
      of l = (l.below, repeat_true _ _ i l.below l.here, λ j h. repeat_false _ _ j (omega (arith, l.below)) (l.before j h))
