-- The gathered keys of a table's removals: a row's key is one of them where some record removes it, and there is room for them where there is for the log.
use Rattle.std.specs.Prelude.{ℕ, ◌+◌, ◌*◌, ◌<◌, ◌≤◌, ◌≡◌, Bool, ◌&&◌, ◌||◌, eqb, get_or, take, drop, Option, None, Some}
use Rattle.std.proofs.Math.Path.{refl, sym, ap}
use Rattle.std.proofs.Common.{◌∙◌, add-one, take_at, drop_at}
use Rattle.std.proofs.Math.Bool.{true, false, or-false}
use mathlib.Core.List.{List, [], ◌++◌}
use native.Mathlib.Omega.{arith}
use Rattle.std.proofs.Math.ListN.{length, length-append, length-drop}
use Rattle.std.proofs.Math.Seq.{take_all, take-append-le}
use Rattle.std.proofs.lemmas.List.{drop-append-le}
use Rattle.model.specs.Basics.{when, eq_list, found, only, least}
use Rattle.model.specs.Book.Decode.{part}
use Rattle.model.specs.Laws.Iter.{iter_agree}
use Rattle.model.specs.Laws.Bodies.{length_part}
use Rattle.tables.specs.Tables.{info_of, front, same_words, found_row}
use Rattle.tables.specs.TablesLaws.{next_row, row_within}
use Rattle.record_log.specs.Walk.{end_of, is_removal, walked}
use Rattle.commit.specs.Walk.{removal_turn, any_removal, remove_turn, removed, Keys, with_key, gather_turn, store_key, store_turn, removed_keys, laid_onto, key_table, is_there}
use Rattle.commit.specs.Keys.{Room, KeyRoom}
use Rattle.commit.specs.RowLaws.{paste_onto}
use Rattle.record_log.specs.WalkLaws.{end_after, removal_end, walked_both}

-- ## One key more

-- each key has k words
abbrev Whole : ℕ → Keys → Type 0
Whole k s = length s.words ≡ s.count * k

module _ (k : ℕ) (key : List ℕ) where
  -- whether the key is one of them
  abbrev pub among : Keys → Bool
  among s = is_there (found_row s.words (key_table k s.count) key)

  module _ (s : Keys) (x : List ℕ) (whole : Whole k s) (long : length x ≡ k) where
    abbrev here : ℕ → Bool
    here j = same_words (s.words ++ x) (0 + j * k) key k

    before : (j : ℕ) → j < s.count → here j ≡ same_words s.words (0 + j * k) key k
    unfolding same_words
    before j l =
        let h : 0 + j * k + k ≤ length s.words = omega (arith, row_within j s.count k l) in
        rw (drop-append-le (0 + j * k) s.words x (omega arith), take-append-le k (drop (0 + j * k) s.words) x (simp length-drop (omega arith)))

    last : here s.count ≡ eq_list x (front key k)
    unfolding same_words
    last = rw (drop_at s.words x (0 + s.count * k) (omega arith), take_all k x (omega arith))

    among_more : among (with_key x s) ≡ among s || eq_list x (front key k)
    unfolding found_row
    among_more = rw (add-one, iter_agree _ _ s.count None (λ j o l. ap (λ (b : Bool). found o Some (λ _. only b (Some j))) (before j l)), last) (by (least (λ j. same_words s.words (0 + j * k) key k) s.count) (eq_list x (front key k)))
      where
        by : (o : Option ℕ) (b : Bool) → is_there (found (found o Some (λ _. only b (Some s.count))) (λ j. Some (0 + j * k)) (λ _. None)) ≡ is_there (found o (λ j. Some (0 + j * k)) (λ _. None)) || b
        by (Some j) b = refl
        by None true = refl
        by None false = refl

-- ## All of them

module _ (w log : List ℕ) (t k : ℕ) (keys : k ≡ (info_of w t).keys) where
  pub among_removed : (key : List ℕ) → among k key (removed_keys w log t k) ≡ removed w log t k (front key k)
  unfolding removed_keys removed found_row
  among_removed key = (walked_both (end_of w log) (length log) (gather_turn log t k) (remove_turn log t k (front key k)) (λ s b. Whole k s × (among k key s ≡ b)) (λ p s b l r. one p s b l r (is_removal log t p) refl) (record { words = []; count = 0 }) false (omega arith, refl)).1
    where
      one : (p : ℕ) (s : Keys) (b : Bool) → end_of w log p ≤ length log → Whole k s × (among k key s ≡ b) → (c : Bool) → is_removal log t p ≡ c → Whole k (when c (with_key (part log (p + 2) k)) s) × (among k key (when c (with_key (part log (p + 2) k)) s) ≡ b || (c && eq_list (part log (p + 2) k) (front key k)))
      one p s b l (whole, e) true q =
          let x = part log (p + 2) k in
          let long = length_part log (p + 2) k (omega (arith, removal_end w log p t q, keys, l)) in
          (omega (arith, length-append s.words x, next_row s.count k), among_more k key s x whole long ∙ ap (λ (y : Bool). y || eq_list x (front key k)) e)
      one p s b l (whole, e) false q = (whole, e ∙ sym (or-false b))

  -- stored one after the other in the words lent for them, they stand at the front of these
  stored : (gone : List ℕ) → Whole k (removed_keys w log t k) × (walked (end_of w log) (length log) (store_turn log t k) (record { words = gone; count = 0 }) ≡ laid_onto gone (removed_keys w log t k))
  unfolding removed_keys
  stored gone = walked_both (end_of w log) (length log) (store_turn log t k) (gather_turn log t k) (λ x s. Whole k s × (x ≡ laid_onto gone s)) (λ p x s l r. one p x s l r (is_removal log t p) refl) (record { words = gone; count = 0 }) (record { words = []; count = 0 }) (omega arith, refl)
    where
      one : (p : ℕ) (x s : Keys) → end_of w log p ≤ length log → Whole k s × (x ≡ laid_onto gone s) → (c : Bool) → is_removal log t p ≡ c → Whole k (when c (with_key (part log (p + 2) k)) s) × (when c (store_key (part log (p + 2) k) k) x ≡ laid_onto gone (when c (with_key (part log (p + 2) k)) s))
      one p x s l (whole, e) true q =
          let key = part log (p + 2) k in
          let long = length_part log (p + 2) k (omega (arith, removal_end w log p t q, keys, l)) in
          (omega (arith, length-append s.words key, next_row s.count k), rw (e, ← whole) (ap (λ (y : List ℕ). record { words = y; count = s.count + 1 }) (paste_onto gone s.words key)))
      one p x s l (whole, e) false q = (whole, e)

  pub stored_laid : (gone : List ℕ) → walked (end_of w log) (length log) (store_turn log t k) (record { words = gone; count = 0 }) ≡ laid_onto gone (removed_keys w log t k)
  stored_laid gone = (stored gone).1

  -- and are their front
  pub front_keys : (gone after : List ℕ) (n : ℕ) → ◌≡◌ {A = Keys} (record { words = after; count = n }) (laid_onto gone (removed_keys w log t k)) → ◌≡◌ {A = Keys} (record { words = take (n * k) after; count = n }) (removed_keys w log t k)
  front_keys gone after n e =
      let s = removed_keys w log t k in
      ap (λ (x : Keys). record { words = take (x.count * k) x.words; count = x.count }) e
      ∙ ap (λ (x : List ℕ). record { words = x; count = s.count }) (take_at s.words (drop (length s.words) gone) (s.count * k) (stored gone).0)

  -- a removal has two words besides its key, and other records have two at least
  pub store_fits : (p : ℕ) (s : Keys) → s.count * k + 2 * s.count ≤ p → (store_turn log t k p s).count * k + 2 * (store_turn log t k p s).count ≤ end_of w log p
  store_fits p s h = by (is_removal log t p) refl
    where
      by : (c : Bool) → is_removal log t p ≡ c → (when c (store_key (part log (p + 2) k) k) s).count * k + 2 * (when c (store_key (part log (p + 2) k) k) s).count ≤ end_of w log p
      by true q = omega (arith, removal_end w log p t q, keys, next_row s.count k)
      by false q = omega (arith, end_after w log p)

-- ## None of them

pub or_right_false : (b removes : Bool) → b || removes ≡ false → removes ≡ false
or_right_false true removes e = absurd (let z : ◌≡◌ {A = ℕ} 0 1 = cc in omega arith)
or_right_false false removes e = e

-- where no record is a removal, no key is gathered
pub none_gathered : (w log : List ℕ) (t k : ℕ) → any_removal w log ≡ false → record { words = []; count = 0 } ≡ removed_keys w log t k
unfolding any_removal removed_keys
none_gathered w log t k = walked_both (end_of w log) (length log) (removal_turn log) (gather_turn log t k) (λ b s. b ≡ false → record { words = []; count = 0 } ≡ s) (λ p b s l h. one b (eqb (get_or log p 0) 1) (eqb (get_or log (p + 1) 0) t) (with_key (part log (p + 2) k)) s h) false (record { words = []; count = 0 }) (λ _. refl)
  where
    one : (b r here : Bool) (f : Keys → Keys) (s : Keys) → (b ≡ false → record { words = []; count = 0 } ≡ s) → b || r ≡ false → record { words = []; count = 0 } ≡ when (here && r) f s
    one true r here f s h e = absurd (let z : ◌≡◌ {A = ℕ} 0 1 = cc in omega arith)
    one false true here f s h e = absurd (let z : ◌≡◌ {A = ℕ} 0 1 = cc in omega arith)
    one false false true f s h e = h refl
    one false false false f s h e = h refl

-- ## Room for keys

-- in words that are not too many, as those of the array that a commit lends, both say the same
pub room_of : {width count n : ℕ} → KeyRoom width count n → n ≤ 16384 → Room width count n
room_of r h = record { fits = r.fits; few = h }

pub key_room_of : {width count n : ℕ} → Room width count n → KeyRoom width count n
key_room_of r = record { fits = r.fits; few = omega (arith, r.fits, r.few) }
