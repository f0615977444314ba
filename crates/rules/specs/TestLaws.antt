-- Tests of lists that stand in the words, one element at a time.
use Prim.Native.Nat.{ℕ, zero, suc, ◌+◌, ◌*◌, ◌<◌, ◌≤◌}
use Rattle.std.specs.Prelude.{◌≡◌, Bool, true, false, ◌&&◌, map, List, [], ◌∷◌, ◌++◌, length, get_or}
use Rattle.std.proofs.Math.Path.{refl}
use Rattle.std.proofs.Common.{sym, ap, ◌∙◌, arith, add-zero, add-suc, suc-add}
use Rattle.std.specs.List.{list_all, range_with_len}
use Rattle.std.proofs.lemmas.List.Folds.{list_all-append, list_all-map}
use Rattle.std.proofs.lemmas.List.FromFn.{map-range_with_len_more}
use Rattle.std.proofs.Math.Bool.{and-true, and-false, and_assoc}
use Rattle.model.specs.Laws.Logic.{either, le_cases}
use Rattle.model.specs.Basics.{iter, all, tab}
use Rattle.model.specs.Laws.Lists.{length_tab}
use Rattle.model.specs.Book.Syntax.{QueryEntry, Var, Const, WriteVal, Entry, IncCounter, CurrentVal}
use Rattle.model.specs.Book.Decode as decode
use Rattle.model.specs.Check as check
use Rattle.model.specs.Book.Contents.{table_count}
use Rattle.model.specs.Laws.Book.{Readable, keys_of}
use Rattle.model.specs.Laws.Kinds.{table_read}
use Rattle.instr.specs.declared.Entries.{Entries}
use Rattle.instr.specs.Meaning.{entries_of, writes_of}
use Rattle.rules.specs.Rules.{current_fits}

-- ## A test of each element, as a loop makes it

abbrev pub each : (ℕ → Bool) → ℕ → Bool
each f n = iter (λ i b. b && f i) n true

-- the test of every number of a range
ranged : (f : ℕ → Bool) (n : ℕ) → list_all (λ b. b) (map f (range_with_len 0 n)) ≡ each f n
ranged f zero = refl
ranged f (suc n) =
    let e : suc n ≡ n + 1 = omega arith in
    ap (λ (m : ℕ). list_all (λ b. b) (map f (range_with_len 0 m))) e ∙ ap (list_all (λ b. b)) (map-range_with_len_more f 0 n n (omega arith)) ∙ rw (list_all-append, ranged f n, and-true)

pub range_each : (f : ℕ → Bool) (n : ℕ) → list_all f (range_with_len 0 n) ≡ each f n
range_each f n = sym (list_all-map (λ b. b) f (range_with_len 0 n)) ∙ ranged f n

module _ (f : ℕ → Bool) where
  pub each_yes : (n : ℕ) → ((k : ℕ) → k < n → f k ≡ true) → each f n ≡ true
  each_yes zero h = refl
  each_yes (suc n) h = rw (each_yes n (λ k l. h k (omega arith)), h n (omega arith))

  pub each_no : (n k : ℕ) → k < n → f k ≡ false → each f n ≡ false
  each_no zero k l e = absurd (omega arith)
  each_no (suc n) k l e = either (λ m. rw (each_no n k m e)) (λ q. rw (← q, e) (and-false (each f k))) (le_cases l)

each_agree : (f g : ℕ → Bool) (n : ℕ) → ((k : ℕ) → f k ≡ g k) → each f n ≡ each g n
each_agree f g zero h = refl
each_agree f g (suc n) h = rw (each_agree f g n h, h n)

module _ {A : Type 0} (f : A → Bool) where
  pub all_append : (xs ys : List A) → all f (xs ++ ys) ≡ all f xs && all f ys
  all_append [] ys = refl
  all_append (x ∷ xs) ys = rw (all_append xs ys) (sym (and_assoc (f x) (all f xs) (all f ys)))

  pub all_each : (g : ℕ → A) (n : ℕ) → all f (tab g n) ≡ each (λ k. f (g k)) n
  unfolding tab
  all_each g zero = refl
  all_each g (suc n) = all_append (tab g n) (g n ∷ []) ∙ rw (all_each g n, and-true)

-- ## Write values

entries_append : (xs ys : List WriteVal) → check.entries_of (xs ++ ys) ≡ check.entries_of xs ++ check.entries_of ys
entries_append [] ys = refl
entries_append (Entry e ∷ xs) ys = ap (λ (l : List QueryEntry). e ∷ l) (entries_append xs ys)
entries_append (IncCounter c ∷ xs) ys = entries_append xs ys
entries_append (CurrentVal x ∷ xs) ys = entries_append xs ys

module _ (f : QueryEntry → Bool) (w : List ℕ) where
  writes_each : (g : ℕ → WriteVal) (n : ℕ) → all f (check.entries_of (tab g n)) ≡ each (λ k. all f (check.entries_of (g k ∷ []))) n
  unfolding tab
  writes_each g zero = refl
  writes_each g (suc n) = rw (entries_append (tab g n) (g n ∷ []), all_append, writes_each g n)

  -- what is no variable passes, so a list of write values passes where it does as a list of entries
  module _ (const : (c : ℕ) → f (Const c) ≡ true) where
    one_write : (t x : ℕ) → all f (check.entries_of (decode.write_of t x ∷ [])) ≡ f (decode.entry_of t x)
    one_write zero x = and-true (f (Var x))
    one_write (suc zero) x = and-true (f (Const x))
    one_write (suc (suc zero)) x = sym (const x)
    one_write (suc (suc (suc t))) x = sym (const x)

    pub writes_as_entries : (l : Entries) → all f (check.entries_of (writes_of w l)) ≡ all f (entries_of w l)
    writes_as_entries l =
        writes_each (λ k. decode.write_at w (l.at + 2 * k)) l.count
        ∙ each_agree _ _ l.count (λ k. one_write (get_or w (l.at + 2 * k) 0) (get_or w (l.at + 2 * k + 1) 0))
        ∙ sym (all_each f (λ k. decode.entry_at w (l.at + 2 * k)) l.count)

-- ## Entries against a dst

pub against_all : (d : ℕ) (es : List QueryEntry) → all check.free? (check.against d es) ≡ all (λ e. check.free? (d, e)) es
against_all d [] = refl
against_all d (e ∷ es) = rw (against_all d es)

-- ## Current values

currents_append : (n : ℕ) (xs ys : List WriteVal) → check.currents_of n (xs ++ ys) ≡ check.currents_of n xs ++ check.currents_of (n + length xs) ys
currents_append n [] ys = rw add-zero
currents_append n (Entry e ∷ xs) ys = rw (add-suc n (length xs), ← suc-add n (length xs)) (currents_append (suc n) xs ys)
currents_append n (IncCounter c ∷ xs) ys = rw (add-suc n (length xs), ← suc-add n (length xs)) (currents_append (suc n) xs ys)
currents_append n (CurrentVal x ∷ xs) ys = rw (add-suc n (length xs), ← suc-add n (length xs)) (ap (λ (l : List (ℕ × ℕ)). (x, n) ∷ l) (currents_append (suc n) xs ys))

pub currents_each : (c : ℕ) (g : ℕ → WriteVal) (n : ℕ) → all check.below? (check.currents_of c (tab g n)) ≡ each (λ k. current_fits (c + k) (g k)) n
unfolding tab
currents_each c g zero = refl
currents_each c g (suc n) = rw (currents_append c (tab g n) (g n ∷ []), length_tab g n, all_append, currents_each c g n)

-- ## Lists in the words, tested by the number of each element

module _ (w : List ℕ) (l : Entries) where
  pub entries_all : (f : QueryEntry → Bool) → list_all (λ k. f (decode.entry_at w (l.at + 2 * k))) (range_with_len 0 l.count) ≡ all f (entries_of w l)
  entries_all f = range_each _ l.count ∙ sym (all_each f (λ k. decode.entry_at w (l.at + 2 * k)) l.count)

  pub currents_all : (n : ℕ) → list_all (λ k. current_fits (n + k) (decode.write_at w (l.at + 2 * k))) (range_with_len 0 l.count) ≡ all check.below? (check.currents_of n (writes_of w l))
  currents_all n = range_each _ l.count ∙ sym (currents_each n (λ k. decode.write_at w (l.at + 2 * k)) l.count)

  -- the element that fails, or none
  pub entries_no : (f : QueryEntry → Bool) (k : ℕ) → k < l.count → f (decode.entry_at w (l.at + 2 * k)) ≡ false → false ≡ all f (entries_of w l)
  entries_no f k h e = sym (all_each f (λ k. decode.entry_at w (l.at + 2 * k)) l.count ∙ each_no _ l.count k h e)

  pub entries_yes : (f : QueryEntry → Bool) → ((k : ℕ) → k < l.count → f (decode.entry_at w (l.at + 2 * k)) ≡ true) → true ≡ all f (entries_of w l)
  entries_yes f h = sym (all_each f (λ k. decode.entry_at w (l.at + 2 * k)) l.count ∙ each_yes _ l.count h)

  pub currents_no : (n k : ℕ) → k < l.count → current_fits (n + k) (decode.write_at w (l.at + 2 * k)) ≡ false → false ≡ all check.below? (check.currents_of n (writes_of w l))
  currents_no n k h e = sym (currents_each n (λ k. decode.write_at w (l.at + 2 * k)) l.count ∙ each_no _ l.count k h e)

  pub currents_yes : (n : ℕ) → ((k : ℕ) → k < l.count → current_fits (n + k) (decode.write_at w (l.at + 2 * k)) ≡ true) → true ≡ all check.below? (check.currents_of n (writes_of w l))
  currents_yes n h = sym (currents_each n (λ k. decode.write_at w (l.at + 2 * k)) l.count ∙ each_yes _ l.count h)

-- the key count of a table of the book
pub few_keys : (w : List ℕ) → Readable w → (t : ℕ) → t < table_count w → keys_of w t ≤ 8
few_keys w h t l = (table_read w h.contents h.bodies t l).1.keys

pub count_entries : (w : List ℕ) (l : Entries) → length (entries_of w l) ≡ l.count
count_entries w l = length_tab _ l.count

pub count_writes : (w : List ℕ) (l : Entries) → length (writes_of w l) ≡ l.count
count_writes w l = length_tab _ l.count
