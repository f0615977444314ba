-- The answer put together in the words lent for it.
use Rattle.std.specs.Prelude.{ℕ, zero, suc, ◌+◌, ◌-◌, ◌*◌, ◌<◌, ◌≤◌, ◌≡◌, refl, List, ◌∷◌, ◌++◌, length, take, drop, replicate, set}
use Rattle.std.proofs.Common.{sym, ap, ◌∙◌, append_assoc, arith, length-append, length-drop, take_at, drop_at, drop-drop, length-take-le}
use Rattle.std.proofs.lemmas.List.Edits.{sets, sets-eq}
use Rattle.std.proofs.Math.Seq.{length-sets, drop-append-add}
use Rattle.model.specs.Book.Contents.{table_count, counter_count}
use Rattle.model.specs.Answer.{lay_out, flag}
use Rattle.model.specs.Laws.Bodies.{length_part}
use Rattle.model.specs.Laws.Contents.{contents_ok, all_entries}
use Rattle.model.specs.Laws.Book.{Readable, few_entries, few_tables, few_counters, few_steps}
use Rattle.contents.specs.declared.Contents.{Contents}
use Rattle.answer.specs.Sums.{sum, sum_none, sum_suc, sum_agree, sum_fits}
use Rattle.step_bodies.specs.Runs.{runs, runs_none, length_suc, sets_append}
use Rattle.answer.specs.Layout.{Entry, rows_length, table_words, Results, bodies, contents_of, body_count, entry_at, entry_words, entries_words, tables_words, Small, entry, whole_length, answered, Enough}
use Rattle.answer.specs.LayoutLaws.{at_table, counters_sum, steps_sum, all_sum, length_entries}
use Rattle.answer.specs.BodyLaws.{Fits, words_are, layout_is}

-- ## Stores into a list

module _ (a F L : List ℕ) (S k : ℕ) (first : length F ≡ S) (room : S + k + length L ≤ length a) where
  abbrev b : List ℕ
  b = sets a S (take k a)

  abbrev D : List ℕ
  D = drop (S + k) a

  length_moved : length (take k a) ≡ k
  length_moved = length-take-le k a (omega arith)

  b_is : b ≡ take S a ++ take k a ++ D
  b_is = sets-eq (take k a) a S (omega (arith, length_moved)) ∙ rw length_moved

  -- what stands past the front
  behind : drop S b ≡ take k a ++ D
  behind = ap (drop S) (b_is ∙ append_assoc (take S a) (take k a) D) ∙ drop_at (take S a) (take k a ++ D) S (length-take-le S a (omega arith))

  front_is : sets b 0 F ≡ F ++ take k a ++ D
  front_is =
      let e : 0 + length F ≡ S = omega arith in
      sets-eq F b 0 (omega (arith, length-sets a S (take k a)))
      ∙ ap (λ (i : ℕ). F ++ drop i b) e
      ∙ ap (λ (x : List ℕ). F ++ x) behind
      ∙ sym (append_assoc F (take k a) D)

  length_both : length (F ++ take k a) ≡ S + k
  length_both = omega (arith, length-append F (take k a), length_moved)

  pub stored : sets (sets b 0 F) (S + k) L ≡ F ++ take k a ++ L ++ drop (S + k + length L) a
  stored =
      let x = F ++ take k a in
      let e : S + k + length L ≡ length x + length L = omega (arith, length_both) in
      ap (λ (y : List ℕ). sets y (S + k) L) front_is
      ∙ sets-eq L (x ++ D) (S + k) (omega (arith, length-append x D, length_both, length-drop (S + k) a))
      ∙ rw (take_at x D (S + k) length_both)
      (ap (λ (i : ℕ). x ++ L ++ drop i (x ++ D)) e ∙ ap (λ (y : List ℕ). x ++ L ++ y) (drop-append-add x D (length L) ∙ drop-drop (length L) (S + k) a))

-- the parts of what stands before the step bodies, put one after the other
module _ (b E T C : List ℕ) (n p q : ℕ) (first : p ≡ 1 + length E) (second : q ≡ p + length T) where
  pub puts : sets (sets (sets (set b 0 n) 1 E) p T) q C ≡ sets b 0 (n ∷ E ++ T ++ C)
  puts =
      let f : p ≡ 0 + length (n ∷ E) = omega arith in
      let g : q ≡ 0 + length ((n ∷ E) ++ T) = omega (arith, length-append E T) in
      ap (λ (i : ℕ). sets (sets (sets b 0 (n ∷ E)) i T) q C) f
      ∙ ap (λ (x : List ℕ). sets x q C) (sets_append (n ∷ E) T b 0)
      ∙ ap (λ (i : ℕ). sets (sets b 0 ((n ∷ E) ++ T)) i C) g
      ∙ sets_append ((n ∷ E) ++ T) C b 0

to_the_left : (e t c k l : List ℕ) → e ++ (t ++ c ++ k ++ l) ≡ e ++ t ++ c ++ k ++ l
to_the_left e t c k l =
    sym (append_assoc e (t ++ c ++ k) l) ∙ ap (λ (x : List ℕ). x ++ l) (sym (append_assoc e (t ++ c) k) ∙ ap (λ (x : List ℕ). x ++ k) (sym (append_assoc e t c)))

pub drop_zeros : (m n : ℕ) → ◌≡◌ {A = List ℕ} (drop m (replicate n 0)) (replicate (n - m) 0)
drop_zeros zero n = let e : n - 0 ≡ n = omega arith in rw e
drop_zeros (suc m) zero = let e : 0 - suc m ≡ 0 = omega arith in rw e
drop_zeros (suc m) (suc n) = let e : suc n - suc m ≡ n - m = omega arith in rw e (drop_zeros m n)

length_runs : (f : ℕ → List ℕ) (n : ℕ) → length (runs f n) ≡ sum (λ i. length (f i)) n
length_runs f zero = ap length (runs_none f) ∙ sym (sum_none (λ i. length (f i)))
length_runs f (suc n) = omega (arith, length_suc f n, length_runs f n, sum_suc (λ i. length (f i)) n)

-- ## The answer's words, where k words of step bodies stand at the front of b

module _ (r : Results) (k : ℕ) (b : List ℕ) (enough : Enough r k b) where
  abbrev w : List ℕ
  w = r.book

  abbrev len : Contents → ℕ → ℕ
  len z i = (entry_at w r.counts r.lengths (length r.log) z i).length

  abbrev tables : ℕ → List ℕ
  tables n = runs (λ t. table_words w r.counts r.rows (sum (rows_length w r.counts) t) t) n

  -- what stands before the step bodies: how many bodies there are, their entries, the tables and the counters
  abbrev pub front_words : Contents → List ℕ
  front_words z = body_count z ∷ entries_words w r.counts r.lengths (length r.log) z (1 + 3 * body_count z) (body_count z) ++ tables_words w r.counts r.rows z.tables ++ take z.counters r.next

  -- the parts of the whole
  pub whole_parts : (z : Contents) → z ≡ contents_of w → 1 + 3 * body_count z + sum (len z) (z.tables + z.counters) + k + (1 + length r.log) ≡ whole_length r
  unfolding whole_length
  whole_parts z e = rw e (omega (arith, all_sum w r.counts r.lengths (length r.log) (contents_of w), steps_sum w r.counts r.lengths (length r.log) (contents_of w), enough.stepped))

  pub whole_sum : (z : Contents) → z ≡ contents_of w → 1 + 3 * body_count z + sum (len z) (body_count z) ≡ whole_length r
  unfolding whole_length
  whole_sum z e = rw e

  length_table : (t : ℕ) → t < table_count w → length (table_words w r.counts r.rows (sum (rows_length w r.counts) t) t) ≡ len (contents_of w) t
  length_table t h = omega (arith, ap (λ (x : Entry). x.length) (at_table w r.counts r.lengths (length r.log) (contents_of w) t h), length_part r.rows (sum (rows_length w r.counts) t) (rows_length w r.counts t) (omega (arith, sum_fits (rows_length w r.counts) t (table_count w) h, enough.rows)))

  -- tables and counters
  pub front_parts : (z : Contents) → z ≡ contents_of w → length (tables z.tables) + z.counters ≡ sum (len z) (z.tables + z.counters)
  front_parts z e = rw e (omega (arith, counters_sum w r.counts r.lengths (length r.log) (contents_of w), length_runs (λ t. table_words w r.counts r.rows (sum (rows_length w r.counts) t) t) (table_count w), sum_agree (λ t. length (table_words w r.counts r.rows (sum (rows_length w r.counts) t) t)) (len (contents_of w)) (table_count w) length_table))

  pub small : Readable w → (z : Contents) → z ≡ contents_of w → Small w r.counts r.lengths (length r.log) z
  small h z e = rw e (record {
    tables = few_tables w h;
    counters = few_counters w h;
    steps = few_steps w h;
    first = omega (arith, all_entries w (contents_ok w h.contents), few_entries w h);
    rows = omega (arith, enough.rows, enough.few);
    stepped = omega (arith, enough.stepped, enough.small);
    logged = enough.logged;
  })

  module _ (same : r.steps ≡ take k b) (counters : counter_count w ≤ length r.next) (room : whole_length r ≤ length b) where
    k_fits : k ≤ length b
    k_fits = omega (arith, whole_parts (contents_of w) refl)

    fits : Fits r
    fits = record { rows = enough.rows; counters = counters; steps = enough.stepped ∙ sym (ap length same ∙ length-take-le k b k_fits) }

    abbrev z : Contents
    z = contents_of w

    abbrev n : ℕ
    n = body_count z

    abbrev E : List ℕ
    E = runs (λ i. entry_words (entry r i) (1 + 3 * n + sum (len z) i)) n

    abbrev T : List ℕ
    T = tables (table_count w)

    abbrev C : List ℕ
    C = take (counter_count w) r.next

    abbrev L : List ℕ
    L = flag r.changed ∷ r.log

    abbrev S : ℕ
    S = 1 + 3 * n + sum (len z) (table_count w + counter_count w)

    length_E : length E ≡ 3 * n
    length_E = length_entries (entry r) (λ i. 1 + 3 * n + sum (len z) i) n

    zeros : drop (S + k + length L) b ≡ replicate (length b - whole_length r) 0
    zeros =
        let e : S + k + length L ≡ k + (whole_length r - k) = omega (arith, whole_parts z refl) in
        let f : length b - k - (whole_length r - k) ≡ length b - whole_length r = omega (arith, whole_parts z refl) in
        ap (λ (i : ℕ). drop i b) e ∙ sym (drop-drop (whole_length r - k) k b) ∙ ap (drop (whole_length r - k)) (enough.zeros k_fits) ∙ drop_zeros (whole_length r - k) (length b - k) ∙ ap (λ (i : ℕ). replicate i 0) f

    layout : lay_out (bodies r) ≡ (n ∷ E ++ T ++ C) ++ take k b ++ L
    layout = layout_is r fits ∙ rw (words_are r fits, same) (ap (λ (x : List ℕ). n ∷ x) (to_the_left E T C (take k b) L))

    length_front : length (front_words z) ≡ S
    length_front = omega (arith, length-append (E ++ T) C, length-append E T, length_E, front_parts z refl, length-take-le (counter_count w) r.next counters)

    filled : sets (sets (sets b S (take k b)) 0 (front_words z)) (S + k) L ≡ lay_out (bodies r) ++ replicate (length b - whole_length r) 0
    filled = stored b (front_words z) L S k length_front (omega (arith, whole_parts z refl)) ∙ rw (zeros, layout)

  -- in the code's terms
  module _ (z : Contents) (e : z ≡ contents_of w) (same : r.steps ≡ take k b) (counters : z.counters ≤ length r.next) (room : whole_length r ≤ length b) where
    pub front_length : length (front_words z) ≡ 1 + 3 * body_count z + sum (len z) (z.tables + z.counters)
    front_length = rw e (length_front same (rw e at counters) room)

    pub fill_is : sets (sets (sets b (1 + 3 * body_count z + sum (len z) (z.tables + z.counters)) (take k b)) 0 (front_words z)) (1 + 3 * body_count z + sum (len z) (z.tables + z.counters) + k) (flag r.changed ∷ r.log) ≡ answered r (length b)
    unfolding answered
    fill_is = rw e (filled same (rw e at counters) room)
