-- The entries of the answer by number: which is which, and how many words the bodies have.
use Rattle.std.specs.Prelude.{ℕ, zero, suc, ◌+◌, ◌*◌, ◌^◌, ◌<◌, ◌≤◌, ◌≡◌, refl, List, length, get_or}
use Rattle.std.proofs.Common.{ap, ◌∙◌, arith}
use Rattle.std.proofs.Math.Nat.{add-sub_cancel_left}
use borrow.Author.Tests.{lt-ltb, le-ltb}
use Rattle.model.specs.Book.Contents.{kind_of}
use Rattle.contents.specs.declared.Contents.{Contents}
use Rattle.contents.specs.Contents.{ContentsOf}
use Rattle.answer.specs.Sums.{sum, sum_suc, sum_agree, sum_le, sum_fits, sum_split, sum_const, sum_more}
use Rattle.step_bodies.specs.Runs.{runs, runs_none, length_suc}
use Rattle.answer.specs.Layout.{Entry, step_kind, rows_length, contents_of, first_of_steps, body_count, entry_at, entry_words, entries_words, Small}

-- the contents that the code answers
pub contents_is : {w : List ℕ} {c : Contents} → ContentsOf w c → c ≡ contents_of w
contents_is h = rw (← h.tables, ← h.counters, ← h.rules, ← h.steps) refl

module _ (w counts lengths : List ℕ) (used : ℕ) (z : Contents) where
  abbrev e : ℕ → Entry
  e i = entry_at w counts lengths used z i

  abbrev len : ℕ → ℕ
  len i = (e i).length

  pub at_table : (t : ℕ) → t < z.tables → e t ≡ record { kind = 1; length = 4 + rows_length w counts t }
  unfolding entry_at
  at_table t h = rw (lt-ltb t z.tables h)

  pub at_counter : (c : ℕ) → c < z.counters → e (z.tables + c) ≡ record { kind = 2; length = 1 }
  unfolding entry_at
  at_counter c h = rw (le-ltb (z.tables + c) z.tables (omega arith), lt-ltb (z.tables + c) (z.tables + z.counters) (omega arith))

  pub at_step : (k : ℕ) → k < z.steps → e (z.tables + z.counters + k) ≡ record { kind = step_kind (kind_of w (first_of_steps z + k)); length = get_or lengths k 0 }
  unfolding entry_at
  at_step k h =
      let i = z.tables + z.counters + k in
      rw (le-ltb i z.tables (omega arith), le-ltb i (z.tables + z.counters) (omega arith), lt-ltb i (z.tables + z.counters + z.steps) (omega arith), add-sub_cancel_left (z.tables + z.counters) k)

  pub at_log : e (z.tables + z.counters + z.steps) ≡ record { kind = 8; length = 1 + used }
  unfolding entry_at
  at_log =
      let i = z.tables + z.counters + z.steps in
      rw (le-ltb i z.tables (omega arith), le-ltb i (z.tables + z.counters) (omega arith), le-ltb i i (omega arith))

  -- ## How many words

  pub tables_sum : sum len z.tables ≡ z.tables * 4 + sum (rows_length w counts) z.tables
  tables_sum = sum_agree len (λ t. 4 + rows_length w counts t) z.tables (λ t h. ap (λ (x : Entry). x.length) (at_table t h)) ∙ sum_more 4 (rows_length w counts) z.tables

  pub counters_sum : sum len (z.tables + z.counters) ≡ sum len z.tables + z.counters
  counters_sum = sum_split len z.tables z.counters ∙ omega (arith, sum_agree (λ i. len (z.tables + i)) (λ _. 1) z.counters (λ c h. ap (λ (x : Entry). x.length) (at_counter c h)), sum_const 1 z.counters)

  pub steps_sum : sum len (z.tables + z.counters + z.steps) ≡ sum len (z.tables + z.counters) + sum (λ k. get_or lengths k 0) z.steps
  steps_sum = sum_split len (z.tables + z.counters) z.steps ∙ omega (arith, sum_agree (λ i. len (z.tables + z.counters + i)) (λ k. get_or lengths k 0) z.steps (λ k h. ap (λ (x : Entry). x.length) (at_step k h)))

  pub all_sum : sum len (body_count z) ≡ sum len (z.tables + z.counters + z.steps) + 1 + used
  all_sum =
      let n = z.tables + z.counters + z.steps in
      let s : body_count z ≡ suc n = omega arith in
      rw s (omega (arith, sum_suc len n, ap (λ (x : Entry). x.length) at_log))

  -- no place in the answer passes a word
  pub small_sum : Small w counts lengths used z → (n : ℕ) → n ≤ body_count z → sum len n < 2 ^ 31 + 65536
  small_sum s n h = omega (arith, sum_le len n (body_count z) h, all_sum, steps_sum, counters_sum, tables_sum, s.tables, s.counters, s.steps, s.rows, s.stepped, s.logged)

  pub small_entry : Small w counts lengths used z → (i : ℕ) → i < body_count z → sum len i + len i < 2 ^ 31 + 65536
  small_entry s i h = omega (arith, sum_fits len i (body_count z) h, small_sum s (body_count z) (omega arith))

  pub small_rows : Small w counts lengths used z → (t : ℕ) → t < z.tables → rows_length w counts t ≤ 16384
  small_rows s t h = omega (arith, sum_fits (rows_length w counts) t z.tables h, s.rows)

-- n entries have 3 * n words
pub length_entries : (f : ℕ → Entry) (p : ℕ → ℕ) (n : ℕ) → length (runs (λ i. entry_words (f i) (p i)) n) ≡ 3 * n
length_entries f p zero = ap length (runs_none (λ i. entry_words (f i) (p i)))
length_entries f p (suc n) = omega (arith, length_suc (λ i. entry_words (f i) (p i)) n, length_entries f p n)

pub length_entries_words : (w counts lengths : List ℕ) (used : ℕ) (z : Contents) (start n : ℕ) → length (entries_words w counts lengths used z start n) ≡ 3 * n
length_entries_words w counts lengths used z start n = length_entries (entry_at w counts lengths used z) (λ i. start + sum (λ i. (entry_at w counts lengths used z i).length) i) n
