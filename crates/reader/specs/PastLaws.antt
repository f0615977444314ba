-- A walk that has come past a word of a body stands past word 0 of the book, whatever the body. So does one that begins, by `after_contents`: no body of a book whose contents pass has word 0.
use Rattle.std.specs.Prelude.{ℕ, zero, suc, ◌<◌, Bool, true, false, List, [], ◌∷◌}
use Rattle.std.proofs.Common.{arith}
use Rattle.model.specs.Basics.{iter}
use Rattle.model.specs.Laws.Iter.{iter_keeps}
use Rattle.model.specs.Book.Layout.{Field, table, counter, function, dst, column, divider, entry, entries, writes, form_of}
use Rattle.model.specs.Machine.Functions.{function_count}
use Rattle.model.specs.Book.Contents.{kind_of, first_of, end_of}
use Rattle.model.specs.Book.Read.{walk as over, sizes}
use Rattle.model.specs.Book.Scan.{Draw, fine, three, six, four, Scan, bad, good, ◌▹◌, mark, require, Sizes, any_word, below, up_to, clean, opcode, tag, tagged, peek, step, finish, left, word, list, block, pair, field, walk, instr, scan_table, scan_counter, scan_rule, scan_batch, scan_prediction, scan}

-- a walk that goes on stands past word 0
abbrev pub Past : Scan → Type 0
Past bad = Unit {0}
Past (good at p q) = 0 < at

mark_past : (d : Draw) (at p q : ℕ) → Past (mark d at p q)
mark_past fine at p q = omega arith
mark_past three at p q = tt
mark_past six at p q = omega arith
mark_past four at p q = omega arith

require_past : (b : Bool) (s : Scan) → Past s → Past (require b s)
require_past true s h = h
require_past false s h = tt

-- a walk that goes on, or ends
then_past : (f : Scan → Scan) → ((s : Scan) → Past s → Past (f s)) → (s : Scan) → Past s → Past (s ▹ f)
then_past f k bad h = tt
then_past f k (good at p q) h = k (good at p q) h

-- a walk that goes past a word more, or ends
after_past : (f : Scan → Scan) → ((s : Scan) → Past (f s)) → (s : Scan) → Past (s ▹ f)
after_past f k bad = tt
after_past f k (good at p q) = k (good at p q)

pub iter_past : (one : Scan → Scan) → ((s : Scan) → Past s → Past (one s)) → (n : ℕ) (s : Scan) → Past s → Past (iter (λ _. one) n s)
iter_past one k n s h = iter_keeps Past (λ _. one) n s h (λ _ s _ h. k s h)

module _ (end : ℕ) where
  -- past a word, wherever the walk stood before
  pub step_past : (d : Draw) (s : Scan) → Past (step end d s)
  unfolding step
  step_past d bad = tt
  step_past d (good at p q) = require_past _ _ (mark_past d at p q)

  pub finish_past : (s : Scan) → Past s → Past (finish end s)
  unfolding finish
  finish_past bad h = tt
  finish_past (good at p q) h = require_past _ (good at p q) h

  pub left_past : (n : ℕ) (s : Scan) → Past s → Past (left end n s)
  unfolding left
  left_past n bad h = tt
  left_past n (good at p q) h = require_past _ (good at p q) h

  module _ (w : List ℕ) where
    pub word_past : (test : ℕ → Draw) (s : Scan) → Past (word end w test s)
    word_past test s = step_past (test (peek w s)) s

    pub list_past : (most : ℕ) (one : Scan → Scan) → ((s : Scan) → Past s → Past (one s)) → (s : Scan) → Past (list end w most one s)
    list_past most one k s = then_past _ (iter_past one k (peek w s)) (word end w (up_to most) s) (word_past (up_to most) s)

    pub block_past : (n : ℕ) (s : Scan) → Past s → Past (block end w n s)
    block_past n s h = then_past _ (iter_past (word end w clean) (λ s _. word_past clean s) n) _ (left_past n s h)

    module _ (z : Sizes) where
      pub pair_past : (a b : ℕ) (s : Scan) → Past (pair end w z a b s)
      unfolding pair
      pair_past a b s = after_past _ (word_past (tagged z (peek w s))) (word end w (tag a b) s)

      pub field_past : (f : Field) (s : Scan) → Past (field end w z f s)
      unfolding field
      field_past table = word_past (below z.tables)
      field_past counter = word_past (below z.counters)
      field_past function = word_past (below function_count)
      field_past dst = word_past (below 32)
      field_past column = word_past any_word
      field_past divider = word_past any_word
      field_past entry = pair_past 0 1
      field_past entries = list_past 16 (pair end w z 0 1) (λ t _. pair_past 0 1 t)
      field_past writes = list_past 16 (pair end w z 0 3) (λ t _. pair_past 0 3 t)

      pub walk_past : (fs : List Field) (s : Scan) → Past s → Past (walk end w z fs s)
      unfolding walk
      walk_past [] s h = h
      walk_past (f ∷ fs) s h = walk_past fs (field end w z f s) (field_past f s)

      pub instr_past : (s : Scan) → Past (instr end w z s)
      unfolding instr
      instr_past s = then_past _ (walk_past (form_of (peek w s)).fields) (word end w opcode s) (word_past opcode s)

      -- ## The bodies

      scan_table_past : (at : ℕ) → Past (scan_table end w z at)
      unfolding scan_table
      scan_table_past at = then_past _ (block_past _) _ (after_past _ (word_past any_word) _)

      scan_counter_past : (at : ℕ) → Past (scan_counter end w z at)
      unfolding scan_counter
      scan_counter_past at = then_past _ finish_past _ (after_past _ (word_past clean) (good at 0 0))

      scan_rule_past : (at : ℕ) → Past (scan_rule end w z at)
      unfolding scan_rule
      scan_rule_past at = then_past _ finish_past _ (after_past _ (list_past 64 (instr end w z) (λ t _. instr_past t)) (good at 0 0 ▹ word end w (up_to 32)))

      scan_batch_past : (at : ℕ) → Past (scan_batch end w z at)
      unfolding scan_batch
      scan_batch_past at = then_past _ (block_past _) _ (after_past _ (word_past (up_to 32)) _)

      scan_prediction_past : (at : ℕ) → Past (scan_prediction end w z at)
      unfolding scan_prediction
      scan_prediction_past at = then_past _ finish_past _ (after_past _ (list_past 16 (pair end w z 1 2) (λ t _. pair_past 1 2 t)) _)

      pub scan_past : (kind at : ℕ) → Past (scan end w z kind at)
      unfolding scan
      scan_past zero at = tt
      scan_past (suc zero) at = scan_table_past at
      scan_past (suc (suc zero)) at = scan_counter_past at
      scan_past (suc (suc (suc zero))) at = scan_rule_past at
      scan_past (suc (suc (suc (suc zero)))) at = scan_batch_past at
      scan_past (suc (suc (suc (suc (suc zero))))) at = scan_prediction_past at
      scan_past (suc (suc (suc (suc (suc (suc k)))))) at = tt

-- a walk that has come over a body of a book
pub over_past : (w : List ℕ) (i : ℕ) → Past (over w i)
over_past w i = scan_past (end_of w i) w (sizes w) (kind_of w i) (first_of w i)
