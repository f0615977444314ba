-- Each kind of body in the model as a chain of calls.
use Rattle.std.specs.Prelude.{ℕ, ◌+◌, ◌*◌, ◌<◌, ◌≡◌, List}
use Rattle.std.proofs.Math.Path.{refl, ap}
use Rattle.std.proofs.Common.{arith, mul-le-mul, lt-ltb}
use Rattle.std.proofs.Math.Bool.{true}
use Rattle.std.proofs.Math.ListN.{get_or}
use Rattle.model.specs.Basics.{iter}
use Rattle.model.specs.Book.Scan.{Scan, bad, good, ◌▹◌, any_word, below, up_to, clean, require, Sizes, finish, left, word, list, block, pair, field, instr, scan_table, scan_counter, scan_rule, scan_batch, scan_prediction}
use Rattle.reader.specs.ScanLaws.{word_bad}
use Rattle.reader.proofs.Walks.{then_is, then_on, iter_bad, list_bad}

module _ (end : ℕ) where
  finish_bad : finish end bad ≡ bad
  unfolding finish
  finish_bad = refl

module _ (end : ℕ) (w : List ℕ) where
  block_bad : (n : ℕ) → block end w n bad ≡ bad
  unfolding left
  block_bad n = refl

  pub block_is : (n : ℕ) (s : Scan) → block end w n s ≡ iter (λ _. word end w clean) n (left end n s)
  block_is n s = then_is (iter (λ _. word end w clean) n) (iter_bad (word end w clean) (word_bad end w clean) n) (left end n s)

  pub block_stops : (n : ℕ) (s : Scan) → left end n s ≡ bad → block end w n s ≡ bad
  block_stops n s e = ap (λ (t : Scan). t ▹ iter (λ _. word end w clean) n) e

  module _ (z : Sizes) (at : ℕ) where
    pub counter_is : scan_counter end w z at ≡ finish end (word end w clean (good at 0 0))
    unfolding scan_counter
    counter_is = then_is (finish end) (finish_bad end) (word end w clean (good at 0 0))

    pub rule_is : scan_rule end w z at ≡ finish end (list end w 64 (instr end w z) (word end w (up_to 32) (good at 0 0)))
    unfolding scan_rule
    rule_is = then_on (finish end) (finish_bad end) _ _ (then_is (list end w 64 (instr end w z)) (list_bad end w 64 (instr end w z)) (word end w (up_to 32) (good at 0 0)))

    pub batch_is : scan_batch end w z at ≡ block end w (get_or w (at + 2) 0 * get_or w (at + 1) 0) (word end w (up_to 32) (word end w (up_to 256) (word end w (below z.rules) (good at 0 0))))
    unfolding scan_batch
    batch_is =
        then_on (block end w (get_or w (at + 2) 0 * get_or w (at + 1) 0)) (block_bad (get_or w (at + 2) 0 * get_or w (at + 1) 0)) _ _
        (then_on (word end w (up_to 32)) (word_bad end w (up_to 32)) _ _
        (then_is (word end w (up_to 256)) (word_bad end w (up_to 256)) (word end w (below z.rules) (good at 0 0))))

    pub prediction_is : scan_prediction end w z at ≡ finish end (list end w 16 (pair end w z 1 2) (list end w 16 (word end w clean) (word end w (below z.tables) (good at 0 0))))
    unfolding scan_prediction field
    prediction_is =
        then_on (finish end) (finish_bad end) _ _
        (then_on (list end w 16 (pair end w z 1 2)) (list_bad end w 16 (pair end w z 1 2)) _ _
        (then_is (list end w 16 (word end w clean)) (list_bad end w 16 (word end w clean)) (word end w (below z.tables) (good at 0 0))))

    -- ## A table

    pub table_is : 0 < get_or w at 0 + get_or w (at + 1) 0
        → scan_table end w z at ≡ block end w (get_or w (at + 3) 0 * (get_or w at 0 + get_or w (at + 1) 0)) (word end w any_word (word end w (below 4) (word end w (up_to 8) (word end w (up_to 8) (good at 0 0)))))
    unfolding scan_table
    table_is h =
        rw (lt-ltb 0 (get_or w at 0 + get_or w (at + 1) 0) h)
        (then_on (block end w (get_or w (at + 3) 0 * (get_or w at 0 + get_or w (at + 1) 0))) (block_bad (get_or w (at + 3) 0 * (get_or w at 0 + get_or w (at + 1) 0))) _ _
        (then_on (word end w any_word) (word_bad end w any_word) _ _
        (then_on (word end w (below 4)) (word_bad end w (below 4)) _ _
        (then_on (require true) refl _ _ (then_is (word end w (up_to 8)) (word_bad end w (up_to 8)) (word end w (up_to 8) (good at 0 0)))))))

-- ## Sums of words

pub words_fit : (a b : ℕ) → a < 4294967296 → b < 4294967296 → a * b < 18446744073709551616
words_fit a b h k = omega (arith, mul-le-mul {n₁ = a} {m₁ = b} {n₂ = 4294967295} {m₂ = 4294967295} (omega arith) (omega arith))
