-- One walk over a body, word by word: refusals 3, 6 and 4.
use Rattle.std.specs.Prelude.{ℕ, zero, suc, ◌+◌, ◌*◌, Bool, true, false, ◌&&◌, cond, List, [], ◌∷◌, eqb, ltb, leb, length, get_or}
use Rattle.model.specs.Basics.{iter}
use Rattle.model.specs.Book.Syntax.{stale}
use Rattle.model.specs.Book.Layout.{Field, table, counter, function, dst, column, divider, entry, entries, writes, forms, form_of}
use Rattle.model.specs.Machine.Functions.{function_count}

-- what a word draws
pub data Draw : Type 0 where
  fine three six four : Draw

-- bad: 3. good: the next word; the first words that drew 6 and 4, where 0 is none, since no body has word 0 of the book
pub data Scan : Type 0 where
  bad : Scan
  good : (at six four : ℕ) → Scan

-- a walk ends where it is bad
infixl 20 ◌▹◌
abbrev pub ◌▹◌ : Scan → (Scan → Scan) → Scan
bad ▹ f = bad
good at p q ▹ f = f (good at p q)

-- ## A word's test

abbrev pub any_word : ℕ → Draw
any_word x = fine

abbrev pub below : ℕ → ℕ → Draw
below n x = cond (ltb x n) fine six

abbrev pub up_to : ℕ → ℕ → Draw
up_to n x = cond (leb x n) fine three

abbrev pub clean : ℕ → Draw
clean x = cond (eqb x stale) four fine

abbrev pub opcode : ℕ → Draw
opcode x = cond (ltb 0 x && leb x (length forms)) fine three

-- the tags from a to b are allowed
abbrev pub tag : ℕ → ℕ → ℕ → Draw
tag a b x = cond (leb a x && leb x b) fine three

-- ## The walk

abbrev pub earliest : ℕ → ℕ → ℕ
earliest zero at = at
earliest (suc p) at = suc p

abbrev pub mark : Draw → ℕ → ℕ → ℕ → Scan
mark fine at p q = good (at + 1) p q
mark three at p q = bad
mark six at p q = good (at + 1) (earliest p at) q
mark four at p q = good (at + 1) p (earliest q at)

abbrev pub require : Bool → Scan → Scan
require true s = s
require false s = bad

-- how many of each there are
pub record Sizes : Type 0 where
  pub tables : ℕ
  pub counters : ℕ
  pub rules : ℕ

-- by tag: the number of a variable, a constant, the number of a counter, a current value
abbrev pub tagged : Sizes → ℕ → ℕ → Draw
tagged z t = get_or (below 32 ∷ clean ∷ below z.counters ∷ any_word ∷ []) t any_word

-- the word that a walk stands at
abbrev pub peek : List ℕ → Scan → ℕ
peek w bad = 0
peek w (good at p q) = get_or w at 0

-- the body's end is `end`
module _ (end : ℕ) where
  -- past a word of the body, which draws d
  unfoldable pub step : Draw → Scan → Scan
  step d bad = bad
  step d (good at p q) = require (ltb at end) (mark d at p q)

  unfoldable pub finish : Scan → Scan
  finish bad = bad
  finish (good at p q) = require (eqb at end) (good at p q)

  -- just n more words
  unfoldable pub left : ℕ → Scan → Scan
  left n bad = bad
  left n (good at p q) = require (eqb (at + n) end) (good at p q)

  module _ (w : List ℕ) where
    abbrev pub word : (ℕ → Draw) → Scan → Scan
    word test s = step (test (peek w s)) s

    -- a count, `most` at the highest, and as many of one kind
    abbrev pub list : ℕ → (Scan → Scan) → Scan → Scan
    list most one s = word (up_to most) s ▹ iter (λ _. one) (peek w s)

    -- n clean words, and the body ends
    abbrev pub block : ℕ → Scan → Scan
    block n s = left n s ▹ iter (λ _. word clean) n

    module _ (z : Sizes) where
      -- an entry or write value whose tag is one from a to b
      unfoldable pub pair : ℕ → ℕ → Scan → Scan
      pair a b s = word (tag a b) s ▹ word (tagged z (peek w s))

      unfoldable pub field : Field → Scan → Scan
      field table = word (below z.tables)
      field counter = word (below z.counters)
      field function = word (below function_count)
      field dst = word (below 32)
      field column = word any_word
      field divider = word any_word
      field entry = pair 0 1
      field entries = list 16 (pair 0 1)
      field writes = list 16 (pair 0 3)

      unfoldable pub walk : List Field → Scan → Scan
      walk [] s = s
      walk (f ∷ fs) s = walk fs (field f s)

      unfoldable pub instr : Scan → Scan
      instr s = word opcode s ▹ walk (form_of (peek w s)).fields

      -- ## The bodies; each begins at the word `at`

      -- how many columns have keys and how many values, not 0 in all; the merge rule; how many rows; the rows
      unfoldable pub scan_table : ℕ → Scan
      scan_table at =
          good at 0 0 ▹ word (up_to 8) ▹ word (up_to 8) ▹ require (ltb 0 (get_or w at 0 + get_or w (at + 1) 0))
          ▹ word (below 4) ▹ word any_word ▹ block (get_or w (at + 3) 0 * (get_or w at 0 + get_or w (at + 1) 0))

      -- its next number
      unfoldable pub scan_counter : ℕ → Scan
      scan_counter at = good at 0 0 ▹ word clean ▹ finish

      -- starting variables, instruction count, instructions
      unfoldable pub scan_rule : ℕ → Scan
      scan_rule at = good at 0 0 ▹ word (up_to 32) ▹ list 64 instr ▹ finish

      -- the rule, how many lanes and variables there are, and a column for each variable
      unfoldable pub scan_batch : ℕ → Scan
      scan_batch at = good at 0 0 ▹ word (below z.rules) ▹ word (up_to 256) ▹ word (up_to 32) ▹ block (get_or w (at + 2) 0 * get_or w (at + 1) 0)

      -- the table, the words of a key, and write values, which are constants or counters; a count comes before each list
      unfoldable pub scan_prediction : ℕ → Scan
      scan_prediction at = good at 0 0 ▹ field table ▹ list 16 (word clean) ▹ list 16 (pair 1 2) ▹ finish

      abbrev no_body : ℕ → Scan
      no_body at = bad

      -- by kind
      unfoldable pub scan : ℕ → ℕ → Scan
      scan kind = get_or (no_body ∷ scan_table ∷ scan_counter ∷ scan_rule ∷ scan_batch ∷ scan_prediction ∷ []) kind no_body
