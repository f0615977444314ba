-- A book's words: its refusals 3, 6, 4 and 5 by body, what it reads to, and refusal 11.
use Rattle.std.specs.Prelude.{ℕ, zero, suc, ◌+◌, Bool, true, false, ◌&&◌, ◌||◌, not, List, [], eqb, ltb, length, get_or, take, Option, None, Some}
use Rattle.model.specs.Basics.{found, ◌else◌, first_some, least, tab}
use Rattle.model.specs.Book.Syntax.{Counter, Table, width, Rule, Step, batch, prediction, table_at, rule_at}
use Rattle.model.specs.Machine.Values.{find}
use Rattle.model.specs.Book.Words.{Refusal}
use Rattle.model.specs.Book.Contents.{count, kind_of, first_of, end_of, table_count, counter_count, rule_count, step_count, first_rule, first_step}
use Rattle.model.specs.Book.Scan.{Scan, bad, good, Sizes, scan}
use Rattle.model.specs.Book.Decode.{read_table, read_counter, read_rule, read_step, row_place}

-- what a walk over body i drew
abbrev pub drew3 : ℕ → Scan → Option Refusal
drew3 i bad = Some (record { number = 3; place = i })
drew3 i (good at p q) = None

abbrev pub drew_at : ℕ → ℕ → Option Refusal
drew_at n zero = None
drew_at n (suc p) = Some (record { number = n; place = suc p })

abbrev pub drew6 : Scan → Option Refusal
drew6 bad = None
drew6 (good at p q) = drew_at 6 p

abbrev pub drew4 : Scan → Option Refusal
drew4 bad = None
drew4 (good at p q) = drew_at 4 q

-- row i has the key of an earlier row
abbrev pub is_repeat : ℕ → List (List ℕ) → ℕ → Bool
is_repeat keys rows i = found (find keys (take i rows) (take keys (get_or rows i []))) (λ _. true) (λ _. false)

abbrev pub repeated : Table → Option ℕ
repeated t = least (is_repeat t.keys t.rows) (length t.rows)

-- what 11 asks: a batch gives the columns with which its rule starts, and without columns it names no lanes; a prediction's lists fit its table
abbrev pub step_fits : List Table → List Rule → Step → Bool
step_fits ts rs (batch r lanes columns) = eqb (length columns) (rule_at rs r).starts && (ltb 0 (length columns) || eqb lanes 0)
step_fits ts rs (prediction t key vs) = eqb (length key) (table_at ts t).keys && eqb (length key + length vs) (width (table_at ts t))

module _ (w : List ℕ) where
  abbrev pub sizes : Sizes
  sizes = record { tables = table_count w; counters = counter_count w; rules = rule_count w }

  -- 5, at the row
  abbrev pub rows_refusal : ℕ → Option Refusal
  rows_refusal at = found (repeated (read_table w at)) (λ i. Some (record { number = 5; place = row_place w at i })) (λ _. None)

  abbrev pub walk : ℕ → Scan
  walk i = scan (end_of w i) w sizes (kind_of w i) (first_of w i)

  -- each 3, 6, 4, 5
  unfoldable pub body_refusal : ℕ → Option Refusal
  body_refusal i =
      drew3 i (walk i) else λ _.
      drew6 (walk i) else λ _.
      drew4 (walk i) else λ _.
      elim (eqb (kind_of w i) 1) [ true ↦ rows_refusal (first_of w i) | false ↦ None ]

  unfoldable pub bodies_refusal : Option Refusal
  bodies_refusal = first_some body_refusal (count w)

  -- ## What is read

  unfoldable pub tables : List Table
  tables = tab (λ t. read_table w (first_of w t)) (table_count w)

  unfoldable pub counters : List Counter
  counters = tab (λ c. read_counter w (first_of w (table_count w + c))) (counter_count w)

  unfoldable pub rules : List Rule
  rules = tab (λ r. read_rule w (first_of w (first_rule w + r))) (rule_count w)

  abbrev pub step : ℕ → Step
  step k = read_step w (kind_of w (first_step w + k)) (first_of w (first_step w + k))

  unfoldable pub steps : List Step
  steps = tab step (step_count w)

  -- 11, at the body
  unfoldable pub steps_refusal : Option Refusal
  steps_refusal = found (least (λ k. not (step_fits tables rules (step k))) (step_count w)) (λ k. Some (record { number = 11; place = first_step w + k })) (λ _. None)
