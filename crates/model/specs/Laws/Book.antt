-- A book whose bodies can be read: how many of each it has, and what a number names.
use Rattle.std.specs.Prelude.{ℕ, ◌+◌, ◌<◌, ◌≤◌, ◌≡◌, List, length, get_or, None}
use Rattle.std.proofs.Math.Path.{ap}
use Rattle.std.proofs.Common.{arith}
use Rattle.model.specs.Book.Syntax.{Table, width, table_at, rule_at}
use Rattle.model.specs.Book.Contents.{most, count, members, first_of, contents_refusal, table_count, counter_count, rule_count, step_count, first_rule, first_step}
use Rattle.model.specs.Book.Decode.{read_table, read_rule}
use Rattle.model.specs.Book.Read.{bodies_refusal, tables, rules}
use Rattle.model.specs.Outcome.{rule_first}
use Rattle.model.specs.Laws.Lists.{get_or_tab}
use Rattle.model.specs.Laws.Contents.{contents_ok, members_most, is_rule, is_step_lem}

-- it draws none of refusals 2 to 6
pub record Readable (w : List ℕ) : Type 0 where
  pub one : 0 < length w
  pub most : length w ≤ 16384
  pub contents : contents_refusal w ≡ None
  pub bodies : bodies_refusal w ≡ None

-- the key count of table t, and how many columns it has
abbrev pub keys_of : List ℕ → ℕ → ℕ
keys_of w t = get_or w (first_of w t) 0

abbrev pub width_of : List ℕ → ℕ → ℕ
width_of w t = get_or w (first_of w t) 0 + get_or w (first_of w t + 1) 0

module _ (w : List ℕ) (h : Readable w) where
  pub few_entries : count w ≤ 128
  few_entries = (contents_ok w h.contents).counted.most

  few : (g : ℕ) → members w g (count w) ≤ most g
  few g = members_most w (contents_ok w h.contents) g (count w) (omega arith)

  pub few_tables : table_count w ≤ 16
  few_tables = few 1

  pub few_counters : counter_count w ≤ 16
  few_counters = few 2

  pub few_rules : rule_count w ≤ 32
  few_rules = few 3

  pub few_steps : step_count w ≤ 64
  few_steps = few 4

  pub rule_entry : (r : ℕ) → r < rule_count w → first_rule w + r < 128
  rule_entry r l = omega (arith, (is_rule w (contents_ok w h.contents) r l).0, few_entries)

  pub step_entry : (k : ℕ) → k < step_count w → first_step w + k < 128
  step_entry k l = omega (arith, (is_step_lem w (contents_ok w h.contents) k l).0, few_entries)

-- ## What a number names

module _ (w : List ℕ) where
  pub table_is : (t : ℕ) → t < table_count w → table_at (tables w) t ≡ read_table w (first_of w t)
  unfolding tables
  table_is t l = get_or_tab (λ t. read_table w (first_of w t)) (table_count w) t _ l

  pub rule_is : (r : ℕ) → r < rule_count w → rule_at (rules w) r ≡ read_rule w (rule_first w r)
  unfolding rules
  rule_is r l = get_or_tab (λ r. read_rule w (rule_first w r)) (rule_count w) r _ l

  pub table_keys : (t : ℕ) → t < table_count w → (table_at (tables w) t).keys ≡ keys_of w t
  unfolding read_table
  table_keys t l = ap (λ (x : Table). x.keys) (table_is t l)

  pub table_width : (t : ℕ) → t < table_count w → width (table_at (tables w) t) ≡ width_of w t
  unfolding read_table
  table_width t l = ap width (table_is t l)
