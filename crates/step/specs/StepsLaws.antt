-- What is known of the step of entry i of a book that can be read.
use Rattle.std.specs.Prelude.{ℕ, zero, suc, ◌+◌, ◌*◌, ◌<◌, ◌≤◌, ◌≡◌, refl, List, length, get_or, Option}
use Rattle.std.proofs.Common.{sym, subst, arith}
use Rattle.model.specs.Book.Contents.{first_of, end_of, kind_of, first_step, table_count}
use Rattle.model.specs.Book.Read.{sizes}
use Rattle.model.specs.Laws.Book.{Readable, step_entry}
use Rattle.model.specs.Laws.Contents.{Inside}
use Rattle.model.specs.Laws.Scan.{BatchWords, PredictionWords}
use Rattle.model.specs.Laws.Kinds.{ok, step_inside, batch_read, prediction_read}
use Rattle.hash_index.specs.Book.{BookIndex}
use Rattle.predicted_index.specs.Row.{Searchable}
use Rattle.instr.specs.Stands.{Short}
use Rattle.action.specs.ActLaws.{searchable}
use Rattle.step.specs.Steps.{IsStep, Asks, lane_count, row_asked}

pub lane_count_more : (v n : ℕ) → (v ≡ 0 → ⊥) → n ≡ lane_count v n
lane_count_more zero n h = absurd (h refl)
lane_count_more (suc v) n h = refl

pub lane_count_most : (v n : ℕ) → n ≤ 256 → lane_count v n ≤ 256
lane_count_most zero n h = omega arith
lane_count_most (suc v) n h = h

module _ {w : List ℕ} (h : Readable w) {i : ℕ} (s : IsStep w i) where
  -- the first word of its body
  abbrev at : ℕ
  at = first_of w i

  pub entry_small : i < 128
  entry_small = omega (arith, s.entry, step_entry w h s.number s.below)

  pub body_inside : Inside w (ok w h.contents h.bodies) i
  body_inside = subst (Inside w (ok w h.contents h.bodies)) (sym s.entry) (step_inside w h.contents h.bodies s.number s.below)

  pub body_small : at ≤ 16384
  body_small = omega (arith, body_inside.order, body_inside.within, h.most)

  kind_there : (n : ℕ) → kind_of w i ≡ n → kind_of w (first_step w + s.number) ≡ n
  kind_there n k = subst (λ (i : ℕ). kind_of w i ≡ n) s.entry k

  module _ (k : kind_of w i ≡ 4) where
    pub batch_facts : BatchWords (sizes w) w (end_of w i) at
    batch_facts = subst (λ (i : ℕ). BatchWords (sizes w) w (end_of w i) (first_of w i)) (sym s.entry) (batch_read w h.contents h.bodies s.number s.below (kind_there 4 k))

    pub columns_within : at + 3 + get_or w (at + 2) 0 * get_or w (at + 1) 0 ≤ length w
    columns_within = omega (arith, batch_facts.fills, body_inside.within)

  module _ (k : kind_of w i ≡ 5) where
    pub prediction_facts : PredictionWords (sizes w) w (end_of w i) at
    prediction_facts = subst (λ (i : ℕ). PredictionWords (sizes w) w (end_of w i) (first_of w i)) (sym s.entry) (prediction_read w h.contents h.bodies s.number s.below (kind_there 5 k))

    pub writes_within : at + 2 + get_or w (at + 1) 0 + 1 + 2 * get_or w (at + 2 + get_or w (at + 1) 0) 0 ≤ length w
    writes_within = omega (arith, prediction_facts.fills, body_inside.within)

    pub table_here : {chains : Option (List ℕ)} → BookIndex w (table_count w) chains → Searchable w chains (row_asked w at).of
    table_here {chains} b = searchable w chains h b (record { 0 = get_or w at 0 }) prediction_facts.table

    pub writes_short : Short (row_asked w at).vals
    writes_short = (omega (arith, writes_within, h.most), prediction_facts.vals)

    -- so it is a prediction that may be asked
    pub asks_here : Asks w at
    asks_here = record { near = body_small; table = prediction_facts.table; key = prediction_facts.keys; vals = writes_short }

-- the table of such a prediction can be searched
pub asked_table : {w : List ℕ} → Readable w → {at : ℕ} → Asks w at → {chains : Option (List ℕ)} → BookIndex w (table_count w) chains → Searchable w chains (row_asked w at).of
asked_table {w} h {at} a {chains} b = searchable w chains h b (record { 0 = get_or w at 0 }) a.table
