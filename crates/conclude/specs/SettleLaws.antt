-- The commit and the answer in the code, by what each of them left.
use Rattle.std.specs.Prelude.{ℕ, ◌≤◌, ◌≡◌, Bool, true, false, cond, List, length, take, Option, Some, None, Result, Err}
use Rattle.std.proofs.Common.{refl, sym, ◌∙◌, subst, arith, length-take, ltb-false}
use Rattle.std.proofs.Math.Path.{ap}
use Rattle.std.proofs.Math.Seq.{take-take}
use Rattle.model.specs.Book.Contents.{table_count}
use Rattle.model.specs.Answer.{row_words}
use Rattle.model.specs.Laws.Book.{Readable}
use Rattle.commit.specs.Commit.{Left, committed_rows}
use Rattle.execution.specs.declared.Stop.{Stop}
use Rattle.refusal.specs.declared.Refusal.{Refusal}
use Rattle.refusal.specs.declared.Refusal.TheVariants.{RowsFull}
use Rattle.answer.specs.Layout.{Results, results_of, left_by, assembled, assembled_length, Enough}
use Rattle.run.specs.Progress.{Progress, Ran}
use Rattle.simulation.specs.Ends as ends
use Rattle.conclude.specs.End.{Settles, committed_to, settled, by_stop, concluded}

module _ (w : List ℕ) (p : Progress) (log rows answer : List ℕ) (n : ℕ) (n_is : n ≡ table_count w) (c : Left) (e : c ≡ committed_rows w n (take p.state.used log) rows) where
  is_left : c ≡ committed_rows w (table_count w) (take p.state.used log) rows
  is_left = e ∙ ap (λ (k : ℕ). committed_rows w k (take p.state.used log) rows) n_is

  committed_settled : committed_to w p log answer c ≡ settled w p log rows answer
  unfolding settled
  committed_settled = ap (committed_to w p log answer) is_left

  abbrev R : Results
  R = left_by w c.words log p.lengths p.at answer c.result p.state

  -- a row had no room
  pub settled_over : c.result.over ≡ true → record { outcome = Err RowsFull; rows = c.words; answer = answer } ≡ settled w p log rows answer
  settled_over o = sym (over_as true o) ∙ committed_settled
    where
      over_as : (b : Bool) → c.result.over ≡ b → committed_to w p log answer c ≡ cond b (record { outcome = Err RowsFull; rows = c.words; answer = answer }) (record { outcome = assembled_length R (length answer); rows = c.words; answer = assembled R answer })
      over_as b e = ap (λ (b : Bool). cond b (record { outcome = Err RowsFull; rows = c.words; answer = answer }) (record { outcome = assembled_length R (length answer); rows = c.words; answer = assembled R answer })) e

  -- all rows had room
  module _ (o : c.result.over ≡ false) where
    pub settled_answer : (x : Result ℕ Refusal) (b : List ℕ) → x ≡ assembled_length R (length answer) → b ≡ assembled R answer → record { outcome = x; rows = c.words; answer = b } ≡ settled w p log rows answer
    settled_answer x b i k =
        ap (λ (r : Result ℕ Refusal). record { outcome = r; rows = c.words; answer = b }) i
        ∙ ap (λ (b : List ℕ). record { outcome = assembled_length R (length answer); rows = c.words; answer = b }) k
        ∙ sym (ap (λ (b : Bool). cond b (record { outcome = Err RowsFull; rows = c.words; answer = answer }) (record { outcome = assembled_length R (length answer); rows = c.words; answer = assembled R answer })) o)
        ∙ committed_settled

    pub enough_here : Readable w → length rows ≤ 16384 → length c.words ≡ length rows → Settles w p log answer → Enough R p.at answer
    enough_here h few same s =
        let a : Ran = record { progress = p; bindings = s.bindings; log = s.words; index = s.index; answer = answer } in
        let left_words : c ≡ committed_rows w (table_count w) (take p.state.used s.words) rows = is_left ∙ ap (λ (l : List ℕ). committed_rows w (table_count w) l rows) (sym s.used) in
        let room : row_words (ends.ts w h (length s.words) s.short s.state a s.is rows few) ≤ length rows = ltb-false (length rows) (row_words (ends.ts w h (length s.words) s.short s.state a s.is rows few)) (sym (ends.over_exactly w h (length s.words) s.short s.state a s.is rows few) ∙ ap (λ (d : Left). d.result.over) (sym left_words) ∙ o) in
        subst (λ (l : List ℕ). Enough (results_of w c.result.counts c.words p.state.counters.next p.lengths (take p.at answer) p.state.changed l) p.at answer) s.used
        (subst (λ (d : Left). Enough (left_by w d.words s.words p.lengths p.at answer d.result p.state) p.at answer) (sym left_words)
        (ends.is_enough w h (length s.words) s.short s.state a s.is rows few room (omega (arith, ap (λ (d : Left). length d.words) left_words)) (omega (arith, length-take p.state.used s.words, s.short)) s.small))

-- a log whose words are all used is short
pub short_log : (w : List ℕ) (p : Progress) (log answer : List ℕ) → p.state.used ≡ length log → Settles w p log answer → length log ≤ 16384
short_log w p log answer e s = omega (arith, e, ap length s.used, length-take p.state.used s.words, length-take p.state.used log, s.short)

-- ## By why the run ended

module _ (w : List ℕ) (p : Progress) (log rows answer : List ℕ) where
  pub concluded_by : (o : Option Stop) → p.state.stop ≡ o → by_stop o w p log rows answer ≡ concluded w p log rows answer
  unfolding concluded
  concluded_by o e = ap (λ (o : Option Stop). by_stop o w p log rows answer) (sym e)

  -- it reads no words of the log but those that are used
  pub concluded_used : concluded w p (take p.state.used log) rows answer ≡ concluded w p log rows answer
  unfolding concluded settled
  concluded_used = by p.state.stop
    where
      by : (o : Option Stop) → by_stop o w p (take p.state.used log) rows answer ≡ by_stop o w p log rows answer
      by None = rw (take-take p.state.used p.state.used log (omega arith)) refl
      by (Some s) = refl
