-- The lines that program `dispatch` prints.
use Rattle.std.specs.Prelude.{ℕ, suc, List, [], ◌∷◌, ◌++◌, reverse, eqb, length, get_or}
use mathlib.Core.Bool.{Bool, false}
use Rattle.model.specs.Basics.{found, how_many}
use Rattle.model.specs.Book.Syntax.{Counter, next_of, Table}
use Rattle.model.specs.Machine.State.{Record, Answer, survivors, predicted}
use Rattle.model.specs.Answer.{flag}
use Rattle.model.specs.Outcome.{Lent, left, committed, refusal}

pub data Line : Type 0 where
  run : (step survivors : ℕ) → Line
  row : (step : ℕ) (words : List ℕ) → Line
  ins del : (table : ℕ) (words : List ℕ) → Line
  changed : (flag : ℕ) → Line
  table : (number rows : ℕ) → Line
  counter : (number next : ℕ) → Line
  refused : (number place : ℕ) → Line

abbrev pub step_line : ℕ → Answer → Line
step_line k (survivors b live) = run k (how_many (λ i. get_or live i false) (length live))
step_line k (predicted made words) = row k words

abbrev pub record_line : Record → Line
record_line r = mathlib.Core.Bool.cond (eqb r.kind 1) (del r.table r.words) (ins r.table r.words)

abbrev pub step_lines : ℕ → List Answer → List Line
step_lines k [] = []
step_lines k (a ∷ as') = step_line k a ∷ step_lines (suc k) as'

abbrev pub record_lines : List Record → List Line
record_lines [] = []
record_lines (r ∷ rs) = record_line r ∷ record_lines rs

abbrev pub table_lines : ℕ → List Table → List Line
table_lines t [] = []
table_lines t (u ∷ ts) = table t (length u.rows) ∷ table_lines (suc t) ts

abbrev pub counter_lines : ℕ → List Counter → List Line
counter_lines c [] = []
counter_lines c (n ∷ ns) = counter c (next_of n) ∷ counter_lines (suc c) ns

-- steps, log, flag, tables, counters; or the refusal alone
unfoldable pub printed : Lent → List ℕ → List Line
printed l book =
    let s = left l book in
    found (refusal l book) (λ r. refused r.number r.place ∷ [])
    (λ _. step_lines 0 (reverse s.answers) ++ record_lines s.log ++ changed (flag s.changed) ∷ table_lines 0 (committed l book) ++ counter_lines 0 s.counters)
