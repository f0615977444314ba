-- The lines of an answer, and so those of any outcome that the engine may return, are those that the book prints.
use Prim.Native.Nat.{ℕ, ◌≤◌}
use Rattle.std.specs.Prelude.{◌≡◌, Bool, ◌*◌, ◌^◌, Some, Option, None}
use Rattle.std.proofs.Math.Path.{refl, sym, ap}
use Rattle.std.proofs.Common.{◌∙◌}
use mathlib.Core.List.{List, [], ◌∷◌, ◌++◌, reverse, append_assoc}
use native.Mathlib.Omega.{arith}
use Rattle.std.proofs.Math.ListN.{length}
use Rattle.model.specs.Basics.{All}
use Rattle.model.specs.Book.Syntax.{Counter, Table}
use Rattle.model.specs.Machine.State.{State, Record, Answer}
use Rattle.model.specs.Laws.Logic.{All-map}
use Rattle.model.specs.Answer.{answer, flag, Arranged}
use Rattle.model.specs.Printed.{changed, step_lines, record_lines as lines_of, table_lines, counter_lines, refused as refused_line, printed}
use Rattle.record_log.specs.RecordLaws.{Sized}
use Rattle.report.specs.Lines.{answer_lines}
use Rattle.model.specs.Outcome.{refused, Lent, Outcome, accepted, left, committed, refusal, Permitted}
use Rattle.report.specs.Text.{text}
use Rattle.report.specs.AnswerLines.{Fits, step_lines_lem, table_lines_lem, counter_lines_lem, log_lines_lem}
use Rattle.model.specs.Book.Words.{Refusal, words_of}
use Rattle.report.specs.Bound.{Small, refused_short, lines_short}
use Rattle.report.specs.Prints.{arranged_lines, clash, its, fits, refused_printed, outcome_refused, outcome_accepted, unrefused, Narrow, outcome_lines}
use Rattle.report.specs.AnswerLines as answers

-- ## The lines of an answer

module _ (ts : List Table) (cs : List Counter) (as' : List Answer) (changes : Bool) (log : List Record) where
  abbrev w : List ℕ
  w = answers.w ts cs as' changes log

  module _ (fit : All (Fits ts) log) where
    lines : answer_lines w ≡ step_lines 0 as' ++ lines_of log ++ changed (flag changes) ∷ table_lines 0 ts ++ counter_lines 0 cs
    unfolding answer_lines
    lines = rw (step_lines_lem ts cs as' changes log, log_lines_lem ts cs as' changes log fit, table_lines_lem ts cs as' changes log, counter_lines_lem ts cs as' changes log) (simp append_assoc)

-- the lines of an answer
pub answer_lines_lem : (ts : List Table) (s : State) → All (Fits ts) s.log → answer_lines (answer ts s) ≡ step_lines 0 (reverse s.answers) ++ lines_of s.log ++ changed (flag s.changed) ∷ table_lines 0 ts ++ counter_lines 0 s.counters
unfolding answer
answer_lines_lem ts s fit = lines ts s.counters (reverse s.answers) s.changed s.log fit

-- the lines of an answer have at most 11 bytes a word
pub answer_short : (ts : List Table) (s : State) → All (Fits ts) s.log → All Small (answer ts s) → length (answer ts s) ≤ 10 ^ 10 → length (text (answer_lines (answer ts s))) ≤ 11 * length (answer ts s)
unfolding answer
answer_short ts s fit h few = rw (answer_lines_lem ts s fit) (lines_short ts s.counters (reverse s.answers) s.changed s.log h few)

-- ## What is printed

module _ (l : Lent) (book : List ℕ) where
  accepted_printed : (us : List Table) → refusal l book ≡ None → Arranged (committed l book) us → All (Sized (words_of book)) (left l book).log → answer_lines (answer us (left l book)) ≡ printed l book
  unfolding printed
  accepted_printed us e h sized = rw e (answer_lines_lem us (left l book) (All-map (fits l book us h) (left l book).log sized) ∙ rw (arranged_lines 0 (committed l book) us h))

  -- where the book is accepted, the log's records are as long as their tables ask
  module _ (sized : refusal l book ≡ None → All (Sized (words_of book)) (left l book).log) where
    pub permitted_lines : (o : Outcome) → Permitted l book o → outcome_lines o ≡ printed l book
    permitted_lines (refused r) p = by (refusal l book) refl
      where
        by : (x : Option Refusal) → refusal l book ≡ x → refused_line r.number r.place ∷ [] ≡ printed l book
        by None e = let z : ◌≡◌ {A = ℕ} 0 1 = clash (sym (outcome_accepted l book e) ∙ p) in absurd (omega arith)
        by (Some q) e = rw (its (sym (outcome_refused l book q e) ∙ p)) (refused_printed l book q e)
    permitted_lines (accepted ws) p = let e = unrefused l book (answer (committed l book) (left l book)) p.3 in rw p.2 (accepted_printed p.0 e p.1 (sized e))

    -- an answer of at most n words has lines of at most 11 n bytes; a refusal's line has 53 at most, which is no more from 5 words on
    pub permitted_short : (n : ℕ) → 5 ≤ n → n ≤ 10 ^ 10 → (o : Outcome) → Permitted l book o → Narrow n o → length (text (outcome_lines o)) ≤ 11 * n
    permitted_short n least most (refused r) p h = omega (arith, refused_short r.number r.place)
    permitted_short n least most (accepted ws) p h =
        let fit = All-map (fits l book p.0 p.1) (left l book).log (sized (unrefused l book (answer (committed l book) (left l book)) p.3)) in
        let short = answer_short p.0 (left l book) fit (rw (← p.2) h.0) (rw (← p.2) (omega (arith, h.1))) in
        rw p.2 (omega (arith, short, ap length p.2, h.1))
