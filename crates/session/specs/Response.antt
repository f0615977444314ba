-- What comes of a book that is run with what `dispatch` lends: its lines stand whole at the front of the buffer.
use Rattle.std.specs.Prelude.{ℕ, ◌<◌, ◌≤◌, ◌≡◌, List, ◌++◌, length, get_or, take, drop, replicate, None, Result, Ok, Err}
use Rattle.std.proofs.Common.{sym, ap, ◌∙◌, subst, arith, take-append-drop, length-take}
use Rattle.std.proofs.lemmas.List.{length-replicate}
use Rattle.model.specs.Basics.{All}
use Rattle.model.specs.Book.Words.{Byte, words_of}
use Rattle.model.specs.Outcome.{Lent, Permitted, refusal, left}
use Rattle.model.specs.Printed.{printed}
use Rattle.model.specs.Claims.Cases.{dispatch_lends}
use Rattle.model.specs.Laws.Logic.{All-left}
use Rattle.record_log.specs.RecordLaws.{Sized}
use Rattle.refusal.specs.declared.Refusal.{Refusal}
use Rattle.engine.specs.Engine.{lent_of, outcome_of, AnswerLeft}
use Rattle.engine.specs.EngineLaws.{all_read}
use Rattle.engine.specs.LogLaws.{log_sized}
use Rattle.report.specs.Text.{text, Text, up_to, appended}
use Rattle.report.specs.Bound.{Small, text_fits}
use Rattle.report.specs.Prints.{Narrow, outcome_lines}
use Rattle.report.proofs.Prints.{permitted_lines, permitted_short}

-- the lengths of the arrays that are lent
abbrev pub lent : Lent
lent = lent_of (replicate 8192 0) (replicate 8192 0) (replicate 16384 0) (replicate 16384 0) (replicate 16384 0)

as_dispatch : lent ≡ dispatch_lends
as_dispatch = rw (length-replicate {A = ℕ} 8192 0, length-replicate {A = ℕ} 16384 0)

-- an answer of words of 32 bits
narrow : (n : ℕ) (o : Result ℕ Refusal) (w : List ℕ) → ((i : ℕ) → get_or w i 0 < 4294967296) → AnswerLeft o n w → Narrow n (outcome_of o w)
narrow n (Ok k) w words h = (All-left Small (take k w) (drop k w) (subst (All Small) (sym (take-append-drop k w)) (all_read Small w (λ i. omega (arith, words i)))), omega (arith, length-take k w, h.0))
narrow n (Err r) w words h = tt

-- what the buffer lent holds at the end is what the page holds
pub held : (page : List ℕ) {a b : List ℕ} → a ≡ page → page ≡ b → a ≡ b
held page e h = e ∙ h

-- a text that has room in the buffer is all that was appended
whole : (bs out now : List ℕ) (r : ℕ) → length bs ≤ length out → up_to now r ≡ appended bs (up_to out 0) → (now ≡ bs ++ drop (length bs) out) × (r ≡ length bs)
whole bs out now r h e =
    let same = e ∙ text_fits bs out h in
    (ap (λ (t : Text). t.bytes) same, ap (λ (t : Text). t.at) same)

module _ (book : List ℕ) (bytes : (i : ℕ) → get_or book i 0 < 256) (o : Result ℕ Refusal) (w : List ℕ) (words : (i : ℕ) → get_or w i 0 < 4294967296) (permitted : Permitted lent book (outcome_of o w)) (kept : AnswerLeft o lent.answer w) where
  may : Permitted dispatch_lends book (outcome_of o w)
  may = subst (λ (l : Lent). Permitted l book (outcome_of o w)) as_dispatch permitted

  sized : refusal dispatch_lends book ≡ None → All (Sized (words_of book)) (left dispatch_lends book).log
  sized = log_sized dispatch_lends book (all_read Byte book bytes)

  pub lines_whole : (out now : List ℕ) (r : ℕ) → 180224 ≤ length out → up_to now r ≡ appended (text (outcome_lines (outcome_of o w))) (up_to out 0) → (now ≡ text (printed dispatch_lends book) ++ drop (length (text (printed dispatch_lends book))) out) × (r ≡ length (text (printed dispatch_lends book))) × (r ≤ 180224)
  lines_whole out now r room e =
      let short = permitted_short dispatch_lends book sized 16384 (omega arith) (omega arith) (outcome_of o w) may (narrow 16384 o w words (subst (λ (l : Lent). AnswerLeft o l.answer w) as_dispatch kept)) in
      let all = whole (text (outcome_lines (outcome_of o w))) out now r (omega (arith, short)) e in
      let same = ap text (permitted_lines dispatch_lends book sized (outcome_of o w) may) in
      (all.0 ∙ ap (λ (bs : List ℕ). bs ++ drop (length bs) out) same, all.1 ∙ ap length same, omega (arith, short, all.1))
