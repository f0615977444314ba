-- A book to its answer or its refusal, in the order of document 01.
use Rattle.std.specs.Prelude.{ℕ, ◌+◌, ◌≡◌, Bool, ◌&&◌, List, eqb, leb, length, Option, None, Some}
use Rattle.model.specs.Basics.{found, ◌else◌, first_some}
use Rattle.model.specs.Book.Syntax.{Table}
use Rattle.model.specs.Book.Words.{Refusal, unless, words_of, bytes_refusal}
use Rattle.model.specs.Book.Contents.{contents_refusal, first_of, first_rule, first_step, rule_count}
use Rattle.model.specs.Book.Decode.{read_rule, instr_place}
use Rattle.model.specs.Book.Read.{bodies_refusal, tables, counters, rules, steps, steps_refusal}
use Rattle.model.specs.Check.{check}
use Rattle.model.specs.Machine.State.{State, Status, going, stuck, spent, full, Env}
use Rattle.model.specs.Machine.Functions.{arity, with_functions}
use Rattle.model.specs.Machine.Steps.{run}
use Rattle.model.specs.Commit.{commit}
use Rattle.model.specs.Answer.{answer, row_words, Arranged}

-- the lengths of what is lent besides the book, in words
pub record Lent : Type 0 where
  pub bindings : ℕ
  pub index : ℕ
  pub log : ℕ
  pub tables : ℕ
  pub answer : ℕ

pub data Outcome : Type 0 where
  refused : Refusal → Outcome
  accepted : (words : List ℕ) → Outcome

-- 14: 8192 words each of bindings and of index, and no more than 16384 each of log and of tables
abbrev pub lent_refusal : Lent → Option Refusal
lent_refusal l = unless (eqb l.bindings 8192 && eqb l.index 8192 && leb l.log 16384 && leb l.tables 16384) 14 0

-- ## What a book draws before it is run

module _ (w : List ℕ) where
  -- rule r, counted from 0, and its first word
  abbrev pub rule_first : ℕ → ℕ
  rule_first r = first_of w (first_rule w + r)

  -- 8, 7, 10, 9, at the instruction
  unfoldable pub rule_refusal : ℕ → Option Refusal
  rule_refusal r =
      found (check (tables w) arity (read_rule w (rule_first r)) (length (read_rule w (rule_first r)).instrs))
      (λ e. Some (record { number = e.0; place = instr_place w (rule_first r) e.1 }))
      (λ _. None)

  unfoldable pub rules_refusal : Option Refusal
  rules_refusal = first_some rule_refusal (rule_count w)

  -- refusals 2 to 11
  unfoldable pub words_refusal : Option Refusal
  words_refusal = contents_refusal w else λ _. bodies_refusal w else λ _. rules_refusal else λ _. steps_refusal w

-- refusals 1 to 11
unfoldable pub book_refusal : List ℕ → Option Refusal
book_refusal book = bytes_refusal book else λ _. words_refusal (words_of book)

-- ## The run

module _ (w : List ℕ) where
  -- the book with the functions 0 to 7 and some room for the log
  abbrev pub env_of : (ℕ → Bool) → Env
  env_of room = with_functions (tables w) (rules w) room

  unfoldable pub ran : Lent → State
  ran l = run (env_of (λ n. leb n l.log)) (counters w) (steps w) (length (steps w))

  abbrev pub committed_by : State → List Table
  committed_by s = commit s.log (tables w) 0

-- the step, at its place in the contents, at which a run ended early: a counter spent, the log full. (No book comes to `stuck` here.)
abbrev pub ended : Status → ℕ → Option Refusal
ended going p = None
ended stuck p = None
ended spent p = Some (record { number = 13; place = p })
ended full p = Some (record { number = 12; place = p })

-- 12 or 13, 15, 16: of the tables after the commit and what the run left; the steps begin at entry p
unfoldable pub end_refusal : Lent → ℕ → List Table → State → Option Refusal
end_refusal l p ts s =
    ended s.status (p + length s.answers) else λ _.
    unless (leb (row_words ts) l.tables) 15 0 else λ _.
    unless (leb (length (answer ts s)) l.answer) 16 0

module _ (l : Lent) (book : List ℕ) where
  -- what is left after the run, and the tables after the commit
  abbrev pub left : State
  left = ran (words_of book) l

  abbrev pub committed : List Table
  committed = committed_by (words_of book) left

  -- 14, 1, 2, the bodies, the rules, 11, the run, 15, 16
  unfoldable pub refusal : Option Refusal
  refusal = lent_refusal l else λ _. book_refusal book else λ _. end_refusal l (first_step (words_of book)) committed left

  unfoldable pub outcome : Outcome
  outcome = found refusal refused (λ _. accepted (answer committed left))

-- ## What a call may return
-- A table's rows may come in any order, as long as each committed row is there once and no other.

abbrev pub Permitted : Lent → List ℕ → Outcome → Type 0
Permitted l book (refused r) = outcome l book ≡ refused r
Permitted l book (accepted ws) = (us : List Table) × Arranged (committed l book) us × (ws ≡ answer us (left l book)) × (outcome l book ≡ accepted (answer (committed l book) (left l book)))
