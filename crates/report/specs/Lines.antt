use Rattle.std.specs.Prelude.{ℕ, zero, suc, ◌+◌, ◌-◌, cond, List, [], ◌∷◌, ◌++◌, eqb, length, get_or, drop}
use Rattle.model.specs.Book.Contents.{count, kind_of, first_of, length_of}
use Rattle.model.specs.Book.Decode.{part}
use Rattle.model.specs.Printed.{Line, run, row, ins, del, changed, table, counter}
use Rattle.record_log.specs.Walk.{end_of, walked}
use Rattle.report.specs.declared.lines.Family.{Family}
use Rattle.report.specs.declared.lines.Family.TheVariants.{Steps, Tables, Counters}

-- The lines of an answer, read from its words. Every function here is total: of other words its value means nothing and is never used.

-- the lines of the first n entries: f k i has the line of entry i, if it gives one, as the one with number k
unfoldable pub numbered : (ℕ → ℕ → List Line) → ℕ → List Line
numbered f zero = []
numbered f (suc n) = numbered f n ++ f (length (numbered f n)) n

-- the record at p of the records' words, up to the word e: its table, then its words
unfoldable pub record_line : List ℕ → ℕ → ℕ → Line
record_line log p e = cond (eqb (get_or log p 0) 1) (del (get_or log (p + 1) 0) (part log (p + 2) (e - (p + 2)))) (ins (get_or log (p + 1) 0) (part log (p + 2) (e - (p + 2))))

module _ (w : List ℕ) where
  -- the words of entry i's body
  abbrev pub body_of : ℕ → List ℕ
  body_of i = part w (first_of w i) (length_of w i)

  -- a batch's survivors, a prediction's row; a table's row count; a counter's next
  unfoldable pub entry_line : Family → ℕ → ℕ → List Line
  entry_line Steps k i = cond (eqb (kind_of w i) 6) (run k (get_or (body_of i) 0 0) ∷ []) (cond (eqb (kind_of w i) 7) (row k (drop 1 (body_of i)) ∷ []) [])
  entry_line Tables k i = cond (eqb (kind_of w i) 1) (table k (get_or (body_of i) 3 0) ∷ []) []
  entry_line Counters k i = cond (eqb (kind_of w i) 2) (counter k (get_or (body_of i) 0 0) ∷ []) []

  abbrev pub family_lines : Family → List Line
  family_lines f = numbered (entry_line f) (count w)

  -- the log's body stands last: the flag, then the records
  abbrev pub log_body : List ℕ
  log_body = body_of (count w - 1)

  unfoldable pub record_lines : List ℕ → List Line
  record_lines log = walked (end_of w log) (length log) (λ p ls. ls ++ (record_line log p (end_of w log p) ∷ [])) []

  unfoldable pub log_lines : List Line
  log_lines = record_lines (drop 1 log_body) ++ (changed (get_or log_body 0 0) ∷ [])

  -- steps, log and flag, tables, counters
  unfoldable pub answer_lines : List Line
  answer_lines = family_lines Steps ++ log_lines ++ family_lines Tables ++ family_lines Counters
