-- The answer book by the words that a run and the commit left: its bodies, and their entries by number.
use Rattle.std.specs.Prelude.{◌≡◌, ℕ, ◌+◌, ◌-◌, ◌*◌, ◌^◌, ◌<◌, ◌≤◌, Bool, cond, List, [], ◌∷◌, ◌++◌, eqb, ltb, leb, length, get_or, take, drop, replicate, Result, Ok, Err}
use Rattle.model.specs.Basics.{tab}
use Rattle.model.specs.Book.Contents.{kind_of, first_of, table_count, counter_count, rule_count, step_count, first_step}
use Rattle.model.specs.Book.Decode.{part}
use Rattle.model.specs.Laws.Book.{width_of}
use Rattle.model.specs.Answer.{Body, lay_out, flag}
use Rattle.commit.specs.declared.Committed.{Committed}
use Rattle.execution.specs.Execution.{RunState}
use Rattle.refusal.specs.declared.Refusal.{Refusal}
use Rattle.refusal.specs.declared.Refusal.TheVariants.{AnswerFull}
use Rattle.contents.specs.declared.Contents.{Contents}
use Rattle.contents.specs.BodyKinds.{kind_number}
use Rattle.answer.specs.declared.entries.Entry as code
use Rattle.answer.specs.Sums.{sum}
use Rattle.step_bodies.specs.Runs.{runs}

-- the kind of a step's body, by the step's
abbrev pub step_kind : ℕ → ℕ
step_kind kind = cond (eqb kind 4) 6 7

-- how many words table t's rows have, of the book w; `counts` says how many rows each table has
abbrev pub rows_length : (w counts : List ℕ) → ℕ → ℕ
rows_length w counts t = get_or counts t 0 * width_of w t

-- the body of table t, whose rows stand at the word `from` of `rows`
abbrev pub table_words : (w counts rows : List ℕ) (from t : ℕ) → List ℕ
table_words w counts rows from t = get_or w (first_of w t) 0 ∷ get_or w (first_of w t + 1) 0 ∷ get_or w (first_of w t + 2) 0 ∷ get_or counts t 0 ∷ part rows from (rows_length w counts t)

-- the bodies of the first n tables
abbrev pub tables_words : (w counts rows : List ℕ) (n : ℕ) → List ℕ
tables_words w counts rows n = runs (λ t. table_words w counts rows (sum (rows_length w counts) t) t) n

-- ## The bodies

pub record Results : Type 0 where
  pub book : List ℕ  -- the book's words
  pub counts : List ℕ  -- how many rows each table has
  pub rows : List ℕ  -- the rows of table 0, then those of table 1, and so on
  pub next : List ℕ  -- each counter's next number
  pub lengths : List ℕ  -- how many words each step's body has
  pub steps : List ℕ  -- the words of step 0's body, then those of step 1's, and so on
  pub changed : Bool
  pub log : List ℕ  -- the words of its records

module _ (r : Results) where
  abbrev pub table_of : ℕ → Body
  table_of t = record { kind = 1; words = table_words r.book r.counts r.rows (sum (rows_length r.book r.counts) t) t }

  abbrev pub counter_of : ℕ → Body
  counter_of c = record { kind = 2; words = get_or r.next c 0 ∷ [] }

  abbrev pub length_of : ℕ → ℕ
  length_of k = get_or r.lengths k 0

  abbrev pub step_of : ℕ → Body
  step_of k = record { kind = step_kind (kind_of r.book (first_step r.book + k)); words = part r.steps (sum length_of k) (length_of k) }

  abbrev pub log_of : Body
  log_of = record { kind = 8; words = flag r.changed ∷ r.log }

  unfoldable pub bodies : List Body
  bodies = tab table_of (table_count r.book) ++ tab counter_of (counter_count r.book) ++ tab step_of (step_count r.book) ++ (log_of ∷ [])

-- ## The entries

-- the contents of the book w
abbrev pub contents_of : List ℕ → Contents
contents_of w = record { tables = table_count w; counters = counter_count w; rules = rule_count w; steps = step_count w }

-- the book's entry of the first step
abbrev pub first_of_steps : Contents → ℕ
first_of_steps z = z.tables + z.counters + z.rules

abbrev pub body_count : Contents → ℕ
body_count z = z.tables + z.counters + z.steps + 1

-- a body's kind, and how many words it has
pub record Entry : Type 0 where
  pub kind : ℕ
  pub length : ℕ

-- what the code has for it
abbrev pub as_entry : code.Entry → Entry
as_entry e = record { kind = kind_number e.kind; length = e.length }

-- the kind and the length of body i, where the log has `used` words
unfoldable pub entry_at : (w counts lengths : List ℕ) (used : ℕ) (z : Contents) (i : ℕ) → Entry
entry_at w counts lengths used z i =
    cond (ltb i z.tables) (record { kind = 1; length = 4 + rows_length w counts i })
    (cond (ltb i (z.tables + z.counters)) (record { kind = 2; length = 1 })
    (cond (ltb i (z.tables + z.counters + z.steps)) (record { kind = step_kind (kind_of w (first_of_steps z + (i - (z.tables + z.counters)))); length = get_or lengths (i - (z.tables + z.counters)) 0 })
    (record { kind = 8; length = 1 + used })))

-- an entry of the contents, of a body that begins at the word p
abbrev pub entry_words : Entry → ℕ → List ℕ
entry_words e p = e.kind ∷ p ∷ e.length ∷ []

-- how many words the first n bodies have; and the entries of these, the first body beginning at `start`
abbrev pub bodies_length : (w counts lengths : List ℕ) (used : ℕ) (z : Contents) (n : ℕ) → ℕ
bodies_length w counts lengths used z n = sum (λ i. (entry_at w counts lengths used z i).length) n

abbrev pub entries_words : (w counts lengths : List ℕ) (used : ℕ) (z : Contents) (start n : ℕ) → List ℕ
entries_words w counts lengths used z start n = runs (λ i. entry_words (entry_at w counts lengths used z i) (start + bodies_length w counts lengths used z i)) n

-- the numbers are so small that no sum of the layout passes a word
pub record Small (w counts lengths : List ℕ) (used : ℕ) (z : Contents) : Type 0 where
  pub tables : z.tables ≤ 16
  pub counters : z.counters ≤ 16
  pub steps : z.steps ≤ 64
  pub first : first_of_steps z ≤ 128
  pub rows : sum (rows_length w counts) z.tables ≤ 16384
  pub stepped : sum (λ k. get_or lengths k 0) z.steps < 2 ^ 31
  pub logged : used ≤ 16384

-- how many words the whole answer has
module _ (r : Results) where
  abbrev pub entry : ℕ → Entry
  entry = entry_at r.book r.counts r.lengths (length r.log) (contents_of r.book)

  unfoldable pub whole_length : ℕ
  whole_length = 1 + 3 * body_count (contents_of r.book) + sum (λ i. (entry i).length) (body_count (contents_of r.book))

-- ## What is left

-- the answer, and zero past it up to n words
unfoldable pub answered : Results → ℕ → List ℕ
answered r n = lay_out (bodies r) ++ replicate (n - whole_length r) 0

-- if it fits; else the words are as they were
unfoldable pub assembled : Results → List ℕ → List ℕ
assembled r b = cond (leb (whole_length r) (length b)) (answered r (length b)) b

unfoldable pub assembled_length : Results → ℕ → Result ℕ Refusal
assembled_length r n = cond (leb (whole_length r) n) (Ok (whole_length r)) (Err AnswerFull)

-- the place of the next word: past the answer, or as it was where there is none
abbrev pub place_after : Result ℕ Refusal → ℕ → ℕ
place_after (Ok n) at = n
place_after (Err e) at = at

-- what the code is given
abbrev pub results_of : (w counts rows next lengths steps : List ℕ) → Bool → List ℕ → Results
results_of w counts rows next lengths steps changed log = record { book = w; counts = counts; rows = rows; next = next; lengths = lengths; steps = steps; changed = changed; log = log }

-- n words of step bodies stand at the front of b
abbrev pub left_by : (w rows log lengths : List ℕ) (n : ℕ) (b : List ℕ) → Committed → RunState → Results
left_by w rows log lengths n b done state = results_of w done.counts rows state.counters.next lengths (take n b) state.changed (take state.used log)

-- the rows are there; n words of step bodies stand at the front of b, if b has as many, and then zeros; the numbers are small
pub record Enough (r : Results) (n : ℕ) (b : List ℕ) : Type 0 where
  pub rows : sum (rows_length r.book r.counts) (table_count r.book) ≤ length r.rows
  pub few : length r.rows ≤ 16384
  pub logged : length r.log ≤ 16384
  pub stepped : sum (length_of r) (step_count r.book) ≡ n
  pub small : n < 2 ^ 31
  pub zeros : n ≤ length b → drop n b ≡ replicate (length b - n) 0
