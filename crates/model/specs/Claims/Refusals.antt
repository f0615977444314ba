-- Each refusal comes under its own condition only: the conditions in the words of document 01's table, and the order among them.
use Rattle.std.specs.Prelude.{ℕ, suc, ◌+◌, ◌*◌, ◌%◌, ◌≤◌, ◌<◌, ◌≡◌, ◌⊎◌, ◌↔◌, true, false, List, [], ◌∷◌, ◌++◌, map, length, get_or, take, None, Some, slice_get}
use Rattle.model.specs.Basics.{All, first}
use Rattle.model.specs.Book.Syntax.{Counter, no_counter, next_of, limit, QueryEntry, WriteVal, IncCounter, Instr, LookupOrInsertDefault, Table, width, Rule, Step, batch, prediction, table_at, rule_at}
use Rattle.model.specs.Book.Words.{Refusal, Byte, words_of}
use Rattle.model.specs.Book.Contents.{count, kind_of, group_of, first_of, length_of, members, most, begins, last_group, rule_count, step_count, first_step}
use Rattle.model.specs.Book.Decode.{part, read_table, read_rule, row_place, instr_place}
use Rattle.model.specs.Book.Read.{sizes, tables, counters, rules, step, steps}
use Rattle.model.specs.Check.{reads_of, held_of, sizes_of, columns_of, Fits, IsKnown, NotHeld, Below, Known}
use Rattle.model.specs.Machine.State.{State, reads, going, spent, Bindings, Env, log_words}
use Rattle.model.specs.Machine.Values.{hold, values_of, find, predicted_rows, built, build}
use Rattle.model.specs.Machine.Functions.{arity}
use Rattle.model.specs.Machine.Steps.{here, run}
use Rattle.model.specs.Answer.{answer, row_words}
use Rattle.model.specs.Outcome.{Lent, refused, accepted, outcome, rule_first, env_of, committed_by}
use Rattle.model.specs.Claims.Grammar.{Word, Missing, Stale, BodyForm}

-- ## What a book must be

-- 14
pub record LentOk (l : Lent) : Type 0 where
  pub bindings : l.bindings ≡ 8192
  pub index : l.index ≡ 8192
  pub log : l.log ≤ 16384
  pub tables : l.tables ≤ 16384

-- 1
pub record BytesOk (book : List ℕ) : Type 0 where
  pub one : 0 < length book
  pub most : length book ≤ 65536
  pub fours : length book % 4 ≡ 0

-- 2: the count and the contents; an entry (kinds are known, never fall and are not too many, bodies leave no gap); the book's end
pub record CountOk (w : List ℕ) : Type 0 where
  pub one : 0 < count w
  pub most : count w ≤ 128
  pub inside : 1 + 3 * count w ≤ length w

pub record EntryOk (w : List ℕ) (i : ℕ) : Type 0 where
  pub rises : last_group w i ≤ group_of w i
  pub known : 0 < group_of w i
  pub room : members w (group_of w i) (suc i) ≤ most (group_of w i)
  pub follows : first_of w i ≡ begins w i

abbrev pub EndOk : List ℕ → Type 0
EndOk w = begins w (count w) ≡ length w

-- 3: the words of body i are laid out
abbrev pub LaidOut : List ℕ → ℕ → List Word → Type 0
LaidOut w i ms = BodyForm (sizes w) (kind_of w i) ms × (map (λ (m : Word). m.word) ms ≡ part w (first_of w i) (length_of w i))

-- 6 and 4: word p of the book is a word of body i with which F finds fault
abbrev pub WordAt : List ℕ → (Word → Type 0) → ℕ → ℕ → Type 0
WordAt w F i p = (ms : List Word) × LaidOut w i ms × (k : ℕ) × (m : Word) × (slice_get ms k ≡ Some m) × F m × (p ≡ first_of w i + k)

-- 5: row i has the key of an earlier row
pub record Repeats (keys : ℕ) (rows : List (List ℕ)) (i : ℕ) : Type 0 where
  pub earlier : ℕ
  pub less : earlier < i
  pub same : take keys (get_or rows earlier []) ≡ take keys (get_or rows i [])

-- 8, 7, 10, 9: instruction j of rule r, with which F finds fault
abbrev pub InstrAt : List ℕ → (Rule → ℕ → Instr → Type 0) → ℕ → ℕ → Type 0
InstrAt w F r j = (r < rule_count w) × (ins : Instr) × (slice_get (read_rule w (rule_first w r)).instrs j ≡ Some ins) × F (read_rule w (rule_first w r)) j ins

-- 11: v is the rule's, with v = 0 no lanes are given; key and write values fit the table
abbrev pub StepFits : List Table → List Rule → Step → Type 0
StepFits ts rs (batch r lanes columns) = (length columns ≡ (rule_at rs r).starts) × (length columns ≡ 0 → lanes ≡ 0)
StepFits ts rs (prediction t key vs) = (length key ≡ (table_at ts t).keys) × (length key + length vs ≡ width (table_at ts t))

-- what the plain machine, whose log has no end, leaves after k steps
unfoldable pub after : List ℕ → ℕ → State
after w k = run (env_of w (λ _. true)) (counters w) (steps w) k

-- the tables that the whole run commits
abbrev pub final : List ℕ → List Table
final w = committed_by w (after w (step_count w))

-- ## What can be at fault

pub data InContents : Type 0 where
  counting ending : InContents
  entry : (i : ℕ) → InContents

pub data InBody : Type 0 where
  layout : InBody
  absent mark : (p : ℕ) → InBody
  repeat : (row : ℕ) → InBody

pub data InRule : Type 0 where
  size unbound held_out column : InRule

pub data InRun : Type 0 where
  log_full counter_spent : InRun

pub data Fault : Type 0 where
  lengths bytes : Fault
  contents : InContents → Fault
  body : (i : ℕ) → InBody → Fault
  rule : (r j : ℕ) → InRule → Fault
  unfit : (k : ℕ) → Fault
  in_run : (k : ℕ) → InRun → Fault
  tables_full answer_full : Fault

-- its number in the table
abbrev pub number_of : Fault → ℕ
number_of lengths = 14
number_of bytes = 1
number_of (contents c) = 2
number_of (body i layout) = 3
number_of (body i (absent p)) = 6
number_of (body i (mark p)) = 4
number_of (body i (repeat row)) = 5
number_of (rule r j size) = 8
number_of (rule r j unbound) = 7
number_of (rule r j held_out) = 10
number_of (rule r j column) = 9
number_of (unfit k) = 11
number_of (in_run k log_full) = 12
number_of (in_run k counter_spent) = 13
number_of tables_full = 15
number_of answer_full = 16

-- its place: of an entry or a body its number in the contents, of the rest the first of its words in the book
abbrev pub place_of : List ℕ → Fault → ℕ
place_of w lengths = 0
place_of w bytes = 0
place_of w (contents counting) = 0
place_of w (contents ending) = 0
place_of w (contents (entry i)) = i
place_of w (body i layout) = i
place_of w (body i (absent p)) = p
place_of w (body i (mark p)) = p
place_of w (body i (repeat row)) = row_place w (first_of w i) row
place_of w (rule r j c) = instr_place w (rule_first w r) j
place_of w (unfit k) = first_step w + k
place_of w (in_run k c) = first_step w + k
place_of w tables_full = 0
place_of w answer_full = 0

-- when it is at fault
abbrev pub AtContents : List ℕ → InContents → Type 0
AtContents w counting = CountOk w → ⊥
AtContents w ending = EndOk w → ⊥
AtContents w (entry i) = (i < count w) × (EntryOk w i → ⊥)

abbrev pub AtBody : List ℕ → ℕ → InBody → Type 0
AtBody w i layout = (ms : List Word) → LaidOut w i ms → ⊥
AtBody w i (absent p) = WordAt w Missing i p
AtBody w i (mark p) = WordAt w Stale i p
AtBody w i (repeat row) =
    let t = read_table w (first_of w i) in
    (kind_of w i ≡ 1) × (row < length t.rows) × Repeats t.keys t.rows row

abbrev pub AtRule : List ℕ → (r j : ℕ) → InRule → Type 0
AtRule w r j size = InstrAt w (λ R j ins. All Fits (sizes_of (tables w) arity ins) → ⊥) r j
AtRule w r j unbound = InstrAt w (λ R j ins. All (IsKnown (Known R j)) (reads_of ins) → ⊥) r j
AtRule w r j held_out = InstrAt w (λ R j ins. All NotHeld (held_of ins) → ⊥) r j
AtRule w r j column = InstrAt w (λ R j ins. All Below (columns_of (tables w) arity ins) → ⊥) r j

-- the records of the steps before fit the log lent, and with those of step k they pass it; step k comes to a counter whose next would pass its limit, and the records until then fit
abbrev pub AtRun : Lent → List ℕ → ℕ → InRun → Type 0
AtRun l w k log_full = (log_words (after w k).log ≤ l.log) × (l.log < log_words (after w (suc k)).log)
AtRun l w k counter_spent = (log_words (after w (suc k)).log ≤ l.log) × ((after w (suc k)).status ≡ spent)

abbrev pub AtFault : Lent → List ℕ → Fault → Type 0
AtFault l book lengths = LentOk l → ⊥
AtFault l book bytes = BytesOk book → ⊥
AtFault l book (contents c) = AtContents (words_of book) c
AtFault l book (body i c) = (i < count (words_of book)) × AtBody (words_of book) i c
AtFault l book (rule r j c) = AtRule (words_of book) r j c
AtFault l book (unfit k) = (k < step_count (words_of book)) × (StepFits (tables (words_of book)) (rules (words_of book)) (step (words_of book) k) → ⊥)
AtFault l book (in_run k c) = (k < step_count (words_of book)) × ((after (words_of book) k).status ≡ going) × AtRun l (words_of book) k c
AtFault l book tables_full = l.tables < row_words (final (words_of book))
AtFault l book answer_full = l.answer < length (answer (final (words_of book)) (after (words_of book) (step_count (words_of book))))

-- ## Which fault comes first: by the stage at which it is looked for, and within a stage by what stands first in the book

abbrev pub stage_of : Fault → ℕ
stage_of lengths = 0
stage_of bytes = 1
stage_of (contents c) = 2
stage_of (body i c) = 3
stage_of (rule r j c) = 4
stage_of (unfit k) = 5
stage_of (in_run k c) = 6
stage_of tables_full = 7
stage_of answer_full = 8

abbrev pub contents_order : InContents → List ℕ
contents_order counting = 0 ∷ []
contents_order (entry i) = 1 ∷ i ∷ []
contents_order ending = 2 ∷ []

abbrev pub body_order : InBody → List ℕ
body_order layout = 0 ∷ []
body_order (absent p) = 1 ∷ p ∷ []
body_order (mark p) = 2 ∷ p ∷ []
body_order (repeat row) = 3 ∷ row ∷ []

abbrev pub rule_order : InRule → List ℕ
rule_order size = 0 ∷ []
rule_order unbound = 1 ∷ []
rule_order held_out = 2 ∷ []
rule_order column = 3 ∷ []

-- only one of them can hold of a step
abbrev pub run_order : InRun → List ℕ
run_order log_full = 0 ∷ []
run_order counter_spent = 1 ∷ []

abbrev pub within : Fault → List ℕ
within lengths = []
within bytes = []
within (contents c) = contents_order c
within (body i c) = i ∷ body_order c
within (rule r j c) = r ∷ j ∷ rule_order c
within (unfit k) = k ∷ []
within (in_run k c) = k ∷ run_order c
within tables_full = []
within answer_full = []

abbrev pub Before : List ℕ → List ℕ → Type 0
Before [] [] = ⊥
Before [] (y ∷ ys) = Unit {0}
Before (x ∷ xs) [] = ⊥
Before (x ∷ xs) (y ∷ ys) = (x < y) ⊎ ((x ≡ y) × Before xs ys)

abbrev pub Earlier : Fault → Fault → Type 0
Earlier f g = Before (stage_of f ∷ within f) (stage_of g ∷ within g)

-- ## The claims

-- the first fault of a book
pub record First (l : Lent) (book : List ℕ) (f : Fault) : Type 0 where
  pub fault : AtFault l book f
  pub before : (g : Fault) → Earlier g f → AtFault l book g → ⊥

abbrev pub refusal_of : List ℕ → Fault → Refusal
refusal_of book f = record { number = number_of f; place = place_of (words_of book) f }

-- a book is refused with a number and a place exactly where its first fault has them
abbrev pub RefusalsExact : Type 0
RefusalsExact = (l : Lent) (book : List ℕ) → All Byte book → (r : Refusal) → (outcome l book ≡ refused r) ↔ ((f : Fault) × First l book f × (refusal_of book f ≡ r))

-- and a book with no fault is accepted, with the answer of the plain machine followed by its commit
abbrev pub AcceptedExact : Type 0
AcceptedExact = (l : Lent) (book : List ℕ) → All Byte book → ((f : Fault) → AtFault l book f → ⊥) → outcome l book ≡ accepted (answer (final (words_of book)) (after (words_of book) (step_count (words_of book))))

-- ## A spent counter

-- the write values of a row come to a counter whose next would pass its limit
pub record Overdraws (b : Bindings) (i : ℕ) (key : List ℕ) (vs : List WriteVal) (cs : List Counter) : Type 0 where
  pub before : List WriteVal
  pub spender : ℕ
  pub behind : List WriteVal
  pub values : vs ≡ before ++ (IncCounter spender ∷ behind)
  pub row : List ℕ
  pub counters : List Counter
  pub reached : build b i before (built key cs) ≡ built row counters
  pub passes : limit < suc (next_of (get_or counters spender no_counter))

-- step k stopped in s at a new row that overdraws a counter, of a key that neither a committed nor a predicted row has: a live lane's that last read this key, with dst held out, or a prediction's
pub data Spends (ts : List Table) (rs : List Rule) (k : ℕ) (s : State) : Step → Type 0 where
  by_lane : {r n : ℕ} {columns : List (List ℕ)} (j i t : ℕ) (args : List QueryEntry) (vs : List WriteVal) (col dst : ℕ) (key : List ℕ)
      → slice_get (rule_at rs r).instrs j ≡ Some (LookupOrInsertDefault t args vs col dst) → get_or s.live i false ≡ true
      → values_of (hold dst s.bindings) i args ≡ Some key → first s.trace ≡ Some (reads (here k j i) key)
      → find (table_at ts t).keys (table_at ts t).rows key ≡ None → predicted_rows (table_at ts t).keys t key s.log ≡ []
      → Overdraws (hold dst s.bindings) i key vs s.counters → Spends ts rs k s (batch r n columns)
  by_prediction : {t : ℕ} {key : List ℕ} {vs : List WriteVal} → find (table_at ts t).keys (table_at ts t).rows key ≡ None
      → predicted_rows (table_at ts t).keys t key s.log ≡ [] → Overdraws (λ _. None) 0 key vs s.counters → Spends ts rs k s (prediction t key vs)

-- where the machine says that a counter is spent, whatever its functions and steps, the step that it did not answer came to one
abbrev pub SpentExact : Type 0
SpentExact = (E : Env) (counters : List Counter) (steps : List Step) (n : ℕ) → let s : State = run E counters steps n in s.status ≡ spent
    → (st : Step) × (slice_get steps (length s.answers) ≡ Some st) × Spends E.tables E.rules (length s.answers) s st
