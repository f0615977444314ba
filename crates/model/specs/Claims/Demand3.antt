-- Demand 3: for every book that draws none of refusals 1 to 11, whatever the functions answer, and every list of steps with which that stays so.
use Rattle.std.specs.Prelude.{ℕ, ◌+◌, ◌≤◌, ◌<◌, ◌≡◌, ◌≢◌, Bool, false, List, [], ◌∷◌, T, length, get_or, Option, None, Some, slice_get}
use Rattle.model.specs.Basics.{All, AllPairs}
use Rattle.model.specs.Book.Syntax.{Clean, Counter, Var, Const, WriteVal, Entry, IncCounter, CurrentVal, Table, width, Rule, Step, batch, prediction, table_at, rule_at}
use Rattle.model.specs.Book.Words.{Byte, words_of}
use Rattle.model.specs.Book.Read.{tables, counters, rules, steps}
use Rattle.model.specs.Machine.State.{State, Site, Record, Event, mask, reads, took, asks, stuck, Env}
use Rattle.model.specs.Machine.Values.{predicted_rows}
use Rattle.model.specs.Machine.Functions.{arity}
use Rattle.model.specs.Machine.Steps.{begin, instructions, run}
use Rattle.model.specs.Outcome.{book_refusal}

-- ## What is supposed of the functions and of the steps

-- what a function answers at a site and call; it may answer otherwise on equal arguments
abbrev pub Answers : Type 0
Answers = Site → (call func : ℕ) (args : List ℕ) → Option ℕ

-- on clean words it gives no answer or a clean one
abbrev pub NeverStale : Answers → Type 0
NeverStale answer = (o : Site) (call func : ℕ) (args : List ℕ) (w : ℕ) → All Clean args → answer o call func args ≡ Some w → Clean w

-- a prediction's write values: constants and counters
abbrev pub Given : WriteVal → Type 0
Given (Entry (Var v)) = ⊥
Given (Entry (Const c)) = Clean c
Given (IncCounter c) = Unit {0}
Given (CurrentVal x) = ⊥

-- what refusals 3, 6, 4 and 11 ask of a step, as far as it is needed. What they ask beyond this (the limits on lanes, key words and write values, that a counter is there), and 2's limit on the number of steps, is left out
abbrev pub StepOk : List Table → List Rule → Step → Type 0
StepOk ts rs (batch r n columns) = record {
  rule : r < length rs;
  count : length columns ≡ (rule_at rs r).starts;
  sized : All (λ c. length c ≡ n) columns;
  clean : All (All Clean) columns;
  none : (rule_at rs r).starts ≡ 0 → n ≡ 0;
}
StepOk ts rs (prediction t key vs) = record {
  table : t < length ts;
  keys : length key ≡ (table_at ts t).keys;
  vals : length key + length vs ≡ width (table_at ts t);
  clean : All Clean key;
  given : All Given vs;
}

-- ## What holds

-- a lane that is live in the first mask is live in the second
abbrev pub Within : List Bool → List Bool → Type 0
Within m m' = (i : ℕ) → T (get_or m i false) → T (get_or m' i false)

-- no word that a live lane read, from its entries or a row, is the stale mark
abbrev pub NotStale : Event → Type 0
NotStale (mask k m) = Unit {0}
NotStale (reads o ws) = All Clean ws
NotStale (took o ws) = All Clean ws
NotStale (asks o t key ws) = All Clean ws

-- the row that was read is the only predicted row with that table and key
abbrev pub OneRow : Env → List Record → Event → Type 0
OneRow E log (mask k m) = Unit {0}
OneRow E log (reads o ws) = Unit {0}
OneRow E log (took o ws) = Unit {0}
OneRow E log (asks o t key ws) = predicted_rows (table_at E.tables t).keys t key log ≡ ws ∷ []

-- staged by another lane, instruction or step
abbrev pub OtherSite : Record → Record → Type 0
OtherSite a b = a.site ≢ b.site

module _ (E : Env) (counters : List Counter) (list : List Step) where
  -- the batch of step k before instruction j of its rule
  abbrev pub before : (k r n : ℕ) → List (List ℕ) → ℕ → State
  before k r n columns j = instructions E k (rule_at E.rules r) j (begin k (rule_at E.rules r) n columns (run E counters list k))

  -- in the first n steps a lane that is live before an instruction was live before each earlier one of its batch
  abbrev pub NoneReturns : ℕ → Type 0
  NoneReturns n = (k r lanes : ℕ) (columns : List (List ℕ)) → k < n → slice_get list k ≡ Some (batch r lanes columns)
      → (j j' : ℕ) → j ≤ j' → Within (before k r lanes columns j').live (before k r lanes columns j).live

  -- of the first n steps
  pub record Claims (n : ℕ) : Type 0 where
    pub never_stuck : (run E counters list n).status ≢ stuck
    pub no_return : NoneReturns n
    pub never_stale : All NotStale (run E counters list n).trace
    pub staged_once : AllPairs OtherSite (run E counters list n).log
    pub one_row_lem : All (OneRow E (run E counters list n).log) (run E counters list n).trace

-- ## The claims

-- the machine on a book's tables and rules, with any functions of their arity and any room for the log; a log without end is the room that is always there
abbrev pub machine : List ℕ → Answers → (ℕ → Bool) → Env
machine book answer room = record { tables = tables (words_of book); rules = rules (words_of book); arity = arity; answer = answer; room = room }

-- one claim over a whole list of steps, and over what each of its beginnings leaves
abbrev pub Demand3 : Type 0
Demand3 = (book : List ℕ) → All Byte book → book_refusal book ≡ None
    → (answer : Answers) → NeverStale answer → (room : ℕ → Bool)
    → (list : List Step) → All (StepOk (tables (words_of book)) (rules (words_of book))) list
    → (n : ℕ) → Claims (machine book answer room) (counters (words_of book)) list n

-- a book's own steps are such a list
abbrev pub OwnSteps : Type 0
OwnSteps = (book : List ℕ) → All Byte book → book_refusal book ≡ None → All (StepOk (tables (words_of book)) (rules (words_of book))) (steps (words_of book))
