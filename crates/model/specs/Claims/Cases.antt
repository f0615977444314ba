-- The cases K1 to K12 of document 01: one table about `outcome`, whole books in and whole answers or refusals with their places out.
use Rattle.std.specs.Prelude.{ℕ, ◌≡◌, true, List, [], ◌∷◌, None, Some}
use Rattle.model.specs.Basics.{All}
use Rattle.model.specs.Book.Words.{Byte, words_of, bytes_of}
use Rattle.model.specs.Book.Read.{counters, steps}
use Rattle.model.specs.Machine.State.{State, asks, Env}
use Rattle.model.specs.Machine.Functions.{apply}
use Rattle.model.specs.Machine.Steps
use Rattle.model.specs.Outcome.{Lent, Outcome, refused, accepted, book_refusal, left, outcome}
use Rattle.model.specs.Claims.Demand3.{NeverStale, StepOk, Claims, machine}
use Rattle.model.specs.Claims.Trace.{In}
use Rattle.model.specs.Printed.{run, ins, changed, table, counter, printed}

-- what program `dispatch` lends
abbrev pub dispatch_lends : Lent
dispatch_lends = record { bindings = 8192; index = 8192; log = 16384; tables = 16384; answer = 16384 }

-- a book in words, and what comes of it
pub record Case : Type 0 where
  pub book : List ℕ
  pub result : Outcome

-- contents; a table with one row, a counter, a rule of one instruction, a batch of four lanes
abbrev pub k1_words : List ℕ
k1_words = 4 ∷ 1 ∷ 13 ∷ 6 ∷ 2 ∷ 19 ∷ 1 ∷ 3 ∷ 20 ∷ 12 ∷ 4 ∷ 32 ∷ 7 ∷ 1 ∷ 1 ∷ 0 ∷ 1 ∷ 3 ∷ 40 ∷ 100 ∷ 1 ∷ 1 ∷ 1 ∷ 0 ∷ 1 ∷ 0 ∷ 0 ∷ 1 ∷ 2 ∷ 0 ∷ 1 ∷ 1 ∷ 0 ∷ 4 ∷ 1 ∷ 3 ∷ 5 ∷ 5 ∷ 8 ∷ []

-- K1: a lookup-or-insert: one lane finds its row, the others share two new ones
abbrev pub k1 : Case
k1 = record { book = k1_words; result = accepted (4 ∷ 1 ∷ 13 ∷ 10 ∷ 2 ∷ 23 ∷ 1 ∷ 6 ∷ 24 ∷ 17 ∷ 8 ∷ 41 ∷ 9 ∷ 1 ∷ 1 ∷ 0 ∷ 3 ∷ 3 ∷ 40 ∷ 5 ∷ 100 ∷ 8 ∷ 101 ∷ 102 ∷ 4 ∷ 4 ∷ 2 ∷ 0 ∷ 3 ∷ 5 ∷ 5 ∷ 8 ∷ 1 ∷ 40 ∷ 100 ∷ 100 ∷ 101 ∷ 1 ∷ 1 ∷ 1 ∷ 1 ∷ 0 ∷ 2 ∷ 0 ∷ 5 ∷ 100 ∷ 2 ∷ 0 ∷ 8 ∷ 101 ∷ []) }

-- K2: a rule without variables and instructions runs in one lane, which survives
abbrev pub k2 : Case
k2 = record { book = 2 ∷ 3 ∷ 7 ∷ 2 ∷ 4 ∷ 9 ∷ 3 ∷ 0 ∷ 0 ∷ 0 ∷ 0 ∷ 0 ∷ []; result = accepted (2 ∷ 6 ∷ 7 ∷ 4 ∷ 8 ∷ 11 ∷ 1 ∷ 1 ∷ 1 ∷ 0 ∷ 1 ∷ 0 ∷ []) }

-- K3: a batch of a variable without lanes has no survivors
abbrev pub k3 : Case
k3 = record { book = 2 ∷ 3 ∷ 7 ∷ 2 ∷ 4 ∷ 9 ∷ 3 ∷ 1 ∷ 0 ∷ 0 ∷ 0 ∷ 1 ∷ []; result = accepted (2 ∷ 6 ∷ 7 ∷ 4 ∷ 8 ∷ 11 ∷ 1 ∷ 0 ∷ 0 ∷ 1 ∷ 0 ∷ 0 ∷ []) }

-- K4: nothing to compare: every lane drops
abbrev pub k4 : Case
k4 = record { book = 2 ∷ 3 ∷ 7 ∷ 5 ∷ 4 ∷ 12 ∷ 7 ∷ 2 ∷ 1 ∷ 12 ∷ 0 ∷ 0 ∷ 0 ∷ 2 ∷ 2 ∷ 1 ∷ 2 ∷ 1 ∷ 3 ∷ []; result = accepted (2 ∷ 6 ∷ 7 ∷ 11 ∷ 8 ∷ 18 ∷ 1 ∷ 0 ∷ 2 ∷ 2 ∷ 0 ∷ 1 ∷ 2 ∷ 1 ∷ 1 ∷ 3 ∷ 0 ∷ 0 ∷ 0 ∷ []) }

-- K5: nothing behind the divider: every lane drops
abbrev pub k5 : Case
k5 = record { book = 2 ∷ 3 ∷ 7 ∷ 9 ∷ 4 ∷ 16 ∷ 7 ∷ 2 ∷ 1 ∷ 12 ∷ 2 ∷ 2 ∷ 0 ∷ 0 ∷ 0 ∷ 1 ∷ 0 ∷ 2 ∷ 2 ∷ 1 ∷ 2 ∷ 1 ∷ 3 ∷ []; result = accepted (2 ∷ 6 ∷ 7 ∷ 11 ∷ 8 ∷ 18 ∷ 1 ∷ 0 ∷ 2 ∷ 2 ∷ 0 ∷ 1 ∷ 2 ∷ 1 ∷ 1 ∷ 3 ∷ 0 ∷ 0 ∷ 0 ∷ []) }

-- K6: the divider is past its list
abbrev pub k6 : Case
k6 = record { book = 2 ∷ 3 ∷ 7 ∷ 9 ∷ 4 ∷ 16 ∷ 7 ∷ 2 ∷ 1 ∷ 12 ∷ 3 ∷ 2 ∷ 0 ∷ 0 ∷ 0 ∷ 1 ∷ 0 ∷ 2 ∷ 2 ∷ 1 ∷ 2 ∷ 1 ∷ 3 ∷ []; result = refused (record { number = 8; place = 9 }) }

-- K7: the load bands at their edges; the last lane has none and drops
abbrev pub k7 : Case
k7 = record { book = 2 ∷ 3 ∷ 7 ∷ 8 ∷ 4 ∷ 15 ∷ 7 ∷ 1 ∷ 1 ∷ 8 ∷ 6 ∷ 1 ∷ 0 ∷ 0 ∷ 1 ∷ 0 ∷ 4 ∷ 1 ∷ 49 ∷ 50 ∷ 100 ∷ 101 ∷ []; result = accepted (2 ∷ 6 ∷ 7 ∷ 17 ∷ 8 ∷ 24 ∷ 1 ∷ 3 ∷ 4 ∷ 2 ∷ 0 ∷ 49 ∷ 50 ∷ 100 ∷ 101 ∷ 1 ∷ 0 ∷ 1 ∷ 2 ∷ 4294967295 ∷ 1 ∷ 1 ∷ 1 ∷ 0 ∷ 0 ∷ []) }

-- K8: the largest sum, and one above it
abbrev pub k8 : Case
k8 = record { book = 2 ∷ 3 ∷ 7 ∷ 10 ∷ 4 ∷ 17 ∷ 7 ∷ 2 ∷ 1 ∷ 8 ∷ 0 ∷ 2 ∷ 0 ∷ 0 ∷ 0 ∷ 1 ∷ 2 ∷ 0 ∷ 2 ∷ 2 ∷ 4294967293 ∷ 4294967293 ∷ 1 ∷ 2 ∷ []; result = accepted (2 ∷ 6 ∷ 7 ∷ 14 ∷ 8 ∷ 21 ∷ 1 ∷ 1 ∷ 2 ∷ 3 ∷ 0 ∷ 4294967293 ∷ 4294967293 ∷ 1 ∷ 1 ∷ 2 ∷ 2 ∷ 4294967294 ∷ 4294967295 ∷ 1 ∷ 0 ∷ 0 ∷ []) }

-- K9: a lookup-or-insert reads the variable that it writes
abbrev pub k9 : Case
k9 = record { book = 4 ∷ 1 ∷ 13 ∷ 4 ∷ 2 ∷ 17 ∷ 1 ∷ 3 ∷ 18 ∷ 15 ∷ 4 ∷ 33 ∷ 4 ∷ 1 ∷ 1 ∷ 0 ∷ 0 ∷ 5 ∷ 1 ∷ 2 ∷ 13 ∷ 0 ∷ 1 ∷ 1 ∷ 0 ∷ 1 ∷ 0 ∷ 1 ∷ 1 ∷ 1 ∷ 7 ∷ 1 ∷ 1 ∷ 0 ∷ 1 ∷ 1 ∷ 4 ∷ []; result = refused (record { number = 10; place = 23 }) }

-- K10: a plain lookup may read the variable that it writes
abbrev pub k10 : Case
k10 = record { book = 3 ∷ 1 ∷ 10 ∷ 6 ∷ 3 ∷ 16 ∷ 9 ∷ 4 ∷ 25 ∷ 5 ∷ 1 ∷ 1 ∷ 0 ∷ 1 ∷ 4 ∷ 9 ∷ 1 ∷ 1 ∷ 3 ∷ 0 ∷ 1 ∷ 0 ∷ 0 ∷ 1 ∷ 0 ∷ 0 ∷ 2 ∷ 1 ∷ 4 ∷ 5 ∷ []; result = accepted (3 ∷ 1 ∷ 10 ∷ 6 ∷ 6 ∷ 16 ∷ 8 ∷ 8 ∷ 24 ∷ 1 ∷ 1 ∷ 1 ∷ 0 ∷ 1 ∷ 4 ∷ 9 ∷ 1 ∷ 2 ∷ 1 ∷ 0 ∷ 9 ∷ 4294967295 ∷ 1 ∷ 0 ∷ 0 ∷ []) }

-- K11: the first write value asks for the word that it is about to write
abbrev pub k11 : Case
k11 = record { book = 3 ∷ 1 ∷ 10 ∷ 4 ∷ 3 ∷ 14 ∷ 12 ∷ 4 ∷ 26 ∷ 4 ∷ 1 ∷ 1 ∷ 0 ∷ 0 ∷ 1 ∷ 1 ∷ 1 ∷ 0 ∷ 1 ∷ 0 ∷ 0 ∷ 1 ∷ 3 ∷ 1 ∷ 1 ∷ 1 ∷ 0 ∷ 1 ∷ 1 ∷ 4 ∷ []; result = refused (record { number = 9; place = 16 }) }

-- K12: the counter of the one lane that misses is spent
abbrev pub k12 : Case
k12 = record { book = 4 ∷ 1 ∷ 13 ∷ 4 ∷ 2 ∷ 17 ∷ 1 ∷ 3 ∷ 18 ∷ 12 ∷ 4 ∷ 30 ∷ 4 ∷ 1 ∷ 1 ∷ 0 ∷ 0 ∷ 4294967294 ∷ 1 ∷ 1 ∷ 1 ∷ 0 ∷ 1 ∷ 0 ∷ 0 ∷ 1 ∷ 2 ∷ 0 ∷ 1 ∷ 1 ∷ 0 ∷ 1 ∷ 1 ∷ 5 ∷ []; result = refused (record { number = 13; place = 3 }) }

abbrev pub cases : List Case
cases = k1 ∷ k2 ∷ k3 ∷ k4 ∷ k5 ∷ k6 ∷ k7 ∷ k8 ∷ k9 ∷ k10 ∷ k11 ∷ k12 ∷ []

abbrev pub CasesHold : Type 0
CasesHold = All (λ c. outcome dispatch_lends (bytes_of c.book) ≡ c.result) cases

-- K1's variable 1, and the lines that it prints
abbrev pub K1Column : Type 0
K1Column = (left dispatch_lends (bytes_of k1_words)).bindings 1 ≡ Some (40 ∷ 100 ∷ 100 ∷ 101 ∷ [])

abbrev pub K1Lines : Type 0
K1Lines = printed dispatch_lends (bytes_of k1_words) ≡ run 0 4 ∷ ins 0 (5 ∷ 100 ∷ []) ∷ ins 0 (8 ∷ 101 ∷ []) ∷ changed 0 ∷ table 0 3 ∷ counter 0 102 ∷ []

-- ## Demand 3 is not empty

abbrev pub k1_bytes : List ℕ
k1_bytes = bytes_of k1_words

-- the functions 0 to 7, and a log without end
abbrev pub k1_machine : Env
k1_machine = machine k1_bytes (λ _ _. apply) (λ _. true)

abbrev pub k1_run : ℕ → State
k1_run n = Steps.run k1_machine (counters (words_of k1_bytes)) (steps (words_of k1_bytes)) n

-- K1's bytes, the functions and K1's steps are such as demand 3 supposes, the claims hold of them, and lanes do ask there: lanes 1 and 2 for one row, lane 3 for another
pub record K1Demand3 : Type 0 where
  pub bytes : All Byte k1_bytes
  pub unrefused : book_refusal k1_bytes ≡ None
  pub answers : NeverStale k1_machine.answer
  pub fit : All (StepOk k1_machine.tables k1_machine.rules) (steps (words_of k1_bytes))
  pub claims : (n : ℕ) → Claims k1_machine (counters (words_of k1_bytes)) (steps (words_of k1_bytes)) n
  pub lane1 : In (asks (Steps.here 0 0 1) 0 (5 ∷ []) (5 ∷ 100 ∷ [])) (k1_run 1).trace
  pub lane2 : In (asks (Steps.here 0 0 2) 0 (5 ∷ []) (5 ∷ 100 ∷ [])) (k1_run 1).trace
  pub lane3 : In (asks (Steps.here 0 0 3) 0 (8 ∷ []) (8 ∷ 101 ∷ [])) (k1_run 1).trace
