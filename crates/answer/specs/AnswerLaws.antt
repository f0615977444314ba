-- The answer that the code assembles is the model's, where its words say what the model's tables and state do.
use Rattle.std.specs.Prelude.{ℕ, zero, suc, ◌+◌, ◌-◌, ◌^◌, ◌<◌, ◌≤◌, ◌≡◌, Bool, drop, None, Ok, Err}
use Rattle.std.proofs.Math.Path.{refl, ap}
use Rattle.std.proofs.Common.{sym, ◌∙◌, arith, length-take, take-append-drop, take-suc, take_at, drop_at, get_or-take}
use Rattle.std.proofs.Math.Bool.{true, false, cond}
use mathlib.Core.List.{List, [], ◌∷◌, ◌++◌, map, map-append, reverse, append_assoc, append-nil}
use Rattle.std.proofs.Math.Dec.{leb}
use borrow.Author.Tests.{leb-true}
use Rattle.std.proofs.Math.ListN.{length, get_or, take, replicate, length-append, get_or-map}
use Rattle.std.proofs.lemmas.List.{length-map}
use Rattle.std.proofs.Math.Seq.{take-length, split_at}
use Rattle.model.specs.Basics.{tab, join, All}
use Rattle.model.specs.Book.Syntax.{Table, width, table_at}
use Rattle.model.specs.Book.Contents.{kind_of, first_of, contents_refusal, table_count, counter_count, step_count, first_step}
use Rattle.model.specs.Book.Decode.{part, read_table}
use Rattle.model.specs.Book.Read.{bodies_refusal, tables}
use Rattle.model.specs.Machine.State.{State, Record, Answer, predicted}
use Rattle.model.specs.Commit.{commit}
use Rattle.model.specs.Answer.{Body, lay_out, table_body, counter_body, step_body, log_body, record_words, flag, answer, row_words}
use Rattle.model.specs.Laws.Logic.{All-get_or}
use Rattle.model.specs.Laws.Lists.{length_tab, get_or_tab}
use Rattle.model.specs.Laws.Book.{width_of, table_is}
use Rattle.words.specs.Filled.{tab_agree}
use Rattle.counter.specs.CounterLaws as counter
use Rattle.commit.specs.Commit.{Left, committed_rows}
use Rattle.commit.specs.Laid.{length_join}
use Rattle.record_log.specs.RecordLaws.{Sized, records_of}
use Rattle.commit.specs.CommitLaws.{all_rows, WideTable, whole, row_words_lem, commit_length, commit_kept, commit_wide, committed_is, rows_first, count_at}
use Rattle.refusal.specs.declared.Refusal.TheVariants.{AnswerFull}
use Rattle.answer.specs.Sums.{sum, sum_none, sum_suc}
use Rattle.step_bodies.specs.Runs.{join_snoc, join_append}
use Rattle.answer.specs.Layout.{step_kind, rows_length, Results, table_of, counter_of, length_of, step_of, log_of, bodies, whole_length, answered, assembled, assembled_length, contents_of, Enough}
use Rattle.answer.specs.LayoutLaws.{all_sum, steps_sum as entries-sum}
use Rattle.answer.specs.BodyLaws.{Fits, whole_is, tab_get_or}
use Rattle.answer.specs.Scratch.{Scratch, scratch_front, scratch_zeros}

-- ## Lists by an index

map_tab : {A B : Type 0} (f : A → B) (g : ℕ → A) (n : ℕ) → map f (tab g n) ≡ tab (λ k. f (g k)) n
unfolding tab
map_tab f g zero = refl
map_tab f g (suc n) = map-append f (tab g n) (g n ∷ []) ∙ ap (λ l. l ++ (f (g n) ∷ [])) (map_tab f g n)

tab_map : {A B : Type 0} (f : ℕ → B) (g : A → B) (d : A) (xs : List A) (n : ℕ) → length xs ≡ n → ((i : ℕ) → i < n → f i ≡ g (get_or xs i d)) → tab f n ≡ map g xs
tab_map f g d xs n e h =
    tab_agree f (λ i. g (get_or xs i d)) n h ∙ ap (tab (λ i. g (get_or xs i d))) (sym e) ∙ sym (map_tab g (λ i. get_or xs i d) (length xs)) ∙ ap (map g) (tab_get_or d xs)

get_or_mapped : {A B : Type 0} (f : A → B) (xs : List A) (k : ℕ) (d : A) (e : B) → k < length xs → get_or (map f xs) k e ≡ f (get_or xs k d)
get_or_mapped f [] k d e h = absurd (omega arith)
get_or_mapped f (x ∷ xs) zero d e h = refl
get_or_mapped f (x ∷ xs) (suc k) d e h = get_or_mapped f xs k d e (omega arith)

-- lists one after the other: f k is the length of list k
module _ (ls : List (List ℕ)) (f : ℕ → ℕ) (sized : (k : ℕ) → k < length ls → f k ≡ length (get_or ls k [])) where
  sum_lengths : (k : ℕ) → k ≤ length ls → sum f k ≡ length (join (take k ls))
  sum_lengths zero h = sum_none f
  sum_lengths (suc k) h = sum_suc f k ∙ rw (take-suc ls k [] h, join_snoc (take k ls) (get_or ls k []), length-append (join (take k ls)) (get_or ls k []), sum_lengths k (omega arith), sized k h)

  sum_all : sum f (length ls) ≡ length (join ls)
  sum_all = sum_lengths (length ls) (omega arith) ∙ ap (λ (x : List (List ℕ)). length (join x)) (take-length ls)

  -- list k stands where the lengths say
  part_at : (rest : List ℕ) (k : ℕ) → k < length ls → part (join ls ++ rest) (sum f k) (f k) ≡ get_or ls k []
  part_at rest k h =
      let x = get_or ls k [] in
      let more = join (drop (suc k) ls) in
      let e : join ls ++ rest ≡ join (take k ls) ++ (x ++ (more ++ rest)) =
      ap (λ (l : List ℕ). l ++ rest) (ap join (split_at ls k [] h) ∙ join_append (take k ls) (x ∷ drop (suc k) ls))
      ∙ append_assoc (join (take k ls)) (x ++ more) rest ∙ ap (λ (l : List ℕ). join (take k ls) ++ l) (append_assoc x more rest) in
      rw (e, drop_at (join (take k ls)) (x ++ (more ++ rest)) (sum f k) (sym (sum_lengths k (omega arith)))) (take_at x (more ++ rest) (f k) (sym (sized k h)))

body_is : (b : Body) (k : ℕ) (ws : List ℕ) → k ≡ b.kind → ws ≡ b.words → record { kind = k; words = ws } ≡ b
body_is b k ws e f = ap (λ (x : ℕ). record { kind = x; words = ws }) e ∙ ap (λ (x : List ℕ). record { kind = b.kind; words = x }) f

-- ## What the words have to say

-- of the tables us: their sizes are the book's, and their rows stand one table after the other
pub record Tabled (w counts rows : List ℕ) (us : List Table) : Type 0 where
  pub many : length us ≡ table_count w
  pub keys : (t : ℕ) → t < table_count w → (table_at us t).keys ≡ get_or w (first_of w t) 0
  pub vals : (t : ℕ) → t < table_count w → (table_at us t).vals ≡ get_or w (first_of w t + 1) 0
  pub merge : (t : ℕ) → t < table_count w → (table_at us t).merge ≡ get_or w (first_of w t + 2) 0
  pub counted : (t : ℕ) → t < table_count w → get_or counts t 0 ≡ length (table_at us t).rows
  pub wide : All WideTable us
  pub stand : take (length (all_rows us)) rows ≡ all_rows us

-- the words of a step's body
abbrev pub step_words : Answer → List ℕ
step_words a = (step_body a).words

-- of the state that a run left
pub record Told (r : Results) (s : State) : Type 0 where
  pub counters : length s.counters ≡ counter_count r.book
  pub next : r.next ≡ counter.padded s.counters
  pub kinds : map (λ (a : Answer). (step_body a).kind) (reverse s.answers) ≡ tab (λ k. step_kind (kind_of r.book (first_step r.book + k))) (step_count r.book)
  pub lengths : take (step_count r.book) r.lengths ≡ map (λ (a : Answer). length (step_words a)) (reverse s.answers)
  pub steps : r.steps ≡ join (map step_words (reverse s.answers))
  pub changed : r.changed ≡ s.changed
  pub log : r.log ≡ join (map record_words s.log)

-- ## The tables

module _ (w counts rows : List ℕ) (us : List Table) (h : Tabled w counts rows us) where
  abbrev lists : List (List ℕ)
  lists = map (λ (T : Table). join T.rows) us

  lists_many : length lists ≡ table_count w
  lists_many = length-map us (λ (T : Table). join T.rows) ∙ h.many

  list_at_lem : (t : ℕ) → get_or lists t [] ≡ join (table_at us t).rows
  list_at_lem t = get_or-map (λ (T : Table). join T.rows) us t (record { keys = 0; vals = 0; merge = 0; rows = [] })

  rows_sized : (t : ℕ) → t < length lists → rows_length w counts t ≡ length (get_or lists t [])
  rows_sized t l =
      let m : t < table_count w = omega (arith, lists_many) in
      let e : width (table_at us t) ≡ width_of w t = rw (h.keys t m, h.vals t m) in
      rw (list_at_lem t, h.counted t m, ← e) (sym (length_join (width (table_at us t)) (table_at us t).rows (All-get_or WideTable us t (record { keys = 0; vals = 0; merge = 0; rows = [] }) h.wide tt)))

  pub rows_sum : sum (rows_length w counts) (table_count w) ≡ length (all_rows us)
  rows_sum = ap (sum (rows_length w counts)) (sym lists_many) ∙ sum_all lists (rows_length w counts) rows_sized

  pub rows_fit : sum (rows_length w counts) (table_count w) ≤ length rows
  rows_fit = omega (arith, rows_sum, ap length h.stand, length-take (length (all_rows us)) rows)

  rows_at : (t : ℕ) → t < table_count w → part rows (sum (rows_length w counts) t) (rows_length w counts t) ≡ join (table_at us t).rows
  rows_at t l =
      let e : rows ≡ all_rows us ++ drop (length (all_rows us)) rows = sym (ap (λ (x : List ℕ). x ++ drop (length (all_rows us)) rows) (sym h.stand) ∙ take-append-drop (length (all_rows us)) rows) in
      ap (λ (x : List ℕ). part x (sum (rows_length w counts) t) (rows_length w counts t)) e
      ∙ part_at lists (rows_length w counts) rows_sized (drop (length (all_rows us)) rows) t (omega (arith, lists_many)) ∙ list_at_lem t

-- ## The whole

module _ (r : Results) (us : List Table) (s : State) (h : Tabled r.book r.counts r.rows us) (g : Told r s) where
  abbrev w : List ℕ
  w = r.book

  abbrev answers : List Answer
  answers = reverse s.answers

  tables_are : tab (table_of r) (table_count w) ≡ map table_body us
  tables_are = tab_map (table_of r) table_body (record { keys = 0; vals = 0; merge = 0; rows = [] }) us (table_count w) h.many
      (λ t l. body_is (table_body (table_at us t)) 1 _ refl (rw (rows_at w r.counts r.rows us h t l, h.keys t l, h.vals t l, h.merge t l, h.counted t l)))

  next_at : (c : ℕ) → c < counter_count w → get_or r.next c 0 ≡ get_or s.counters c 0
  next_at c l = rw g.next (counter.get_or_padded s.counters c (omega (arith, g.counters)))

  counters_are : tab (counter_of r) (counter_count w) ≡ map counter_body s.counters
  counters_are = tab_map (counter_of r) counter_body 0 s.counters (counter_count w) g.counters (λ c l. ap (λ (x : ℕ). record { kind = 2; words = x ∷ [] }) (next_at c l))

  steps_many : length answers ≡ step_count w
  steps_many = sym (length-map answers (λ (a : Answer). (step_body a).kind)) ∙ ap length g.kinds ∙ length_tab (λ k. step_kind (kind_of w (first_step w + k))) (step_count w)

  lists_of : length (map step_words answers) ≡ step_count w
  lists_of = length-map answers step_words ∙ steps_many

  step_at : (k : ℕ) → k < step_count w → get_or (map step_words answers) k [] ≡ step_words (get_or answers k (predicted false []))
  step_at k l = get_or_mapped step_words answers k (predicted false []) [] (omega (arith, steps_many))

  steps_sized : (k : ℕ) → k < length (map step_words answers) → length_of r k ≡ length (get_or (map step_words answers) k [])
  steps_sized k l =
      let m : k < step_count w = omega (arith, lists_of) in
      sym (get_or-take (step_count w) r.lengths k 0 m) ∙ ap (λ (x : List ℕ). get_or x k 0) g.lengths ∙ get_or_mapped (λ (a : Answer). length (step_words a)) answers k (predicted false []) 0 (omega (arith, steps_many)) ∙ ap length (sym (step_at k m))

  pub steps_sum : sum (length_of r) (step_count w) ≡ length r.steps
  steps_sum = ap (sum (length_of r)) (sym lists_of) ∙ sum_all (map step_words answers) (length_of r) steps_sized ∙ ap length (sym g.steps)

  words_at_lem : (k : ℕ) → k < step_count w → part r.steps (sum (length_of r) k) (length_of r k) ≡ step_words (get_or answers k (predicted false []))
  words_at_lem k l =
      ap (λ (x : List ℕ). part x (sum (length_of r) k) (length_of r k)) (g.steps ∙ sym (append-nil (join (map step_words answers))))
      ∙ part_at (map step_words answers) (length_of r) steps_sized [] k (omega (arith, lists_of)) ∙ step_at k l

  kind_at : (k : ℕ) → k < step_count w → step_kind (kind_of w (first_step w + k)) ≡ (step_body (get_or answers k (predicted false []))).kind
  kind_at k l =
      sym (get_or_tab (λ k. step_kind (kind_of w (first_step w + k))) (step_count w) k 0 l) ∙ ap (λ (x : List ℕ). get_or x k 0) (sym g.kinds)
      ∙ get_or_mapped (λ (a : Answer). (step_body a).kind) answers k (predicted false []) 0 (omega (arith, steps_many))

  steps_are : tab (step_of r) (step_count w) ≡ map step_body answers
  steps_are = tab_map (step_of r) step_body (predicted false []) answers (step_count w) steps_many (λ k l. body_is (step_body (get_or answers k (predicted false []))) _ _ (kind_at k l) (words_at_lem k l))

  log_is : log_of r ≡ log_body s.changed s.log
  log_is = ap (λ (x : Bool). record { kind = 8; words = flag x ∷ r.log }) g.changed ∙ ap (λ (x : List ℕ). record { kind = 8; words = flag s.changed ∷ x }) g.log

  pub answer_is : lay_out (bodies r) ≡ answer us s
  unfolding bodies answer
  answer_is = rw (tables_are, counters_are, steps_are, log_is)

  pub fits_all : Fits r
  unfolding counter.padded
  fits_all = record { rows = rows_fit w r.counts r.rows us h; counters = rw g.next (omega (arith, g.counters, length-append s.counters (replicate (16 - length s.counters) 0))); steps = steps_sum }

  pub length_is : whole_length r ≡ length (answer us s)
  length_is = whole_is r fits_all ∙ ap length answer_is

-- ## What `assemble` leaves, in the model's terms

-- the same with other words for the steps'
abbrev pub with_steps : List ℕ → Results → Results
with_steps x r = record { book = r.book; counts = r.counts; rows = r.rows; next = r.next; lengths = r.lengths; steps = x; changed = r.changed; log = r.log }

length_same : (x : List ℕ) (r : Results) → whole_length (with_steps x r) ≡ whole_length r
unfolding whole_length
length_same x r = refl

-- the step bodies stand at the front of b, as the run left them
module _ (r : Results) (us : List Table) (s : State) (h : Tabled r.book r.counts r.rows us) (g : Told r s)
    (b : List ℕ) (k : ℕ) (many : k ≡ length r.steps) (scratch : Scratch r.steps b) where
  pub enough : length r.rows ≤ 16384 → length r.log ≤ 16384 → k < 2 ^ 31 → Enough (with_steps (take k b) r) k b
  enough few logged small = record { rows = rows_fit r.book r.counts r.rows us h; few = few; logged = logged; stepped = steps_sum r us s h g ∙ sym many; small = small; zeros = scratch_zeros r.steps b scratch k many }

  whole_length_lem : whole_length (with_steps (take k b) r) ≡ length (answer us s)
  whole_length_lem = length_same (take k b) r ∙ length_is r us s h g

  pub assembled_length_lem : assembled_length (with_steps (take k b) r) (length b) ≡ cond (leb (length (answer us s)) (length b)) (Ok (length (answer us s))) (Err AnswerFull)
  unfolding assembled_length
  assembled_length_lem = rw whole_length_lem

  k_within : k ≤ length (answer us s)
  unfolding whole_length
  k_within =
      let w = r.book in
      rw (← length_is r us s h g) (omega (arith, many, steps_sum r us s h g, all_sum w r.counts r.lengths (length r.log) (contents_of w), entries-sum w r.counts r.lengths (length r.log) (contents_of w)))

  pub assembled_is : assembled (with_steps (take k b) r) b ≡ cond (leb (length (answer us s)) (length b)) (answer us s ++ replicate (length b - length (answer us s)) 0) b
  unfolding assembled answered
  assembled_is = rw whole_length_lem (by (leb (length (answer us s)) (length b)) refl)
    where
      by : (c : Bool) → leb (length (answer us s)) (length b) ≡ c → cond c (lay_out (bodies (with_steps (take k b) r)) ++ replicate (length b - length (answer us s)) 0) b ≡ cond c (answer us s ++ replicate (length b - length (answer us s)) 0) b
      by false e = refl
      by true e =
          let l : k ≤ length b = omega (arith, k_within, leb-true (length (answer us s)) (length b) e) in
          ap (λ (x : List ℕ). lay_out (bodies (with_steps x r)) ++ replicate (length b - length (answer us s)) 0) (scratch_front r.steps b scratch k many l) ∙ rw (answer_is r us s h g)

-- ## What the commit leaves

module _ (w : List ℕ) (no_contents : contents_refusal w ≡ None) (no_bodies : bodies_refusal w ≡ None) (rs : List Record) (sized : All (Sized w) rs) (base : List ℕ) (room : row_words (commit rs (tables w) 0) ≤ length base) where
  abbrev ts : List Table
  ts = commit rs (tables w) 0

  abbrev done : Left
  done = committed_rows w (table_count w) (records_of rs) base

  done_is : done ≡ whole base ts (row_words ts)
  done_is = committed_is w no_contents no_bodies rs sized base room

  pub committed_tabled : Tabled w done.result.counts done.words ts
  unfolding read_table
  committed_tabled = record {
    many = commit_length w no_contents no_bodies rs sized;
    keys = λ t l. (commit_kept w no_contents no_bodies rs sized t l).keys ∙ ap (λ (T : Table). T.keys) (table_is w t l);
    vals = λ t l. (commit_kept w no_contents no_bodies rs sized t l).vals ∙ ap (λ (T : Table). T.vals) (table_is w t l);
    merge = λ t l. (commit_kept w no_contents no_bodies rs sized t l).merge ∙ ap (λ (T : Table). T.merge) (table_is w t l);
    counted = λ t l. ap (λ (c : Left). get_or c.result.counts t 0) done_is ∙ count_at base ts (row_words ts) t;
    wide = commit_wide w no_contents no_bodies rs sized;
    stand = ap (λ (c : Left). take (length (all_rows ts)) c.words) done_is ∙ ap (λ (n : ℕ). take n (whole base ts (row_words ts)).words) (sym (row_words_lem ts (commit_wide w no_contents no_bodies rs sized))) ∙ rows_first base ts (row_words ts) (row_words_lem ts (commit_wide w no_contents no_bodies rs sized));
  }
