-- The lines read from the words of an answer are the model's, family by family; `proofs/Prints` puts them together.
use Prim.Native.Nat.{ℕ, zero, suc, ◌+◌, ◌-◌, ◌<◌, ◌≤◌}
use Rattle.std.specs.Prelude.{◌≡◌, Bool, true, false, cond, take, drop, Some, slice_get}
use Rattle.std.proofs.Math.Path.{refl, sym, ap}
use Rattle.std.proofs.Common.{◌∙◌, add-zero}
use mathlib.Core.List.{List, [], ◌∷◌, ◌++◌, map, append-nil, append_assoc}
use Rattle.std.proofs.Math.Nat.{zero-sub}
use Rattle.std.proofs.Math.Numerals.{add-one}
use Rattle.std.proofs.Math.Decide.{dec_lt}
use native.Mathlib.Omega.{arith}
use Rattle.std.proofs.Math.Dec.{eqb}
use Rattle.std.proofs.Math.ListN.{length, get_or, length-append, length-map}
use Rattle.std.proofs.Math.Seq.{take-length}
use Rattle.model.specs.Basics.{iter, when, how_many, All}
use Rattle.model.specs.Book.Syntax.{Counter, next_of, Table, table_at}
use Rattle.model.specs.Book.Contents.{count, kind_of, group_of, first_of, members, table_count}
use Rattle.model.specs.Book.Decode.{read_table}
use Rattle.model.specs.Machine.State.{Record, record_size, Answer, survivors, predicted}
use Rattle.model.specs.Laws.Logic.{none_some, some_inj, at_length, All-at, All-map}
use Rattle.model.specs.Laws.Book.{table_is}
use Rattle.model.specs.Answer.{Body, table_body, counter_body, step_body, log_body, lay_out, flag}
use Rattle.model.specs.Printed.{Line, run, row, changed, table, counter, step_line, step_lines, record_line as line_of, record_lines as lines_of, table_lines, counter_lines}
use Rattle.record_log.specs.Log.{log_of, place_of}
use Rattle.record_log.specs.LogLaws.{kind_at, table_at_lem}
use Rattle.record_log.specs.Walk.{end_of}
use Rattle.record_log.specs.RecordLaws.{Sized, size_is, records_of, words_are, walk_records}
use Rattle.report.specs.declared.lines.Family.{Family}
use Rattle.report.specs.declared.lines.Family.TheVariants.{Steps, Tables, Counters}
use Rattle.report.specs.Lines.{numbered, record_line, body_of, entry_line, family_lines, log_body as last_body, record_lines, log_lines}
use Rattle.report.specs.Entries.{count_is, kind_is, body_is, word_is}

-- ## Lists

module _ {A : Type 0} where
  take_more : (xs : List A) (i : ℕ) (x : A) → slice_get xs i ≡ Some x → take (suc i) xs ≡ take i xs ++ (x ∷ [])
  take_more [] i x e = absurd (none_some e)
  take_more (y ∷ xs) zero x e = ap (λ (z : A). z ∷ []) (some_inj e)
  take_more (y ∷ xs) (suc i) x e = ap (λ (l : List A). y ∷ l) (take_more xs i x e)

  at_front : (xs ys : List A) (i : ℕ) (x : A) → slice_get xs i ≡ Some x → slice_get (xs ++ ys) i ≡ Some x
  at_front [] ys i x e = absurd (none_some e)
  at_front (y ∷ xs) ys zero x e = e
  at_front (y ∷ xs) ys (suc i) x e = at_front xs ys i x e

  at_end : (xs : List A) (x : A) → slice_get (xs ++ (x ∷ [])) (length xs) ≡ Some x
  at_end [] x = refl
  at_end (y ∷ xs) x = at_end xs x

  at_map : {B : Type 0} (f : A → B) (xs : List A) (i : ℕ) (d : A) → i < length xs → slice_get (map f xs) i ≡ Some (f (get_or xs i d))
  at_map f [] i d h = absurd (omega arith)
  at_map f (y ∷ xs) zero d h = refl
  at_map f (y ∷ xs) (suc i) d h = at_map f xs i d (omega arith)

at_least : (p : ℕ → Bool) (m n : ℕ) → m ≤ n → ((i : ℕ) → i < m → p i ≡ true) → m ≤ how_many p n
at_least p m zero h all = h
at_least p m (suc n) h all = elim (dec_lt m (suc n)) [ yes l ↦ more (p n) (at_least p m n (omega arith) all) | no l ↦ last (omega arith) (at_least p n n (omega arith) (λ i k. all i (omega arith))) ]
  where
    more : (b : Bool) → m ≤ how_many p n → m ≤ when b suc (how_many p n)
    more true k = omega arith
    more false k = k

    last : m ≡ suc n → n ≤ how_many p n → m ≤ when (p n) suc (how_many p n)
    last e k = rw (all n (omega arith)) (omega arith)

-- ## Lines of bodies, numbered

-- a line for each, numbered from k
unfoldable listed : {A : Type 0} → (ℕ → A → Line) → ℕ → List A → List Line
listed line k [] = []
listed line k (x ∷ xs) = line k x ∷ listed line (suc k) xs

unfoldable body_line : Family → ℕ → Body → List Line
body_line Steps k b = cond (eqb b.kind 6) (run k (get_or b.words 0 0) ∷ []) (cond (eqb b.kind 7) (row k (drop 1 b.words) ∷ []) [])
body_line Tables k b = cond (eqb b.kind 1) (table k (get_or b.words 3 0) ∷ []) []
body_line Counters k b = cond (eqb b.kind 2) (counter k (get_or b.words 0 0) ∷ []) []

module _ (f : Family) where
  unfoldable lined : ℕ → List Body → List Line
  lined k [] = []
  lined k (b ∷ bs) = body_line f k b ++ lined (k + length (body_line f k b)) bs

  lined_append : (k : ℕ) (xs ys : List Body) → lined k (xs ++ ys) ≡ lined k xs ++ lined (k + length (lined k xs)) ys
  unfolding lined
  lined_append k [] ys = ap (λ (n : ℕ). lined n ys) (sym (add-zero k))
  lined_append k (b ∷ xs) ys =
      let first = body_line f k b in
      let next = k + length first in
      let n : next + length (lined next xs) ≡ k + length (first ++ lined next xs) = omega (arith, length-append first (lined next xs)) in
      ap (λ (l : List Line). first ++ l) (lined_append next xs ys ∙ ap (λ (m : ℕ). lined next xs ++ lined m ys) n) ∙ sym (append_assoc first (lined next xs) (lined (k + length (first ++ lined next xs)) ys))

  lined_next : (k : ℕ) (xs ys : List Body) (ls ms : List Line) → lined k xs ≡ ls → lined (k + length ls) ys ≡ ms → lined k (xs ++ ys) ≡ ls ++ ms
  lined_next k xs ys ls ms e m = lined_append k xs ys ∙ rw e (ap (λ (l : List Line). ls ++ l) m)

  -- the entries of the bodies, laid out
  entry_line_lem : (bs : List Body) (k i : ℕ) (b : Body) → slice_get bs i ≡ Some b → entry_line (lay_out bs) f k i ≡ body_line f k b
  unfolding entry_line body_line
  entry_line_lem bs k i b e = same f (kind_is bs i b e) (body_is bs i b e)
    where
      same : (f : Family) → kind_of (lay_out bs) i ≡ b.kind → body_of (lay_out bs) i ≡ b.words → entry_line (lay_out bs) f k i ≡ body_line f k b
      same Steps h g = rw (h, g)
      same Tables h g = rw (h, g)
      same Counters h g = rw (h, g)

  numbered_lined : (bs : List Body) (i : ℕ) → i ≤ length bs → numbered (entry_line (lay_out bs) f) i ≡ lined 0 (take i bs)
  unfolding numbered lined
  numbered_lined bs zero h = refl
  numbered_lined bs (suc i) h =
      let p = at_length bs i (omega arith) in
      let b = p.0 in
      let front = lined 0 (take i bs) in
      let n : 0 + length front ≡ length front = omega arith in
      rw (numbered_lined bs i (omega arith), take_more bs i b p.1, entry_line_lem bs (length front) i b p.1)
      (sym (lined_append 0 (take i bs) (b ∷ []) ∙ rw (n, append-nil (body_line f (length front) b))))

  family_lined : (bs : List Body) → family_lines (lay_out bs) f ≡ lined 0 bs
  family_lined bs = rw (count_is bs) (numbered_lined bs (length bs) (omega arith) ∙ rw (take-length bs))

  -- bodies that give no line; bodies that give one each
  module _ {A : Type 0} (body : A → Body) where
    quiet : ((k : ℕ) (x : A) → body_line f k (body x) ≡ []) → (k : ℕ) (xs : List A) → lined k (map body xs) ≡ []
    unfolding lined
    quiet h k [] = refl
    quiet h k (x ∷ xs) = rw (h k x) (quiet h (k + 0) xs)

    voiced : (line : ℕ → A → Line) → ((k : ℕ) (x : A) → body_line f k (body x) ≡ line k x ∷ []) → (k : ℕ) (xs : List A) → lined k (map body xs) ≡ listed line k xs
    unfolding lined listed
    voiced line h k [] = refl
    voiced line h k (x ∷ xs) = rw (h k x, add-one k) (ap (λ (l : List Line). line k x ∷ l) (voiced line h (suc k) xs))

-- ## The bodies of an answer

steps_listed : (k : ℕ) (as' : List Answer) → listed step_line k as' ≡ step_lines k as'
unfolding listed
steps_listed k [] = refl
steps_listed k (a ∷ as') = ap (λ (l : List Line). step_line k a ∷ l) (steps_listed (suc k) as')

tables_listed : (k : ℕ) (ts : List Table) → listed (λ k t. table k (length t.rows)) k ts ≡ table_lines k ts
unfolding listed
tables_listed k [] = refl
tables_listed k (t ∷ ts) = ap (λ (l : List Line). table k (length t.rows) ∷ l) (tables_listed (suc k) ts)

counters_listed : (k : ℕ) (cs : List Counter) → listed (λ k c. counter k (next_of c)) k cs ≡ counter_lines k cs
unfolding listed
counters_listed k [] = refl
counters_listed k (c ∷ cs) = ap (λ (l : List Line). counter k (next_of c) ∷ l) (counters_listed (suc k) cs)

step_line_lem : (k : ℕ) (a : Answer) → body_line Steps k (step_body a) ≡ step_line k a ∷ []
unfolding body_line
step_line_lem k (survivors b live) = refl
step_line_lem k (predicted made words) = refl

no_table : (k : ℕ) (a : Answer) → body_line Tables k (step_body a) ≡ []
unfolding body_line
no_table k (survivors b live) = refl
no_table k (predicted made words) = refl

no_counter_lem : (k : ℕ) (a : Answer) → body_line Counters k (step_body a) ≡ []
unfolding body_line
no_counter_lem k (survivors b live) = refl
no_counter_lem k (predicted made words) = refl

lines_snoc : (rs : List Record) (r : Record) → lines_of (rs ++ (r ∷ [])) ≡ lines_of rs ++ (line_of r ∷ [])
lines_snoc [] r = refl
lines_snoc (x ∷ rs) r = ap (λ (l : List Line). line_of x ∷ l) (lines_snoc rs r)

-- a record of one of the tables, with as many words as its kind asks for
pub record Fits (ts : List Table) (r : Record) : Type 0 where
  pub table : r.table < length ts
  pub size : length r.words ≡ record_size (table_at ts r.table) r.kind

module _ (ts : List Table) (cs : List Counter) (as' : List Answer) (changes : Bool) (log : List Record) where
  abbrev front : List Body
  front = map table_body ts ++ map counter_body cs ++ map step_body as'

  abbrev last : Body
  last = log_body changes log

  abbrev bodies : List Body
  bodies = front ++ (last ∷ [])

  abbrev pub w : List ℕ
  w = lay_out bodies

  pub step_lines_lem : family_lines w Steps ≡ step_lines 0 as'
  unfolding body_line lined
  step_lines_lem =
      let t = quiet Steps table_body (λ k x. refl) 0 ts in
      let c = quiet Steps counter_body (λ k x. refl) 0 cs in
      let s = voiced Steps step_body step_line step_line_lem 0 as' ∙ steps_listed 0 as' in
      family_lined Steps bodies
      ∙ lined_next Steps 0 front (last ∷ []) (step_lines 0 as') [] (lined_next Steps 0 (map table_body ts ++ map counter_body cs) (map step_body as') [] (step_lines 0 as') (lined_next Steps 0 (map table_body ts) (map counter_body cs) [] [] t c) s) refl
      ∙ append-nil (step_lines 0 as')

  pub table_lines_lem : family_lines w Tables ≡ table_lines 0 ts
  unfolding body_line lined
  table_lines_lem =
      let ls = table_lines 0 ts in
      let n = 0 + length ls in
      let t = voiced Tables table_body (λ k u. table k (length u.rows)) (λ k x. refl) 0 ts ∙ tables_listed 0 ts in
      let end = append-nil ls in
      family_lined Tables bodies
      ∙ lined_next Tables 0 front (last ∷ []) ls [] (lined_next Tables 0 (map table_body ts ++ map counter_body cs) (map step_body as') ls [] (lined_next Tables 0 (map table_body ts) (map counter_body cs) ls [] t (quiet Tables counter_body (λ k x. refl) n cs) ∙ end) (quiet Tables step_body no_table n as') ∙ end) refl
      ∙ end

  pub counter_lines_lem : family_lines w Counters ≡ counter_lines 0 cs
  unfolding body_line lined
  counter_lines_lem =
      let ls = counter_lines 0 cs in
      let n = 0 + length ls in
      let t = quiet Counters table_body (λ k x. refl) 0 ts in
      let c = voiced Counters counter_body (λ k x. counter k (next_of x)) (λ k x. refl) 0 cs ∙ counters_listed 0 cs in
      let end = append-nil ls in
      family_lined Counters bodies
      ∙ lined_next Counters 0 front (last ∷ []) ls [] (lined_next Counters 0 (map table_body ts ++ map counter_body cs) (map step_body as') ls [] (lined_next Counters 0 (map table_body ts) (map counter_body cs) [] ls t c) (quiet Counters step_body no_counter_lem n as') ∙ end) refl
      ∙ end

  -- ## The log

  log_body_lem : last_body w ≡ last.words
  log_body_lem =
      let n : length bodies - 1 ≡ length front = omega (arith, length-append front (last ∷ [])) in
      rw (count_is bodies, n) (body_is bodies (length front) last (at_end front last))

  table_body_lem : (t : ℕ) → t < length ts → slice_get bodies t ≡ Some (table_body (table_at ts t))
  table_body_lem t h =
      let b = table_body (table_at ts t) in
      at_front front (last ∷ []) t b (at_front (map table_body ts ++ map counter_body cs) (map step_body as') t b (at_front (map table_body ts) (map counter_body cs) t b (at_map table_body ts t _ h)))

  many_tables : length ts ≤ table_count w
  unfolding members
  many_tables = at_least (λ i. eqb (group_of w i) 1) (length ts) (count w) enough (λ i h. rw (kind_is bodies i (table_body (table_at ts i)) (table_body_lem i h)))
    where
      enough : length ts ≤ count w
      enough = rw (count_is bodies) (omega (arith, length-append front (last ∷ []), length-append (map table_body ts ++ map counter_body cs) (map step_body as'), length-append (map table_body ts) (map counter_body cs), length-map ts table_body))

  module _ (t : ℕ) (h : t < length ts) where
    abbrev B : Body
    B = table_body (table_at ts t)

    keys_are : (read_table w (first_of w t)).keys ≡ (table_at ts t).keys
    unfolding read_table
    keys_are = ap (λ (p : ℕ). get_or w p 0) (sym (add-zero (first_of w t))) ∙ word_is bodies t B (table_body_lem t h) 0

    vals_are : (read_table w (first_of w t)).vals ≡ (table_at ts t).vals
    unfolding read_table
    vals_are = word_is bodies t B (table_body_lem t h) 1

  sized : (r : Record) → Fits ts r → Sized w r
  sized r f =
      let known : r.table < table_count w = omega (arith, many_tables, f.table) in
      record { table = known; size = f.size ∙ sym (rw (table_is w r.table known, keys_are r.table f.table, vals_are r.table f.table)) }

  module _ (fit : All (Fits ts) log) where
    abbrev all_sized : All (Sized w) log
    all_sized = All-map sized log fit

    abbrev ws : List ℕ
    ws = records_of log

    no_zeros : log_of log 0 ≡ ws
    unfolding log_of
    no_zeros = rw zero-sub (append-nil ws)

    module _ (n : ℕ) (r : Record) (e : slice_get log n ≡ Some r) where
      abbrev place : ℕ
      place = place_of log n

      kind_here : get_or ws place 0 ≡ r.kind
      kind_here = rw no_zeros at (kind_at log n r e 0)

      table_here : get_or ws (place + 1) 0 ≡ r.table
      table_here = rw no_zeros at (table_at_lem log n r e 0)

      end_here : end_of w ws place ≡ place + 2 + length r.words
      unfolding end_of
      end_here = rw (kind_here, table_here) (ap (λ (k : ℕ). place + 2 + k) (sym (size_is (All-at (Sized w) log n all_sized e))))

      record_line_lem : record_line ws place (end_of w ws place) ≡ line_of r
      unfolding record_line
      record_line_lem =
          let k : end_of w ws place - (place + 2) ≡ length r.words = omega (arith, end_here) in
          rw (kind_here, table_here, k, words_are w log all_sized n r e (length r.words) refl)

    so_far : (n : ℕ) → n ≤ length log → iter (λ i ls. ls ++ (record_line ws (place_of log i) (end_of w ws (place_of log i)) ∷ [])) n [] ≡ lines_of (take n log)
    so_far zero h = refl
    so_far (suc n) h =
        let p = at_length log n (omega arith) in
        rw (so_far n (omega arith), record_line_lem n p.0 p.1, take_more log n p.0 p.1) (sym (lines_snoc (take n log) p.0))

    record_lines_lem : record_lines w ws ≡ lines_of log
    unfolding record_lines
    record_lines_lem = walk_records w log all_sized (λ p ls. ls ++ (record_line ws p (end_of w ws p) ∷ [])) [] ∙ so_far (length log) (omega arith) ∙ rw (take-length log)

    pub log_lines_lem : log_lines w ≡ lines_of log ++ (changed (flag changes) ∷ [])
    unfolding log_lines
    log_lines_lem = rw (log_body_lem, record_lines_lem)
