-- How long a text is: the lines of an answer have at most 11 bytes for each of its words, and the line of a refusal has 53 at most.
use Rattle.std.specs.Prelude.{ℕ, zero, suc, ◌+◌, ◌*◌, ◌/◌, ◌%◌, ◌^◌, ◌<◌, ◌≤◌, ◌≡◌, refl, Bool, true, false, cond, List, [], ◌∷◌, ◌++◌, map, ltb, eqb, get_or, take, drop, set}
use Rattle.std.proofs.Common.{sym, ap, ◌∙◌, pow-suc, add-zero, lt-ltb, le-ltb, take-append-drop, drop_of_length-le, length-append, length-set}
use Rattle.std.proofs.Math.Seq.{length-sets}
use Rattle.std.proofs.lemmas.List.{length-take-le}
use Rattle.std.proofs.Math.Decide.{dec_lt}
use native.Mathlib.Omega.{arith}
use Rattle.std.proofs.Math.ListN.{length}
use Rattle.std.proofs.lemmas.List.Edits.{sets, sets-eq}
use Rattle.model.specs.Basics.{join, how_many, All}
use Rattle.model.specs.Book.Syntax.{Counter, next_of, Table}
use Rattle.model.specs.Machine.State.{Record, Answer, survivors, predicted}
use Rattle.model.specs.Answer.{Body, contents_from, lay_out, flag, table_body, counter_body, step_body, log_body, record_words}
use Rattle.model.specs.Printed.{Line, run, row, ins, del, changed, table, counter, refused, step_lines, record_line, record_lines, table_lines, counter_lines}
use Rattle.model.specs.Laws.Logic.{All-left, All-right}
use Rattle.report.specs.Text.{digits, field, fields, run_name, row_name, ins_name, del_name, changed_name, table_name, counter_name, refused_name, at_name, line_bytes, text, up_to, pushed, appended}
use Rattle.report.specs.TextLaws.{appended_append, text_append, text_one}

-- ## A text that has room

pub stored : (bs l : List ℕ) (n : ℕ) → n + length bs ≤ length l → appended bs (up_to l n) ≡ up_to (sets l n bs) (n + length bs)
unfolding appended pushed
stored [] l n h = rw (add-zero n)
stored (b ∷ bs) l n h =
    let one : n + 1 ≡ suc n = omega arith in
    let e : suc n + length bs ≡ n + suc (length bs) = omega arith in
    rw (lt-ltb n (length l) (omega arith), one) (stored bs (set l n b) (suc n) (omega (arith, length-set l n b)) ∙ ap (λ (k : ℕ). up_to (sets (set l n b) (suc n) bs) k) e)

-- it stands at the front of the buffer
pub text_fits : (bs l : List ℕ) → length bs ≤ length l → appended bs (up_to l 0) ≡ up_to (bs ++ drop (length bs) l) (length bs)
text_fits bs l h =
    let e : 0 + length bs ≡ length bs = omega arith in
    stored bs l 0 (omega arith) ∙ rw e (ap (λ (x : List ℕ). up_to x (length bs)) (sets-eq bs l 0 (omega arith) ∙ rw e))

-- ## A text that is cut off

-- a full buffer takes nothing
pub full : (bs l : List ℕ) (at : ℕ) → length l ≤ at → appended bs (up_to l at) ≡ up_to l at
unfolding appended pushed
full [] l at h = refl
full (b ∷ bs) l at h = rw (le-ltb at (length l) h) (full bs l at h)

-- the bytes that have room stand there, and the others change nothing
pub cut : (bs l : List ℕ) (at n : ℕ) → n ≤ length bs → at + n ≤ length l → (n < length bs → at + n ≡ length l) → appended bs (up_to l at) ≡ up_to (sets l at (take n bs)) (at + n)
unfolding appended
cut bs l at n long room more =
    let front = take n bs in
    let size = length-take-le n bs long in
    let first = ap (λ (b : List ℕ). appended b (up_to l at)) (sym (take-append-drop n bs)) ∙ appended_append front (drop n bs) (up_to l at) ∙ ap (appended (drop n bs)) (stored front l at (omega (arith, size))) in
    first ∙ rw size (elim (dec_lt n (length bs)) [
      | yes h ↦ full (drop n bs) (sets l at front) (at + n) (omega (arith, more h, length-sets l at front))
      | no h ↦ rw (drop_of_length-le bs {i = n} (omega arith)) refl
    ])

-- ## Numbers below 10 ^ 10 have ten digits at most

abbrev pub Small : ℕ → Type 0
Small n = n < 10 ^ 10

length_digits : (d k n : ℕ) → n < 10 ^ suc k → length (digits d n) ≤ suc k
unfolding digits
length_digits zero k n h = omega arith
length_digits (suc d) zero n h =
    let l : n < 10 = h in
    rw (lt-ltb n 10 l) (omega arith)
length_digits (suc d) (suc k) n h = elim (dec_lt n 10) [ yes l ↦ rw (lt-ltb n 10 l) (omega arith) | no l ↦ more (omega arith) (length_digits d k (n / 10) less) ]
  where
    less : n / 10 < 10 ^ suc k
    less = let e : 10 ^ suc (suc k) ≡ 10 ^ suc k * 10 = pow-suc 10 (suc k) in omega arith

    more : 10 ≤ n → length (digits d (n / 10)) ≤ suc k → length (cond (ltb n 10) ((48 + n) ∷ []) (digits d (n / 10) ++ ((48 + n % 10) ∷ []))) ≤ suc (suc k)
    more l i = rw (le-ltb n 10 l) (omega (arith, length-append (digits d (n / 10)) ((48 + n % 10) ∷ [])))

short_field : (n : ℕ) → Small n → length (field n) ≤ 11
short_field n h = omega (arith, length_digits 20 9 n h)

short_fields : (ns : List ℕ) → All Small ns → length (fields ns) ≤ 11 * length ns
unfolding fields
short_fields [] h = omega arith
short_fields (n ∷ ns) h = omega (arith, short_field n h.0, short_fields ns h.1, length-append (field n) (fields ns))

-- a line of a name of at most seven bytes
short_named : (name ns : List ℕ) → All Small ns → length (name ++ fields ns ++ (10 ∷ [])) ≤ length name + 11 * length ns + 1
short_named name ns h = omega (arith, length-append (name ++ fields ns) (10 ∷ []), length-append name (fields ns), short_fields ns h)

length_text : (l : Line) (ls : List Line) → length (text (l ∷ ls)) ≡ length (line_bytes l) + length (text ls)
unfolding text
length_text l ls = length-append (line_bytes l) (text ls)

-- ## The line of a refusal

most_digits : (d n : ℕ) → length (digits d n) ≤ d
unfolding digits
most_digits zero n = omega arith
most_digits (suc d) n = by (ltb n 10) (most_digits d (n / 10))
  where
    by : (b : Bool) → length (digits d (n / 10)) ≤ d → length (cond b ((48 + n) ∷ []) (digits d (n / 10) ++ ((48 + n % 10) ∷ []))) ≤ suc d
    by true h = omega arith
    by false h = omega (arith, length-append (digits d (n / 10)) ((48 + n % 10) ∷ []))

-- two names, two numbers of 20 digits at most, two blanks, a line feed
pub refused_short : (n p : ℕ) → length (text (refused n p ∷ [])) ≤ 53
unfolding line_bytes
refused_short n p =
    let a = refused_name ++ field n in
    rw (text_one (refused n p)) (omega (arith, most_digits 20 n, most_digits 20 p, length-append (a ++ at_name ++ field p) (10 ∷ []), length-append (a ++ at_name) (field p), length-append a at_name, length-append refused_name (field n)))

-- ## Bodies: three words of contents each, and their own

unfoldable size : List Body → ℕ
size [] = 0
size (b ∷ bs) = 3 + length b.words + size bs

size_append : (as' bs : List Body) → size (as' ++ bs) ≡ size as' + size bs
unfolding size
size_append [] bs = omega arith
size_append (a ∷ as') bs = omega (arith, size_append as' bs)

laid_out : (p : ℕ) (bs : List Body) → length (contents_from p bs ++ join (map (λ (b : Body). b.words) bs)) ≡ size bs
unfolding size
laid_out p [] = refl
laid_out p (b ∷ bs) =
    let c = contents_from (p + length b.words) bs in
    let ws = join (map (λ (x : Body). x.words) bs) in
    omega (arith, laid_out (p + length b.words) bs, length-append c ws, length-append c (b.words ++ ws), length-append b.words ws)

abbrev SmallBody : Body → Type 0
SmallBody b = All Small b.words

small_bodies : (bs : List Body) → All Small (join (map (λ (b : Body). b.words) bs)) → All SmallBody bs
small_bodies [] h = tt
small_bodies (b ∷ bs) h = (All-left Small b.words (join (map (λ (x : Body). x.words) bs)) h, small_bodies bs (All-right Small b.words (join (map (λ (x : Body). x.words) bs)) h))

-- ## The parts of an answer

steps_short : (k : ℕ) (as' : List Answer) → All SmallBody (map step_body as') → k + length as' ≤ 10 ^ 10 → length (text (step_lines k as')) ≤ 11 * size (map step_body as')
unfolding text line_bytes size
steps_short k [] h f = omega arith
steps_short k (survivors b live ∷ as') h f =
    let n = how_many (λ i. get_or live i false) (length live) in
    omega (arith, length_text (run k n) (step_lines (suc k) as'), short_named run_name (k ∷ n ∷ []) (omega arith, (h.0.0, tt)), steps_short (suc k) as' h.1 (omega arith))
steps_short k (predicted made ws ∷ as') h f =
    omega (arith, length_text (row k ws) (step_lines (suc k) as'), short_named row_name (k ∷ ws) (omega arith, h.0.1), steps_short (suc k) as' h.1 (omega arith))

tables_short : (k : ℕ) (ts : List Table) → All SmallBody (map table_body ts) → k + length ts ≤ 10 ^ 10 → length (text (table_lines k ts)) ≤ 11 * size (map table_body ts)
unfolding text line_bytes size
tables_short k [] h f = omega arith
tables_short k (t ∷ ts) h f =
    let n = length t.rows in
    omega (arith, length_text (table k n) (table_lines (suc k) ts), short_named table_name (k ∷ n ∷ []) (omega arith, (h.0.1.1.1.0, tt)), tables_short (suc k) ts h.1 (omega arith))

counters_short : (k : ℕ) (cs : List Counter) → All SmallBody (map counter_body cs) → k + length cs ≤ 10 ^ 10 → length (text (counter_lines k cs)) ≤ 11 * size (map counter_body cs)
unfolding text line_bytes size
counters_short k [] h f = omega arith
counters_short k (c ∷ cs) h f =
    omega (arith, length_text (counter k (next_of c)) (counter_lines (suc k) cs), short_named counter_name (k ∷ next_of c ∷ []) (omega arith, (h.0.0, tt)), counters_short (suc k) cs h.1 (omega arith))

record_short : (r : Record) → All Small (record_words r) → length (line_bytes (record_line r)) ≤ 11 * length (record_words r)
unfolding line_bytes
record_short r h = by (eqb r.kind 1)
  where
    by : (b : Bool) → length (line_bytes (cond b (del r.table r.words) (ins r.table r.words))) ≤ 11 * length (record_words r)
    by true = omega (arith, short_named del_name (r.table ∷ r.words) h.1)
    by false = omega (arith, short_named ins_name (r.table ∷ r.words) h.1)

records_short : (rs : List Record) → All Small (join (map record_words rs)) → length (text (record_lines rs)) ≤ 11 * length (join (map record_words rs))
unfolding text
records_short [] h = omega arith
records_short (r ∷ rs) h =
    let ws = join (map record_words rs) in
    omega (arith, length_text (record_line r) (record_lines rs), record_short r (All-left Small (record_words r) ws h), records_short rs (All-right Small (record_words r) ws h), length-append (record_words r) ws)

-- ## All of it

few_bodies : {A : Type 0} (body : A → Body) (xs : List A) → length xs ≤ size (map body xs)
unfolding size
few_bodies body [] = omega arith
few_bodies body (x ∷ xs) = omega (arith, few_bodies body xs)

length_then : (a b : List Line) → length (text (a ++ b)) ≡ length (text a) + length (text b)
length_then a b = ap length (text_append a b) ∙ length-append (text a) (text b)

module _ (ts : List Table) (cs : List Counter) (as' : List Answer) (changes : Bool) (log : List Record) where
  abbrev T : List Body
  T = map table_body ts

  abbrev C : List Body
  C = map counter_body cs

  abbrev S : List Body
  S = map step_body as'

  abbrev L : Body
  L = log_body changes log

  abbrev bodies : List Body
  bodies = T ++ C ++ S ++ (L ∷ [])

  abbrev lines : List Line
  lines = step_lines 0 as' ++ record_lines log ++ changed (flag changes) ∷ table_lines 0 ts ++ counter_lines 0 cs

  length_bodies : length (lay_out bodies) ≡ 1 + size T + size C + size S + (4 + length (join (map record_words log)))
  unfolding lay_out size
  length_bodies = omega (arith, laid_out (1 + 3 * length bodies) bodies, size_append (T ++ C ++ S) (L ∷ []), size_append (T ++ C) S, size_append T C)

  flag_small : Small (flag changes)
  flag_small = by changes
    where
      by : (b : Bool) → Small (flag b)
      by true = omega arith
      by false = omega arith

  module _ (h : All Small (lay_out bodies)) (few : length (lay_out bodies) ≤ 10 ^ 10) where
    all_small : All SmallBody bodies
    unfolding lay_out
    all_small = small_bodies bodies (All-right Small (length bodies ∷ contents_from (1 + 3 * length bodies) bodies) (join (map (λ (b : Body). b.words) bodies)) h)

    pub lines_short : length (text lines) ≤ 11 * length (lay_out bodies)
    unfolding line_bytes
    lines_short =
        let n = length_bodies in
        let tcs = All-left SmallBody (T ++ C ++ S) (L ∷ []) all_small in
        let tc = All-left SmallBody (T ++ C) S tcs in
        let records = (All-right SmallBody (T ++ C ++ S) (L ∷ []) all_small).0.1 in
        let steps = steps_short 0 as' (All-right SmallBody (T ++ C) S tcs) (omega (arith, few_bodies step_body as')) in
        let tables = tables_short 0 ts (All-left SmallBody T C tc) (omega (arith, few_bodies table_body ts)) in
        let counters = counters_short 0 cs (All-right SmallBody T C tc) (omega (arith, few_bodies counter_body cs)) in
        omega (
          arith,
          steps,
          tables,
          counters,
          records_short log records,
          length_then (step_lines 0 as' ++ record_lines log ++ changed (flag changes) ∷ table_lines 0 ts) (counter_lines 0 cs),
          length_then (step_lines 0 as' ++ record_lines log) (changed (flag changes) ∷ table_lines 0 ts),
          length_then (step_lines 0 as') (record_lines log),
          length_text (changed (flag changes)) (table_lines 0 ts),
          short_named changed_name (flag changes ∷ []) (flag_small, tt),
        )
