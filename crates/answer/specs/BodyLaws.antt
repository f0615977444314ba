-- The bodies of the answer and their entries: that they agree, and the words of the whole.
use Prim.Native.Nat.{ℕ, zero, suc, ◌+◌, ◌-◌, ◌*◌, ◌<◌, ◌≤◌}
use Rattle.std.specs.Prelude.{◌≡◌, ◌⊎◌, take}
use Rattle.std.proofs.Math.Path.{sym, ap}
use Rattle.std.proofs.Common.{◌∙◌, subst, inl, inr, add-zero, arith, take-suc, take-add, ext_get_or}
use mathlib.Core.List.{List, [], ◌∷◌, ◌++◌, map, map-append, append-nil}
use Rattle.std.proofs.Math.Decide.{dec_lt}
use Rattle.std.proofs.Math.ListN.{length, get_or, length-append, get_or-append}
use Rattle.std.proofs.Math.Seq.{take_all, get_or-append-add}
use Rattle.model.specs.Basics.{tab, join}
use Rattle.model.specs.Book.Contents.{table_count, counter_count, step_count}
use Rattle.model.specs.Book.Decode.{part}
use Rattle.model.specs.Answer.{Body, contents_from, lay_out, flag}
use Rattle.model.specs.Laws.Bodies.{length_part}
use Rattle.model.specs.Laws.Logic.{either}
use Rattle.model.specs.Laws.Lists.{length_tab, get_or_tab}
use Rattle.contents.specs.declared.Contents.{Contents}
use Rattle.answer.specs.Sums.{sum, sum_none, sum_suc, sum_fits}
use Rattle.step_bodies.specs.Runs.{runs, runs_none, runs_suc, join_append}
use Rattle.answer.specs.Layout.{Entry, rows_length, Results, table_of, counter_of, length_of, step_of, log_of, bodies, contents_of, body_count, entry_words, entry, whole_length}
use Rattle.answer.specs.LayoutLaws.{at_table, at_counter, at_step, at_log, length_entries}

-- ## The words of bodies, and their contents

abbrev pub entry_of : Body → Entry
entry_of b = record { kind = b.kind; length = length b.words }

abbrev pub body_words : List Body → List ℕ
body_words bs = join (map (λ (b : Body). b.words) bs)

pub words_append : (ks bs : List Body) → body_words (ks ++ bs) ≡ body_words ks ++ body_words bs
words_append ks bs = ap join (map-append (λ (b : Body). b.words) ks bs) ∙ join_append (map (λ (b : Body). b.words) ks) (map (λ (b : Body). b.words) bs)

pub words_tab : (f : ℕ → Body) (n : ℕ) → body_words (tab f n) ≡ runs (λ i. (f i).words) n
unfolding tab
words_tab f zero = sym (runs_none (λ i. (f i).words))
words_tab f (suc n) = words_append (tab f n) (f n ∷ []) ∙ rw (words_tab f n, append-nil (f n).words) (sym (runs_suc (λ i. (f i).words) n))

contents_snoc : (p : ℕ) (bs : List Body) (b : Body) → contents_from p (bs ++ (b ∷ [])) ≡ contents_from p bs ++ entry_words (entry_of b) (p + length (body_words bs))
contents_snoc p [] b = rw (add-zero p)
contents_snoc p (x ∷ bs) b =
    let e : p + length x.words + length (body_words bs) ≡ p + length (x.words ++ body_words bs) = omega (arith, length-append x.words (body_words bs)) in
    ap (λ (l : List ℕ). x.kind ∷ p ∷ length x.words ∷ l) (contents_snoc (p + length x.words) bs b ∙ ap (λ (q : ℕ). contents_from (p + length x.words) bs ++ entry_words (entry_of b) q) e)

-- bodies by an index, whose entries are those of e
module _ (f : ℕ → Body) (e : ℕ → Entry) where
  length_words : (n : ℕ) → ((i : ℕ) → i < n → e i ≡ entry_of (f i)) → length (body_words (tab f n)) ≡ sum (λ i. (e i).length) n
  unfolding tab
  length_words zero h = sym (sum_none (λ i. (e i).length))
  length_words (suc n) h =
      ap length (words_append (tab f n) (f n ∷ [])) ∙ length-append (body_words (tab f n)) ((f n).words ++ [])
      ∙ omega (arith, length-append (f n).words [], length_words n (λ i l. h i (omega arith)), sum_suc (λ i. (e i).length) n, ap (λ (x : Entry). x.length) (h n (omega arith)))

  contents_tab : (p n : ℕ) → ((i : ℕ) → i < n → e i ≡ entry_of (f i)) → contents_from p (tab f n) ≡ runs (λ i. entry_words (e i) (p + sum (λ i. (e i).length) i)) n
  unfolding tab
  contents_tab p zero h = sym (runs_none (λ i. entry_words (e i) (p + sum (λ i. (e i).length) i)))
  contents_tab p (suc n) h =
      contents_snoc p (tab f n) (f n)
      ∙ ap (λ (x : Entry). contents_from p (tab f n) ++ entry_words x (p + length (body_words (tab f n)))) (sym (h n (omega arith)))
      ∙ rw (contents_tab p n (λ i l. h i (omega arith)), length_words n (λ i l. h i (omega arith)))
      (sym (runs_suc (λ i. entry_words (e i) (p + sum (λ i. (e i).length) i)) n))

pub tab_get_or : {A : Type 0} (d : A) (l : List A) → tab (λ i. get_or l i d) (length l) ≡ l
tab_get_or d l = ext_get_or d (tab (λ i. get_or l i d) (length l)) l (length_tab (λ i. get_or l i d) (length l)) (λ i h. get_or_tab (λ i. get_or l i d) (length l) i d (omega (arith, length_tab (λ i. get_or l i d) (length l))))

-- the same of a list
module _ (d : Body) (bs : List Body) (e : ℕ → Entry) (h : (i : ℕ) → i < length bs → e i ≡ entry_of (get_or bs i d)) where
  pub length_all : length (body_words bs) ≡ sum (λ i. (e i).length) (length bs)
  length_all = ap (λ (l : List Body). length (body_words l)) (sym (tab_get_or d bs)) ∙ length_words (λ i. get_or bs i d) e (length bs) h

  pub contents_all : (p : ℕ) → contents_from p bs ≡ runs (λ i. entry_words (e i) (p + sum (λ i. (e i).length) i)) (length bs)
  contents_all p = ap (contents_from p) (sym (tab_get_or d bs)) ∙ contents_tab (λ i. get_or bs i d) e p (length bs) h

-- ## Parts

-- one word each
pub singles : (l : List ℕ) (n : ℕ) → n ≤ length l → runs (λ i. get_or l i 0 ∷ []) n ≡ take n l
singles l zero h = runs_none (λ i. get_or l i 0 ∷ [])
singles l (suc n) h = runs_suc (λ i. get_or l i 0 ∷ []) n ∙ rw (singles l n (omega arith)) (sym (take-suc l n 0 (omega arith)))

-- parts without gaps
pub parts : (l : List ℕ) (f : ℕ → ℕ) (n : ℕ) → runs (λ k. part l (sum f k) (f k)) n ≡ take (sum f n) l
parts l f zero = runs_none (λ k. part l (sum f k) (f k)) ∙ rw (sum_none f)
parts l f (suc n) = runs_suc (λ k. part l (sum f k) (f k)) n ∙ rw (parts l f n, sum_suc f n) (sym (take-add (sum f n) (f n) l))

-- ## The bodies of the answer

-- the rows and the step words are all there, and no more step words than the steps have
pub record Fits (r : Results) : Type 0 where
  pub rows : sum (rows_length r.book r.counts) (table_count r.book) ≤ length r.rows
  pub counters : counter_count r.book ≤ length r.next
  pub steps : sum (length_of r) (step_count r.book) ≡ length r.steps

module _ (r : Results) (fits : Fits r) where
  abbrev w : List ℕ
  w = r.book

  abbrev z : Contents
  z = contents_of w

  abbrev T : List Body
  T = tab (table_of r) (table_count w)

  abbrev C : List Body
  C = tab (counter_of r) (counter_count w)

  abbrev S : List Body
  S = tab (step_of r) (step_count w)

  abbrev L : List Body
  L = log_of r ∷ []

  length_T : length T ≡ table_count w
  length_T = length_tab (table_of r) (table_count w)

  length_TC : length (T ++ C) ≡ table_count w + counter_count w
  length_TC = omega (arith, length-append T C, length_T, length_tab (counter_of r) (counter_count w))

  length_TCS : length (T ++ C ++ S) ≡ table_count w + counter_count w + step_count w
  length_TCS = omega (arith, length-append (T ++ C) S, length_TC, length_tab (step_of r) (step_count w))

  pub length_bodies : length (bodies r) ≡ body_count z
  unfolding bodies
  length_bodies = omega (arith, length-append (T ++ C ++ S) L, length_TCS)

  -- each by its place
  table_body_lem : (t : ℕ) → t < table_count w → get_or (bodies r) t (log_of r) ≡ table_of r t
  unfolding bodies
  table_body_lem t h =
      get_or-append (T ++ C ++ S) L (log_of r) t (omega (arith, length_TCS)) ∙ get_or-append (T ++ C) S (log_of r) t (omega (arith, length_TC)) ∙ get_or-append T C (log_of r) t (omega (arith, length_T))
      ∙ get_or_tab (table_of r) (table_count w) t (log_of r) h

  counter_body_lem : (c : ℕ) → c < counter_count w → get_or (bodies r) (table_count w + c) (log_of r) ≡ counter_of r c
  unfolding bodies
  counter_body_lem c h =
      get_or-append (T ++ C ++ S) L (log_of r) (table_count w + c) (omega (arith, length_TCS)) ∙ get_or-append (T ++ C) S (log_of r) (table_count w + c) (omega (arith, length_TC))
      ∙ ap (λ (n : ℕ). get_or (T ++ C) (n + c) (log_of r)) (sym length_T) ∙ get_or-append-add T C c (log_of r)
      ∙ get_or_tab (counter_of r) (counter_count w) c (log_of r) h

  step_body_lem : (k : ℕ) → k < step_count w → get_or (bodies r) (table_count w + counter_count w + k) (log_of r) ≡ step_of r k
  unfolding bodies
  step_body_lem k h =
      get_or-append (T ++ C ++ S) L (log_of r) (table_count w + counter_count w + k) (omega (arith, length_TCS))
      ∙ ap (λ (n : ℕ). get_or (T ++ C ++ S) (n + k) (log_of r)) (sym length_TC) ∙ get_or-append-add (T ++ C) S k (log_of r)
      ∙ get_or_tab (step_of r) (step_count w) k (log_of r) h

  log_body_lem : get_or (bodies r) (table_count w + counter_count w + step_count w) (log_of r) ≡ log_of r
  unfolding bodies
  log_body_lem =
      let e : table_count w + counter_count w + step_count w ≡ length (T ++ C ++ S) + 0 = omega (arith, length_TCS) in
      ap (λ (n : ℕ). get_or (T ++ C ++ S ++ L) n (log_of r)) e ∙ get_or-append-add (T ++ C ++ S) L 0 (log_of r)

  abbrev Agrees : ℕ → Type 0
  Agrees i = entry r i ≡ entry_of (get_or (bodies r) i (log_of r))

  table_agrees : (t : ℕ) → t < table_count w → Agrees t
  table_agrees t h =
      let n = length_part r.rows (sum (rows_length w r.counts) t) (rows_length w r.counts t) (omega (arith, sum_fits (rows_length w r.counts) t (table_count w) h, fits.rows)) in
      let four : 4 + rows_length w r.counts t ≡ suc (suc (suc (suc (rows_length w r.counts t)))) = omega arith in
      at_table w r.counts r.lengths (length r.log) z t h ∙ rw (table_body_lem t h, n, four)

  counter_agrees : (c : ℕ) → c < counter_count w → Agrees (table_count w + c)
  counter_agrees c h = at_counter w r.counts r.lengths (length r.log) z c h ∙ rw (counter_body_lem c h)

  step_agrees : (k : ℕ) → k < step_count w → Agrees (table_count w + counter_count w + k)
  step_agrees k h =
      let n = length_part r.steps (sum (length_of r) k) (length_of r k) (omega (arith, sum_fits (length_of r) k (step_count w) h, fits.steps)) in
      at_step w r.counts r.lengths (length r.log) z k h ∙ rw (step_body_lem k h, n)

  log_agrees : Agrees (table_count w + counter_count w + step_count w)
  log_agrees =
      let one : 1 + length r.log ≡ suc (length r.log) = omega arith in
      at_log w r.counts r.lengths (length r.log) z ∙ rw (log_body_lem, one)

  below : (i n : ℕ) → (i < n) ⊎ (n ≤ i)
  below i n = elim (dec_lt i n) [ yes p ↦ inl p | no p ↦ inr (omega arith) ]

  past : (m i : ℕ) → m ≤ i → ((k : ℕ) → m + k ≡ i → Agrees (m + k)) → Agrees i
  past m i h f = let e : m + (i - m) ≡ i = omega arith in subst Agrees e (f (i - m) e)

  agrees : (i : ℕ) → i < body_count z → Agrees i
  agrees i h =
      either (table_agrees i) (λ a.
      either (λ l. past (table_count w) i a (λ k e. counter_agrees k (omega arith))) (λ b.
      either (λ l. past (table_count w + counter_count w) i b (λ k e. step_agrees k (omega arith))) (λ c.
      let e : table_count w + counter_count w + step_count w ≡ i = omega arith in subst Agrees e log_agrees)
      (below i (table_count w + counter_count w + step_count w)))
      (below i (table_count w + counter_count w)))
      (below i (table_count w))

  agree : (i : ℕ) → i < length (bodies r) → Agrees i
  agree i h = agrees i (omega (arith, length_bodies))

  -- ## The words of the answer

  pub contents_are : (p : ℕ) → contents_from p (bodies r) ≡ runs (λ i. entry_words (entry r i) (p + sum (λ i. (entry r i).length) i)) (body_count z)
  contents_are p = contents_all (log_of r) (bodies r) (entry r) agree p ∙ rw length_bodies

  pub words_are : body_words (bodies r) ≡ runs (λ t. (table_of r t).words) (table_count w) ++ take (counter_count w) r.next ++ r.steps ++ (flag r.changed ∷ r.log)
  unfolding bodies
  words_are =
      words_append (T ++ C ++ S) L
      ∙ rw (words_append (T ++ C) S, words_append T C, words_tab (table_of r) (table_count w), words_tab (counter_of r) (counter_count w), words_tab (step_of r) (step_count w), singles r.next (counter_count w) fits.counters, parts r.steps (length_of r) (step_count w), take_all (sum (length_of r) (step_count w)) r.steps (omega (arith, fits.steps)), append-nil r.log)

  pub layout_is : lay_out (bodies r) ≡ body_count z ∷ runs (λ i. entry_words (entry r i) (1 + 3 * body_count z + sum (λ i. (entry r i).length) i)) (body_count z) ++ body_words (bodies r)
  unfolding lay_out
  layout_is = rw (length_bodies, contents_are (1 + 3 * body_count z))

  pub whole_is : whole_length r ≡ length (lay_out (bodies r))
  unfolding whole_length
  whole_is = sym (ap length layout_is ∙ omega (arith, length-append (runs (λ i. entry_words (entry r i) (1 + 3 * body_count z + sum (λ i. (entry r i).length) i)) (body_count z)) (body_words (bodies r)), length_entries (entry r) (λ i. 1 + 3 * body_count z + sum (λ i. (entry r i).length) i) (body_count z), length_all (log_of r) (bodies r) (entry r) agree, ap (sum (λ i. (entry r i).length)) length_bodies))
