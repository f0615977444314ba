use Prim.Native.Nat.{ℕ, zero, suc, ◌+◌, ◌≤◌}
use Rattle.std.proofs.Math.Path.{◌≡◌, refl, ap}
use Rattle.std.proofs.Common.{sym, ◌∙◌, add-one, arith, length-append}
use Rattle.std.specs.Prelude.{Bool, cond, List, [], ◌∷◌, ◌++◌, eqb, leb, length, get_or, drop}
use Rattle.std.proofs.Math.Bool.{true, false}
use Rattle.model.specs.Basics.{iter}
use Rattle.model.specs.Book.Contents.{kind_of}
use Rattle.model.specs.Printed.{Line, changed}
use Rattle.record_log.specs.Walk.{Walk, pass, start, walked, end_of}
use Rattle.report.specs.declared.lines.Family.{Family}
use Rattle.report.specs.declared.lines.Family.TheVariants.{Steps, Tables, Counters}
use Rattle.report.specs.Text.{line_bytes, text, Text, appended}
use Rattle.report.specs.TextLaws.{appended_append, text_append, text_one}
use Rattle.report.specs.Page.{Written, written_none, written_more}
use Rattle.report.specs.declared.text.Page.{Page}
use Rattle.report.specs.Lines.{numbered, record_line, entry_line, family_lines, log_body, record_lines, log_lines, answer_lines}

-- What the code leans on: lines one after the other.

-- ## The lines of entries

-- the lines of no entry; the line of one entry more, if it has one
pub numbered_none : (f : ℕ → ℕ → List Line) (p : Page) → Written p 0 (numbered f 0) p 0
unfolding numbered
numbered_none f p = written_none p 0

pub numbered_more : (f : ℕ → ℕ → List Line) (i : ℕ) {p q r : Page} {m k : ℕ} → Written q m (numbered f i) p 0 → Written r k (f m i) q m → Written r k (numbered f (i + 1)) p 0
unfolding numbered
numbered_more f i {p} {q} {r} {m} {k} h j =
    let e : length (numbered f i) ≡ m = omega (arith, h.count) in
    rw (add-one, e) (written_more h j)

at_most : (a : Bool) (x : Line) → length (cond a (x ∷ []) []) ≤ 1
at_most true x = omega arith
at_most false x = omega arith

pub one_line : (w : List ℕ) (f : Family) (k i : ℕ) → length (entry_line w f k i) ≤ 1
unfolding entry_line
one_line w Steps k i = by (eqb (kind_of w i) 6) _ (eqb (kind_of w i) 7) _
  where
    by : (a : Bool) (x : Line) (b : Bool) (y : Line) → length (cond a (x ∷ []) (cond b (y ∷ []) [])) ≤ 1
    by true x b y = omega arith
    by false x true y = omega arith
    by false x false y = omega arith
one_line w Tables k i = at_most (eqb (kind_of w i) 1) _
one_line w Counters k i = at_most (eqb (kind_of w i) 2) _

pub few_lines : (w : List ℕ) (f : Family) (n : ℕ) → length (numbered (entry_line w f) n) ≤ n
unfolding numbered
few_lines w f zero = omega arith
few_lines w f (suc n) =
    let ls = numbered (entry_line w f) n in
    omega (arith, few_lines w f n, one_line w f (length ls) n, length-append ls (entry_line w f (length ls) n))

-- ## The log's records

module _ (w log : List ℕ) where
  abbrev line_at : ℕ → Line
  line_at p = record_line log p (end_of w log p)

  -- a record's line, written
  abbrev pub write_record : ℕ → Text → Text
  write_record p s = appended (text (line_at p ∷ [])) s

  abbrev noted : ℕ → List Line → List Line
  noted p ls = ls ++ (line_at p ∷ [])

  module _ (t : Text) where
    both : (n k : ℕ) →
        ◌≡◌ {A = Walk Text} (iter (pass (end_of w log) n write_record) k (start t)) (record { at = (iter (pass (end_of w log) n noted) k (start [])).at; state = appended (text (iter (pass (end_of w log) n noted) k (start [])).state) t })
    unfolding appended text
    both n zero = refl
    both n (suc k) = rw (both n k) (by (iter (pass (end_of w log) n noted) k (start [])) (leb (end_of w log (iter (pass (end_of w log) n noted) k (start [])).at) n))
      where
        by : (s : Walk (List Line)) (b : Bool) →
            ◌≡◌ {A = Walk Text} (cond b (record { at = end_of w log s.at; state = write_record s.at (appended (text s.state) t) }) (record { at = s.at; state = appended (text s.state) t })) (record { at = (cond b (record { at = end_of w log s.at; state = noted s.at s.state }) s).at; state = appended (text (cond b (record { at = end_of w log s.at; state = noted s.at s.state }) s).state) t })
        by s true = ap (λ (x : Text). record { at = end_of w log s.at; state = x }) (sym (rw (text_append s.state (line_at s.at ∷ [])) (appended_append (text s.state) (text (line_at s.at ∷ [])) t)))
        by s false = refl

    pub written_records : walked (end_of w log) (length log) write_record t ≡ appended (text (record_lines w log)) t
    unfolding walked record_lines
    written_records = ap (λ (s : Walk Text). s.state) (both (length log) (length log))

-- ## All together

pub log_is : (w : List ℕ) → text (record_lines w (drop 1 (log_body w))) ++ line_bytes (changed (get_or (log_body w) 0 0)) ≡ text (log_lines w)
unfolding log_lines
log_is w = sym (text_append (record_lines w (drop 1 (log_body w))) (changed (get_or (log_body w) 0 0) ∷ []) ∙ ap (λ (l : List ℕ). text (record_lines w (drop 1 (log_body w))) ++ l) (text_one (changed (get_or (log_body w) 0 0))))

pub answer_is : (w : List ℕ) → text (family_lines w Steps) ++ text (log_lines w) ++ text (family_lines w Tables) ++ text (family_lines w Counters) ≡ text (answer_lines w)
unfolding answer_lines
answer_is w = simp text_append
