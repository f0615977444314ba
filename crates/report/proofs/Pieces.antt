-- Lines appended to a buffer piece by piece, and parts of words that are cut where the words end.
use Prim.Native.Nat.{ℕ, suc, ◌+◌, ◌-◌, ◌<◌, ◌≤◌, min}
use Rattle.std.specs.Prelude.{List, [], ◌∷◌, ◌++◌, length, get_or, take, drop}
use Rattle.std.proofs.Math.Path.{◌≡◌, ap}
use Rattle.std.proofs.Common.{sym, ◌∙◌, add-one, arith, length-drop, drop-cons, drop_of_length-le, take_all}
use Rattle.std.proofs.Math.Decide.{dec_lt}
use Rattle.std.proofs.Math.Seq.{take-length, take-nil, drop-nil}
use Rattle.model.specs.Book.Decode.{part}
use Rattle.model.specs.Printed.{Line, changed, refused}
use Rattle.report.specs.declared.lines.Family.TheVariants.{Steps, Tables, Counters}
use Rattle.report.specs.Text.{field, fields, named, refused_name, at_name, line_bytes, text, Text, pushed, appended}
use Rattle.report.specs.TextLaws.{appended_append, text_append, text_one}
use Rattle.report.specs.Lines.{family_lines, log_body, record_lines, log_lines, answer_lines}

-- ## A part that is cut where the words end

take_min : (n : ℕ) (l : List ℕ) → take (min n (length l)) l ≡ take n l
take_min n l = elim (dec_lt n (length l)) [ yes p ↦ below p | no p ↦ above (omega arith) ]
  where
    below : n < length l → take (min n (length l)) l ≡ take n l
    below p = let e : min n (length l) ≡ n = omega arith in rw e

    above : length l ≤ n → take (min n (length l)) l ≡ take n l
    above p = let e : min n (length l) ≡ length l = omega arith in rw e (take-length l ∙ sym (take_all n l p))

pub part_cut : (w : List ℕ) (p n : ℕ) → take (min (p + n) (length w) - min p (length w)) (drop (min p (length w)) w) ≡ part w p n
part_cut w p n = elim (dec_lt (length w) p) [ yes h ↦ past h | no h ↦ within (omega arith) ]
  where
    past : length w < p → take (min (p + n) (length w) - min p (length w)) (drop (min p (length w)) w) ≡ part w p n
    past h =
        let e : min p (length w) ≡ length w = omega arith in
        rw (e, drop_of_length-le w {i = length w} (omega arith), drop_of_length-le w {i = p} (omega arith)) (simp take-nil)

    within : p ≤ length w → take (min (p + n) (length w) - min p (length w)) (drop (min p (length w)) w) ≡ part w p n
    within h =
        let e : min p (length w) ≡ p = omega arith in
        let k : min (p + n) (length w) - p ≡ min n (length (drop p w)) = omega (arith, length-drop p w) in
        rw (e, k) (take_min n (drop p w))

pub rest_is : (w : List ℕ) → take (length w - min 1 (length w)) (drop (min 1 (length w)) w) ≡ drop 1 w
rest_is [] = simp (drop-nil, take-nil)
rest_is (x ∷ w) =
    let e : min 1 (suc (length w)) ≡ 1 = omega arith in
    rw e (take_all (suc (length w) - 1) w (omega arith))

-- ## A line

pub line_is : (name : List ℕ) (n : ℕ) (ns : List ℕ) (t : Text) → appended (named name (n ∷ ns)) t ≡ pushed 10 (appended (fields ns) (appended (field n) (appended name t)))
unfolding appended fields
line_is name n ns t =
    appended_append (name ++ fields (n ∷ ns)) (10 ∷ []) t
    ∙ ap (pushed 10) (appended_append name (fields (n ∷ ns)) t ∙ appended_append (field n) (fields ns) (appended name t))

pub refused_is : (n p : ℕ) (t : Text) → appended (text (refused n p ∷ [])) t ≡ pushed 10 (appended (field p) (appended at_name (appended (field n) (appended refused_name t))))
unfolding appended line_bytes
refused_is n p t =
    let a = refused_name ++ field n in
    rw (text_one (refused n p)) (appended_append (a ++ at_name ++ field p) (10 ∷ []) t)
    ∙ ap (pushed 10) (appended_append (a ++ at_name) (field p) t ∙ ap (appended (field p)) (appended_append a at_name t ∙ ap (appended at_name) (appended_append refused_name (field n) t)))

-- the buffer after one more of the bytes that are left; after one more of the numbers
module _ (l : List ℕ) (i : ℕ) (h : i < length l) (t : Text) where
  next : drop i l ≡ get_or l i 0 ∷ drop (i + 1) l
  next = rw add-one (drop-cons l i 0 h)

  pub byte_more : appended (drop i l) t ≡ appended (drop (i + 1) l) (pushed (get_or l i 0) t)
  unfolding appended
  byte_more = rw next

  pub field_more : appended (fields (drop i l)) t ≡ appended (fields (drop (i + 1) l)) (appended (field (get_or l i 0)) t)
  unfolding fields
  field_more = rw next (appended_append (field (get_or l i 0)) (fields (drop (i + 1) l)) t)

-- ## The lines of an answer

pub text_then : (a b : List Line) (t : Text) → appended (text (a ++ b)) t ≡ appended (text b) (appended (text a) t)
text_then a b t = rw (text_append a b) (appended_append (text a) (text b) t)

pub log_is : (w body : List ℕ) (t : Text) → body ≡ log_body w → appended (line_bytes (changed (get_or body 0 0))) (appended (text (record_lines w (drop 1 body))) t) ≡ appended (text (log_lines w)) t
unfolding log_lines
log_is w body t e = rw e (sym (text_then (record_lines w (drop 1 (log_body w))) (changed (get_or (log_body w) 0 0) ∷ []) t ∙ rw (text_one (changed (get_or (log_body w) 0 0)))))

pub answer_is : (w : List ℕ) (t : Text) → appended (text (family_lines w Counters)) (appended (text (family_lines w Tables)) (appended (text (log_lines w)) (appended (text (family_lines w Steps)) t))) ≡ appended (text (answer_lines w)) t
unfolding answer_lines
answer_is w t =
    let s = family_lines w Steps in
    let l = log_lines w in
    let ts = family_lines w Tables in
    let cs = family_lines w Counters in
    sym (text_then (s ++ l ++ ts) cs t ∙ ap (appended (text cs)) (text_then (s ++ l) ts t ∙ ap (appended (text ts)) (text_then s l t)))
