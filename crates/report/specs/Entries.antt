-- What stands where in the words of bodies that are laid out: each entry's kind, and its body.
use Prim.Native.Nat.{ℕ, zero, suc, ◌+◌, ◌*◌}
use Rattle.std.specs.Prelude.{◌≡◌, refl, List, [], ◌∷◌, ◌++◌, map, get_or, take, Some, slice_get}
use Rattle.std.proofs.Common.{sym, ◌∙◌, add-zero, length-append, get_or-drop}
use Rattle.std.proofs.Math.Path.{ap}
use native.Mathlib.Omega.{arith}
use Rattle.std.proofs.Math.ListN.{length, drop}
use Rattle.std.proofs.Math.Seq.{drop-append-add, take-append_seam}
use Rattle.model.specs.Basics.{join}
use Rattle.model.specs.Book.Contents.{count, kind_of, first_of, length_of}
use Rattle.model.specs.Laws.Logic.{none_some, some_inj}
use Rattle.model.specs.Answer.{Body, contents_from, lay_out}
use Rattle.report.specs.Lines.{body_of}

abbrev words_in : List Body → List ℕ
words_in bs = join (map (λ (b : Body). b.words) bs)

length_contents : (p : ℕ) (bs : List Body) → length (contents_from p bs) ≡ 3 * length bs
length_contents p [] = omega arith
length_contents p (b ∷ bs) = omega (arith, length_contents (p + length b.words) bs)

-- the three words of entry i
record Entry (l : List ℕ) (i first : ℕ) (b : Body) : Type 0 where
  kind : get_or l (3 * i) 0 ≡ b.kind
  place : get_or l (suc (3 * i)) 0 ≡ first
  size : get_or l (suc (suc (3 * i))) 0 ≡ length b.words

entry_at_lem : (p : ℕ) (bs : List Body) (i : ℕ) (b : Body) (rest : List ℕ) → slice_get bs i ≡ Some b → Entry (contents_from p bs ++ rest) i (p + length (words_in (take i bs))) b
entry_at_lem p [] i b rest e = absurd (none_some e)
entry_at_lem p (c ∷ bs) zero b rest e = record {
  kind = ap (λ (x : Body). x.kind) (some_inj e);
  place = sym (add-zero p);
  size = ap (λ (x : Body). length x.words) (some_inj e);
}
entry_at_lem p (c ∷ bs) (suc i) b rest e =
    let q = entry_at_lem (p + length c.words) bs i b rest e in
    let k : 3 * suc i ≡ suc (suc (suc (3 * i))) = omega arith in
    record {
      kind = rw k q.kind;
      place = rw k (q.place ∙ omega (arith, length-append c.words (words_in (take i bs))));
      size = rw k q.size;
    }

-- the bodies' words, from body i on
from_body : (bs : List Body) (i : ℕ) (b : Body) → slice_get bs i ≡ Some b → (rest : List ℕ) × (drop (length (words_in (take i bs))) (words_in bs) ≡ b.words ++ rest)
from_body [] i b e = absurd (none_some e)
from_body (c ∷ bs) zero b e = (words_in bs, ap (λ (x : Body). x.words ++ words_in bs) (some_inj e))
from_body (c ∷ bs) (suc i) b e =
    let q = from_body bs i b e in
    (q.0, rw (length-append c.words (words_in (take i bs))) (drop-append-add c.words (words_in bs) (length (words_in (take i bs))) ∙ q.1))

pub count_is : (bs : List Body) → count (lay_out bs) ≡ length bs
unfolding lay_out
count_is bs = refl

module _ (bs : List Body) (i : ℕ) (b : Body) (e : slice_get bs i ≡ Some b) where
  abbrev first : ℕ
  first = 1 + 3 * length bs + length (words_in (take i bs))

  entry : Entry (contents_from (1 + 3 * length bs) bs ++ words_in bs) i first b
  entry = entry_at_lem (1 + 3 * length bs) bs i b (words_in bs) e

  pub kind_is : kind_of (lay_out bs) i ≡ b.kind
  unfolding lay_out
  kind_is = let k : 1 + 3 * i ≡ suc (3 * i) = omega arith in rw k entry.kind

  first_is : first_of (lay_out bs) i ≡ first
  unfolding lay_out
  first_is = let k : 2 + 3 * i ≡ suc (suc (3 * i)) = omega arith in rw k entry.place

  length_is : length_of (lay_out bs) i ≡ length b.words
  unfolding lay_out
  length_is = let k : 3 + 3 * i ≡ suc (suc (suc (3 * i))) = omega arith in rw k entry.size

  pub from_first : (rest : List ℕ) × (drop (first_of (lay_out bs) i) (lay_out bs) ≡ b.words ++ rest)
  unfolding lay_out
  from_first =
      let q = from_body bs i b e in
      let front = length bs ∷ contents_from (1 + 3 * length bs) bs in
      let n : 1 + 3 * length bs ≡ length front = omega (arith, length_contents (1 + 3 * length bs) bs) in
      (q.0, ap (λ (k : ℕ). drop k (front ++ words_in bs)) (first_is ∙ ap (λ (m : ℕ). m + length (words_in (take i bs))) n) ∙ drop-append-add front (words_in bs) (length (words_in (take i bs))) ∙ q.1)

  pub body_is : body_of (lay_out bs) i ≡ b.words
  body_is = rw (length_is, from_first.1) (take-append_seam b.words from_first.0)

  -- a word of the body
  pub word_is : (j : ℕ) → get_or (lay_out bs) (first_of (lay_out bs) i + j) 0 ≡ get_or (b.words ++ from_first.0) j 0
  word_is j = sym (get_or-drop (first_of (lay_out bs) i) (lay_out bs) j 0) ∙ ap (λ (l : List ℕ). get_or l j 0) from_first.1
