-- A book that draws no refusal 1: how many words it has, and what is left to draw.
use Rattle.std.specs.Prelude.{ℕ, ◌/◌, ◌%◌, ◌<◌, ◌≤◌, ◌≡◌, refl, Bool, true, false, ◌&&◌, List, ◌++◌, ltb, leb, eqb, length, take, drop, None, Some}
use Rattle.std.proofs.Common.{sym, ap, ◌∙◌, arith, ltb-true, leb-true, eqb-true, lt-ltb, le-leb, eq-eqb, length-append, length-take-le, take_at}
use Rattle.model.specs.Basics.{tab}
use Rattle.model.specs.Book.Words.{Refusal, unless, bytes_refusal, words_of}
use Rattle.model.specs.Outcome.{book_refusal, words_refusal}
use Rattle.model.specs.Laws.Logic.{and_split, unless_none}
use Rattle.model.specs.Laws.Words.{word_at, words_tab, length_words}

module _ (b : List ℕ) where
  pub book_stop : (r : Refusal) → bytes_refusal b ≡ Some r → book_refusal b ≡ Some r
  unfolding book_refusal
  book_stop r e = rw e

  pub book_on : bytes_refusal b ≡ None → book_refusal b ≡ words_refusal (words_of b)
  unfolding book_refusal
  book_on e = rw e

  -- the lengths that draw no refusal 1
  abbrev pub Fits : Type 0
  Fits = (0 < length b) × (length b ≤ 65536) × (length b % 4 ≡ 0)

  abbrev fits? : Bool
  fits? = ltb 0 (length b) && leb (length b) 65536 && eqb (length b % 4) 0

  fits_true : fits? ≡ true → Fits
  fits_true e =
      let n = length b in
      let t = and_split (ltb 0 n && leb n 65536) (eqb (n % 4) 0) e in
      let u = and_split (ltb 0 n) (leb n 65536) t.0 in
      (ltb-true 0 n u.0, leb-true n 65536 u.1, eqb-true (n % 4) 0 t.1)

  pub bytes_pass : bytes_refusal b ≡ None → Fits
  bytes_pass e = fits_true (unless_none fits? 1 0 e)

  pub bytes_fit : 0 < length b → length b ≤ 65536 → length b % 4 ≡ 0 → bytes_refusal b ≡ None
  bytes_fit one most fours = rw (lt-ltb 0 (length b) one, le-leb (length b) 65536 most, eq-eqb (length b % 4) 0 fours)

  pub bytes_fail : (Fits → ⊥) → bytes_refusal b ≡ Some (record { number = 1; place = 0 })
  bytes_fail n = go fits? refl
    where
      go : (t : Bool) → fits? ≡ t → unless t 1 0 ≡ Some (record { number = 1; place = 0 })
      go true e = absurd (n (fits_true e))
      go false e = refl

  pub words_some : bytes_refusal b ≡ None → 0 < length (words_of b)
  words_some e = let p = bytes_pass e in omega (arith, p.0, p.2, length_words b)

  pub words_most : bytes_refusal b ≡ None → length (words_of b) ≤ 16384
  words_most e = let p = bytes_pass e in omega (arith, p.1, length_words b)

  -- the words that a load leaves in the front of a buffer
  pub words_loaded : (buffer front : List ℕ) → length (words_of b) ≤ length buffer → front ≡ tab (word_at b) (length (take (length b / 4) buffer)) → front ++ drop (length b / 4) buffer ≡ words_of b ++ drop (length (words_of b)) buffer
  words_loaded buffer front h e =
      let k : length (take (length b / 4) buffer) ≡ length b / 4 = length-take-le (length b / 4) buffer (omega (arith, length_words b)) in
      let f : front ≡ words_of b = e ∙ ap (tab (word_at b)) k ∙ sym (words_tab b) in
      rw (f, length_words b)

-- a buffer with the book's words at its front, and how many they are
module _ (b buffer after : List ℕ) (n : ℕ) (count : n ≡ length (words_of b)) (is : after ≡ words_of b ++ drop (length (words_of b)) buffer) where
  pub front_within : n ≤ length after
  front_within = omega (arith, count, ap length is, length-append (words_of b) (drop (length (words_of b)) buffer))

  pub front_is : take n after ≡ words_of b
  front_is = ap (take n) is ∙ take_at (words_of b) (drop (length (words_of b)) buffer) n (sym count)

  pub front_count : length (take n after) ≡ n
  front_count = ap length front_is ∙ sym count
