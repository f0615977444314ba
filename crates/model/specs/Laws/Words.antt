-- The words of a book of bytes: how many, each by its place, and each below 2 ^ 32.
use Rattle.std.specs.Prelude.{ℕ, zero, suc, ◌+◌, ◌*◌, ◌/◌, ◌<◌, ◌≡◌, refl, List, [], ◌∷◌, length, get_or}
use Rattle.std.proofs.Common.{sym, ap, ◌∙◌, arith, lit<, ext_get_or}
use Rattle.model.specs.Basics.{All, tab}
use Rattle.model.specs.Book.Words.{Byte, words_of}
use Rattle.model.specs.Laws.Lists.{length_tab, get_or_tab}

pub words_bounded : (b : List ℕ) → All Byte b → (p : ℕ) → get_or (words_of b) p 0 < 4294967296
unfolding words_of
words_bounded [] h p = lit< tt
words_bounded (a ∷ []) h p = lit< tt
words_bounded (a ∷ b ∷ []) h p = lit< tt
words_bounded (a ∷ b ∷ c ∷ []) h p = lit< tt
words_bounded (a ∷ b ∷ c ∷ d ∷ r) h zero = omega (arith, h.0, h.1.0, h.1.1.0, h.1.1.1.0)
words_bounded (a ∷ b ∷ c ∷ d ∷ r) h (suc p) = words_bounded r h.1.1.1.1 p

pub length_words : (b : List ℕ) → length (words_of b) ≡ length b / 4
unfolding words_of
length_words [] = omega arith
length_words (a ∷ []) = omega arith
length_words (a ∷ b ∷ []) = omega arith
length_words (a ∷ b ∷ c ∷ []) = omega arith
length_words (a ∷ b ∷ c ∷ d ∷ r) = omega (arith, length_words r)

-- the word whose first byte stands at 4 * i
abbrev pub word_at : List ℕ → ℕ → ℕ
word_at b i = get_or b (4 * i) 0 + 256 * get_or b (4 * i + 1) 0 + 65536 * get_or b (4 * i + 2) 0 + 16777216 * get_or b (4 * i + 3) 0

module _ (a b c d : ℕ) (r : List ℕ) where
  four_on : (k j : ℕ) → j ≡ 4 + k → get_or (a ∷ b ∷ c ∷ d ∷ r) j 0 ≡ get_or r k 0
  four_on k j e =
      let q : j ≡ suc (suc (suc (suc k))) = omega arith in
      ap (λ (n : ℕ). get_or (a ∷ b ∷ c ∷ d ∷ r) n 0) q

  word_on : (i : ℕ) → word_at (a ∷ b ∷ c ∷ d ∷ r) (suc i) ≡ word_at r i
  word_on i = rw (four_on (4 * i) (4 * suc i) (omega arith), four_on (4 * i + 1) (4 * suc i + 1) (omega arith), four_on (4 * i + 2) (4 * suc i + 2) (omega arith), four_on (4 * i + 3) (4 * suc i + 3) (omega arith))

pub get_or_words : (b : List ℕ) (i : ℕ) → i < length (words_of b) → get_or (words_of b) i 0 ≡ word_at b i
unfolding words_of
get_or_words [] i h = absurd (omega arith)
get_or_words (a ∷ []) i h = absurd (omega arith)
get_or_words (a ∷ b ∷ []) i h = absurd (omega arith)
get_or_words (a ∷ b ∷ c ∷ []) i h = absurd (omega arith)
get_or_words (a ∷ b ∷ c ∷ d ∷ r) zero h = refl
get_or_words (a ∷ b ∷ c ∷ d ∷ r) (suc i) h = get_or_words r i (omega arith) ∙ sym (word_on a b c d r i)

-- as a loop loads them
pub words_tab : (b : List ℕ) → words_of b ≡ tab (word_at b) (length b / 4)
words_tab b =
    ext_get_or 0 (words_of b) (tab (word_at b) (length b / 4)) (length_words b ∙ sym (length_tab (word_at b) (length b / 4)))
    (λ i h. get_or_words b i h ∙ sym (get_or_tab (word_at b) (length b / 4) i 0 (omega (arith, length_words b))))
