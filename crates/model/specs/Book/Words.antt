-- Refusals, and the words of a book of bytes.
use Rattle.std.specs.Prelude.{ℕ, ◌+◌, ◌*◌, ◌/◌, ◌%◌, ◌<◌, Bool, ◌&&◌, not, List, [], ◌∷◌, eqb, ltb, leb, length, Option, Some}
use Rattle.model.specs.Basics.{only}

-- a number of the table of refusals, and a place
pub record Refusal : Type 0 where
  pub number : ℕ
  pub place : ℕ

-- refused unless the test passes
abbrev pub unless : Bool → (number place : ℕ) → Option Refusal
unless b n p = only (not b) (Some (record { number = n; place = p }))

abbrev pub Byte : ℕ → Type 0
Byte x = x < 256

-- low byte first; the bytes come in fours
unfoldable pub words_of : List ℕ → List ℕ
words_of [] = []
words_of (a ∷ []) = []
words_of (a ∷ b ∷ []) = []
words_of (a ∷ b ∷ c ∷ []) = []
words_of (a ∷ b ∷ c ∷ d ∷ rest) = (a + 256 * b + 65536 * c + 16777216 * d) ∷ words_of rest

-- the bytes of words: how books are written down here and there
unfoldable pub bytes_of : List ℕ → List ℕ
bytes_of [] = []
bytes_of (x ∷ xs) = x % 256 ∷ x / 256 % 256 ∷ x / 65536 % 256 ∷ x / 16777216 % 256 ∷ bytes_of xs

-- 1: a book has from 1 to 16384 whole words
abbrev pub bytes_refusal : List ℕ → Option Refusal
bytes_refusal b = unless (ltb 0 (length b) && leb (length b) 65536 && eqb (length b % 4) 0) 1 0
