-- The contents of a book: refusal 2, and what stands where in a book that it lets pass.
use Rattle.std.specs.Prelude.{ℕ, zero, suc, ◌+◌, ◌*◌, Bool, ◌&&◌, not, List, [], ◌∷◌, eqb, ltb, leb, length, get_or, Option, Some}
use Rattle.model.specs.Basics.{found, ◌else◌, least, how_many}
use Rattle.model.specs.Book.Words.{Refusal, unless}

-- entries go by groups of kinds, which never fall: 4 and 5 are one group, so either may follow the other. 0 is no kind
abbrev pub group : ℕ → ℕ
group kind = get_or (0 ∷ 1 ∷ 2 ∷ 3 ∷ 4 ∷ 4 ∷ []) kind 0

-- tables, counters, rules, steps
abbrev pub most : ℕ → ℕ
most g = get_or (0 ∷ 16 ∷ 16 ∷ 32 ∷ 64 ∷ []) g 0

module _ (w : List ℕ) where
  abbrev pub word : ℕ → ℕ
  word p = get_or w p 0

  abbrev pub count : ℕ
  count = word 0

  -- entry i: its kind and group, the first word of its body, its length, and the word past it
  abbrev pub kind_of : ℕ → ℕ
  kind_of i = word (1 + 3 * i)

  abbrev pub group_of : ℕ → ℕ
  group_of i = group (kind_of i)

  abbrev pub first_of : ℕ → ℕ
  first_of i = word (2 + 3 * i)

  abbrev pub length_of : ℕ → ℕ
  length_of i = word (3 + 3 * i)

  abbrev pub end_of : ℕ → ℕ
  end_of i = first_of i + length_of i

  -- how many of the first n entries are of group g
  unfoldable pub members : ℕ → ℕ → ℕ
  members g n = how_many (λ i. eqb (group_of i) g) n

  -- where the body of entry i has to begin, and the group that it may not fall below
  abbrev pub begins : ℕ → ℕ
  begins zero = 1 + 3 * count
  begins (suc i) = end_of i

  abbrev pub last_group : ℕ → ℕ
  last_group zero = 1
  last_group (suc i) = group_of i

  unfoldable pub entry_fits : ℕ → Bool
  entry_fits i = leb (last_group i) (group_of i) && ltb 0 (group_of i) && leb (members (group_of i) (suc i)) (most (group_of i)) && eqb (first_of i) (begins i)

  unfoldable pub count_fits : Bool
  count_fits = ltb 0 count && leb count 128 && leb (1 + 3 * count) (length w)

  -- 2: first the count and the room that the contents take, at place 0; then each entry at its own place; then where the last body ends, at 0 again
  unfoldable pub contents_refusal : Option Refusal
  contents_refusal =
      unless count_fits 2 0 else λ _.
      found (least (λ i. not (entry_fits i)) count) (λ i. Some (record { number = 2; place = i })) λ _.
      unless (eqb (begins count) (length w)) 2 0

  -- how many tables, counters and rules there are; the rules' first entry, and the steps'
  abbrev pub table_count : ℕ
  table_count = members 1 count

  abbrev pub counter_count : ℕ
  counter_count = members 2 count

  abbrev pub rule_count : ℕ
  rule_count = members 3 count

  abbrev pub step_count : ℕ
  step_count = members 4 count

  abbrev pub first_rule : ℕ
  first_rule = table_count + counter_count

  abbrev pub first_step : ℕ
  first_step = first_rule + rule_count
