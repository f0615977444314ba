-- Masks as lists of marks: whether lane i is live stands at i. A batch of the model has a mark for each of its lanes, and a mask has 256.
use Rattle.std.specs.Prelude.{ℕ, suc, ◌-◌, Bool, false, ◌&&◌, ◌||◌, not, List, ◌++◌, ltb, length, get_or, replicate}
use Rattle.model.specs.Basics.{iter, when, how_many, tab}

-- marks filled up with false to 256
unfoldable pub padded : List Bool → List Bool
padded l = l ++ replicate (256 - length l) false

-- the lanes below n
unfoldable pub first_lanes : ℕ → List Bool
first_lanes n = tab (λ i. ltb i n) 256

-- by lane, of two masks
unfoldable pub both : (Bool → Bool → Bool) → List Bool → List Bool → List Bool
both f a b = tab (λ i. f (get_or a i false) (get_or b i false)) 256

abbrev pub united : List Bool → List Bool → List Bool
united a b = both ◌||◌ a b

abbrev pub but_not : Bool → Bool → Bool
but_not x y = x && not y

abbrev pub without : List Bool → List Bool → List Bool
without a b = both but_not a b

-- how many lanes are live
unfoldable pub count : List Bool → ℕ
count l = how_many (λ i. get_or l i false) (length l)

-- the number past the last i below n with p i; 0 where there is none
abbrev pub past_last : (ℕ → Bool) → ℕ → ℕ
past_last p n = iter (λ i. when (p i) (λ _. suc i)) n 0

-- how many lanes there are up to the last live one, and with it
unfoldable pub end : List Bool → ℕ
end l = past_last (λ i. get_or l i false) (length l)
