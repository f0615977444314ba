-- Short lists as lists: one word more, and the words of a part.
use Rattle.std.specs.Prelude.{ℕ, ◌+◌, ◌<◌, ◌≤◌, ◌≡◌, Bool, cond, List, [], ◌∷◌, ◌++◌, set, drop, replicate}
use Rattle.std.proofs.Math.Path.{refl}
use Rattle.std.proofs.Common.{sym, ◌∙◌, add-one, arith, length-drop, ext_get_or, get_or-take, get_or-drop, length-take-le, take-suc-set}
use Rattle.std.proofs.Math.Bool.{true, false}
use Rattle.std.proofs.Math.Dec.{ltb}
use Rattle.std.proofs.Math.ListN.{length, get_or, length-set}
use Rattle.std.proofs.Math.Seq.{take_at}
use borrow.Author.Tests.{lt-ltb, ltb-true}
use Rattle.model.specs.Basics.{tab}
use Rattle.model.specs.Book.Decode.{part}
use Rattle.model.specs.Laws.Lists.{length_tab, get_or_tab}
use Rattle.words.specs.Filled.{length_filled}
use Rattle.args.specs.declared.Args.{Args}
use Rattle.args.specs.Args.{as_list, pushed, words_at}

-- ## One word more

module _ (a : Args) (x : ℕ) where
  abbrev longer : Args
  longer = record { vals = set a.vals a.count x; count = a.count + 1 }

  pub push_list : a.count < 16 → length a.vals ≡ 16 → as_list (pushed a x) ≡ as_list a ++ (x ∷ [])
  unfolding pushed
  push_list h n = rw (lt-ltb _ _ h, add-one) (take-suc-set a.vals a.count x (omega arith))

  pub push_count : a.count < 16 → (pushed a x).count ≡ a.count + 1
  unfolding pushed
  push_count h = rw (lt-ltb _ _ h)

  pub push_fits : a.count ≤ 16 → (pushed a x).count ≤ 16
  unfolding pushed
  push_fits h = by (ltb a.count 16) refl
    where
      by : (b : Bool) → ltb a.count 16 ≡ b → (cond b longer a).count ≤ 16
      by true e = omega (arith, ltb-true a.count 16 e)
      by false e = h

  pub push_length : length (pushed a x).vals ≡ length a.vals
  unfolding pushed
  push_length = by (ltb a.count 16)
    where
      by : (b : Bool) → length (cond b longer a).vals ≡ length a.vals
      by true = length-set a.vals a.count x
      by false = refl

-- ## Words of a part

-- as a loop copies them
pub part_tab : (w : List ℕ) (at n : ℕ) → at + n ≤ length w → tab (λ i. get_or w (at + i) 0) n ≡ part w at n
part_tab w at n h =
    let f : ℕ → ℕ = λ (i : ℕ). get_or w (at + i) 0 in
    let l : length (part w at n) ≡ n = length-take-le n (drop at w) (omega (arith, length-drop at w)) in
    ext_get_or 0 (tab f n) (part w at n) (length_tab f n ∙ sym l)
    (λ i k. let m : i < n = omega (arith, length_tab f n) in get_or_tab f n i 0 m ∙ sym (get_or-take n (drop at w) i 0 m ∙ get_or-drop at w i 0))

module _ (w : List ℕ) (at n : ℕ) where
  pub words_list : at + n ≤ length w → as_list (words_at w at n) ≡ part w at n
  unfolding words_at
  words_list h = take_at (tab (λ i. get_or w (at + i) 0) n) (drop n (replicate 16 0)) n (length_tab _ n) ∙ part_tab w at n h

  pub words_count : (words_at w at n).count ≡ n
  unfolding words_at
  words_count = refl

  pub words_length : n ≤ 16 → length (words_at w at n).vals ≡ 16
  unfolding words_at
  words_length h = length_filled (λ i. get_or w (at + i) 0) n (replicate 16 0) h
