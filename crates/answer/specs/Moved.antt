-- Words that go to the right, the last one first: after i of n turns the last i of them stand d words further on.
use Prim.Native.Nat.{ℕ, suc, ◌+◌, ◌-◌, ◌<◌, ◌≤◌}
use Rattle.std.specs.Prelude.{◌≡◌, length}
use Rattle.std.proofs.Math.Path.{sym, ap}
use Rattle.std.proofs.Common.{◌∙◌, take-append-drop}
use mathlib.Core.List.{List, [], ◌∷◌, ◌++◌, append-nil, append_assoc}
use native.Mathlib.Omega.{arith}
use Rattle.std.proofs.Math.ListN.{get_or, set, take, drop, drop_of_length-le, get_or-append}
use Rattle.std.proofs.lemmas.List.Edits.{sets, sets-eq}
use Rattle.std.proofs.Math.Seq.{set_at, take-suc, drop-cons, get_or-take, length-take-le, append_snoc}

unfoldable pub moved : List ℕ → (n d i : ℕ) → List ℕ
moved a n d i = take (d + (n - i)) a ++ drop (n - i) (take n a) ++ drop (d + n) a

module _ (a : List ℕ) (n d : ℕ) (fits : d + n ≤ length a) where
  length_first : length (take n a) ≡ n
  length_first = length-take-le n a (omega arith)

  pub moved_none : a ≡ moved a n d 0
  unfolding moved
  moved_none = let z : n - 0 ≡ n = omega arith in sym (rw (z, drop_of_length-le (take n a) {i = n} (omega (arith, length_first)), append-nil (take (d + n) a)) (take-append-drop (d + n) a))

  -- turn i takes word j, the last of those that still stand
  turn : (i j : ℕ) → n - i ≡ suc j → n - (i + 1) ≡ j → j < n → set (moved a n d i) (d + j) (get_or (moved a n d i) j 0) ≡ moved a n d (i + 1)
  unfolding moved
  turn i j e f h =
      let s : d + suc j ≡ suc (d + j) = omega arith in
      let rest = drop (suc j) (take n a) ++ drop (d + n) a in
      let b : take (suc (d + j)) a ≡ take (d + j) a ++ (get_or a (d + j) 0 ∷ []) = take-suc a (d + j) 0 (omega arith) in
      let cur : take (d + suc j) a ++ drop (suc j) (take n a) ++ drop (d + n) a ≡ take (d + j) a ++ get_or a (d + j) 0 ∷ rest =
      rw (s, b) (append_assoc (take (d + j) a ++ (get_or a (d + j) 0 ∷ [])) (drop (suc j) (take n a)) (drop (d + n) a) ∙ append_snoc (take (d + j) a) (get_or a (d + j) 0) rest) in
      let x : get_or (take (d + suc j) a ++ drop (suc j) (take n a) ++ drop (d + n) a) j 0 ≡ get_or a j 0 =
      ap (λ (l : List ℕ). get_or l j 0) (append_assoc (take (d + suc j) a) (drop (suc j) (take n a)) (drop (d + n) a))
      ∙ get_or-append (take (d + suc j) a) rest 0 j (omega (arith, length-take-le (d + suc j) a (omega arith))) ∙ get_or-take (d + suc j) a j 0 (omega arith) in
      let y : drop j (take n a) ≡ get_or a j 0 ∷ drop (suc j) (take n a) = drop-cons (take n a) j 0 (omega (arith, length_first)) ∙ rw (get_or-take n a j 0 h) in
      let before : set (take (d + suc j) a ++ drop (suc j) (take n a) ++ drop (d + n) a) (d + j) (get_or a j 0) ≡ take (d + j) a ++ get_or a j 0 ∷ rest =
      ap (λ (l : List ℕ). set l (d + j) (get_or a j 0)) cur ∙ set_at (take (d + j) a) (get_or a (d + j) 0) rest (get_or a j 0) (d + j) (length-take-le (d + j) a (omega arith)) in
      let after : take (d + j) a ++ get_or a j 0 ∷ rest ≡ take (d + j) a ++ drop j (take n a) ++ drop (d + n) a =
      rw y (sym (append_assoc (take (d + j) a) (get_or a j 0 ∷ drop (suc j) (take n a)) (drop (d + n) a))) in
      rw (e, f, x) (before ∙ after)

  pub moved_turn : (i : ℕ) (cur : List ℕ) → cur ≡ moved a n d i → i < n → set cur (d + (n - 1 - i)) (get_or cur (n - 1 - i) 0) ≡ moved a n d (i + 1)
  moved_turn i cur e h = rw e (turn i (n - 1 - i) (omega arith) (omega arith) (omega arith))

  pub moved_all : moved a n d n ≡ sets a d (take n a)
  unfolding moved
  moved_all =
      let z : n - n ≡ 0 = omega arith in
      let y : d + 0 ≡ d = omega arith in
      rw (z, y) (sym (sets-eq (take n a) a d (omega (arith, length_first)) ∙ rw length_first))
