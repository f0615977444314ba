-- The front of the answer's words while the steps run: the words ws of the bodies so far, and then zeros; or they have no room.
use Rattle.std.specs.Prelude.{ℕ, ◌+◌, ◌-◌, ◌≤◌, ◌≡◌, refl, List, [], ◌++◌, length, take, drop, replicate}
use Rattle.std.proofs.Common.{sym, ap, ◌∙◌, arith, length-append, take_at, drop_at}
use Rattle.std.proofs.lemmas.List.{length-replicate}
use Rattle.std.proofs.lemmas.List.Edits.{sets-eq}
use Rattle.std.proofs.Math.Seq.{drop-append-add}
use Rattle.step_bodies.specs.Steps.{placed}
use Rattle.step_bodies.specs.StepLaws.{placed_fits, length_placed}
use Rattle.answer.specs.AssembledLaws.{drop_zeros}

pub record Scratch (ws b : List ℕ) : Type 0 where
  pub stand : length ws ≤ length b → b ≡ ws ++ replicate (length b - length ws) 0

-- before the first step
pub scratch_none : (n : ℕ) → Scratch [] (replicate n 0)
scratch_none n = record { stand = λ h. let e : length {A = ℕ} (replicate n 0) - 0 ≡ n = omega (arith, length-replicate {A = ℕ} n 0) in rw e }

-- one body more
pub scratch_more : (ws l b : List ℕ) → Scratch ws b → Scratch (ws ++ l) (placed l (length ws) b)
scratch_more ws l b s = record { stand = λ h. by (omega (arith, length-append ws l, length_placed l (length ws) b)) }
  where
    by : length ws + length l ≤ length b → placed l (length ws) b ≡ ws ++ l ++ replicate (length (placed l (length ws) b) - length (ws ++ l)) 0
    by h =
        let here : b ≡ ws ++ replicate (length b - length ws) 0 = s.stand (omega arith) in
        let front : take (length ws) b ≡ ws = ap (take (length ws)) here ∙ take_at ws (replicate (length b - length ws) 0) (length ws) refl in
        let behind : drop (length ws + length l) b ≡ replicate (length b - length ws - length l) 0 =
        ap (drop (length ws + length l)) here ∙ drop-append-add ws (replicate (length b - length ws) 0) (length l) ∙ drop_zeros (length l) (length b - length ws) in
        let n : length b - length ws - length l ≡ length (placed l (length ws) b) - length (ws ++ l) = omega (arith, length-append ws l, length_placed l (length ws) b) in
        sym (placed_fits l (length ws) b h) ∙ sets-eq l b (length ws) h ∙ rw (front, behind, n)

module _ (ws b : List ℕ) (s : Scratch ws b) (k : ℕ) (many : k ≡ length ws) (room : k ≤ length b) where
  here : b ≡ ws ++ replicate (length b - length ws) 0
  here = s.stand (omega arith)

  pub scratch_front : take k b ≡ ws
  scratch_front = ap (take k) here ∙ take_at ws (replicate (length b - length ws) 0) k (sym many)

  pub scratch_zeros : drop k b ≡ replicate (length b - k) 0
  scratch_zeros = ap (drop k) here ∙ drop_at ws (replicate (length b - length ws) 0) k (sym many) ∙ rw (← many)
