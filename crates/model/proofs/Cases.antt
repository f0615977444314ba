-- K1 to K12, by computation, and demand 3 of K1.
use Prim.Native.Nat.{ℕ}
use native.Mathlib.Omega.{arith}
use mathlib.Core.Path.{◌≡◌, refl}
use mathlib.Core.Bool.{true}
use Rattle.std.specs.Prelude.{None}
use mathlib.Core.List.{List, [], ◌∷◌}
use Rattle.model.specs.Basics.{All}
use Rattle.model.specs.Book.Words.{Byte, bytes_of}
use Rattle.model.specs.Outcome.{book_refusal}
use Rattle.model.specs.Machine.Functions.{apply}
use Rattle.model.specs.Claims.Demand3.{NeverStale}
use Rattle.model.specs.Claims.Cases.{CasesHold, K1Column, K1Lines, k1_words, k1_bytes, K1Demand3}
use Rattle.model.specs.Safety.Instance.{functions_fine}
use Rattle.model.specs.Safety.BookClaims.{own_steps_lem}
use Rattle.model.proofs.Safety.{demand3}
use Rattle.model.proofs.Computed.{computed}

pub cases_hold : CasesHold
unfolding computed
cases_hold = (refl, (refl, (refl, (refl, (refl, (refl, (refl, (refl, (refl, (refl, (refl, (refl, tt))))))))))))

pub k1_column : K1Column
unfolding computed
k1_column = refl

pub k1_lines : K1Lines
unfolding computed
k1_lines = refl

-- ## Demand 3

bytes_of_lem : (ws : List ℕ) → All Byte (bytes_of ws)
unfolding bytes_of
bytes_of_lem [] = tt
bytes_of_lem (w ∷ ws) = (omega arith, (omega arith, (omega arith, (omega arith, bytes_of_lem ws))))

k1_unrefused : book_refusal k1_bytes ≡ None
unfolding computed
k1_unrefused = refl

answers_fine : NeverStale (λ _ _. apply)
answers_fine o call f args w clean e = functions_fine f args w clean e

pub k1_demand3 : K1Demand3
unfolding computed
k1_demand3 =
    let fit = own_steps_lem k1_bytes (bytes_of_lem k1_words) k1_unrefused in
    record {
      bytes = bytes_of_lem k1_words;
      unrefused = k1_unrefused;
      answers = answers_fine;
      fit = fit;
      claims = demand3 k1_bytes (bytes_of_lem k1_words) k1_unrefused (λ _ _. apply) answers_fine (λ _. true) _ fit;
      lane1 = (9, refl);
      lane2 = (6, refl);
      lane3 = (2, refl);
    }
