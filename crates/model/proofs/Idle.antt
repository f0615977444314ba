-- A run that has stopped is left as it is.
use Prim.Native.Nat.{ℕ, zero, suc, ◌≤◌}
use mathlib.Core.Path.{◌≡◌, refl, sym, ap, ◌∙◌}
use mathlib.Core.Logic.{◌⊎◌, inl, inr}
use mathlib.Core.Bool.{false, ◌&&◌}
use Rattle.std.specs.Prelude.{Option, None, slice_get}
use lib.Dec.{T}
use lib.ListN.{length, get_or}
use Rattle.model.specs.Basics.{iter, when, found}
use Rattle.model.specs.Book.Syntax.{Instr, Rule}
use Rattle.model.specs.Machine.State.{State, Status, going, stuck, spent, full, is_going, Env}
use Rattle.model.specs.Machine.Steps.{missed, is_live, is_none, finish, end, instruction, instructions}
use Rattle.model.specs.Laws.Logic.{found_ind}
use Rattle.model.specs.Laws.Iter.{iter_stop}

pub goes? : (o : Status) → (o ≡ going) ⊎ (is_going o ≡ false)
goes? going = inl refl
goes? stuck = inr refl
goes? spent = inr refl
goes? full = inr refl

pub not_going : (o : Status) → (T (is_going o) → ⊥) → is_going o ≡ false
not_going going n = absurd (n tt)
not_going stuck n = refl
not_going spent n = refl
not_going full n = refl

abbrev pub Idle : (State → State) → Type 0
Idle f = (s : State) → is_going s.status ≡ false → f s ≡ s

module _ (f : ℕ → State → State) (h : (i : ℕ) → Idle (f i)) where
  pub iter_idle : (n : ℕ) → Idle (iter f n)
  iter_idle zero s e = refl
  iter_idle (suc n) s e = ap (f n) (iter_idle n s e) ∙ h n s e

  -- from turn m on
  pub iter_stays : (m n : ℕ) → m ≤ n → (s : State) → is_going (iter f m s).status ≡ false → iter f n s ≡ iter f m s
  iter_stays m n le s e = sym (iter_stop f m n s (iter f m s) refl le (λ i. h i (iter f m s) e))

pub missed_idle : (f : ℕ → State → State) → Idle (missed f)
unfolding missed
missed_idle f s e = iter_idle (λ i t. when (is_live t i && is_none (get_or t.out i None)) (f i) t) (λ i t h. rw h) (length s.live) s e

pub finish_idle : (k : ℕ) (d : Option ℕ) → Idle (finish k d)
unfolding finish
finish_idle k d s e = rw e

pub end_idle : Idle end
unfolding end
end_idle s e = rw e

module _ (E : Env) (k : ℕ) where
  pub instruction_idle : (j : ℕ) (ins : Instr) → Idle (instruction E k j ins)
  unfolding instruction
  instruction_idle j ins s e = rw e

  module _ (r : Rule) where
    -- instruction j, if the rule has as many
    abbrev pub turn : ℕ → State → State
    turn j s = found (slice_get r.instrs j) (λ ins. instruction E k j ins s) (λ _. s)

    pub turn_idle : (j : ℕ) → Idle (turn j)
    turn_idle j s e = found_ind (λ x. x ≡ s) (slice_get r.instrs j) _ _ (λ ins _. instruction_idle j ins s e) (λ _. refl)

    pub instructions_stay : (m n : ℕ) → m ≤ n → (s : State) → is_going (instructions E k r m s).status ≡ false → instructions E k r n s ≡ instructions E k r m s
    unfolding instructions
    instructions_stay m n le s e = iter_stays turn turn_idle m n le s e
