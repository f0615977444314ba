-- What the code of the walk leans on: a walk that is bad stays bad, past a word, a list, and the fields of an instruction.
use Rattle.std.specs.Prelude.{ℕ, zero, suc, ◌<◌, ◌≡◌, length, get_or, drop}
use Rattle.std.proofs.Math.Path.{refl, ap}
use Rattle.std.proofs.Common.{◌∙◌, arith, drop-cons}
use mathlib.Core.List.{List}
use Rattle.model.specs.Basics.{iter}
use Rattle.model.specs.Laws.Logic.{either, le_cases}
use Rattle.model.specs.Laws.Scan.{walk_bad}
use Rattle.model.specs.Book.Scan.{Draw, Scan, bad, Sizes, step, word, pair, walk, instr}
use Rattle.instr.specs.declared.layout.Field.{Field}
use Rattle.instr.specs.Fields.{fields_of}
use Rattle.reader.specs.Values.{walk_field}

-- a turn that is bad, and those after it
pub iter_stops : (f : Scan → Scan) → f bad ≡ bad → (i n : ℕ) (s : Scan) → i < n → f (iter (λ _. f) i s) ≡ bad → iter (λ _. f) n s ≡ bad
iter_stops f b i zero s l e = absurd (omega arith)
iter_stops f b i (suc n) s l e = either (λ m. ap f (iter_stops f b i n s m e) ∙ b) (λ q. rw q at e) (le_cases l)

module _ (end : ℕ) (w : List ℕ) where
  pub word_bad : (test : ℕ → Draw) → word end w test bad ≡ bad
  unfolding step
  word_bad test = refl

  module _ (z : Sizes) where
    pub pair_bad : (a b : ℕ) → pair end w z a b bad ≡ bad
    unfolding pair step
    pair_bad a b = refl

    -- ## An instruction

    pub instr_bad : instr end w z bad ≡ bad
    unfolding instr step
    instr_bad = refl

    -- a field that is bad, and those after it
    pub fields_stop : (fs : List Field) (i : ℕ) (d : Field) (s : Scan) → i < length fs → walk_field end w z (get_or fs i d) s ≡ bad → walk end w z (fields_of (drop i fs)) s ≡ bad
    unfolding walk
    fields_stop fs i d s h e = rw (drop-cons fs i d) (ap (walk end w z (fields_of (drop (suc i) fs))) e ∙ walk_bad z w end (fields_of (drop (suc i) fs)))
