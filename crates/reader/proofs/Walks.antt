-- The model's walks as chains of calls: each piece after what stands before it, and a walk that is bad stays bad.
use Rattle.std.specs.Prelude.{ℕ, zero, suc, ◌≡◌, length, get_or}
use Rattle.std.proofs.Math.Path.{refl, sym, ap}
use Rattle.std.proofs.Common.{◌∙◌}
use mathlib.Core.List.{List, [], ◌∷◌}
use Rattle.model.specs.Basics.{iter}
use Rattle.model.specs.Laws.Scan.{walk_bad}
use Rattle.model.specs.Book.Layout as layout
use Rattle.model.specs.Book.Layout.{form_of}
use Rattle.model.specs.Book.Scan.{Scan, bad, good, ◌▹◌, any_word, up_to, opcode, tag, earliest, Sizes, tagged, peek, step, word, list, pair, walk, instr}
use Rattle.instr.specs.declared.layout.Field.{Field}
use Rattle.instr.specs.Fields.{fields_of}
use Rattle.reader.specs.Values.{walk_field}
use Rattle.reader.specs.ScanLaws.{word_bad}

pub earliest_kept : (p at : ℕ) → (p ≡ 0 → ⊥) → p ≡ earliest p at
earliest_kept zero at h = absurd (h refl)
earliest_kept (suc p) at h = refl

pub tagged_rest : (z : Sizes) (t : ℕ) → (t ≡ 0 → ⊥) → (t ≡ 1 → ⊥) → (t ≡ 2 → ⊥) → any_word ≡ tagged z t
tagged_rest z zero a b c = absurd (a refl)
tagged_rest z (suc zero) a b c = absurd (b refl)
tagged_rest z (suc (suc zero)) a b c = absurd (c refl)
tagged_rest z (suc (suc (suc zero))) a b c = refl
tagged_rest z (suc (suc (suc (suc t)))) a b c = refl

iter_front : {A : Type 0} (f : ℕ → A → A) (n : ℕ) (s : A) → iter f (suc n) s ≡ iter (λ k. f (suc k)) n (f 0 s)
iter_front f zero s = refl
iter_front f (suc n) s = ap (f (suc n)) (iter_front f n s)

-- ## A bad walk stays bad

pub then_is : (f : Scan → Scan) → f bad ≡ bad → (s : Scan) → s ▹ f ≡ f s
then_is f b bad = sym b
then_is f b (good at p q) = refl

-- one more piece of a chain
pub then_on : (f : Scan → Scan) → f bad ≡ bad → (s t : Scan) → s ≡ t → s ▹ f ≡ f t
then_on f b s t e = ap (λ (s : Scan). s ▹ f) e ∙ then_is f b t

pub iter_bad : (f : Scan → Scan) → f bad ≡ bad → (n : ℕ) → iter (λ _. f) n bad ≡ bad
iter_bad f b zero = refl
iter_bad f b (suc n) = ap f (iter_bad f b n) ∙ b

module _ (end : ℕ) (w : List ℕ) where
  pub list_bad : (most : ℕ) (one : Scan → Scan) → list end w most one bad ≡ bad
  unfolding step
  list_bad most one = refl

  -- a count, then as many
  pub list_is : (most : ℕ) (one : Scan → Scan) → one bad ≡ bad → (s : Scan) → list end w most one s ≡ iter (λ _. one) (peek w s) (word end w (up_to most) s)
  list_is most one b s = then_is (iter (λ _. one) (peek w s)) (iter_bad one b (peek w s)) (word end w (up_to most) s)

  pub list_stops : (most : ℕ) (one : Scan → Scan) (s : Scan) → word end w (up_to most) s ≡ bad → list end w most one s ≡ bad
  list_stops most one s e = ap (λ (t : Scan). t ▹ iter (λ _. one) (peek w s)) e

  module _ (z : Sizes) where
    pub pair_is : (a b : ℕ) (s : Scan) → pair end w z a b s ≡ word end w (tagged z (peek w s)) (word end w (tag a b) s)
    unfolding pair
    pair_is a b s = then_is (word end w (tagged z (peek w s))) (word_bad end w (tagged z (peek w s))) (word end w (tag a b) s)

    -- ## An instruction

    -- the loop over an instruction's fields
    module _ (d : Field) where
      abbrev pub field_turn : List Field → ℕ → Scan → Scan
      field_turn fs k = walk_field end w z (get_or fs k d)

      walk_is : (fs : List Field) (s : Scan) → iter (field_turn fs) (length fs) s ≡ walk end w z (fields_of fs) s
      unfolding walk
      walk_is [] s = refl
      walk_is (f ∷ fs) s = iter_front (field_turn (f ∷ fs)) (length fs) s ∙ walk_is fs (walk_field end w z f s)

      pub instr_is : (s : Scan) (fs : List Field) → fields_of fs ≡ (form_of (peek w s)).fields → instr end w z s ≡ iter (field_turn fs) (length fs) (word end w opcode s)
      unfolding instr
      instr_is s fs e =
          then_is (walk end w z (form_of (peek w s)).fields) (walk_bad z w end (form_of (peek w s)).fields) (word end w opcode s)
          ∙ ap (λ (l : List layout.Field). walk end w z l (word end w opcode s)) (sym e)
          ∙ sym (walk_is fs (word end w opcode s))
