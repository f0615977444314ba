-- What is read is what the model reads.
use Rattle.std.specs.Prelude.{ℕ, zero, suc, ◌+◌, ◌<◌, ◌≡◌, refl, List, ◌∷◌, map, length}
use Rattle.std.proofs.Math.Path.{sym, ap}
use Rattle.std.proofs.Common.{◌∙◌, arith}
use Rattle.std.proofs.Math.ListN.{get_or, get_or-eq_default, get_or-map}
use Rattle.model.specs.Basics.{tab}
use Rattle.model.specs.Book.Syntax as syntax
use Rattle.model.specs.Book.Layout.{Form, forms, no_form, form_of}
use Rattle.model.specs.Book.Decode as decode
use Rattle.instr.specs.Fields.{part_at}
use Rattle.instr.specs.Instr.{entry_by, write_by, entry_at, write_at, made, no_instr, instr_by, instr_at}
use Rattle.instr.specs.declared.layout.Part.{Part}
use Rattle.instr.specs.declared.Instr.{Instr}
use Rattle.instr.specs.declared.QueryEntry.{QueryEntry}
use Rattle.instr.specs.declared.QueryEntry.TheVariants.{Const}
use Rattle.instr.specs.declared.WriteVal.TheVariants.{QueryEntry as Entry, CurrentVal}
use Rattle.instr.specs.Meaning.{entry_of, write_of, instr_of}

pub entry_by_lem : (t x : ℕ) → entry_of (entry_by t x) ≡ decode.entry_of t x
unfolding entry_by
entry_by_lem zero x = refl
entry_by_lem (suc t) x = refl

pub write_by_lem : (t x : ℕ) → write_of (write_by t x) ≡ decode.write_of t x
unfolding write_by
write_by_lem zero x = refl
write_by_lem (suc zero) x = refl
write_by_lem (suc (suc zero)) x = refl
write_by_lem (suc (suc (suc t))) x = refl

-- ## The last arm of a match on a tag

pub entry_rest : (t x : ℕ) → (t ≡ 0 → ⊥) → Const x ≡ entry_by t x
unfolding entry_by
entry_rest zero x h = absurd (h refl)
entry_rest (suc t) x h = refl

pub write_rest : (t x : ℕ) → (t ≡ 0 → ⊥) → (t ≡ 1 → ⊥) → (t ≡ 2 → ⊥) → CurrentVal x ≡ write_by t x
unfolding write_by
write_rest zero x a b c = absurd (a refl)
write_rest (suc zero) x a b c = absurd (b refl)
write_rest (suc (suc zero)) x a b c = absurd (c refl)
write_rest (suc (suc (suc t))) x a b c = refl

-- tags 0 and 1 are an entry's
pub write_entry : (t x : ℕ) (e : QueryEntry) → t < 2 → e ≡ entry_by t x → Entry e ≡ write_by t x
unfolding write_by entry_by
write_entry zero x e h is = ap Entry is
write_entry (suc zero) x e h is = ap Entry is
write_entry (suc (suc t)) x e h is = absurd (omega arith)

-- none of 1 .. n
abbrev pub NoneOf : ℕ → ℕ → Type 0
NoneOf zero x = Unit {0}
NoneOf (suc n) x = NoneOf n x × (x ≡ suc n → ⊥)

none_of : (n x : ℕ) → NoneOf n x → 0 < x → n < x
none_of zero x h p = p
none_of (suc n) x h p = let q = none_of n x h.0 p in let e = h.1 in omega arith

outside : {A : Type 0} (d : A) (l : List A) (x : ℕ) → NoneOf (length l) x → d ≡ get_or (d ∷ l) x d
outside d l zero h = refl
outside d l (suc x) h = sym (get_or-eq_default l d {n = x} (omega (arith, none_of (length l) (suc x) h (omega arith))))

-- an arm of a match on the opcode, and its last
pub instr_arm : (fs : List Part) (i : Instr) {op n : ℕ} → op ≡ n → i ≡ get_or (no_instr ∷ made fs) n no_instr → i ≡ instr_by fs op
unfolding instr_by
instr_arm fs i e h = h ∙ ap (instr_by fs) (sym e)

pub instr_rest : (fs : List Part) (op : ℕ) → NoneOf 13 op → no_instr ≡ instr_by fs op
unfolding instr_by
instr_rest fs op h = outside no_instr (made fs) op h

pub fields_rest : (op : ℕ) → NoneOf 13 op → no_form ≡ form_of op
unfolding form_of
fields_rest op h = outside no_form forms op h

module _ (w : List ℕ) where
  -- ## An instruction: its line and the model's say the same

  abbrev by_form : (at : ℕ → ℕ) → Form → syntax.Instr
  by_form at f = f.make (λ k. get_or w (at k) 0) (λ k. decode.entry_at w (at k)) (λ k. decode.entries_at w (at k)) (λ k. decode.writes_at w (at k))

  lines : (at : ℕ → ℕ) → map (instr_of w) (no_instr ∷ made (tab (λ k. part_at w (at k)) 6)) ≡ map (by_form at) (no_form ∷ forms)
  unfolding instr_of tab
  lines at = simp entry_by_lem

  pub instr_at_lem : (p : ℕ) → instr_of w (instr_at w p) ≡ decode.instr_at w p
  unfolding instr_by instr_of form_of decode.instr_at
  instr_at_lem p =
      let at = decode.field_place w p in
      let op = get_or w p 0 in
      sym (get_or-map (instr_of w) (no_instr ∷ made (tab (λ k. part_at w (at k)) 6)) op no_instr)
      ∙ ap (λ l. get_or l op (instr_of w no_instr)) (lines at)
      ∙ get_or-map (by_form at) (no_form ∷ forms) op no_form

  -- ## At a place

  pub entry_at_lem : (p : ℕ) → entry_of (entry_at w p) ≡ decode.entry_at w p
  entry_at_lem p = entry_by_lem (get_or w p 0) (get_or w (p + 1) 0)

  pub write_at_lem : (p : ℕ) → write_of (write_at w p) ≡ decode.write_at w p
  write_at_lem p = write_by_lem (get_or w p 0) (get_or w (p + 1) 0)
