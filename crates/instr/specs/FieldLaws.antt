-- Where an instruction's fields stand.
use Prim.Native.Nat.{ℕ, zero, suc, ◌+◌, ◌*◌, ◌≤◌}
use Rattle.std.specs.Prelude.{◌≡◌, ◌<◌, get_or, take, length, Option, None, Some}
use Rattle.std.proofs.Math.Path.{refl}
use Rattle.std.proofs.Common.{take_all}
use Rattle.std.proofs.lemmas.List.{length-map}
use mathlib.Core.List.{List, [], ◌∷◌}
use native.Mathlib.Omega.{arith}
use Rattle.model.specs.Basics.{found}
use Rattle.model.specs.Book.Layout as layout
use Rattle.model.specs.Book.Layout.{Field, table, counter, function, dst, column, divider, entry, entries, writes}
use Rattle.model.specs.Book.Decode.{after, past}
use Rattle.model.specs.Book.Read.{sizes}
use Rattle.model.specs.Laws.Scan.{FieldOk, FieldsOk, up_to_fine}
use Rattle.instr.specs.declared.layout.Field as code
use Rattle.instr.specs.Fields.{field_of, fields_of, past_field}

module _ (w : List ℕ) where
  -- a field more, if there is one
  past_first : (o : Option layout.Field) (fs : List layout.Field) (q : ℕ) → past w (found o (λ g. g ∷ fs) (λ _. fs)) q ≡ past w fs (found o (λ g. after w g q) (λ _. q))
  unfolding past
  past_first None fs q = refl
  past_first (Some g) fs q = refl

  -- one field more
  pub past_more : (fs : List code.Field) (d : code.Field) (k q : ℕ) → k < length fs → past w (take (suc k) (fields_of fs)) q ≡ past_field w (get_or fs k d) (past w (take k (fields_of fs)) q)
  unfolding past
  past_more [] d k q h = absurd (omega arith)
  past_more (f ∷ fs) d zero q h = refl
  past_more (f ∷ fs) d (suc k) q h = past_more fs d k (past_field w f q) (omega (arith, h))

  -- past the last field
  pub past_last : (fs : List code.Field) (k q : ℕ) → length fs ≤ k → past w (take k (fields_of fs)) q ≡ past w (fields_of fs) q
  past_last fs k q h = rw (take_all k (fields_of fs) (omega (arith, h, length-map fs field_of)))

module _ (w : List ℕ) (end : ℕ) where
  after_near : (f : Field) (q : ℕ) → FieldOk (sizes w) w end f q → after w f q ≤ q + 33
  unfolding after
  after_near table q h = omega arith
  after_near counter q h = omega arith
  after_near function q h = omega arith
  after_near dst q h = omega arith
  after_near column q h = omega arith
  after_near divider q h = omega arith
  after_near entry q h = omega arith
  after_near entries q h = omega (arith, up_to_fine {n = 16} (get_or w q 0) h.0)
  after_near writes q h = omega (arith, up_to_fine {n = 16} (get_or w q 0) h.0)

  -- field k stands near the first
  pub place_near : (fs : List Field) (k q : ℕ) → FieldsOk (sizes w) w end fs q → past w (take k fs) q ≤ q + 33 * k
  unfolding past
  place_near fs zero q h = omega arith
  place_near [] (suc k) q h = omega arith
  place_near (f ∷ fs) (suc k) q h = omega (arith, after_near f q h.0, place_near fs k (after w f q) h.1)
