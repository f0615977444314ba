-- The instructions, in the order of their fields: one line for each opcode, from 1.
use Rattle.std.specs.Prelude.{ℕ, List, [], ◌∷◌, get_or}
use Rattle.model.specs.Book.Syntax.{QueryEntry, WriteVal, Instr, LookupOrInsertDefault, LookupWithDefault, Lookup, LookupWithFallback, Insert, InsertIfEq, Remove, External, ExternalWithFallback, AssertEq, AssertNe, AssertAnyNe, ReadCounter}

-- what a field holds: a number of something; any number; an entry; a count and as many entries; the same with write values
pub data Field : Type 0 where
  table counter function dst : Field
  column divider : Field
  entry : Field
  entries writes : Field

-- the fields, and the instruction: n k, e k, es k, ws k are what field k (from 0) holds
pub record Form : Type 0 where
  pub fields : List Field
  pub make : (n : ℕ → ℕ) (e : ℕ → QueryEntry) (es : ℕ → List QueryEntry) (ws : ℕ → List WriteVal) → Instr

abbrev form : List Field → ((ℕ → ℕ) → (ℕ → QueryEntry) → (ℕ → List QueryEntry) → (ℕ → List WriteVal) → Instr) → Form
form fs mk = record { fields = fs; make = mk }

abbrev pub forms : List Form
forms =
    form (table ∷ entries ∷ writes ∷ column ∷ dst ∷ []) (λ n e es ws. LookupOrInsertDefault (n 0) (es 1) (ws 2) (n 3) (n 4))
    ∷ form (table ∷ entries ∷ column ∷ dst ∷ entry ∷ []) (λ n e es ws. LookupWithDefault (n 0) (es 1) (n 2) (n 3) (e 4))
    ∷ form (table ∷ entries ∷ column ∷ dst ∷ []) (λ n e es ws. Lookup (n 0) (es 1) (n 2) (n 3))
    ∷ form (table ∷ entries ∷ function ∷ entries ∷ column ∷ dst ∷ []) (λ n e es ws. LookupWithFallback (n 0) (es 1) (n 2) (es 3) (n 4) (n 5))
    ∷ form (table ∷ entries ∷ []) (λ n e es ws. Insert (n 0) (es 1))
    ∷ form (table ∷ entry ∷ entry ∷ entries ∷ []) (λ n e es ws. InsertIfEq (n 0) (e 1) (e 2) (es 3))
    ∷ form (table ∷ entries ∷ []) (λ n e es ws. Remove (n 0) (es 1))
    ∷ form (function ∷ entries ∷ dst ∷ []) (λ n e es ws. External (n 0) (es 1) (n 2))
    ∷ form (function ∷ entries ∷ function ∷ entries ∷ dst ∷ []) (λ n e es ws. ExternalWithFallback (n 0) (es 1) (n 2) (es 3) (n 4))
    ∷ form (entry ∷ entry ∷ []) (λ n e es ws. AssertEq (e 0) (e 1))
    ∷ form (entry ∷ entry ∷ []) (λ n e es ws. AssertNe (e 0) (e 1))
    ∷ form (divider ∷ entries ∷ []) (λ n e es ws. AssertAnyNe (n 0) (es 1))
    ∷ form (counter ∷ dst ∷ []) (λ n e es ws. ReadCounter (n 0) (n 1))
    ∷ []

-- 0 and what lies past the list is no opcode
abbrev pub no_form : Form
no_form = form [] (λ n e es ws. ReadCounter 0 0)

unfoldable pub form_of : ℕ → Form
form_of op = get_or (no_form ∷ forms) op no_form
