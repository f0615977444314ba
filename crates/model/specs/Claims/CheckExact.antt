-- A rule passes the check exactly when the four conditions hold.
use Rattle.std.specs.Prelude.{ℕ, ◌≡◌, ◌↔◌, List, None}
use Rattle.model.specs.Book.Decode.{read_rule}
use Rattle.model.specs.Book.Read.{tables}
use Rattle.model.specs.Check.{Conditions}
use Rattle.model.specs.Machine.Functions.{arity}
use Rattle.model.specs.Outcome.{rule_first, rule_refusal}

-- rule r of a book's words draws none of 8, 7, 10 and 9 exactly when the conditions hold of what it reads to. A rule that cannot be read has drawn 3, 6 or 4 before; of it the claim holds too
abbrev pub CheckExact : Type 0
CheckExact = (w : List ℕ) (r : ℕ) → (rule_refusal w r ≡ None) ↔ Conditions (tables w) arity (read_rule w (rule_first w r))
