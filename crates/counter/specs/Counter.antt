-- What the code draws from a counter, in the model's terms.
use Rattle.std.specs.Prelude.{ℕ, List, get_or, set, Option, None, Some}
use Rattle.model.specs.Basics.{found}
use Rattle.model.specs.Book.Syntax.{Counter, no_counter}
use Rattle.model.specs.Machine.Values.{draw}
use Rattle.counter.specs.declared.Counter as code

abbrev pub drawn_of : Option (ℕ × code.Counter) → Option (ℕ × Counter)
drawn_of (Some p) = Some (p.0, p.1.next)
drawn_of None = None

-- the counter that a draw leaves; a spent one stays as it was
abbrev pub after : Option (ℕ × code.Counter) → code.Counter → code.Counter
after (Some p) was = p.1
after None was = was

-- a counter after its draw: up by one, or spent and as it was
abbrev pub raised : code.Counter → code.Counter
raised c = found (draw c.next) (λ p. record { next = p.1 }) (λ _. c)

-- the counters after a draw from counter c, as `hand_out` leaves them; a spent counter stays
abbrev pub after_draw : List Counter → ℕ → List Counter
after_draw cs c = found (draw (get_or cs c no_counter)) (λ p. set cs c p.1) (λ _. cs)
