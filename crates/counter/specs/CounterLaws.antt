-- The counters of a run, at most 16, as an array of 16 with zeros past the last.
use Rattle.std.specs.Prelude.{ℕ, ◌-◌, ◌<◌, ◌≤◌, ◌≡◌, refl, List, ◌++◌, length, get_or, set, replicate, Option, None, Some}
use Rattle.std.proofs.Common.{arith, length-append, length-set}
use Rattle.std.proofs.lemmas.List.{length-replicate, set-append_left, set-get_or}
use Rattle.std.proofs.Math.ListN.{get_or-append}
use Rattle.model.specs.Basics.{found}
use Rattle.model.specs.Book.Syntax.{Counter, no_counter}
use Rattle.model.specs.Machine.Values.{draw}
use Rattle.counter.specs.declared.Counter as code
use Rattle.counter.specs.Counter.{drawn_of, after, raised, after_draw}

unfoldable pub padded : List Counter → List ℕ
padded cs = cs ++ replicate (16 - length cs) 0

pub length_padded : (cs : List Counter) → length cs ≤ 16 → length (padded cs) ≡ 16
unfolding padded
length_padded cs h = simp (length-append, length-replicate) (omega arith)

pub get_or_padded : (cs : List Counter) (c : ℕ) → c < length cs → get_or (padded cs) c 0 ≡ get_or cs c no_counter
unfolding padded
get_or_padded cs c h = get_or-append cs (replicate (16 - length cs) 0) 0 c h

pub set_padded : (cs : List Counter) (c : ℕ) (x : Counter) → c < length cs → set (padded cs) c x ≡ padded (set cs c x)
unfolding padded
set_padded cs c x h = rw (length-set cs c x) (set-append_left cs (replicate (16 - length cs) 0) c x h)

pub draw_padded : (cs : List Counter) (c : ℕ) → c < length cs → after_draw (padded cs) c ≡ padded (after_draw cs c)
draw_padded cs c h = rw (get_or_padded cs c h) (by (draw (get_or cs c no_counter)))
  where
    by : (o : Option (ℕ × Counter)) → found o (λ p. set (padded cs) c p.1) (λ _. padded cs) ≡ padded (found o (λ p. set cs c p.1) (λ _. cs))
    by None = refl
    by (Some p) = set_padded cs c p.1 h

-- what a draw from a counter leaves is the raised counter
pub after_draw_lem : (d : Option (ℕ × code.Counter)) (c : code.Counter) → drawn_of d ≡ draw c.next → after d c ≡ raised c
after_draw_lem (Some p) c e = rw (← e)
after_draw_lem None c e = rw (← e)

-- a spent counter that is set back changes nothing, so the counters are set after every draw
pub set_raised : (cs : List Counter) (c : ℕ) → set cs c (raised (record { next = get_or cs c no_counter })).next ≡ after_draw cs c
set_raised cs c = by (draw (get_or cs c no_counter))
  where
    by : (o : Option (ℕ × Counter)) → set cs c (found {B = code.Counter} o (λ p. record { next = p.1 }) (λ _. record { next = get_or cs c no_counter })).next ≡ found o (λ p. set cs c p.1) (λ _. cs)
    by None = set-get_or cs c no_counter
    by (Some p) = refl
