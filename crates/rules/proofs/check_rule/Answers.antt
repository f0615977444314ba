-- The first j instructions pass, p is the next one's place (`next_here`), `bound` what it may read (`bound_here`); one refused is `rule_stop`, none `rule_end`.
use Prim.Native.Nat.{ℕ, ◌+◌}
use mathlib.Core.Path.{refl, ◌≡◌, ap, ◌∙◌}
use native.Mathlib.Omega.{arith}
use lib.ListN.{get_or}
use Rattle.std.specs.Prelude.{Ok, Err}
use Rattle.refusal.specs.Refusal.{handed_on}
use borrow.Author.Count.{below_more}
use Rattle.model.specs.Outcome.{rule_first}
use Rattle.instr.specs.Instr.{instr_at}
use Rattle.bound_vars.specs.BoundLaws.{length_first, length_binding}
use Rattle.rules.specs.RuleLaws.{At, many, bound_start, small_here, stands_here, next_here, bound_here, rule_on, rule_stop, rule_end}
use Rattle.instr.specs.Stands.{binds_of}
use Rattle.bound_vars.specs.Bound.{has}
use Rattle.rules.proofs.check_rule.Goals as goal
use Rattle.rules.proofs.check_rule.Goals.{After-instr_at}

-- what is known of the instruction, from where it is read on
here : (c : After-instr_at) → At c.args.book.words.now c.args.r c.loop.counter c.loop.p c.instr_at.result
here c =
    let l = c.loop in
    record { readable = c.args.book.readable; rule = c.requires; below = omega (arith, l.invariant.0); place = l.invariant.1; is = c.instr_at.ensures }

pub loop-init : goal.loop-init
loop-init c =
    let a = c.args in
    let w = a.book.words.now in
    let f : c.rule-first.result ≡ rule_first w a.r = c.rule-first.ensures.0 in
    (c.size_at-n.ensures.0 ∙ ap (λ (x : ℕ). get_or w (x + 1) 0) f, ap (λ (x : ℕ). x + 2) f, rw (c.first-bound.ensures, c.size_at-starts.ensures.0, f) (bound_start w a.r a.book.readable c.requires), rw c.first-bound.ensures (length_first _), λ k m. absurd (omega arith))

pub instr_at-requires : goal.instr_at-requires
instr_at-requires c =
    let a = c.args in
    let l = c.loop in
    let x : At a.book.words.now a.r l.counter l.p (instr_at a.book.words.now l.p) = record { readable = c.args.book.readable; rule = c.requires; below = omega (arith, l.invariant.0); place = l.invariant.1; is = refl } in
    small_here x

pub invariant_of-i : goal.invariant_of-i
invariant_of-i c = record { stands = stands_here (here (goal.at.invariant_of-i c).After-instr_at) }

pub returns-in_err-check : goal.returns-in_err-check
returns-in_err-check c =
    let l = c.loop in
    let x = here (goal.at.returns-in_err-check c).After-instr_at in
    handed_on _ _ c.from_residual.ensures.1 ∙ rule_stop x l.bound l.invariant.2 {A = Unit {0}} (Err c.in_err-check.field-0.0) c.in_err-check.ensures refl l.invariant.4

pub next-p-requires : goal.next-p-requires
next-p-requires c = small_here (here (goal.at.next-p-requires c).After-instr_at)

pub loop-preserved : goal.loop-preserved
loop-preserved c =
    let l = c.loop in
    let x = here (goal.at.loop-preserved c).After-instr_at in (
      l.invariant.0,
      c.next-p.ensures ∙ next_here x,
      ap has c.bind_dst-bound.ensures ∙ bound_here x l.bound l.invariant.2 l.invariant.3,
      rw c.bind_dst-bound.ensures (length_binding (binds_of c.instr_at.result) l.bound l.invariant.3),
      below_more _ _ l.invariant.4 (rule_on x l.bound l.invariant.2 {A = Unit {0}} (Ok c.in_ok-check.field-0) c.in_ok-check.ensures refl),
    )

pub returns : goal.returns
returns c =
    let a = c.args in
    let l = c.loop in
    let e : l.counter ≡ many a.book.words.now a.r = omega (arith, l.invariant.0) in
    rule_end a.book.words.now a.r (rw e at l.invariant.4)
