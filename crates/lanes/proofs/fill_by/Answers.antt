-- After i lanes those that were answered have word and mark (`answered_turn`); past the last live lane nothing is left (`answered_all`).
use Rattle.std.proofs.Common.{ℕ, ◌≡◌, refl, sym, ◌∙◌, Bool, true, false, List, get_or, set, None, Some, rules, arith}
use Rattle.std.proofs.lemmas.List.{set-get_or}
use Rattle.lanes.specs.PassLaws.{answered_none, answered_turn, answered_all}
use Rattle.lanes.proofs.fill_by.Goals as goal
use Rattle.lanes.proofs.fill_by.Goals.{then-mask-i+in-Some, then-mask-i+in-None, else-mask-i}

pub loop-i-init : goal.loop-i-init
loop-i-init g c ask p = answered_none _ _ _ (search rules) (search rules)

-- a mark that stays
stays : (marks : List Bool) (i : ℕ) (b : Bool) → get_or marks i false ≡ b → set marks i b ≡ marks
stays marks i b e = rw e at (set-get_or marks i false)

pub loop-i-preserved : goal.loop-i-preserved
loop-i-preserved g c ask p =
    let l = c.loop-i in
    let marks = l.mask.live in
    let word = set-get_or l.out l.i 0 in
    let a = l.invariant ask p in
    elim c.if-mask-i.branch [
      | then-mask-i+in-Some w ↦
          let live = w.if-mask-i.true in
          rw (w.mask-is, w.out-is, ← stays marks l.i true live) (answered_turn _ _ _ l.i _ _ _ (Some w.in-Some.word) true a (omega arith) (rw live (sym (w.in-Some.is) ∙ p _ _ _ _ w.answer.ensures)) (refl, refl))
      | then-mask-i+in-None w ↦
          rw (w.mask-is, w.out-is, ← word) (answered_turn _ _ _ l.i _ _ _ None false a (omega arith) (rw w.if-mask-i.true (sym (w.in-None.is) ∙ p _ _ _ _ w.answer.ensures)) (refl, refl))
      | else-mask-i w ↦
          let dead = w.if-mask-i.false in
          rw (w.mask-is, w.out-is, ← stays marks l.i false dead, ← word) (answered_turn _ _ _ l.i _ _ _ None false a (omega arith) (rw dead) (refl, refl))
    ]

pub returns : goal.returns
returns g c ask p = let l = c.loop-i in answered_all _ _ _ l.i _ _ (l.invariant ask p) (omega arith)
