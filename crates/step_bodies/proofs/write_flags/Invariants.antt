use Rattle.std.specs.Prelude.{◌≡◌, false, get_or}
use Rattle.words.specs.Filled.{filled}
use Rattle.model.specs.Answer.{flag}
use Rattle.step_bodies.proofs.write_flags.Given as goal

abbrev pub invariant-loop-i : goal.invariant-loop-i
invariant-loop-i l = l.words ≡ filled (λ k. flag (get_or l.fn.mask.live k false)) l.i l.initial.words
