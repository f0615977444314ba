-- By the write value: a constant and a current value always give a word; a counter that is spent gives none, and there is no row (`handed_spent`, `handed_next`).
use Rattle.std.proofs.Common.{refl}
use Rattle.build.specs.Build.{written}
use Rattle.build.specs.BuildLaws.{handed_spent, handed_next}
use Rattle.build.proofs.write.Goals as goal
use Rattle.build.proofs.write.Goals.{in-QueryEntry, in-IncCounter+in_ok-x-in-IncCounter, in-CurrentVal}

pub returns-in_err-x-in-IncCounter-clause-is : goal.returns-in_err-x-in-IncCounter-clause-is
unfolding written
returns-in_err-x-in-IncCounter-clause-is c = rw (c.from_residual.ensures, c.in-IncCounter.is) (handed_spent _ _ c.in_err-x-in-IncCounter.ensures.number)

pub returns-clause-is : goal.returns-clause-is
unfolding written
returns-clause-is c =
    elim c.match-v.branch [
      | in-QueryEntry w ↦ rw (c.push.ensures, w.b-is, w.x-is, w.in-QueryEntry.is, w.value-x.ensures) refl
      | in-IncCounter+in_ok-x-in-IncCounter w ↦ rw (c.push.ensures, w.b-is, w.x-is, w.in-IncCounter.is) (handed_next _ _ _ _ w.in_ok-x-in-IncCounter.ensures.number w.in_ok-x-in-IncCounter.ensures.counters)
      | in-CurrentVal w ↦ rw (c.push.ensures, w.b-is, w.x-is, w.in-CurrentVal.is, w.word-x.ensures) refl
    ]
