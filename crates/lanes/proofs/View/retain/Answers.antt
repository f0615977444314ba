-- The comparison of the two words is that of `holds`.
use Rattle.std.proofs.Common.{not, eqb, rules}
use Rattle.lanes.specs.Lanes.{holds}
use Rattle.lanes.proofs.View.retain.Goals as goal

pub returns-in-Eq : goal.returns-in-Eq
unfolding holds
returns-in-Eq c = rw c.in-Eq.is (c.retain_pair.ensures eqb (search rules))

pub returns-in-Ne : goal.returns-in-Ne
unfolding holds
returns-in-Ne c = rw c.in-Ne.is (c.retain_pair-in-Ne.ensures (λ x y. not (eqb x y)) (search rules))
