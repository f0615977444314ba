use mathlib.Core.Path.{◌≡◌}
use mathlib.Core.Bool.{false}
use lib.ListN.{get_or}
use Rattle.model.specs.Basics.{how_many}
use Rattle.mask.proofs.Mask.count.Given as goal

abbrev pub invariant-loop-live : goal.invariant-loop-live
invariant-loop-live l = l.n ≡ how_many (λ k. get_or l.fn.self.live k false) l.live-index
