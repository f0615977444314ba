-- Each call reads a mark of both masks and changes nothing, so the array is made by lane (`made_by_both`).
use Rattle.std.proofs.Common.{rules}
use mathlib.Core.Bool.{◌||◌}
use Rattle.mask.proofs.Made.{made_by_both}
use Rattle.mask.proofs.Mask.union.Goals as goal

pub returns : goal.returns
returns c = made_by_both _ ◌||◌ c.args.self.live c.args.other.live _ (λ i y p k. search rules) _ c.from_fn-live.ensures.items
