use Prim.Native.Nat.{◌+◌, ◌*◌, ◌≤◌}
use mathlib.Core.Path.{◌≡◌}
use Rattle.model.specs.Book.Decode.{field_place}
use Rattle.words.specs.Filled.{filled}
use Rattle.instr.specs.Fields.{part_at}
use Rattle.instr.proofs.layout.parts_at.Given as goal

abbrev pub invariant-loop-k : goal.invariant-loop-k
invariant-loop-k l =
    (l.q ≡ field_place l.words l.p l.k)
    × (l.parts ≡ filled (λ i. part_at l.words (field_place l.words l.p i)) l.k l.initial.parts)
    × (l.q ≤ l.p + 1 + 8589934591 * l.k)
