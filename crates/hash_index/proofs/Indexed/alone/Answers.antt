-- An index of the rows alone has them numbered from 0 on (`among_alone`).
use Rattle.std.proofs.Common.{rules}
use Rattle.hash_index.specs.BookLaws.{among_alone}
use Rattle.hash_index.proofs.Indexed.alone.Goals as goal

pub invariant_of-result : goal.invariant_of-result
invariant_of-result c = record { indexed = ∣ search (rules, among_alone) ∣₁ }
