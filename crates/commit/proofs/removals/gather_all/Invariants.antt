use mathlib.Core.Path.{◌≡◌}
use lib.ListN.{length}
use Rattle.commit.specs.Walk.{store_turn}
use Rattle.commit.specs.Keys.{Room}
use Rattle.commit.specs.KeysLeft.{keys_of}
use Rattle.record_log.specs.Places.{Walks}
use Rattle.commit.proofs.removals.gather_all.Given as goal

abbrev pub invariant-loop-p : goal.invariant-loop-p
invariant-loop-p l =
    let keys = l.initial.keys in
    (l.keys.words.ghost_name ≡ keys.words.ghost_name) × (length l.keys.words.now ≡ length keys.words.now) × (l.keys.width ≡ keys.width)
    × Room keys.width l.keys.count l.p-iterator.at
    × Walks l.words l.log (store_turn l.log l.t.0 keys.width) (keys_of keys) l.p-iterator (keys_of l.keys)
