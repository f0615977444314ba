use mathlib.Core.Path.{refl, ap, ◌∙◌}
use Rattle.commit.specs.Walk.{as_keys, laid_onto}
use Rattle.commit.specs.KeyLaws.{none_gathered}
use Rattle.commit.proofs.removals.gather_if.Goals as goal

pub returns-else-changes : goal.returns-else-changes
returns-else-changes c =
    let a = c.args in
    let k = a.keys.now in
    record { same_words = refl; same_size = refl; same_width = refl; keys = ap (as_keys k.words.now) c.requires.1 ∙ ap (laid_onto k.words.now) (none_gathered a.changes.words.now a.changes.log.now a.t.0 k.width (a.changes.none c.if-changes.false)) }
