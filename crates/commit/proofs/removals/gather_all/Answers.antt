-- The loop has come to a record with n keys stored, and n * (k + 2) is at most its place (`store_fits`), so there is room; at the end they are the removed keys (`stored_laid`).
use Prim.Native.Nat.{ℕ, ◌+◌, ◌*◌}
use mathlib.Core.Path.{◌≡◌, ap, ◌∙◌}
use native.Mathlib.Omega.{arith}
use lib.ListN.{length}
use Rattle.record_log.specs.Walk.{end_of, walked}
use Rattle.record_log.specs.WalkLaws.{end_after, removal_end}
use Rattle.record_log.specs.Places.{record_end, walks_more, walks_end}
use Rattle.commit.specs.Walk.{Keys, as_keys, store_turn}
use Rattle.commit.specs.KeysLeft.{keys_of}
use Rattle.commit.specs.KeyLaws.{stored_laid, store_fits}
use Rattle.commit.proofs.removals.gather_all.Goals as goal

pub gather-requires : goal.gather-requires
gather-requires c =
    let a = c.args in
    let i = c.loop-p.invariant in
    let p = c.in-Some.p in
    let g = c.in-Some.ensures.steps in
    let n = record_end i.4 g in
    rw (i.2) (
      record { fits = omega (arith, i.3.fits, g.gives.0); few = omega (arith, i.3.few, g.gives.0) },
      omega (arith, n.1, end_after a.words.now a.log.now p),
      omega (arith, c.requires.2, i.1),
      c.requires.3,
      λ e. omega (arith, n.1, removal_end a.words.now a.log.now p a.t.0 e, c.requires.0),
    )

pub loop-p-preserved : goal.loop-p-preserved
loop-p-preserved c =
    let a = c.args in
    let l = c.loop-p in
    let i = l.invariant in
    let p = c.in-Some.p in
    let g = c.in-Some.ensures.steps in
    let n = record_end i.4 g in
    let k = a.keys.now.width in
    let r = c.gather.ensures in
    let f = store_fits a.words.now a.log.now a.t.0 k c.requires.0 p (keys_of l.keys) (omega (arith, i.3.fits, g.gives.0)) in
    let e : keys_of c.gather.new.keys ≡ store_turn a.log.now a.t.0 k p (keys_of l.keys) = r.keys ∙ ap (λ (w : ℕ). store_turn a.log.now a.t.0 w p (keys_of l.keys)) i.2 in (
      r.same_words ∙ i.0,
      r.same_size ∙ i.1,
      r.same_width ∙ i.2,
      record { fits = omega (arith, f, ap (λ (x : Keys). x.count * k + 2 * x.count) e, n.0); few = omega (arith, n.0, n.1, c.requires.3) },
      walks_more i.4 g e,
    )

pub returns : goal.returns
returns c =
    let a = c.args in
    let k = a.keys.now in
    let i = c.loop-p.invariant in
    let none = ap (λ (n : ℕ). walked (end_of a.words.now a.log.now) (length a.log.now) (store_turn a.log.now a.t.0 k.width) (as_keys k.words.now n)) c.requires.1 in
    record { same_words = i.0; same_size = i.1; same_width = i.2; keys = walks_end i.4 c.in-None.ensures.steps ∙ none ∙ stored_laid a.words.now a.log.now a.t.0 k.width c.requires.0 k.words.now }
