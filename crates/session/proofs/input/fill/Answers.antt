-- What one more read put behind the bytes that stand there is consumed after them; it has room, since a read fills no more than it is lent.
use Rattle.std.proofs.Common.{arith, subst, sym}
use Rattle.std.specs.Io.KnownBytes.{Consumes}
use Rattle.std.proofs.KnownBytes.{Consumes-trans}
use Rattle.session.proofs.Known.{front_more}
use Rattle.session.proofs.input.fill.Goals as goal

pub loop-at-preserved : goal.loop-at-preserved
loop-at-preserved g c =
    let got = c.in-Ok.ensures in
    let l = c.loop-at in
    (omega (arith, got.bound.0, c.read.auto.buf, l.auto.buffer), subst (Consumes _ _) (sym (front_more l.at c.in-Ok.n l.buffer c.read.new.buf _ (omega (arith, l.auto.buffer, l.invariant.0)) got.bound.0)) (Consumes-trans _ _ _ _ _ l.invariant.1 got.bytes.0))
