-- To append all bytes to the page as it was is to append those from the turn on to it as it is (`byte_more`); at the end none is left.
use Rattle.std.proofs.Common.{refl, sym, ◌∙◌, ◌≡◌, arith, length, lt-ltb, le-ltb}
use Rattle.std.proofs.Math.Seq.{drop-length}
use Rattle.report.specs.Text.{pushed, appended, up_to}
use Rattle.report.proofs.Pieces.{byte_more}
use Rattle.report.proofs.text.Page.append.Goals.{then-at-out, else-at-out}
use Rattle.report.proofs.text.Page.append.Goals as goal

pub loop-b-init : goal.loop-b-init
loop-b-init c = refl

pub loop-b-preserved : goal.loop-b-preserved
unfolding pushed
loop-b-preserved c =
    let l = c.loop-b in
    let more = l.invariant ∙ byte_more c.args.bytes.now l.b-index c.loop-b-test.true (up_to l.out l.at) in
    elim c.if-at-out.branch [
      | then-at-out w ↦ more ∙ rw (w.out-is, w.at-is, lt-ltb _ _ w.if-at-out.true) refl
      | else-at-out w ↦ more ∙ rw (w.out-is, w.at-is, le-ltb _ _ w.if-at-out.false) refl
    ]

pub returns : goal.returns
unfolding appended
returns c =
    let l = c.loop-b in
    let e : l.b-index ≡ length c.args.bytes.now = omega arith in
    record { same_buffer = refl; bytes = sym (l.invariant ∙ rw (e, drop-length)) }
