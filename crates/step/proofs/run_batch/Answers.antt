-- The numbers read, zeroed and loaded bindings (`columns_within`), first variables and full mask are where `ran_batch` starts; the rest is `run_instrs`.
use Prim.Native.Nat.{ℕ}
use mathlib.Core.Path.{◌≡◌, ap, ◌∙◌}
use mathlib.Core.Bool.{Bool}
use mathlib.Core.List.{List}
use native.Mathlib.Omega.{arith}
use lib.ListN.{replicate}
use Rattle.mask.specs.Masks.{first_lanes}
use Rattle.step.specs.Steps.{ran_batch}
use Rattle.step.specs.StepsLaws.{batch_facts, columns_within}
use Rattle.step.proofs.run_batch.Goals as goal

pub load-requires : goal.load-requires
load-requires c =
    let h = c.args.indexed.book.readable in
    let q = c.requires in
    let first = c.first_of-at.ensures.0 in
    let v = c.word-v.ensures in
    (rw (v, c.size_at-n.ensures.0, first) (columns_within h q.0 q.1), rw (v, first) (omega (arith, (batch_facts h q.0 q.1).columns, c.clear.auto)))

pub run_instrs-requires : goal.run_instrs-requires
run_instrs-requires c =
    let q = c.requires in
    rw (c.size_at-rule.ensures.0, c.first_of-at.ensures.0) (batch_facts c.args.indexed.book.readable q.0 q.1).rule

pub returns : goal.returns
unfolding ran_batch
returns c =
    let lanes = c.lane_count-lanes in
    let new = c.new in
    let zero = c.clear.ensures ∙ ap (λ (n : ℕ). replicate n 0) c.told-bindings in
    let mask : new.result ≡ record { live = first_lanes lanes.result } = ap (λ (l : List Bool). record { live = l }) new.ensures in
    let r = c.run_instrs in
    record { is = r.ensures.is ∙ rw (c.load.ensures, zero, mask, c.first.ensures, lanes.ensures, c.size_at-rule.ensures.0, c.word-v.ensures, c.size_at-n.ensures.0, c.first_of-at.ensures.0); same = r.ensures.same }
