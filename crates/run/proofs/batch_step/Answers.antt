-- The batch has at most 256 lanes (`lanes_most`), and its body at most 8483 words (`batch_most`).
use Rattle.std.proofs.Common.{◌+◌, ◌≤◌, refl, ap, arith, rules}
use Rattle.step_bodies.specs.Page.{places_same}
use Rattle.step_bodies.specs.StepLaws.{batch_most}
use Rattle.execution.specs.Execution.{state_of}
use Rattle.action.specs.Run.{Running}
use Rattle.run.specs.ProgressLaws.{lanes_most}
use Rattle.run.proofs.batch_step.Goals as goal
use Rattle.run.proofs.batch_step.Goals.{After-run_batch-batch, After-write_batch}

-- the batch has at most 256 lanes, and its body at most 8483 words
few : (c : After-run_batch-batch) → c.run_batch-batch.result.bindings.matches ≤ 256
few c =
    let a = c.args in
    let q = c.requires in
    omega (arith, ap (λ (x : Running). x.batch.bindings.matches) c.run_batch-batch.ensures.is, lanes_most a.indexed.book.readable q.0 q.1 (state_of a.run.now.buffer) a.run.now.buffer.log.words.now a.run.now.index.now)

most : (c : After-write_batch) → c.run_batch-batch.result.bindings.matches ≤ 256 → c.write_batch.new.page.at ≤ c.args.p.now.page.now.at + 8483
most c h =
    let r = c.run_batch-batch in
    omega (arith, c.write_batch.ensures.at, batch_most r.result.bindings.matches r.result.bindings.bound.known r.new.bindings h (search rules) r.result.mask.live)

pub write_batch-requires : goal.write_batch-requires
write_batch-requires c = (few (goal.at.write_batch-requires c).After-run_batch-batch, omega (arith, c.requires.2.at))

pub advance-requires : goal.advance-requires
advance-requires c =
    let q = c.requires in
    let at = goal.at.advance-requires c in
    (q.2.done, omega (arith, c.write_batch.ensures.at), omega (arith, most at.After-write_batch (few at.After-run_batch-batch), q.2.at))

pub returns-then-going-clause-fits : goal.returns-then-going-clause-fits
returns-then-going-clause-fits c =
    let at = goal.at.returns-then-going-clause-fits c in
    let small = most at.After-write_batch (few at.After-run_batch-batch) in
    rw c.advance.ensures (record { done = omega arith; at = small })

pub returns-then-going-clause-same : goal.returns-then-going-clause-same
returns-then-going-clause-same c = (c.run_batch-batch.ensures.same, rw c.advance.ensures (record { page = refl; words = places_same c.write_batch.ensures }))
