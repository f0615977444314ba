-- A prediction's body has at most 17 words, as a row has 16 at most (`asked_most`).
use Rattle.std.proofs.Common.{◌+◌, ◌≤◌, refl, arith}
use Rattle.step_bodies.specs.Page.{places_same}
use Rattle.run.specs.ProgressLaws.{asked_most}
use Rattle.run.proofs.prediction_step.Goals as goal
use Rattle.run.proofs.prediction_step.Goals.{After-write_row}

-- a prediction's body has at most 17 words
most : (c : After-write_row) → c.write_row.new.page.at ≤ c.args.p.now.page.now.at + 17
most c =
    let a = c.args.asked in
    let e = c.run_prediction-made.new.run in
    omega (arith, c.write_row.ensures.at, asked_most a.indexed.book.readable a.asks e.buffer.log.words.now e.index.now)

pub advance-requires : goal.advance-requires
advance-requires c =
    let q = c.requires in
    (q.done, omega (arith, c.write_row.ensures.at), omega (arith, most (goal.at.advance-requires c).After-write_row, q.at))

pub returns-clause-fits : goal.returns-clause-fits
returns-clause-fits c =
    let small = most (goal.at.returns-clause-fits c).After-write_row in
    rw c.advance.ensures (record { done = omega arith; at = omega (arith, small) })

pub returns-clause-same : goal.returns-clause-same
returns-clause-same c = (c.run_prediction-made.ensures.same, rw c.advance.ensures (record { page = refl; words = places_same c.write_row.ensures }))
