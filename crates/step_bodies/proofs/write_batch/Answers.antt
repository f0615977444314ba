-- `end` is past the body (`length_batch`); without room nothing is written (`places_out`), else its parts are put there one after the other (`appends_more`, `places_fit`).
use Rattle.std.proofs.Common.{◌≡◌, ◌+◌, ◌*◌, ◌≤◌, ◌∷◌, [], ℕ, false, length, get_or, sym, arith, rules}
use Rattle.mask.specs.MaskLaws.{how_many_le}
use Rattle.step_bodies.specs.Page.{Appends, Room, places_out, places_fit, appends_more, room_left}
use Rattle.step_bodies.specs.StepLaws.{length_columns, length_batch, batch_most, count_most}
use Rattle.step_bodies.specs.Steps.{columns_words, batch_words}
use Rattle.step_bodies.proofs.write_batch.Goals as goal
use Rattle.step_bodies.proofs.write_batch.Goals.{After-bound_count-n, Else-page-end, After-push-3}

-- the body's length, in the code's numbers
length_is : (c : After-bound_count-n) → 3 + c.bound_count-n.result * (1 + c.args.kept.matches) + c.args.kept.matches ≡ length (batch_words c.args.kept.matches c.args.kept.bound.known c.args.bindings.now c.args.mask.live)
length_is c =
    let a = c.args in
    rw c.bound_count-n.ensures (sym (length_batch a.kept.matches a.kept.bound.known a.bindings.now c.requires.0 (search rules) a.mask.live))

most : (c : After-bound_count-n) → 3 + c.bound_count-n.result * (1 + c.args.kept.matches) + c.args.kept.matches ≤ 8483
most c =
    let a = c.args in
    rw (length_is c) (batch_most a.kept.matches a.kept.bound.known a.bindings.now c.requires.0 (search rules) a.mask.live)

-- the three numbers at the front
front : (c : After-push-3) → Appends c.args.page.now c.push-3.new.self (c.count.result ∷ c.args.kept.matches ∷ c.bound_count-n.result ∷ [])
front c = appends_more (appends_more c.push.ensures c.push-2.ensures) c.push-3.ensures

pub overflow_mul-end : goal.overflow_mul-end
overflow_mul-end c = omega (arith, most (goal.at.overflow_mul-end c).After-bound_count-n)

pub overflow_add-end-3 : goal.overflow_add-end-3
overflow_add-end-3 c = omega (arith, most (goal.at.overflow_add-end-3 c).After-bound_count-n)

pub overflow_add-end-4 : goal.overflow_add-end-4
overflow_add-end-4 c = omega (arith, most (goal.at.overflow_add-end-4 c).After-bound_count-n)

pub returns-then-page-end : goal.returns-then-page-end
returns-then-page-end c = places_out (omega (arith, length_is (goal.at.returns-then-page-end c).After-bound_count-n)) c.if-page-end.true

pub overflow_cast-count : goal.overflow_cast-count
overflow_cast-count c = omega (arith, count_most c.args.mask.live (search rules), c.count.ensures)

pub overflow_cast-n : goal.overflow_cast-n
overflow_cast-n c = omega (arith, how_many_le (λ (v : ℕ). get_or c.args.kept.bound.known v false) 32, c.bound_count-n.ensures)

-- the columns have room, and a word for each lane past them
room : (c : After-push-3) → Room c.push-3.new.self (length (columns_words c.args.bindings.now c.args.kept.matches c.args.kept.bound.known) + c.args.kept.matches)
room c =
    let a = c.args in
    room_left _ (rw (length_columns a.kept.matches a.kept.bound.known a.bindings.now c.requires.0 (search rules) 32 (omega arith), ← c.bound_count-n.ensures) (omega arith)) (front c)

pub write_columns-requires : goal.write_columns-requires
write_columns-requires c = (c.requires.0, omega (arith, room (goal.at.write_columns-requires c).After-push-3))

pub write_live-requires : goal.write_live-requires
write_live-requires c = (c.requires.0, room_left _ (room (goal.at.write_live-requires c).After-push-3) c.write_columns.ensures)

pub returns : goal.returns
unfolding batch_words
returns c =
    let a = c.args in
    let e = length_is (goal.at.returns c).After-bound_count-n in
    let all = appends_more (front (goal.at.returns c).After-push-3) (appends_more c.write_columns.ensures c.write_live.ensures) in
    places_fit (rw (← e) (omega arith)) (rw (c.count.ensures, c.bound_count-n.ensures) at all)
