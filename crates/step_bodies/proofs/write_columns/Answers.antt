-- After v turns the words of the first v variables are put there (`runs_turn`), and the next have room (`runs_room`); one that is not bound has none.
use Rattle.std.proofs.Common.{◌≡◌, ℕ, Bool, true, false, List, [], get_or, refl, arith}
use Rattle.step_bodies.specs.Steps.{bound_words, column_words}
use Rattle.step_bodies.specs.Page.{appends_none, appends_is, runs_start, runs_turn, runs_room}
use Rattle.step_bodies.proofs.write_columns.Goals as goal
use Rattle.step_bodies.proofs.write_columns.Goals.{then-known, else-known}

is_bound : (m : List ℕ) (lanes v : ℕ) (b : Bool) → b ≡ true → bound_words m lanes v ≡ column_words m lanes b v
is_bound m lanes v b e = rw e refl

is_not : (m : List ℕ) (lanes v : ℕ) (b : Bool) → b ≡ false → [] ≡ column_words m lanes b v
is_not m lanes v b e = rw e refl

pub loop-v-init : goal.loop-v-init
loop-v-init c = runs_start _ _

pub write_column-requires : goal.write_column-requires
write_column-requires c =
    let a = c.args in
    let f : ℕ → List ℕ = λ (v : ℕ). column_words a.bindings.now a.lanes (get_or a.bound.known v false) v in
    (omega arith, c.requires.0, rw c.if-known.true at (runs_room f {i = c.loop-v.v} {n = 32} (omega arith) c.requires.1 c.loop-v.invariant))

pub loop-v-preserved : goal.loop-v-preserved
loop-v-preserved c =
    let a = c.args in
    let v = c.loop-v.v in
    let known = get_or a.bound.known v false in
    elim c.if-known.branch [
      | then-known w ↦ rw w.page-is (runs_turn _ c.loop-v.invariant (appends_is (is_bound a.bindings.now a.lanes v known w.if-known.true) w.write_column.ensures))
      | else-known w ↦ rw w.page-is (runs_turn _ c.loop-v.invariant (appends_is (is_not a.bindings.now a.lanes v known w.if-known.false) (appends_none _)))
    ]
