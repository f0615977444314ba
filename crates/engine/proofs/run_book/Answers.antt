-- The run is one from the start and from zeros, so `conclude` may go on from it (`may_conclude`), and what that ensures is `Concludes` (`book_concludes`).
use Rattle.std.proofs.Common.{◌≡◌, ◌∙◌, ℕ, List, length, refl, sym, ap, subst, rules}
use lib.ListN.{replicate}
use Rattle.execution.specs.Execution.{RunState}
use Rattle.run.specs.Progress.{Progress}
use Rattle.simulation.specs.Ends.{start_state, start_progress}
use Rattle.engine.specs.Engine.{lent_of, Runnable}
use Rattle.engine.specs.CodeLaws.{may_conclude, book_concludes, concludes_as}
use Rattle.engine.proofs.run_book.Goals as goal
use Rattle.engine.proofs.run_book.Goals.{After-of-book, After-start}

pub run_steps-requires : goal.run_steps-requires
run_steps-requires c = (refl, refl)

-- the book's words are those given
may_run : (c : After-of-book) → Runnable c.of-book.result.words.now
may_run c = subst Runnable (sym c.of-book.ensures) c.requires.0

-- with no step answered, the state is the one before the first step
fresh : (w : List ℕ) (x : RunState) → x ≡ start_state w → ◌≡◌ {A = Progress} (record { state = x; done = 0; at = 0; lengths = replicate 64 0 }) (start_progress w)
fresh w x e = ap (λ (x : RunState). record { state = x; done = 0; at = 0; lengths = replicate 64 0 }) e

pub conclude-requires : goal.conclude-requires
conclude-requires c =
    let p = c.requires in
    let a = c.args in
    let r = c.run_steps in
    let w = c.of-book.result.words.now in
    let begun = c.start.ensures in
    let s = r.ensures.same.0.size ∙ ap length begun.log.1 in
    let at = goal.at.conclude-requires c in (
      r.ensures.fits.0,
      p.5,
      may_conclude w (may_run at.After-of-book) a.bindings.now a.index.now a.log.now a.answer.now p.4 p.2 p.3 p.6 _ (fresh w _ begun.is) _ (rw begun.log.1 at r.ensures.is) s _ c.left.ensures.state _ c.left.ensures.log r.ensures.fits.1,
    )

-- the words lent for the answer hold what the page holds
pub returns : goal.returns
returns c =
    concludes_as c.args.words.now (lent_of c.args.bindings.now c.args.index.now c.args.log.now c.args.tables.now c.args.answer.now) c.conclude.result {ws = c.conclude.new.p.page.now.words.now}
    (search rules)
    (let p = c.requires in
    let a = c.args in
    let r = c.run_steps in
    let w = c.of-book.result.words.now in
    let begun = c.start.ensures in
    let at = goal.at.returns c in
    let s = r.ensures.same.0.size ∙ ap length begun.log.1 in
    let done = book_concludes w (may_run at.After-of-book) a.bindings.now a.index.now a.log.now a.answer.now p.4 p.2 p.3 p.6 _ (fresh w _ begun.is) _ (rw begun.log.1 at r.ensures.is) s _ c.left.ensures.state _ c.left.ensures.log r.ensures.same.1.words.size a.tables.now p.5 _ c.conclude.ensures.is in
    rw c.of-book.ensures at done)
