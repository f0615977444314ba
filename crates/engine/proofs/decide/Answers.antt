-- By the tests: wrong lengths are refusal 14 (`fit_false`, `decided_14`), refused bytes are `decided_book`; past both, the lengths are as `decide_book` requires.
use Rattle.std.specs.Prelude.{ℕ, length, Result}
use Rattle.std.proofs.Common.{◌≤◌, ◌<◌, ◌∙◌, ⊎_elim, sym, subst, arith}
use Rattle.refusal.specs.declared.Refusal.{Refusal}
use Rattle.refusal.specs.Refusal.{handed_err}
use Rattle.admit.specs.BookLaws.{book_stop}
use Rattle.engine.specs.Engine.{lent_of, Decided}
use Rattle.engine.specs.EngineLaws.{decided_14, decided_book}
use Rattle.engine.specs.CodeLaws.{fit_true, fit_false, zeros_as}
use Rattle.engine.proofs.decide.Goals as goal

pub returns-in_default : goal.returns-in_default
returns-in_default c =
    let a = c.args in
    decided_14 (lent_of a.bindings.now a.index.now a.log.now a.tables.now a.answer.now) a.book.now a.answer.now (fit_false _ _ _ _ (λ f. c.in_default.ensures.cases f.0))

pub returns-in_default-as_mut_array : goal.returns-in_default-as_mut_array
returns-in_default-as_mut_array c =
    let a = c.args in
    decided_14 (lent_of a.bindings.now a.index.now a.log.now a.tables.now a.answer.now) a.book.now a.answer.now (fit_false _ _ _ _ (λ f. c.in_default-as_mut_array.ensures.cases f.1))

pub returns-then-log-gt16384 : goal.returns-then-log-gt16384
returns-then-log-gt16384 c =
    let a = c.args in
    decided_14 (lent_of a.bindings.now a.index.now a.log.now a.tables.now a.answer.now) a.book.now a.answer.now (fit_false (length a.bindings.now) (length a.index.now) (length a.log.now) (length a.tables.now) (λ f. ⊎_elim (λ (h : 16384 < length a.log.now). omega (arith, h, f.2)) (λ (h : (length a.log.now ≤ 16384) × (16384 < length a.tables.now)). omega (arith, h.1, f.3)) c.then-log-gt16384.either))

pub decide_book-requires : goal.decide_book-requires
decide_book-requires c =
    let p = c.requires in
    let b = c.in-Some.ensures.cases in
    let i = c.in-Some-as_mut_array.ensures.cases in
    (sym c.in_ok-length_refusal.ensures, b.same ∙ zeros_as _ 8192 _ p.0 b.long, i.same ∙ zeros_as _ 8192 _ p.1 i.long, p.2, c.if-log-gt16384.false, c.if-tables-gt16384.false, p.3)

pub returns-in_err-length_refusal : goal.returns-in_err-length_refusal
returns-in_err-length_refusal c =
    let a = c.args in
    let l = lent_of a.bindings.now a.index.now a.log.now a.tables.now a.answer.now in
    let fit = fit_true _ _ _ _ (c.in-Some.ensures.cases.long, c.in-Some-as_mut_array.ensures.cases.long, c.if-log-gt16384.false, c.if-tables-gt16384.false) in
    subst (λ (r : Result ℕ Refusal). Decided l a.book.now r a.answer.now) (sym (handed_err _ _ c.from_residual.ensures.1))
    (decided_book l a.book.now a.answer.now fit _ (book_stop a.book.now _ (sym c.in_err-length_refusal.ensures)))
