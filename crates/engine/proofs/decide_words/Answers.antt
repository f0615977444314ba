-- The first n words are the book's (`front_is`); by the verdict: a pass may run (`front_runnable`) and is `front_decided`, a refusal is `front_refused`.
use Prim.Native.Nat.{ℕ}
use mathlib.Core.Path.{ap, sym, ◌∙◌}
use Rattle.std.specs.Prelude.{Result}
use Rattle.std.proofs.Common.{subst}
use Rattle.refusal.specs.declared.Refusal.{Refusal}
use Rattle.refusal.specs.Refusal.{handed_err}
use native.Mathlib.Omega.{arith}
use lib.ListN.{length, replicate, length-replicate}
use Rattle.admit.specs.BookLaws.{words_some, words_most, front_is, front_count}
use Rattle.engine.specs.Engine.{lent_of, Decided}
use Rattle.engine.specs.CodeLaws.{fit_true, front_runnable, front_decided, front_refused}
use Rattle.engine.proofs.decide_words.Goals as goal

pub first_refusal-requires : goal.first_refusal-requires
first_refusal-requires g c =
    let pre = c.requires in
    let a = c.args in
    let l = c.load_words-n in
    let e = front_count a.book.now (replicate g.row.N 0) l.new.words l.result l.ensures.count l.ensures.is in
    (omega (arith, e, l.ensures.count, words_some a.book.now pre.0), omega (arith, e, l.ensures.count, words_most a.book.now pre.0))

pub run_book-requires : goal.run_book-requires
run_book-requires g c =
    let a = c.args in
    let p = c.requires in
    let l = c.load_words-n in
    let front = front_is a.book.now (replicate g.row.N 0) l.new.words l.result l.ensures.count l.ensures.is in
    (front_runnable a.book.now _ front p.0 _ c.first_refusal.ensures (λ i. omega (arith, c.type_inv.book i)) _ c.in_ok-first_refusal.was, p.2, p.3, p.4, p.5, p.6, p.7)

pub returns : goal.returns
returns g c =
    let a = c.args in
    let p = c.requires in
    let l = c.load_words-n in
    let r = c.run_book in
    let front = front_is a.book.now (replicate g.row.N 0) l.new.words l.result l.ensures.count l.ensures.is in
    let fit = fit_true _ _ _ _ (ap length p.2 ∙ length-replicate {A = ℕ} 8192 0, ap length p.3 ∙ length-replicate {A = ℕ} 8192 0, p.5, p.6) in
    front_decided a.book.now _ front p.0 _ c.first_refusal.ensures (lent_of a.bindings.now a.index.now a.log.now a.tables.now a.answer.now) r.new.answer fit _ c.in_ok-first_refusal.was r.result r.ensures

pub returns-in_err-first_refusal : goal.returns-in_err-first_refusal
returns-in_err-first_refusal g c =
    let a = c.args in
    let p = c.requires in
    let l = c.load_words-n in
    let front = front_is a.book.now (replicate g.row.N 0) l.new.words l.result l.ensures.count l.ensures.is in
    let fit = fit_true _ _ _ _ (ap length p.2 ∙ length-replicate {A = ℕ} 8192 0, ap length p.3 ∙ length-replicate {A = ℕ} 8192 0, p.5, p.6) in
    let lent = lent_of a.bindings.now a.index.now a.log.now a.tables.now a.answer.now in
    subst (λ (r : Result ℕ Refusal). Decided lent a.book.now r a.answer.now) (sym (handed_err _ _ c.from_residual.ensures.1))
    (front_refused a.book.now _ front p.0 _ c.first_refusal.ensures lent a.answer.now fit _ c.in_err-first_refusal.was)
