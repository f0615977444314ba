-- The words fit the array: 4096 bytes are at most 1024 words (`length_words`), a book that refusal 1 passes at most 16384 (`words_most`); the rest is as given.
use native.Mathlib.Omega.{arith}
use Rattle.model.specs.Laws.Words.{length_words}
use Rattle.admit.specs.BookLaws.{words_most}
use Rattle.engine.proofs.decide_book.Goals as goal

pub decide_words-requires : goal.decide_words-requires
decide_words-requires c =
    let p = c.requires in
    (p.0, omega (arith, length_words c.args.book.now, c.if-book-le4096.true), p.1, p.2, p.3, p.4, p.5, p.6, omega arith)

pub decide_words-requires-2 : goal.decide_words-requires-2
decide_words-requires-2 c =
    let p = c.requires in
    (p.0, words_most c.args.book.now p.0, p.1, p.2, p.3, p.4, p.5, p.6, omega arith)
