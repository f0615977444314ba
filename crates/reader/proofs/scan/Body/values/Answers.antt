use Rattle.model.specs.Book.Scan.{word, clean}
use Rattle.reader.specs.ScanLaws.{word_bad}
use borrow.Author.Rules.{rules}
use Rattle.reader.proofs.scan.Body.values.Goals as goal

pub returns : goal.returns
returns c =
    let b = c.args.self in
    c.list.ensures (word b.end b.words.now clean) (record { bad = word_bad b.end b.words.now clean; call = λ w r p. search rules })
