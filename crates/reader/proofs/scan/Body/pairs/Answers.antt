use Rattle.model.specs.Book.Scan.{pair}
use Rattle.reader.specs.Values.{sizes_of}
use Rattle.reader.specs.ScanLaws.{pair_bad}
use borrow.Author.Rules.{rules}
use Rattle.reader.proofs.scan.Body.pairs.Goals as goal

pub returns : goal.returns
returns c =
    let a = c.args in
    let b = a.self in
    c.list.ensures (pair b.end b.words.now (sizes_of b.sizes) a.from a.to) (record { bad = pair_bad b.end b.words.now (sizes_of b.sizes) a.from a.to; call = λ w r p. search rules })
