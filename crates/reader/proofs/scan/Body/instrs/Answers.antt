use Rattle.model.specs.Book.Scan.{instr}
use Rattle.reader.specs.Values.{sizes_of}
use Rattle.reader.specs.ScanLaws.{instr_bad}
use borrow.Author.Rules.{rules}
use Rattle.reader.proofs.scan.Body.instrs.Goals as goal

pub returns : goal.returns
returns c =
    let b = c.args.self in
    c.list.ensures (instr b.end b.words.now (sizes_of b.sizes)) (record { bad = instr_bad b.end b.words.now (sizes_of b.sizes); call = λ w r p. search rules })
