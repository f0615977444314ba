use Rattle.reader.proofs.instructions.tagged.Goals as goal

pub returns-in-2 : goal.returns-in-2
returns-in-2 c = rw c.in-2.is
