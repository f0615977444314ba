use Rattle.model.specs.Laws.Contents.{contents_ok}
use Rattle.reader.proofs.all_bodies.Goals as goal

pub of-sizes-requires : goal.of-sizes-requires
of-sizes-requires c = (contents_ok c.args.words.now c.requires).counted.most
