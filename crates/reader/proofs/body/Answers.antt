use mathlib.Core.Path.{◌≡◌}
use borrow.Author.Rules.{rules}
use native.Mathlib.Omega.{arith}
use Rattle.std.specs.Prelude.{Some}
use Rattle.model.specs.Book.Contents.{kind_of}
use Rattle.contents.specs.declared.kinds.Kind.TheVariants.{Table}
use Rattle.contents.specs.Kinds.{kind_by}
use Rattle.contents.specs.KindLaws.{is_table}
use Rattle.reader.specs.ReadLaws.{few, body_rows}
use Rattle.reader.proofs.body.Goals as goal

pub past_body-requires : goal.past_body-requires
past_body-requires c = (few c.requires, c.requires.is_sizes)

pub body_kind-requires : goal.body_kind-requires
body_kind-requires c = omega (arith, few c.requires)

pub first_of-requires : goal.first_of-requires
first_of-requires c = omega (arith, few c.requires)

pub returns-then-eq : goal.returns-then-eq
returns-then-eq c =
    let e : kind_by (kind_of c.args.words.now c.args.i) ≡ Some Table = search rules in
    let walked = rw c.in_ok-walk.ensures.ok_part at c.past_body.ensures in
    body_rows c.requires walked _ (search rules) (search rules) (is_table _ e) (rw c.first_of.ensures.0 at c.repeated.ensures)
