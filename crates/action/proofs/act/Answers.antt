-- By the instruction: `Stands` there and `searchable` give what the arm's calls require, and what these ensure is `acted` of that instruction.
use Rattle.std.proofs.Common.{sym, ap, subst}
use Rattle.std.specs.Prelude.{option_copied}
use Rattle.predicted_index.specs.Row.{Searchable}
use Rattle.predict.specs.Predict.{Asked}
use Rattle.execution.specs.Execution.{Logged, state_of}
use Rattle.action.specs.Act.{Lanes, with_log, acted}
use Rattle.action.specs.ActLaws.{searchable}
use Rattle.action.proofs.act.Goals as goal

pub lookup_or_insert_default-requires : goal.lookup_or_insert_default-requires
lookup_or_insert_default-requires c =
    let b = c.args.indexed in
    let w = b.book.words.now in
    let s = rw c.in-LookupOrInsertDefault.is at c.requires in
    subst (λ (a : Asked). Searchable w (option_copied b.chains) a.row.of) (sym c.predicted_ask-wanted.ensures) (searchable w _ b.book.readable b.indexed _ s.0)

pub returns-in-InsertIfEq-clause-is : goal.returns-in-InsertIfEq-clause-is
unfolding acted
returns-in-InsertIfEq-clause-is c =
    let a = c.args in
    let l : Lanes = record { live = a.mask.live; state = state_of a.run.now.buffer; log = a.run.now.buffer.log.words.now; index = a.run.now.index.now; out = a.out.now } in
    rw (c.in-InsertIfEq.is, ← c.retain.ensures) (ap (λ (g : Logged). with_log g l) c.stage_lanes-in-InsertIfEq.ensures.is)
