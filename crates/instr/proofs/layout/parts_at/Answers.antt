-- After k turns q is past the first k fields, and what stands before each of them is kept. What stands past the last is the same for each k from there on.
use Prim.Native.Nat.{ℕ, ◌+◌, ◌-◌, ◌<◌, ◌≤◌}
use mathlib.Core.Path.{◌≡◌, sym, ap, ◌∙◌}
use mathlib.Core.List.{[], append-nil}
use native.Mathlib.Omega.{arith}
use native.Mathlib.Numerals.{add-one}
use lib.ListN.{length, take, drop, replicate, length-drop, drop_of_length-le}
use lib.Seq.{length-take-le, take_at}
use borrow.Author.Rules.{rules}
use Rattle.model.specs.Basics.{tab}
use Rattle.model.specs.Book.Decode.{fields_at, field_place}
use Rattle.model.specs.Laws.Lists.{length_tab}
use Rattle.words.specs.Filled.{filled_more, tab_rest}
use Rattle.instr.specs.Fields.{fields_of, part_at}
use Rattle.instr.specs.declared.layout.Part.{Part}
use Rattle.instr.specs.FieldLaws.{past_more, past_last}
use Rattle.instr.proofs.layout.parts_at.Goals as goal

pub loop-k-preserved : goal.loop-k-preserved
loop-k-preserved c =
    let l = c.loop-k in
    let a = c.args in
    let w = a.words.now in
    let fs = c.fields-fields.result.now in
    let at : fields_of fs ≡ fields_at w a.p = rw c.word.ensures at c.fields-fields.ensures.all in
    let below : l.k < length fs = omega arith in (
      c.past_field-q.ensures.0 ∙ rw (l.invariant.0, add-one l.k, ← at) (sym (past_more w fs _ l.k (a.p + 1) below)),
      rw (l.invariant.1, c.part_at.ensures, l.invariant.0) (filled_more _ l.k _ c.part_at.result (omega arith)),
      omega (arith, c.past_field-q.ensures.1),
    )

pub returns-clause-all : goal.returns-clause-all
returns-clause-all c =
    let l = c.loop-k in
    let a = c.args in
    let w = a.words.now in
    let fs = c.fields-fields.result.now in
    let at : fields_of fs ≡ fields_at w a.p = rw c.word.ensures at c.fields-fields.ensures.all in
    let n = length fs in
    let f : ℕ → Part = λ (k : ℕ). part_at w (field_place w a.p k) in
    let x = c.part_at-2.result in
    let k : l.k ≡ n = omega arith in
    let front : take n l.parts ≡ tab f n = rw (l.invariant.1, k) (take_at (tab f n) _ n (length_tab f n)) in
    let six : length l.parts ≡ 6 = search rules in
    let size : length (take (6 - n) (drop n l.parts)) ≡ 6 - n = length-take-le (6 - n) (drop n l.parts) (omega (arith, length-drop n l.parts)) in
    let rest : drop (6 - n) (drop n l.parts) ≡ [] = drop_of_length-le (drop n l.parts) (omega (arith, length-drop n l.parts)) in
    let new : c.fill.new.self ≡ replicate (6 - n) x = c.fill.ensures.after (λ y e. e) ∙ ap (λ (m : ℕ). replicate m x) size in
    let last : (i : ℕ) → n ≤ i → f i ≡ x = λ i h. rw (c.part_at-2.ensures, l.invariant.0, k, ← at) (ap (part_at w) (past_last w fs i (a.p + 1) h ∙ sym (past_last w fs n (a.p + 1) (omega arith)))) in
    rw (new, rest, append-nil, front) (tab_rest f n 6 x c.fields-fields.ensures.most last)
