-- The values are merged by the rule of the table's number, as the model merges them (`merged_as`).
use Prim.Native.Nat.{ℕ, ◌+◌, ◌-◌}
use mathlib.Core.List.{List}
use lib.Seq.{sets, take_all}
use mathlib.Core.Path.{◌≡◌, refl, ap, ◌∙◌}
use native.Mathlib.Omega.{arith}
use lib.ListN.{length, take, drop, length-take, length-drop}
use Rattle.model.specs.Book.Decode.{part}
use Rattle.commit.specs.Rows.{Rows, merged_at}
use Rattle.commit.specs.TableRows.{rows_of}
use Rattle.commit.specs.MergeRule.{merge_by}
use Rattle.commit.specs.MergeLaws.{merged_as}
use Rattle.commit.proofs.rows.TableRows.merge.Goals as goal

pub merge_words-requires : goal.merge_words-requires
merge_words-requires c = simp (length-take, length-drop) (omega (arith, c.args.self.now.sound.keys, c.requires.0, c.requires.1))

pub returns : goal.returns
returns c =
    let r = c.args.self.now in
    let k = r.info.keys in
    let row = c.args.row.now in
    let at = c.args.p + k in
    let new = take (length row - k) (drop k row) in
    let q : new ≡ drop k row = take_all (length row - k) (drop k row) (omega (arith, length-drop k row)) in
    let words = c.merge_words.ensures ∙ ap (sets r.words.now at) (merged_as (merge_by c.from-rule.result) r.info.merge (λ x y. c.from-rule.ensures x y) (part r.words.now at (length new)) new) in
    let m : ◌≡◌ {A = Rows} (record { words = c.merge_words.new.rows; part = r.part }) (merged_at r.info row c.args.p (rows_of r)) = rw (← q) (ap (λ (x : List ℕ). record { words = x; part = r.part }) words) in
    record { same_words = refl; same_info = refl; rows = m }
