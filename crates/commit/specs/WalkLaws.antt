-- What a record's row keeps of the rows that it is put into.
use Rattle.std.specs.Prelude.{ℕ, ◌+◌, ◌≤◌, ◌≡◌, refl, Bool, true, false, List, length}
use Rattle.std.proofs.Common.{◌∙◌, arith}
use Rattle.model.specs.Basics.{when}
use Rattle.model.specs.Book.Decode.{part}
use Rattle.model.specs.Laws.Bodies.{length_part}
use Rattle.tables.specs.declared.TableInfo.{TableInfo}
use Rattle.tables.specs.Tables.{info_of}
use Rattle.record_log.specs.Walk.{end_of, is_insertion}
use Rattle.record_log.specs.WalkLaws.{insertion_end, walked_keeps}
use Rattle.commit.specs.Rows.{Rows, Stand, put_row}
use Rattle.commit.specs.RowLaws.{Keeps, put_keeps}
use Rattle.commit.specs.Walk.{insert_row, inserted}

pub insert_keeps : (log : List ℕ) (t : ℕ) (i : TableInfo) (p : ℕ) (s : Rows) → (is_insertion log t p ≡ true → p + 2 + i.width ≤ length log) → Stand i.width s → Keeps i.width s (insert_row log t i p s)
unfolding insert_row
insert_keeps log t i p s fits st = by (is_insertion log t p) refl
  where
    by : (b : Bool) → is_insertion log t p ≡ b → Keeps i.width s (when b (put_row i (part log (p + 2) i.width)) s)
    by true e = put_keeps i (part log (p + 2) i.width) (length_part log (p + 2) i.width (fits e)) s st
    by false e = (st, refl)

pub inserted_keeps : (w log : List ℕ) (t : ℕ) (s : Rows) → Stand (info_of w t).width s → Keeps (info_of w t).width s (inserted w log t (info_of w t) s)
unfolding inserted
inserted_keeps w log t s st = walked_keeps (end_of w log) (length log) (insert_row log t (info_of w t)) (Keeps (info_of w t).width s) one s (st, refl)
  where
    one : (p : ℕ) (x : Rows) → end_of w log p ≤ length log → Keeps (info_of w t).width s x → Keeps (info_of w t).width s (insert_row log t (info_of w t) p x)
    one p x l k =
        let m = insert_keeps log t (info_of w t) p x (λ q. omega (arith, insertion_end w log p t q, l)) k.0 in
        (m.0, m.1 ∙ k.1)
