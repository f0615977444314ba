-- The words that are lent are the row's key (`starts`), so the row that is found is the first with that key: it is another, or not (`decided`).
use Rattle.std.specs.Prelude.{Option, None, Some, MatchOption}
use Rattle.std.proofs.Common.{◌≡◌, ℕ, ◌+◌, ◌-◌, ◌≤◌, Bool, false, List, length, take, drop, sym, ◌∙◌, ltb, arith, rules, take-take}
use Rattle.std.proofs.Math.Nat.{add-sub_cancel_left}
use Rattle.model.specs.Book.Decode.{part}
use Rattle.model.specs.Book.Read.{is_repeat}
use Rattle.model.specs.Laws.Bodies.{length_part}
use Rattle.tables.specs.declared.TableInfo.{TableInfo}
use Rattle.tables.specs.Tables.{front, found_row, RowsStand}
use Rattle.tables.specs.TablesLaws.{front_take}
use Rattle.reader.specs.Places.{rows_of, RowAt}
use Rattle.reader.specs.RowLaws.{repeat_at, repeat_nothing}
use Rattle.reader.proofs.rows.is_repeat.Goals as goal

starts : (w : List ℕ) (own k : ℕ) → own + k ≤ length w → front (take (own + k - own) (drop own w)) k ≡ part w own k
starts w own k h = rw (add-sub_cancel_left own k) (front_take (part w own k) k (omega (arith, length_part w own k h)) ∙ take-take k k (drop own w) (omega arith))

module _ {w : List ℕ} {t : TableInfo} (s : RowsStand w t) (i own : ℕ) (r : RowAt t i own) (key : List ℕ) (e : front key t.keys ≡ part w own t.keys) where
  decided : (o : Option ℕ) (b : Bool) → o ≡ found_row w t key → MatchOption o (b ≡ false) (λ p. b ≡ ltb p own) → b ≡ is_repeat t.keys (rows_of w t) i
  decided None b f m = m ∙ repeat_nothing s i own r key e (sym f)
  decided (Some p) b f m = m ∙ repeat_at s i own r key e p (sym f)

pub returns : goal.returns
returns c =
    let a = c.args in
    let s : RowsStand a.table.rows.words.now a.table.rows.info = record { stands = a.table.rows.stands; some = c.requires.0 } in
    let told : MatchOption c.look_up.result (c.is_some_and.result ≡ false) (λ p. c.is_some_and.result ≡ ltb p a.own) = search rules in
    λ i r. decided s i a.own r _ (starts a.table.rows.words.now a.own a.table.rows.info.keys (omega (arith, c.requires.1, a.table.rows.stands.keys))) _ _ c.look_up.ensures told
