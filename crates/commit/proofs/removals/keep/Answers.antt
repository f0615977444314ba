-- The front of the words lent is the table of removed keys (`front_keys`), and the rows that it spares are those kept (`spared_kept`).
use Prim.Native.Nat.{ℕ, ◌*◌}
use mathlib.Core.Path.{◌≡◌, ap, ◌∙◌}
use lib.ListN.{take}
use Rattle.tables.specs.declared.TableInfo.{TableInfo}
use Rattle.commit.specs.Walk.{Keys, key_table}
use Rattle.commit.specs.Commit.{spared}
use Rattle.commit.specs.KeyLaws.{front_keys}
use Rattle.commit.specs.TableRows.{rows_of}
use Rattle.commit.specs.TableLaws.{spared_kept}
use Rattle.commit.proofs.removals.keep.Goals as goal

pub returns-clause-rows : goal.returns-clause-rows
returns-clause-rows c =
    let a = c.args in
    let w = a.changes.words.now in
    let log = a.changes.log.now in
    let i = a.rows.now.info in
    let s = rows_of a.rows.now in
    let g = c.gather_if.ensures in
    let r = c.spare.ensures in
    let keys = c.gather_if.new.keys in
    let wide : keys.width ≡ i.keys = g.same_width in
    let front = front_keys w log a.t.0 i.keys (ap (λ (x : TableInfo). x.keys) c.requires.0) a.gone.now keys.words.now keys.count g.keys in
    record {
      same_words = r.same_words;
      same_info = r.same_info;
      rows = r.rows
          ∙ ap (λ (k : ℕ). spared (take (keys.count * k) keys.words.now) (key_table k keys.count) w i.at i.width i.rows s) wide
          ∙ ap (λ (x : Keys). spared x.words (key_table i.keys x.count) w i.at i.width i.rows s) front
          ∙ spared_kept w log a.t.0 i s c.requires.0 c.requires.1;
    }
