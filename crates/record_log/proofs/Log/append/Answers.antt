-- By the test: without room nothing is written (`no_room`); with room the stores of kind and table and the copy of the row are one store of the record (`store_record`).
use Rattle.std.specs.Prelude.{Some}
use Rattle.std.proofs.Common.{◌≡◌, true, ℕ, ◌+◌, ◌≤◌, List, length, get_or, refl, sym, ap, ◌∙◌, arith, length-set}
use Rattle.std.proofs.lemmas.Bool.{true≢false}
use Rattle.std.proofs.lemmas.List.Edits.{sets, sets-eq}
use Rattle.std.proofs.Math.Seq.{paste, take-length, length-sets}
use Rattle.model.specs.Basics.{tab}
use Rattle.tables.specs.TablesLaws.{front_all}
use Rattle.record_log.specs.Log.{record_of}
use Rattle.record_log.specs.Append.{Appends}
use Rattle.record_log.specs.declared.Log.{Log}
use Rattle.record_log.specs.LogLaws.{length_record, store_record, no_room, room}
use Rattle.record_log.proofs.Log.append.Goals as goal

-- words that were copied, as stores
paste_sets : (at : ℕ) (l vs : List ℕ) → at + length vs ≤ length l → paste l at vs (length vs) ≡ sets l at (tab (λ (i : ℕ). get_or vs i 0) (length vs))
paste_sets at l vs h = rw (front_all vs, take-length vs) (sym (sets-eq vs l at h))

-- the words of a record that has room
appends : {a b : Log} (r : List ℕ) → b.words.ghost_name ≡ a.words.ghost_name → b.used ≡ a.used + length r → a.used + length r ≤ length a.words.now → b.words.now ≡ sets a.words.now a.used r → Appends a r true b
appends {a} {b} r g n h e =
    let m = room a.words.now a.used r h in
    record { same = record { words = g; size = ap length e ∙ length-sets a.words.now a.used r }; answer = ap Some n ∙ m.0; unused = λ q. absurd (true≢false q); words = e ∙ m.1 }

pub returns-then-words-end : goal.returns-then-words-end
returns-then-words-end c =
    let a = c.args in
    let s = a.self.now in
    let k : ℕ = length a.row.now in
    let r = no_room s.words.now s.used (record_of a.kind a.table.0 a.row.now k) (omega (arith, length_record a.kind a.table.0 a.row.now k, c.if-words-end.true)) in
    record { same = record { words = refl; size = refl }; answer = r.0; unused = λ _. refl; words = r.1 }

pub returns : goal.returns
returns c =
    let a = c.args in
    let s = a.self.now in
    let k : ℕ = length a.row.now in
    let words = record_of a.kind a.table.0 a.row.now k in
    let n : s.used + 2 + k ≡ s.used + length words = omega (arith, length_record a.kind a.table.0 a.row.now k) in
    let copied = c.copy.ensures ∙ paste_sets (s.used + 2) _ a.row.now (simp length-set (omega (arith, c.if-words-end.false))) in
    appends words refl n (omega (arith, n, c.if-words-end.false)) (copied ∙ store_record a.kind a.table.0 a.row.now k s.words.now s.used)
