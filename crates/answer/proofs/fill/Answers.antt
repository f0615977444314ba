-- `whole_parts` and `front_parts` say where each part stands, so each write has room; all writes, one after the other, leave the answer and zeros (`fill_is`).
use Rattle.std.proofs.Common.{◌≡◌, ◌∙◌, ◌+◌, ◌*◌, ◌≤◌, ℕ, length, take, refl, sym, arith, length-take-le}
use Rattle.std.proofs.lemmas.List.Edits.{sets}
use Rattle.answer.specs.AssembledLaws.{whole_parts, front_parts, front_length, fill_is}
use Rattle.answer.specs.Layout.{Results, rows_length, results_of, body_count, bodies_length, tables_words}
use Rattle.answer.specs.LayoutLaws.{contents_is, length_entries_words}
use Rattle.answer.specs.Sums.{sum}
use Rattle.step_bodies.specs.Page.{appends_more, appends_size, appends_same}
use Rattle.answer.proofs.fill.Goals as goal
use Rattle.answer.proofs.fill.Goals.{After-length_of-before, After-push, After-write_entries, After-write_tables}

abbrev results : After-length_of-before → Results
results c =
    let a = c.args in
    results_of a.sizes.words.now a.sizes.counts.now a.rows.now a.next.now a.sizes.lengths.now (take a.page.now.at a.page.now.words.now) a.changed a.log.now

-- how many words stand before the step bodies
before_is : (c : After-length_of-before) → c.length_of-before.result ≡ bodies_length c.args.sizes.words.now c.args.sizes.counts.now c.args.sizes.lengths.now (length c.args.log.now) c.args.sizes.contents (c.args.sizes.contents.tables + c.args.sizes.contents.counters)
before_is c =
    let pre = c.requires in
    c.length_of-before.ensures ∙ rw (pre.0, c.table_count-tables.ensures, c.counter_count-counters.ensures)

-- where the parts stand, in the code's numbers
whole : (c : After-length_of-before) → 1 + 3 * body_count c.args.sizes.contents + c.length_of-before.result + c.args.page.now.at + (1 + length c.args.log.now) ≤ length c.args.page.now.words.now
whole c =
    let p = c.requires in
    rw (before_is c, whole_parts (results c) c.args.page.now.at c.args.page.now.words.now p.2 c.args.sizes.contents (contents_is c.args.sizes.contained)) p.3

front : (c : After-length_of-before) → length (tables_words c.args.sizes.words.now c.args.sizes.counts.now c.args.rows.now c.args.sizes.contents.tables) + c.args.sizes.contents.counters ≡ c.length_of-before.result
front c =
    let p = c.requires in
    front_parts (results c) c.args.page.now.at c.args.page.now.words.now p.2 c.args.sizes.contents (contents_is c.args.sizes.contained) ∙ sym (before_is c)

-- where the next word goes, and that no call changes how many words are lent
pushed : (c : After-push) → (c.push.new.self.at ≡ 1) × (length c.push.new.self.words.now ≡ length c.args.page.now.words.now)
pushed c = (c.push.ensures.at, appends_size c.push.ensures ∙ c.shift.auto.answer)

entered : (c : After-write_entries) → (c.push.new.self.at ≡ 1) × (length c.push.new.self.words.now ≡ length c.args.page.now.words.now) → (c.write_entries.new.page.at ≡ 1 + 3 * body_count c.args.sizes.contents) × (length c.write_entries.new.page.words.now ≡ length c.args.page.now.words.now)
entered c h =
    let a = c.args in
    let s = a.sizes in
    let w = c.write_entries.ensures in
    (omega (arith, w.at, h.0, c.bodies-n.ensures, length_entries_words s.words.now s.counts.now s.lengths.now s.used s.contents (1 + 3 * c.bodies-n.result) c.bodies-n.result), appends_size w ∙ h.1)

pub overflow_add-first-2 : goal.overflow_add-first-2
overflow_add-first-2 c =
    let good = c.well_formed in
    omega (arith, whole (goal.at.overflow_add-first-2 c).After-length_of-before, good)

pub shift-requires : goal.shift-requires
shift-requires c = omega (arith, whole (goal.at.shift-requires c).After-length_of-before)

pub push-requires : goal.push-requires
push-requires c = omega (arith, c.shift.auto.answer, whole (goal.at.push-requires c).After-length_of-before)

pub write_entries-requires : goal.write_entries-requires
write_entries-requires c =
    let s = c.args.sizes.small in
    (omega arith, omega (arith, s.tables, s.counters, s.steps), omega (arith, pushed (goal.at.write_entries-requires c).After-push, whole (goal.at.write_entries-requires c).After-length_of-before))

pub write_tables-requires : goal.write_tables-requires
write_tables-requires c =
    let a = c.args in
    let p = c.requires in
    let h : sum (rows_length a.sizes.words.now a.sizes.counts.now) a.sizes.contents.tables ≤ length a.rows.now = rw (contents_is a.sizes.contained) p.2.rows in
    let at = goal.at.write_tables-requires c in
    (h, omega (arith, entered at.After-write_entries (pushed at.After-push), front at.After-length_of-before, whole at.After-length_of-before))

pub write-requires : goal.write-requires
write-requires c =
    let a = c.args in
    let n = c.counter_count-counters in
    let h : length (take n.result a.next.now) ≡ n.result = length-take-le n.result a.next.now (omega (arith, n.ensures, c.requires.1)) in
    let at = goal.at.write-requires c in
    omega (arith, n.ensures, h, c.write_tables.ensures.at, appends_size c.write_tables.ensures, entered at.After-write_entries (pushed at.After-push), front at.After-length_of-before, whole at.After-length_of-before)

pub overflow_add-page : goal.overflow_add-page
overflow_add-page c =
    let a = c.args in
    let good = c.well_formed in
    let n = c.counter_count-counters in
    let h : length (take n.result a.next.now) ≡ n.result = length-take-le n.result a.next.now (omega (arith, n.ensures, c.requires.1)) in
    let at = goal.at.overflow_add-page c in
    omega (arith, n.ensures, good, h, c.write.ensures.at, c.write_tables.ensures.at, entered at.After-write_entries (pushed at.After-push), front at.After-length_of-before, whole at.After-length_of-before)

pub write_log-requires : goal.write_log-requires
write_log-requires c =
    let a = c.args in
    let n = c.counter_count-counters in
    let h : length (take n.result a.next.now) ≡ n.result = length-take-le n.result a.next.now (omega (arith, n.ensures, c.requires.1)) in
    let at = goal.at.write_log-requires c in
    omega (arith, n.ensures, h, c.write.ensures.at, appends_size c.write.ensures, c.write_tables.ensures.at, appends_size c.write_tables.ensures, entered at.After-write_entries (pushed at.After-push), front at.After-length_of-before, whole at.After-length_of-before)

pub returns : goal.returns
returns c =
    let a = c.args in
    let p = c.requires in
    let s = a.sizes in
    let z = s.contents in
    let e = contents_is s.contained in
    let b = a.page.now.words.now in
    let k = a.page.now.at in
    let at = goal.at.returns c in
    let r : Results = results at.After-length_of-before in
    let S : ℕ = 1 + 3 * body_count z + bodies_length s.words.now s.counts.now s.lengths.now (length a.log.now) z (z.tables + z.counters) in
    let all = rw (c.bodies-n.ensures, p.0, c.counter_count-counters.ensures) at (appends_more (appends_more (appends_more c.push.ensures c.write_entries.ensures) c.write_tables.ensures) c.write.ensures) in
    let moved : c.shift.new.answer ≡ sets b S (take k b) = c.shift.ensures ∙ rw (before_is at.After-length_of-before, c.bodies-n.ensures) in
    let there : c.write.new.self.at ≡ S = omega (arith, all.at, front_length r k b p.2 z e refl p.1 p.3) in
    let is = fill_is r k b p.2 z e refl p.1 p.3 in
    let last = appends_same c.write_log.ensures in
    record {
      same = record { words = last.words ∙ all.same_words; size = last.size ∙ appends_size all ∙ c.shift.auto.answer };
      words = c.write_log.ensures.words ∙ rw (there, all.words, moved) is;
      place = omega (arith, c.write_log.ensures.at, there, whole_parts r k b p.2 z e);
    }
