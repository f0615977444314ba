-- After i turns i entries are put there (`runs_turn`), 3 words each (`length_entries`), and `first` is the next body's word; at the end i is n.
use Rattle.std.proofs.Common.{◌+◌, ℕ, ap, ◌∙◌, refl, arith}
use Rattle.answer.specs.LayoutLaws.{small_entry, length_entries}
use Rattle.answer.specs.Layout.{Entry, entry_at, entry_words}
use Rattle.answer.specs.Sums.{sum, sum_none, sum_turn}
use Rattle.step_bodies.specs.Page.{appends_is, runs_start, runs_turn, runs_room}
use Rattle.answer.proofs.entries.Sizes.write_entries.Goals as goal

pub loop-i-init : goal.loop-i-init
loop-i-init c =
    let a = c.args in
    let s = a.self in
    (omega (arith, sum_none (λ j. (entry_at s.words.now s.counts.now s.lengths.now s.used s.contents j).length)), runs_start _ _)

pub write_entry-requires : goal.write_entry-requires
write_entry-requires c =
    let pre = c.requires in
    let a = c.args in
    let s = a.self in
    let l = c.loop-i in
    let f : ℕ → Entry = entry_at s.words.now s.counts.now s.lengths.now s.used s.contents in
    let p : ℕ → ℕ = λ (j : ℕ). a.start + sum (λ i. (f i).length) j in
    let fits = small_entry s.words.now s.counts.now s.lengths.now s.used s.contents s.small l.i (omega (arith, pre.0)) in
    (omega (arith, fits, ap (λ (x : Entry). x.length) c.entry_at-e.ensures), omega (arith, fits, l.invariant.0, pre.1), runs_room (λ j. entry_words (f j) (p j)) {n = a.n} (omega arith) (rw (length_entries f p a.n) pre.2) l.invariant.1)

pub overflow_add-first : goal.overflow_add-first
overflow_add-first c =
    let pre = c.requires in
    let a = c.args in
    let s = a.self in
    let l = c.loop-i in
    omega (arith, small_entry s.words.now s.counts.now s.lengths.now s.used s.contents s.small l.i (omega (arith, pre.0)), l.invariant.0, ap (λ (x : Entry). x.length) c.entry_at-e.ensures, pre.1)

pub loop-i-preserved : goal.loop-i-preserved
loop-i-preserved c =
    let s = c.args.self in
    let l = c.loop-i in
    let r = c.entry_at-e.ensures in
    let e : ℕ → Entry = entry_at s.words.now s.counts.now s.lengths.now s.used s.contents in
    let f : ℕ → ℕ = λ (j : ℕ). (e j).length in
    let words = ap (λ (x : Entry). entry_words x l.first) r ∙ ap (entry_words (e l.i)) l.invariant.0 in
    (omega (arith, sum_turn f l.i (sum f l.i) _ refl refl, l.invariant.0, ap (λ (x : Entry). x.length) r), runs_turn _ l.invariant.1 (appends_is words c.write_entry.ensures))
