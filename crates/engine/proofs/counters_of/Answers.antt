-- After c turns the first c of the n words are counters (`filled_turn`); at the end all n are (`filled_all`), and with zeros past them that is the padded list (`counters_filled`).
use mathlib.Core.Path.{◌≡◌, sym, ap, ◌∙◌}
use mathlib.Core.List.{List, ◌++◌}
use Prim.Native.Nat.{ℕ, ◌+◌, ◌≤◌}
use lib.ListN.{length, get_or, take, drop, replicate}
use lib.Seq.{length-take-le}
use native.Mathlib.Omega.{arith}
use Rattle.words.specs.Filled.{filled, filled_none, filled_turn, filled_all}
use Rattle.model.specs.Basics.{tab}
use Rattle.model.specs.Book.Contents.{first_of}
use Rattle.model.specs.Laws.Book.{few_tables, few_counters}
use Rattle.engine.specs.CounterLaws.{counters_filled}
use Rattle.engine.proofs.counters_of.Goals as goal
use Rattle.engine.proofs.counters_of.Goals.{After-counter_count-n}

-- there are at most 16 tables and 16 counters
few : (c : After-counter_count-n) → c.counter_count-n.result ≤ 16
few c =
    let b = c.args.book in
    omega (arith, c.counter_count-n.ensures, b.contained.counters, few_counters b.words.now b.readable)

many : (c : After-counter_count-n) → length (take {A = ℕ} c.counter_count-n.result (replicate 16 0)) ≡ c.counter_count-n.result
many c = length-take-le c.counter_count-n.result (replicate 16 0) (few c)

pub slice_bounds-next-end : goal.slice_bounds-next-end
slice_bounds-next-end c = few (goal.at.slice_bounds-next-end c).After-counter_count-n

pub slice_bounds-word-items-end : goal.slice_bounds-word-items-end
slice_bounds-word-items-end c = sym (many (goal.at.slice_bounds-word-items-end c).After-counter_count-n)

pub loop-c-init : goal.loop-c-init
loop-c-init c = filled_none _ _

pub first_of-requires : goal.first_of-requires
first_of-requires c =
    let b = c.args.book in
    omega (arith, few (goal.at.first_of-requires c).After-counter_count-n, many (goal.at.first_of-requires c).After-counter_count-n, c.table_count-tables.ensures, b.contained.tables, few_tables b.words.now b.readable)

pub loop-c-preserved : goal.loop-c-preserved
loop-c-preserved c =
    let w = c.args.book.words.now in
    let l = c.loop-c in
    filled_turn (λ k. get_or w (first_of w (c.table_count-tables.result + k)) 0) l.c (take c.counter_count-n.result (replicate 16 0)) l.word-items c.word.result 0 l.invariant (c.word.ensures ∙ ap (λ (p : ℕ). get_or w p 0) c.first_of.ensures.0) (omega arith)

pub returns : goal.returns
returns c =
    let w = c.args.book.words.now in
    let b = c.args.book in
    let n = c.counter_count-n.result in
    let f : ℕ → ℕ = λ k. get_or w (first_of w (c.table_count-tables.result + k)) 0 in
    let zeros : List ℕ = replicate 16 0 in
    let all : c.loop-c.word-items ≡ tab f n =
    let e : c.loop-c.c ≡ length (take n zeros) = omega arith in
    c.loop-c.invariant ∙ ap (λ (k : ℕ). filled f k (take n zeros)) e ∙ filled_all f (take n zeros) ∙ ap (tab f) (many (goal.at.returns c).After-counter_count-n) in
    counters_filled w (c.loop-c.word-items ++ drop n zeros) c.table_count-tables.result n (ap (λ (l : List ℕ). l ++ drop n zeros) all) (c.table_count-tables.ensures ∙ b.contained.tables) (c.counter_count-n.ensures ∙ b.contained.counters)
