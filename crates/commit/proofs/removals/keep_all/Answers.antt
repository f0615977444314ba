-- After n turns the words left are those from row n on (`row_here`), and the rows are those spared of n rows (`iter_more`).
use Prim.Native.Nat.{ℕ, ◌+◌, ◌*◌, ◌-◌, ◌<◌, ◌≤◌, ◌/◌}
use mathlib.Core.List.{List, [], ◌∷◌, ◌++◌}
use mathlib.Core.Path.{◌≡◌, refl, sym, ap, ◌∙◌}
use native.Mathlib.Omega.{arith}
use Rattle.std.proofs.Common.{take_at, drop_at, drop-drop, length-append, length-drop, zero-add}
use Rattle.std.proofs.lemmas.Nat.{div-mul-add}
use lib.ListN.{length, take, drop}
use Rattle.std.specs.Slice.Iter.{chunks_exact_rest}
use Rattle.model.specs.Book.Decode.{part}
use Rattle.model.specs.Laws.Iter.{iter_more}
use Rattle.tables.specs.TablesLaws.{next_row}
use Rattle.commit.specs.Commit.{spare_row, spared}
use Rattle.commit.specs.TableRows.{rows_of}
use Rattle.commit.proofs.removals.keep_all.Goals as goal
use Rattle.commit.proofs.removals.keep_all.Goals.{In-Some}

-- of rows of k words, those from row i on: row i, and those past it
module _ (w : List ℕ) (k i : ℕ) (x after : List ℕ) (long : length x ≡ k) (e : drop (i * k) w ≡ x ++ after) where
  row_within : i * k ≤ length w → (i + 1) * k ≤ length w
  row_within h = omega (arith, next_row i k, ap length e, length-append x after, length-drop (i * k) w)

  row_here : x ≡ part w (0 + i * k) k
  row_here = rw (zero-add (i * k)) (sym (take_at x after k long) ∙ ap (take k) (sym e))

  rows_past : after ≡ drop ((i + 1) * k) w
  rows_past = rw (next_row i k) (sym (drop_at x after k long) ∙ ap (drop k) (sym e) ∙ drop-drop k (i * k) w)

-- the words that are left, as the turn has them
left : (c : In-Some) → drop (length c.loop-row.yielded * c.args.rows.now.info.width) c.args.old.now ≡ c.in-Some.row.now ++ chunks_exact_rest c.next.new.self
left c = sym c.loop-row.invariant.2 ∙ c.in-Some.ensures.steps.1.0

long : (c : In-Some) → length c.in-Some.row.now ≡ c.args.rows.now.info.width
long c = c.in-Some.ensures.steps.1.1 ∙ c.loop-row.invariant.1

pub loop-row-init : goal.loop-row-init
unfolding spared
loop-row-init c =
    let k = c.args.rows.now.info.width in
    let e = c.chunks_exact-row-items.ensures in
    let z : 0 * k ≡ 0 = omega arith in
    (omega arith, rw c.into_iter-row-iterator.ensures.into_iter_gives e.size, rw (c.into_iter-row-iterator.ensures.into_iter_gives, z) e.rest, record { same_words = refl; same_info = refl; rows = refl })

pub keep_row-requires : goal.keep_row-requires
keep_row-requires c =
    let q = long (goal.at.keep_row-requires c).In-Some in
    (omega (arith, q, c.requires), q ∙ sym (ap (λ i. i.width) c.loop-row.invariant.3.same_info))

pub loop-row-preserved : goal.loop-row-preserved
unfolding spared
loop-row-preserved c =
    let a = c.args in
    let k = a.rows.now.info.width in
    let l = c.loop-row in
    let n = length l.yielded in
    let r = c.keep_row.ensures in
    let d = left (goal.at.loop-row-preserved c).In-Some in
    let q = long (goal.at.loop-row-preserved c).In-Some in
    let m : length (l.yielded ++ (c.in-Some.row ∷ [])) ≡ n + 1 = length-append l.yielded (c.in-Some.row ∷ []) in
    rw m (
      row_within a.old.now k n _ _ q d l.invariant.0,
      c.in-Some.ensures.steps.0 ∙ l.invariant.1,
      rows_past a.old.now k n _ _ q d,
      record {
        same_words = r.same_words ∙ l.invariant.3.same_words;
        same_info = r.same_info ∙ l.invariant.3.same_info;
        rows = iter_more (λ j. spare_row a.removed.rows.words.now a.removed.rows.info (part a.old.now (0 + j * k) k)) n (rows_of a.rows.now) (rows_of l.rows) _ l.invariant.3.rows (r.rows ∙ ap (λ (x : List ℕ). spare_row a.removed.rows.words.now a.removed.rows.info x (rows_of l.rows)) (row_here a.old.now k n _ _ q d));
      },
    )

pub returns : goal.returns
returns c =
    let a = c.args in
    let k = a.rows.now.info.width in
    let l = c.loop-row in
    let n = length l.yielded in
    let rest : length a.old.now - n * k < k = omega (arith, length-drop (n * k) a.old.now, ap length l.invariant.2, c.in-None.ensures.steps.1.0, l.invariant.1) in
    let m : n * k + (length a.old.now - n * k) ≡ length a.old.now = omega (arith, l.invariant.0) in
    let e : n ≡ length a.old.now / k = sym (div-mul-add n k (length a.old.now - n * k) rest) ∙ ap (λ (x : ℕ). x / k) m in
    rw e at l.invariant.3
