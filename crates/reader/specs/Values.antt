-- The code's values as the model's.
use Rattle.std.specs.Prelude.{ℕ, ◌≡◌, List, Option, None, Some, Result, Ok, Err}
use Rattle.model.specs.Book.Scan as spec
use Rattle.contents.specs.declared.Contents.{Contents}
use Rattle.reader.specs.declared.walk.Fault.{Fault}
use Rattle.reader.specs.declared.walk.Fault.TheVariants.{Layout, Absent, Stale}
use Rattle.reader.specs.declared.scan.Test.{Test}
use Rattle.reader.specs.declared.scan.Test.TheVariants.{Any, Clean, Below, UpTo, Range}
use Rattle.reader.specs.declared.walk.Walk.{Walk}
use Rattle.instr.specs.declared.layout.Field.{Field}
use Rattle.instr.specs.Fields.{field_of}

abbrev pub fault_of : Fault → spec.Draw
fault_of Layout = spec.three
fault_of Absent = spec.six
fault_of Stale = spec.four

abbrev pub draw_of : Result (Unit {0}) Fault → spec.Draw
draw_of (Ok x) = spec.fine
draw_of (Err f) = fault_of f

abbrev pub test_of : Test → ℕ → spec.Draw
test_of Any = spec.any_word
test_of Clean = spec.clean
test_of (Below n) = spec.below n
test_of (UpTo n) = spec.up_to n
test_of (Range a b) = spec.tag a b

-- 0 is none: no body has word 0 of the book
abbrev pub place_of : Option ℕ → ℕ
place_of None = 0
place_of (Some p) = p

abbrev pub walk_of : Walk → spec.Scan
walk_of w = spec.good w.at (place_of w.absent) (place_of w.stale)

abbrev pub scan_of : Option Walk → spec.Scan
scan_of None = spec.bad
scan_of (Some w) = walk_of w

-- a walk that goes on to the word `next`
abbrev pub gone_to : (next : ℕ) → Option Walk → spec.Scan
gone_to next None = spec.bad
gone_to next (Some w) = spec.good next (place_of w.absent) (place_of w.stale)

-- the calls of a step are a piece of the model's walk
pub record IsStep (post : Walk → Option Walk → Type 0) (one : spec.Scan → spec.Scan) : Type 0 where
  pub bad : one spec.bad ≡ spec.bad
  pub call : (w : Walk) (r : Option Walk) → post w r → scan_of r ≡ one (walk_of w)

abbrev pub sizes_of : Contents → spec.Sizes
sizes_of z = record { tables = z.tables; counters = z.counters; rules = z.rules }

-- past a field
abbrev pub walk_field : (end : ℕ) (w : List ℕ) (z : spec.Sizes) → Field → spec.Scan → spec.Scan
walk_field end w z f s = spec.field end w z (field_of f) s
