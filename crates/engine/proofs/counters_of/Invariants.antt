use mathlib.Core.Path.{◌≡◌}
use Prim.Native.Nat.{◌+◌}
use lib.ListN.{get_or}
use Rattle.words.specs.Filled.{filled}
use Rattle.model.specs.Book.Contents.{first_of}
use Rattle.engine.proofs.counters_of.Given as goal

abbrev pub invariant-loop-c : goal.invariant-loop-c
invariant-loop-c l = l.word-items ≡ filled (λ k. get_or l.book.words.now (first_of l.book.words.now (l.tables + k)) 0) l.c l.initial.word-items
