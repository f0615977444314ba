-- The books of docs/DECISIONS.md, by computation: what each prints, or the words of its answer.
use Prim.Native.Nat.{ℕ}
use mathlib.Core.Path.{◌≡◌, refl}
use mathlib.Core.List.{List, [], ◌∷◌}
use Rattle.model.specs.Basics.{All}
use Rattle.model.specs.Book.Words.{bytes_of}
use Rattle.model.specs.Outcome.{Lent, accepted, outcome}
use Rattle.model.specs.Printed.{Line, run, row, ins, del, changed, table, counter, refused, printed}
use Rattle.model.specs.Claims.Cases.{dispatch_lends}
use Rattle.model.proofs.Computed.{computed}

data Expected : Type 0 where
  prints : List Line → Expected
  answers : List ℕ → Expected

record Point : Type 0 where
  lent : Lent
  book : List ℕ
  expected : Expected

abbrev Meets : Lent → List ℕ → Expected → Type 0
Meets l book (prints ls) = printed l (bytes_of book) ≡ ls
Meets l book (answers ws) = outcome l (bytes_of book) ≡ accepted ws

abbrev d1a : Point
d1a = record { lent = dispatch_lends; book = 2 ∷ 1 ∷ 7 ∷ 4 ∷ 2 ∷ 11 ∷ 99 ∷ 1 ∷ 0 ∷ 0 ∷ 0 ∷ 5 ∷ []; expected = prints (refused 2 0 ∷ []) }

abbrev d1b : Point
d1b = record { lent = dispatch_lends; book = 2 ∷ 1 ∷ 7 ∷ 99 ∷ 2 ∷ 11 ∷ 1 ∷ 1 ∷ 0 ∷ 0 ∷ 0 ∷ 5 ∷ []; expected = prints (refused 2 1 ∷ []) }

abbrev d2a : Point
d2a = record { lent = dispatch_lends; book = 2 ∷ 2 ∷ 7 ∷ 4294967295 ∷ 2 ∷ 6 ∷ 1 ∷ 5 ∷ 5 ∷ []; expected = prints (refused 2 1 ∷ []) }

abbrev d2b : Point
d2b = record { lent = dispatch_lends; book = 1 ∷ 1 ∷ 4 ∷ 4 ∷ 1 ∷ 1 ∷ 0 ∷ 2147483648 ∷ []; expected = prints (refused 3 0 ∷ []) }

abbrev d3 : Point
d3 = record { lent = dispatch_lends; book = 1 ∷ 2 ∷ 4 ∷ 0 ∷ []; expected = prints (refused 3 0 ∷ []) }

abbrev d4 : Point
d4 = record { lent = dispatch_lends; book = 17 ∷ 1 ∷ 52 ∷ 4 ∷ 1 ∷ 56 ∷ 4 ∷ 1 ∷ 60 ∷ 4 ∷ 1 ∷ 64 ∷ 4 ∷ 1 ∷ 68 ∷ 4 ∷ 1 ∷ 72 ∷ 4 ∷ 1 ∷ 76 ∷ 4 ∷ 1 ∷ 80 ∷ 4 ∷ 1 ∷ 84 ∷ 4 ∷ 1 ∷ 88 ∷ 4 ∷ 1 ∷ 92 ∷ 4 ∷ 1 ∷ 96 ∷ 4 ∷ 1 ∷ 100 ∷ 4 ∷ 1 ∷ 104 ∷ 4 ∷ 1 ∷ 108 ∷ 4 ∷ 1 ∷ 112 ∷ 4 ∷ 1 ∷ 116 ∷ 4 ∷ 1 ∷ 0 ∷ 0 ∷ 0 ∷ 1 ∷ 0 ∷ 0 ∷ 0 ∷ 1 ∷ 0 ∷ 0 ∷ 0 ∷ 1 ∷ 0 ∷ 0 ∷ 0 ∷ 1 ∷ 0 ∷ 0 ∷ 0 ∷ 1 ∷ 0 ∷ 0 ∷ 0 ∷ 1 ∷ 0 ∷ 0 ∷ 0 ∷ 1 ∷ 0 ∷ 0 ∷ 0 ∷ 1 ∷ 0 ∷ 0 ∷ 0 ∷ 1 ∷ 0 ∷ 0 ∷ 0 ∷ 1 ∷ 0 ∷ 0 ∷ 0 ∷ 1 ∷ 0 ∷ 0 ∷ 0 ∷ 1 ∷ 0 ∷ 0 ∷ 0 ∷ 1 ∷ 0 ∷ 0 ∷ 0 ∷ 1 ∷ 0 ∷ 0 ∷ 0 ∷ 1 ∷ 0 ∷ 0 ∷ 0 ∷ 1 ∷ 0 ∷ 0 ∷ 0 ∷ []; expected = prints (refused 2 16 ∷ []) }

abbrev d5 : Point
d5 = record { lent = dispatch_lends; book = 2 ∷ 1 ∷ 7 ∷ 6 ∷ 1 ∷ 13 ∷ 4 ∷ 1 ∷ 0 ∷ 0 ∷ 2 ∷ 1 ∷ 1 ∷ 9 ∷ 0 ∷ 0 ∷ 0 ∷ []; expected = prints (refused 5 12 ∷ []) }

abbrev d6a : Point
d6a = record { lent = dispatch_lends; book = 1 ∷ 3 ∷ 4 ∷ 8 ∷ 0 ∷ 2 ∷ 10 ∷ 0 ∷ 32 ∷ 1 ∷ 0 ∷ 99 ∷ []; expected = prints (refused 3 0 ∷ []) }

abbrev d6b : Point
d6b = record { lent = dispatch_lends; book = 1 ∷ 3 ∷ 4 ∷ 7 ∷ 0 ∷ 1 ∷ 10 ∷ 1 ∷ 4294967295 ∷ 0 ∷ 32 ∷ []; expected = prints (refused 6 10 ∷ []) }

abbrev d6c : Point
d6c = record { lent = dispatch_lends; book = 1 ∷ 1 ∷ 4 ∷ 10 ∷ 1 ∷ 1 ∷ 0 ∷ 3 ∷ 1 ∷ 1 ∷ 1 ∷ 2 ∷ 3 ∷ 4294967295 ∷ []; expected = prints (refused 4 13 ∷ []) }

abbrev d7a : Point
d7a = record { lent = dispatch_lends; book = 1 ∷ 3 ∷ 4 ∷ 7 ∷ 0 ∷ 1 ∷ 10 ∷ 1 ∷ 1 ∷ 1 ∷ 4294967295 ∷ []; expected = prints (refused 4 10 ∷ []) }

abbrev d7b : Point
d7b = record { lent = dispatch_lends; book = 1 ∷ 3 ∷ 4 ∷ 7 ∷ 1 ∷ 1 ∷ 10 ∷ 0 ∷ 0 ∷ 0 ∷ 32 ∷ []; expected = prints (refused 6 10 ∷ []) }

abbrev d8 : Point
d8 = record { lent = dispatch_lends; book = 1 ∷ 3 ∷ 4 ∷ 5 ∷ 0 ∷ 1 ∷ 12 ∷ 17 ∷ 0 ∷ []; expected = prints (refused 8 6 ∷ []) }

abbrev d9 : Point
d9 = record { lent = dispatch_lends; book = 3 ∷ 1 ∷ 10 ∷ 4 ∷ 3 ∷ 14 ∷ 9 ∷ 4 ∷ 23 ∷ 3 ∷ 1 ∷ 1 ∷ 0 ∷ 0 ∷ 0 ∷ 1 ∷ 3 ∷ 0 ∷ 1 ∷ 1 ∷ 1 ∷ 4294967295 ∷ 0 ∷ 0 ∷ 0 ∷ 0 ∷ []; expected = prints (refused 9 16 ∷ []) }

abbrev d10a : Point
d10a = record { lent = dispatch_lends; book = 2 ∷ 3 ∷ 7 ∷ 2 ∷ 4 ∷ 9 ∷ 3 ∷ 0 ∷ 0 ∷ 0 ∷ 257 ∷ 0 ∷ []; expected = prints (refused 3 1 ∷ []) }

abbrev d10b : Point
d10b = record { lent = dispatch_lends; book = 2 ∷ 3 ∷ 7 ∷ 2 ∷ 4 ∷ 9 ∷ 3 ∷ 0 ∷ 0 ∷ 0 ∷ 2 ∷ 0 ∷ []; expected = prints (refused 11 1 ∷ []) }

abbrev d11 : Point
d11 = record { lent = dispatch_lends; book = 1 ∷ 1 ∷ 4 ∷ 5 ∷ 1 ∷ 0 ∷ 0 ∷ 2 ∷ 7 ∷ []; expected = prints (refused 3 0 ∷ []) }

abbrev d12 : Point
d12 = record { lent = dispatch_lends; book = 1 ∷ 1 ∷ 4 ∷ 6 ∷ 0 ∷ 1 ∷ 0 ∷ 2 ∷ 5 ∷ 6 ∷ []; expected = prints (refused 5 9 ∷ []) }

abbrev d13 : Point
d13 = record { lent = dispatch_lends; book = 1 ∷ 1 ∷ 4 ∷ 8 ∷ 1 ∷ 0 ∷ 0 ∷ 4 ∷ 1 ∷ 2 ∷ 2 ∷ 1 ∷ []; expected = prints (refused 5 10 ∷ []) }

abbrev d14 : Point
d14 = record { lent = dispatch_lends; book = 4 ∷ 1 ∷ 13 ∷ 4 ∷ 3 ∷ 17 ∷ 2 ∷ 5 ∷ 19 ∷ 6 ∷ 4 ∷ 25 ∷ 3 ∷ 1 ∷ 1 ∷ 0 ∷ 0 ∷ 0 ∷ 0 ∷ 0 ∷ 1 ∷ 5 ∷ 1 ∷ 1 ∷ 6 ∷ 0 ∷ 0 ∷ 0 ∷ []; expected = prints (row 0 (5 ∷ 6 ∷ []) ∷ run 1 1 ∷ ins 0 (5 ∷ 6 ∷ []) ∷ changed 1 ∷ table 0 1 ∷ []) }

abbrev d15 : Point
d15 = record { lent = dispatch_lends; book = 1 ∷ 3 ∷ 4 ∷ 7 ∷ 0 ∷ 1 ∷ 10 ∷ 2 ∷ 0 ∷ 1 ∷ 0 ∷ []; expected = prints (refused 3 0 ∷ []) }

abbrev d16 : Point
d16 = record { lent = dispatch_lends; book = 1 ∷ 2 ∷ 4 ∷ 1 ∷ 7 ∷ []; expected = prints (changed 0 ∷ counter 0 7 ∷ []) }

abbrev d17 : Point
d17 = record { lent = dispatch_lends; book = 3 ∷ 1 ∷ 10 ∷ 4 ∷ 3 ∷ 14 ∷ 12 ∷ 4 ∷ 26 ∷ 4 ∷ 1 ∷ 1 ∷ 0 ∷ 0 ∷ 1 ∷ 1 ∷ 1 ∷ 0 ∷ 1 ∷ 0 ∷ 1 ∷ 1 ∷ 1 ∷ 1 ∷ 1 ∷ 1 ∷ 0 ∷ 1 ∷ 1 ∷ 3 ∷ []; expected = prints (refused 7 16 ∷ []) }

abbrev d18 : Point
d18 = record { lent = dispatch_lends; book = 3 ∷ 1 ∷ 10 ∷ 4 ∷ 3 ∷ 14 ∷ 12 ∷ 4 ∷ 26 ∷ 4 ∷ 1 ∷ 1 ∷ 0 ∷ 0 ∷ 1 ∷ 2 ∷ 3 ∷ 0 ∷ 1 ∷ 0 ∷ 0 ∷ 2 ∷ 1 ∷ 12 ∷ 1 ∷ 0 ∷ 0 ∷ 1 ∷ 1 ∷ 3 ∷ []; expected = prints (refused 9 16 ∷ []) }

abbrev d19 : Point
d19 = record { lent = dispatch_lends; book = 3 ∷ 3 ∷ 10 ∷ 2 ∷ 3 ∷ 12 ∷ 7 ∷ 4 ∷ 19 ∷ 3 ∷ 0 ∷ 0 ∷ 0 ∷ 1 ∷ 10 ∷ 0 ∷ 0 ∷ 0 ∷ 0 ∷ 0 ∷ 2 ∷ 0 ∷ []; expected = prints (refused 7 14 ∷ []) }

abbrev d20 : Point
d20 = record { lent = dispatch_lends; book = 2 ∷ 1 ∷ 7 ∷ 4 ∷ 3 ∷ 11 ∷ 12 ∷ 1 ∷ 1 ∷ 0 ∷ 0 ∷ 0 ∷ 1 ∷ 1 ∷ 0 ∷ 0 ∷ 2 ∷ 1 ∷ 5 ∷ 1 ∷ 6 ∷ 1 ∷ 0 ∷ []; expected = prints (refused 8 13 ∷ []) }

abbrev d21 : Point
d21 = record { lent = dispatch_lends; book = 2 ∷ 3 ∷ 7 ∷ 10 ∷ 4 ∷ 17 ∷ 4 ∷ 1 ∷ 1 ∷ 8 ∷ 0 ∷ 2 ∷ 0 ∷ 0 ∷ 0 ∷ 0 ∷ 0 ∷ 0 ∷ 1 ∷ 1 ∷ 3 ∷ []; expected = answers (2 ∷ 6 ∷ 7 ∷ 6 ∷ 8 ∷ 13 ∷ 1 ∷ 1 ∷ 1 ∷ 1 ∷ 0 ∷ 6 ∷ 1 ∷ 0 ∷ []) }

abbrev d22 : Point
d22 = record { lent = dispatch_lends; book = 3 ∷ 1 ∷ 10 ∷ 4 ∷ 3 ∷ 14 ∷ 16 ∷ 4 ∷ 30 ∷ 5 ∷ 1 ∷ 1 ∷ 0 ∷ 0 ∷ 1 ∷ 2 ∷ 5 ∷ 0 ∷ 2 ∷ 0 ∷ 0 ∷ 1 ∷ 1 ∷ 5 ∷ 0 ∷ 2 ∷ 0 ∷ 0 ∷ 1 ∷ 2 ∷ 0 ∷ 2 ∷ 1 ∷ 5 ∷ 6 ∷ []; expected = prints (run 0 2 ∷ ins 0 (5 ∷ 1 ∷ []) ∷ ins 0 (6 ∷ 1 ∷ []) ∷ ins 0 (5 ∷ 2 ∷ []) ∷ ins 0 (6 ∷ 2 ∷ []) ∷ changed 1 ∷ table 0 2 ∷ []) }

abbrev d23 : Point
d23 = record { lent = dispatch_lends; book = 2 ∷ 3 ∷ 7 ∷ 15 ∷ 4 ∷ 22 ∷ 7 ∷ 2 ∷ 2 ∷ 11 ∷ 0 ∷ 0 ∷ 1 ∷ 5 ∷ 8 ∷ 4 ∷ 2 ∷ 0 ∷ 0 ∷ 0 ∷ 0 ∷ 1 ∷ 0 ∷ 2 ∷ 2 ∷ 5 ∷ 6 ∷ 1 ∷ 1 ∷ []; expected = answers (2 ∷ 6 ∷ 7 ∷ 11 ∷ 8 ∷ 18 ∷ 1 ∷ 1 ∷ 2 ∷ 2 ∷ 0 ∷ 5 ∷ 6 ∷ 1 ∷ 4294967295 ∷ 6 ∷ 0 ∷ 1 ∷ 0 ∷ []) }

abbrev d24 : Point
d24 = record { lent = record { bindings = 8192; index = 8192; log = 3; tables = 16384; answer = 16384 }; book = 3 ∷ 1 ∷ 10 ∷ 4 ∷ 3 ∷ 14 ∷ 7 ∷ 4 ∷ 21 ∷ 3 ∷ 1 ∷ 1 ∷ 0 ∷ 0 ∷ 0 ∷ 1 ∷ 7 ∷ 0 ∷ 1 ∷ 1 ∷ 5 ∷ 0 ∷ 0 ∷ 0 ∷ []; expected = prints (run 0 1 ∷ del 0 (5 ∷ []) ∷ changed 1 ∷ table 0 0 ∷ []) }

abbrev d25 : Point
d25 = record { lent = dispatch_lends; book = 4 ∷ 1 ∷ 13 ∷ 4 ∷ 2 ∷ 17 ∷ 1 ∷ 3 ∷ 18 ∷ 12 ∷ 4 ∷ 30 ∷ 4 ∷ 1 ∷ 1 ∷ 0 ∷ 0 ∷ 4294967294 ∷ 1 ∷ 1 ∷ 1 ∷ 0 ∷ 1 ∷ 0 ∷ 0 ∷ 1 ∷ 2 ∷ 0 ∷ 1 ∷ 1 ∷ 0 ∷ 1 ∷ 1 ∷ 5 ∷ []; expected = prints (refused 13 3 ∷ []) }

abbrev d26a : Point
d26a = record { lent = record { bindings = 8192; index = 8192; log = 0; tables = 16384; answer = 16384 }; book = 4 ∷ 1 ∷ 13 ∷ 4 ∷ 2 ∷ 17 ∷ 1 ∷ 3 ∷ 18 ∷ 12 ∷ 4 ∷ 30 ∷ 4 ∷ 1 ∷ 1 ∷ 0 ∷ 0 ∷ 4294967294 ∷ 1 ∷ 1 ∷ 1 ∷ 0 ∷ 1 ∷ 0 ∷ 0 ∷ 1 ∷ 2 ∷ 0 ∷ 1 ∷ 1 ∷ 0 ∷ 1 ∷ 1 ∷ 5 ∷ []; expected = prints (refused 13 3 ∷ []) }

abbrev d26b : Point
d26b = record { lent = record { bindings = 8192; index = 8192; log = 3; tables = 16384; answer = 16384 }; book = 4 ∷ 1 ∷ 13 ∷ 4 ∷ 2 ∷ 17 ∷ 1 ∷ 3 ∷ 18 ∷ 12 ∷ 4 ∷ 30 ∷ 5 ∷ 1 ∷ 1 ∷ 0 ∷ 0 ∷ 4294967293 ∷ 1 ∷ 1 ∷ 1 ∷ 0 ∷ 1 ∷ 0 ∷ 0 ∷ 1 ∷ 2 ∷ 0 ∷ 1 ∷ 1 ∷ 0 ∷ 2 ∷ 1 ∷ 5 ∷ 6 ∷ []; expected = prints (refused 12 3 ∷ []) }

abbrev d27 : Point
d27 = record { lent = dispatch_lends; book = 3 ∷ 1 ∷ 10 ∷ 4 ∷ 2 ∷ 14 ∷ 1 ∷ 5 ∷ 15 ∷ 6 ∷ 1 ∷ 1 ∷ 0 ∷ 0 ∷ 4294967293 ∷ 0 ∷ 1 ∷ 5 ∷ 1 ∷ 2 ∷ 0 ∷ []; expected = prints (row 0 (5 ∷ 4294967293 ∷ []) ∷ ins 0 (5 ∷ 4294967293 ∷ []) ∷ changed 1 ∷ table 0 1 ∷ counter 0 4294967294 ∷ []) }

abbrev d29 : Point
d29 = record { lent = dispatch_lends; book = 2 ∷ 1 ∷ 7 ∷ 6 ∷ 5 ∷ 13 ∷ 6 ∷ 1 ∷ 1 ∷ 0 ∷ 1 ∷ 5 ∷ 7 ∷ 0 ∷ 1 ∷ 5 ∷ 1 ∷ 1 ∷ 6 ∷ []; expected = answers (3 ∷ 1 ∷ 10 ∷ 6 ∷ 7 ∷ 16 ∷ 3 ∷ 8 ∷ 19 ∷ 1 ∷ 1 ∷ 1 ∷ 0 ∷ 1 ∷ 5 ∷ 7 ∷ 0 ∷ 5 ∷ 7 ∷ 0 ∷ []) }

abbrev d30 : Point
d30 = record { lent = dispatch_lends; book = 3 ∷ 2 ∷ 10 ∷ 1 ∷ 3 ∷ 11 ∷ 10 ∷ 4 ∷ 21 ∷ 5 ∷ 7 ∷ 1 ∷ 2 ∷ 11 ∷ 0 ∷ 0 ∷ 1 ∷ 5 ∷ 13 ∷ 0 ∷ 1 ∷ 0 ∷ 2 ∷ 1 ∷ 5 ∷ 6 ∷ []; expected = answers (3 ∷ 2 ∷ 10 ∷ 1 ∷ 6 ∷ 11 ∷ 11 ∷ 8 ∷ 22 ∷ 1 ∷ 7 ∷ 1 ∷ 2 ∷ 2 ∷ 0 ∷ 5 ∷ 6 ∷ 1 ∷ 7 ∷ 7 ∷ 0 ∷ 1 ∷ 0 ∷ []) }

abbrev d31 : Point
d31 = record { lent = dispatch_lends; book = 5 ∷ 1 ∷ 16 ∷ 4 ∷ 2 ∷ 20 ∷ 1 ∷ 3 ∷ 21 ∷ 12 ∷ 4 ∷ 33 ∷ 4 ∷ 4 ∷ 37 ∷ 3 ∷ 1 ∷ 1 ∷ 0 ∷ 0 ∷ 4294967294 ∷ 1 ∷ 1 ∷ 1 ∷ 0 ∷ 1 ∷ 0 ∷ 0 ∷ 1 ∷ 2 ∷ 0 ∷ 1 ∷ 1 ∷ 0 ∷ 1 ∷ 1 ∷ 5 ∷ 0 ∷ 0 ∷ 0 ∷ []; expected = prints (refused 11 4 ∷ []) }

abbrev d33 : Point
d33 = record { lent = dispatch_lends; book = 2 ∷ 3 ∷ 7 ∷ 11 ∷ 4 ∷ 18 ∷ 3 ∷ 0 ∷ 1 ∷ 12 ∷ 1 ∷ 3 ∷ 1 ∷ 1 ∷ 1 ∷ 1 ∷ 1 ∷ 2 ∷ 0 ∷ 0 ∷ 0 ∷ []; expected = prints (run 0 0 ∷ changed 0 ∷ []) }

abbrev d34 : Point
d34 = record { lent = dispatch_lends; book = 3 ∷ 1 ∷ 10 ∷ 4 ∷ 3 ∷ 14 ∷ 19 ∷ 4 ∷ 33 ∷ 3 ∷ 1 ∷ 1 ∷ 0 ∷ 0 ∷ 0 ∷ 2 ∷ 1 ∷ 0 ∷ 1 ∷ 1 ∷ 5 ∷ 1 ∷ 1 ∷ 6 ∷ 1 ∷ 0 ∷ 3 ∷ 0 ∷ 1 ∷ 1 ∷ 5 ∷ 1 ∷ 1 ∷ 0 ∷ 0 ∷ 0 ∷ []; expected = prints (run 0 0 ∷ ins 0 (5 ∷ 6 ∷ []) ∷ changed 0 ∷ table 0 1 ∷ []) }

abbrev d35 : Point
d35 = record { lent = dispatch_lends; book = 3 ∷ 1 ∷ 10 ∷ 4 ∷ 3 ∷ 14 ∷ 16 ∷ 4 ∷ 30 ∷ 3 ∷ 1 ∷ 1 ∷ 0 ∷ 0 ∷ 0 ∷ 2 ∷ 5 ∷ 0 ∷ 2 ∷ 1 ∷ 5 ∷ 1 ∷ 1 ∷ 5 ∷ 0 ∷ 2 ∷ 1 ∷ 5 ∷ 1 ∷ 2 ∷ 0 ∷ 0 ∷ 0 ∷ []; expected = answers (3 ∷ 1 ∷ 10 ∷ 6 ∷ 6 ∷ 16 ∷ 4 ∷ 8 ∷ 20 ∷ 9 ∷ 1 ∷ 1 ∷ 0 ∷ 1 ∷ 5 ∷ 1 ∷ 1 ∷ 1 ∷ 0 ∷ 1 ∷ 1 ∷ 0 ∷ 0 ∷ 5 ∷ 1 ∷ 0 ∷ 0 ∷ 5 ∷ 2 ∷ []) }

abbrev d36 : Point
d36 = record { lent = dispatch_lends; book = 3 ∷ 1 ∷ 10 ∷ 7 ∷ 3 ∷ 17 ∷ 11 ∷ 4 ∷ 28 ∷ 3 ∷ 1 ∷ 2 ∷ 2 ∷ 1 ∷ 3 ∷ 40 ∷ 1 ∷ 0 ∷ 1 ∷ 5 ∷ 0 ∷ 3 ∷ 1 ∷ 3 ∷ 1 ∷ 7 ∷ 1 ∷ 9 ∷ 0 ∷ 0 ∷ 0 ∷ []; expected = answers (3 ∷ 1 ∷ 10 ∷ 7 ∷ 6 ∷ 17 ∷ 4 ∷ 8 ∷ 21 ∷ 6 ∷ 1 ∷ 2 ∷ 2 ∷ 1 ∷ 3 ∷ 7 ∷ 1 ∷ 1 ∷ 1 ∷ 0 ∷ 1 ∷ 1 ∷ 0 ∷ 0 ∷ 3 ∷ 7 ∷ 9 ∷ []) }

abbrev d37 : Point
d37 = record { lent = dispatch_lends; book = 3 ∷ 1 ∷ 10 ∷ 4 ∷ 3 ∷ 14 ∷ 14 ∷ 4 ∷ 28 ∷ 3 ∷ 1 ∷ 1 ∷ 0 ∷ 0 ∷ 0 ∷ 2 ∷ 5 ∷ 0 ∷ 2 ∷ 1 ∷ 5 ∷ 1 ∷ 6 ∷ 7 ∷ 0 ∷ 1 ∷ 1 ∷ 5 ∷ 0 ∷ 0 ∷ 0 ∷ []; expected = prints (run 0 1 ∷ ins 0 (5 ∷ 6 ∷ []) ∷ del 0 (5 ∷ []) ∷ changed 1 ∷ table 0 1 ∷ []) }

abbrev d38 : Point
d38 = record { lent = record { bindings = 8192; index = 8192; log = 16384; tables = 0; answer = 16384 }; book = 3 ∷ 1 ∷ 10 ∷ 5 ∷ 3 ∷ 15 ∷ 7 ∷ 4 ∷ 22 ∷ 3 ∷ 1 ∷ 0 ∷ 0 ∷ 1 ∷ 1 ∷ 0 ∷ 1 ∷ 7 ∷ 0 ∷ 1 ∷ 1 ∷ 1 ∷ 0 ∷ 0 ∷ 0 ∷ []; expected = prints (run 0 1 ∷ del 0 (1 ∷ []) ∷ changed 1 ∷ table 0 0 ∷ []) }

abbrev d40 : Point
d40 = record { lent = dispatch_lends; book = 3 ∷ 2 ∷ 10 ∷ 1 ∷ 3 ∷ 11 ∷ 10 ∷ 4 ∷ 21 ∷ 4 ∷ 7 ∷ 1 ∷ 2 ∷ 11 ∷ 0 ∷ 0 ∷ 0 ∷ 0 ∷ 13 ∷ 0 ∷ 1 ∷ 0 ∷ 1 ∷ 1 ∷ 3 ∷ []; expected = answers (3 ∷ 2 ∷ 10 ∷ 1 ∷ 6 ∷ 11 ∷ 6 ∷ 8 ∷ 17 ∷ 1 ∷ 7 ∷ 0 ∷ 1 ∷ 1 ∷ 0 ∷ 3 ∷ 0 ∷ 0 ∷ []) }

abbrev d41 : Point
d41 = record { lent = dispatch_lends; book = 2 ∷ 3 ∷ 7 ∷ 2 ∷ 4 ∷ 9 ∷ 7 ∷ 2 ∷ 0 ∷ 0 ∷ 2 ∷ 2 ∷ 5 ∷ 6 ∷ 7 ∷ 8 ∷ []; expected = answers (2 ∷ 6 ∷ 7 ∷ 11 ∷ 8 ∷ 18 ∷ 1 ∷ 2 ∷ 2 ∷ 2 ∷ 0 ∷ 5 ∷ 6 ∷ 1 ∷ 7 ∷ 8 ∷ 1 ∷ 1 ∷ 0 ∷ []) }

abbrev d42 : Point
d42 = record { lent = dispatch_lends; book = 2 ∷ 3 ∷ 7 ∷ 2 ∷ 4 ∷ 9 ∷ 3 ∷ 0 ∷ 0 ∷ 0 ∷ 0 ∷ 0 ∷ []; expected = answers (2 ∷ 6 ∷ 7 ∷ 4 ∷ 8 ∷ 11 ∷ 1 ∷ 1 ∷ 1 ∷ 0 ∷ 1 ∷ 0 ∷ []) }

abbrev d44 : Point
d44 = record { lent = dispatch_lends; book = 2 ∷ 1 ∷ 7 ∷ 4 ∷ 5 ∷ 11 ∷ 6 ∷ 1 ∷ 1 ∷ 0 ∷ 0 ∷ 0 ∷ 1 ∷ 5 ∷ 1 ∷ 1 ∷ 6 ∷ []; expected = prints (row 0 (5 ∷ 6 ∷ []) ∷ ins 0 (5 ∷ 6 ∷ []) ∷ changed 1 ∷ table 0 1 ∷ []) }

abbrev d45 : Point
d45 = record { lent = dispatch_lends; book = 3 ∷ 1 ∷ 10 ∷ 4 ∷ 3 ∷ 14 ∷ 5 ∷ 4 ∷ 19 ∷ 3 ∷ 0 ∷ 1 ∷ 0 ∷ 0 ∷ 0 ∷ 1 ∷ 7 ∷ 0 ∷ 0 ∷ 0 ∷ 0 ∷ 0 ∷ []; expected = prints (run 0 1 ∷ del 0 ([]) ∷ changed 1 ∷ table 0 0 ∷ []) }

abbrev d46a : Point
d46a = record { lent = record { bindings = 8192; index = 8192; log = 0; tables = 0; answer = 16384 }; book = 1 ∷ 2 ∷ 4 ∷ 1 ∷ 7 ∷ []; expected = prints (changed 0 ∷ counter 0 7 ∷ []) }

abbrev d46b : Point
d46b = record { lent = record { bindings = 8192; index = 8192; log = 16384; tables = 16384; answer = 0 }; book = 1 ∷ 2 ∷ 4 ∷ 1 ∷ 7 ∷ []; expected = prints (refused 16 0 ∷ []) }

abbrev points : List Point
points = d1a ∷ d1b ∷ d2a ∷ d2b ∷ d3 ∷ d4 ∷ d5 ∷ d6a ∷ d6b ∷ d6c ∷ d7a ∷ d7b ∷ d8 ∷ d9 ∷ d10a ∷ d10b ∷ d11 ∷ d12 ∷ d13 ∷ d14 ∷ d15 ∷ d16 ∷ d17 ∷ d18 ∷ d19 ∷ d20 ∷ d21 ∷ d22 ∷ d23 ∷ d24 ∷ d25 ∷ d26a ∷ d26b ∷ d27 ∷ d29 ∷ d30 ∷ d31 ∷ d33 ∷ d34 ∷ d35 ∷ d36 ∷ d37 ∷ d38 ∷ d40 ∷ d41 ∷ d42 ∷ d44 ∷ d45 ∷ d46a ∷ d46b ∷ []

points_hold : All (λ p. Meets p.lent p.book p.expected) points
unfolding computed
points_hold = (refl, (refl, (refl, (refl, (refl, (refl, (refl, (refl, (refl, (refl, (refl, (refl, (refl, (refl, (refl, (refl, (refl, (refl, (refl, (refl, (refl, (refl, (refl, (refl, (refl, (refl, (refl, (refl, (refl, (refl, (refl, (refl, (refl, (refl, (refl, (refl, (refl, (refl, (refl, (refl, (refl, (refl, (refl, (refl, (refl, (refl, (refl, (refl, (refl, (refl, tt))))))))))))))))))))))))))))))))))))))))))))))))))
