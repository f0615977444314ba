use Rattle.std.specs.Prelude.{ℕ, zero, suc, ◌+◌, ◌/◌, ◌%◌, cond, List, [], ◌∷◌, ◌++◌, map, ltb, length, set}
use Rattle.model.specs.Basics.{join}
use Rattle.model.specs.Printed.{Line, run, row, ins, del, changed, table, counter, refused}

-- The bytes of the lines that program `dispatch` prints, and a buffer that they are written into.

-- ## Numbers and lines

-- n in base ten, the last d digits at most; 48 is the digit 0
unfoldable pub digits : ℕ → ℕ → List ℕ
digits zero n = []
digits (suc d) n = cond (ltb n 10) ((48 + n) ∷ []) (digits d (n / 10) ++ ((48 + n % 10) ∷ []))

-- a number of 64 bits has 20 digits at most
abbrev pub decimal : ℕ → List ℕ
decimal n = digits 20 n

-- a blank and a number
abbrev pub field : ℕ → List ℕ
field n = 32 ∷ decimal n

unfoldable pub fields : List ℕ → List ℕ
fields [] = []
fields (n ∷ ns) = field n ++ fields ns

-- a name, numbers, a line feed
abbrev pub named : List ℕ → List ℕ → List ℕ
named name ns = name ++ fields ns ++ (10 ∷ [])

-- `run`, `row`, `ins`, `del`, `changed`, `table`, `counter`, `refused` and ` at`, byte by byte
abbrev pub run_name : List ℕ
run_name = 114 ∷ 117 ∷ 110 ∷ []

abbrev pub row_name : List ℕ
row_name = 114 ∷ 111 ∷ 119 ∷ []

abbrev pub ins_name : List ℕ
ins_name = 105 ∷ 110 ∷ 115 ∷ []

abbrev pub del_name : List ℕ
del_name = 100 ∷ 101 ∷ 108 ∷ []

abbrev pub changed_name : List ℕ
changed_name = 99 ∷ 104 ∷ 97 ∷ 110 ∷ 103 ∷ 101 ∷ 100 ∷ []

abbrev pub table_name : List ℕ
table_name = 116 ∷ 97 ∷ 98 ∷ 108 ∷ 101 ∷ []

abbrev pub counter_name : List ℕ
counter_name = 99 ∷ 111 ∷ 117 ∷ 110 ∷ 116 ∷ 101 ∷ 114 ∷ []

abbrev pub refused_name : List ℕ
refused_name = 114 ∷ 101 ∷ 102 ∷ 117 ∷ 115 ∷ 101 ∷ 100 ∷ []

abbrev pub at_name : List ℕ
at_name = 32 ∷ 97 ∷ 116 ∷ []

unfoldable pub line_bytes : Line → List ℕ
line_bytes (run k n) = named run_name (k ∷ n ∷ [])
line_bytes (row k ws) = named row_name (k ∷ ws)
line_bytes (ins t ws) = named ins_name (t ∷ ws)
line_bytes (del t ws) = named del_name (t ∷ ws)
line_bytes (changed f) = named changed_name (f ∷ [])
line_bytes (table t n) = named table_name (t ∷ n ∷ [])
line_bytes (counter c n) = named counter_name (c ∷ n ∷ [])
line_bytes (refused n p) = refused_name ++ field n ++ at_name ++ field p ++ (10 ∷ [])

unfoldable pub text : List Line → List ℕ
text ls = join (map line_bytes ls)

-- ## A buffer whose first `at` bytes are used

pub record Text : Type 0 where
  pub bytes : List ℕ
  pub at : ℕ

abbrev pub up_to : List ℕ → ℕ → Text
up_to b n = record { bytes = b; at = n }

-- a byte more, if it has room; several
unfoldable pub pushed : ℕ → Text → Text
pushed b t = cond (ltb t.at (length t.bytes)) (up_to (set t.bytes t.at b) (t.at + 1)) t

unfoldable pub appended : List ℕ → Text → Text
appended [] t = t
appended (b ∷ bs) t = appended bs (pushed b t)
