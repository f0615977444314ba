-- The answer book: contents, then tables, counters, a body for each step in step order, and the log.
use Rattle.std.specs.Prelude.{ℕ, ◌+◌, ◌*◌, ◌≡◌, Bool, true, false, List, [], ◌∷◌, ◌++◌, map, reverse, length, get_or}
use Rattle.model.specs.Basics.{found, tab, join, how_many}
use Rattle.model.specs.Book.Syntax.{Counter, next_of, Table, width}
use Rattle.model.specs.Machine.State.{State, Record, Bindings, Answer, survivors, predicted}

-- a body, and its kind
pub record Body : Type 0 where
  pub kind : ℕ
  pub words : List ℕ

-- an entry for each body: the first begins at the word p, each other where the one before it ends
abbrev pub contents_from : ℕ → List Body → List ℕ
contents_from p [] = []
contents_from p (b ∷ bs) = b.kind ∷ p ∷ length b.words ∷ contents_from (p + length b.words) bs

unfoldable pub lay_out : List Body → List ℕ
lay_out bs = length bs ∷ contents_from (1 + 3 * length bs) bs ++ join (map (λ (b : Body). b.words) bs)

abbrev pub flag : Bool → ℕ
flag true = 1
flag false = 0

abbrev pub table_body : Table → Body
table_body t = record { kind = 1; words = t.keys ∷ t.vals ∷ t.merge ∷ length t.rows ∷ join t.rows }

abbrev pub counter_body : Counter → Body
counter_body c = record { kind = 2; words = next_of c ∷ [] }

-- variable v with its column, if it is bound
abbrev pub column : Bindings → ℕ → List (List ℕ)
column b v = found (b v) (λ c. (v ∷ c) ∷ []) (λ _. [])

abbrev pub columns : Bindings → List (List ℕ)
columns b = join (tab (column b) 32)

-- how many lanes survive, how many there are, how many variables are bound; then these, smallest first, each before its column; then a flag for each lane. Of a prediction: whether it made the row, and the row
abbrev pub step_body : Answer → Body
step_body (survivors b live) = record { kind = 6; words = how_many (λ i. get_or live i false) (length live) ∷ length live ∷ length (columns b) ∷ join (columns b) ++ map flag live }
step_body (predicted made row) = record { kind = 7; words = flag made ∷ row }

abbrev pub record_words : Record → List ℕ
record_words r = r.kind ∷ r.table ∷ r.words

abbrev pub log_body : Bool → List Record → Body
log_body changed log = record { kind = 8; words = flag changed ∷ join (map record_words log) }

-- of the committed tables, in some arrangement of their rows, and what the run left
unfoldable pub answer : List Table → State → List ℕ
answer ts s = lay_out (map table_body ts ++ map counter_body s.counters ++ map step_body (reverse s.answers) ++ (log_body s.changed s.log ∷ []))

-- the words of all rows
abbrev pub row_words : List Table → ℕ
row_words [] = 0
row_words (t ∷ ts) = length t.rows * width t + row_words ts

-- ## Row order is left open

pub data Perm : List (List ℕ) → List (List ℕ) → Type 0 where
  same : {l : List (List ℕ)} → Perm l l
  keep : {x : List ℕ} {l m : List (List ℕ)} → Perm l m → Perm (x ∷ l) (x ∷ m)
  swap : {x y : List ℕ} {l : List (List ℕ)} → Perm (x ∷ y ∷ l) (y ∷ x ∷ l)
  both : {l m n : List (List ℕ)} → Perm l m → Perm m n → Perm l n

-- the same tables, the rows of each in some arrangement
abbrev pub Arranged : List Table → List Table → Type 0
Arranged [] [] = Unit {0}
Arranged [] (u ∷ us) = ⊥
Arranged (t ∷ ts) [] = ⊥
Arranged (t ∷ ts) (u ∷ us) = (t.keys ≡ u.keys) × (t.vals ≡ u.vals) × (t.merge ≡ u.merge) × Perm t.rows u.rows × Arranged ts us

-- what an accepted book may leave in the answer, given its committed tables
abbrev pub IsAnswer : List Table → State → List ℕ → Type 0
IsAnswer ts s ws = (us : List Table) × Arranged ts us × (ws ≡ answer us s)
