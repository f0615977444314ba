-- What the words of a body are, as document 01 lays them out, with no walk over them. Each word has a role, and the roles say what refusals 6 and 4 ask.
use Rattle.std.specs.Prelude.{ℕ, zero, suc, ◌+◌, ◌*◌, ◌≤◌, ◌<◌, ◌≡◌, List, [], ◌∷◌, ◌++◌, map, length, get_or}
use Rattle.model.specs.Book.Syntax.{stale}
use Rattle.model.specs.Book.Layout.{Field, table, counter, function, dst, column, divider, entry, entries, writes, form_of}
use Rattle.model.specs.Machine.Functions.{function_count}
use Rattle.model.specs.Book.Scan.{Sizes}

pub data Role : Type 0 where
  plain : Role  -- a count, tag or opcode, whose limits are the layout's own (3); a column, a divider, a current value
  one_of : ℕ → Role  -- the number of one of so many (6)
  kept : Role  -- a row's word, a key word, a constant, a lane, a counter's next (4)

pub record Word : Type 0 where
  pub word : ℕ
  pub role : Role

abbrev pub plainly : ℕ → Word
plainly x = record { word = x; role = plain }

abbrev pub number : ℕ → ℕ → Word
number n x = record { word = x; role = one_of n }

abbrev pub datum : ℕ → Word
datum x = record { word = x; role = kept }

-- how refusals 6 and 4 find fault with a word
abbrev pub Missing : Word → Type 0
Missing m = (n : ℕ) × (m.role ≡ one_of n) × (n ≤ m.word)

abbrev pub Stale : Word → Type 0
Stale m = (m.role ≡ kept) × (m.word ≡ stale)

-- n times what F says, one after the other
pub data Times (F : List Word → Type 0) : ℕ → List Word → Type 0 where
  none : Times F zero []
  more : {n : ℕ} {ms ns : List Word} → Times F n ms → F ns → Times F (suc n) (ms ++ ns)

-- by tag: the number of a variable, a constant, the number of a counter, a current value
abbrev pub tag_role : Sizes → ℕ → Role
tag_role z t = get_or (one_of 32 ∷ kept ∷ one_of z.counters ∷ plain ∷ []) t plain

module _ (z : Sizes) where
  -- an entry or write value, with a tag from a to b
  pub data Pair (a b : ℕ) : List Word → Type 0 where
    pair : (t x : ℕ) → a ≤ t → t ≤ b → Pair a b (plainly t ∷ record { word = x; role = tag_role z t } ∷ [])

  -- a count up to 16, and so many elements
  pub data Listed (F : List Word → Type 0) : List Word → Type 0 where
    listed : (n : ℕ) (ms : List Word) → n ≤ 16 → Times F n ms → Listed F (plainly n ∷ ms)

  abbrev pub FieldForm : Field → List Word → Type 0
  FieldForm table ms = (x : ℕ) × (ms ≡ number z.tables x ∷ [])
  FieldForm counter ms = (x : ℕ) × (ms ≡ number z.counters x ∷ [])
  FieldForm function ms = (x : ℕ) × (ms ≡ number function_count x ∷ [])
  FieldForm dst ms = (x : ℕ) × (ms ≡ number 32 x ∷ [])
  FieldForm column ms = (x : ℕ) × (ms ≡ plainly x ∷ [])
  FieldForm divider ms = (x : ℕ) × (ms ≡ plainly x ∷ [])
  FieldForm entry ms = Pair 0 1 ms
  FieldForm entries ms = Listed (Pair 0 1) ms
  FieldForm writes ms = Listed (Pair 0 3) ms

  pub data FieldsForm : List Field → List Word → Type 0 where
    none : FieldsForm [] []
    more : {f : Field} {fs : List Field} (ms ns : List Word) → FieldForm f ms → FieldsForm fs ns → FieldsForm (f ∷ fs) (ms ++ ns)

  -- a known opcode, then its fields
  pub data InstrForm : List Word → Type 0 where
    instr : (op : ℕ) (ms : List Word) → 0 < op → op ≤ 13 → FieldsForm (form_of op).fields ms → InstrForm (plainly op ∷ ms)

  -- by kind
  pub data BodyForm : ℕ → List Word → Type 0 where
    table_body : (keys vals merge rows : ℕ) (ws : List ℕ) → keys ≤ 8 → vals ≤ 8 → 0 < keys + vals → length ws ≡ rows * (keys + vals)
        → BodyForm 1 (plainly keys ∷ plainly vals ∷ number 4 merge ∷ plainly rows ∷ map datum ws)
    counter_body : (next : ℕ) → BodyForm 2 (datum next ∷ [])
    rule_body : (v n : ℕ) (ms : List Word) → v ≤ 32 → n ≤ 64 → Times InstrForm n ms → BodyForm 3 (plainly v ∷ plainly n ∷ ms)
    batch_body : (r lanes v : ℕ) (ws : List ℕ) → lanes ≤ 256 → v ≤ 32 → length ws ≡ v * lanes → BodyForm 4 (number z.rules r ∷ plainly lanes ∷ plainly v ∷ map datum ws)
    prediction_body : (t n : ℕ) (key : List ℕ) (ms : List Word) → n ≤ 16 → length key ≡ n → Listed (Pair 1 2) ms → BodyForm 5 (number z.tables t ∷ plainly n ∷ map datum key ++ ms)
