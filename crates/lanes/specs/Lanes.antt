-- What each lane is answered, and whether it passes a test: w is the book's words, m the memory of the bindings.
use Rattle.std.specs.Prelude.{ℕ, ◌≡◌, Bool, true, false, ◌&&◌, not, List, [], eqb, get_or, take, drop, Option, Some, slice_get}
use Rattle.model.specs.Basics.{found, only, tab}
use Rattle.model.specs.Machine.Functions.{apply}
use Rattle.model.specs.Machine.Steps.{any_ne}
use Rattle.args.specs.declared.Args.{Args}
use Rattle.args.specs.Args.{as_list}
use Rattle.bindings.specs.Columns.{word_of, fetched}
use Rattle.instr.specs.declared.Entries.{Entries}
use Rattle.instr.specs.Meaning.{entry_of}
use Rattle.instr.specs.Stands.{Short}
use Rattle.predicted_index.specs.Home.{home_of}
use Rattle.predicted_index.specs.Row.{Searchable, row_of}
use Rattle.lanes.specs.declared.Ask.{Ask}
use Rattle.lanes.specs.declared.Ask.TheVariants.{Lookup, External, Entry}
use Rattle.lanes.specs.declared.Test.{Test}
use Rattle.lanes.specs.declared.Test.TheVariants.{Eq, Ne, AnyNe}

module _ (w m : List ℕ) where
  abbrev pub listed : ℕ → Entries → Args
  listed i l = fetched w m i l.at l.count

  -- what lane i is answered; the row is sought in no log
  unfoldable pub asked : Ask → ℕ → Option ℕ
  asked (Lookup of key col) i = slice_get (row_of home_of w [] [] of (listed i key).vals) col.0
  asked (External func args) i = apply func.0 (as_list (listed i args))
  asked (Entry e) i = Some (word_of m i (entry_of e))

  -- whether lane i passes
  unfoldable pub holds : Test → ℕ → Bool
  holds (Eq l r) i = eqb (word_of m i (entry_of l)) (word_of m i (entry_of r))
  holds (Ne l r) i = not (eqb (word_of m i (entry_of l)) (word_of m i (entry_of r)))
  holds (AnyNe ops divider) i = any_ne (take divider (as_list (listed i ops))) (drop divider (as_list (listed i ops)))

-- what the code may suppose: a table can be searched, by the index of committed rows or without, and a list is short
abbrev pub AskFits : List ℕ → Option (List ℕ) → Ask → Type 0
AskFits w chains (Lookup of key col) = Searchable w chains of × Short key
AskFits w chains (External func args) = Short args
AskFits w chains (Entry e) = Unit {0}

abbrev pub TestFits : Test → Type 0
TestFits (Eq l r) = Unit {0}
TestFits (Ne l r) = Unit {0}
TestFits (AnyNe ops divider) = Short ops

-- ## All lanes

abbrev pub is_some : Option ℕ → Bool
is_some o = found o (λ _. true) (λ _. false)

abbrev pub or_else : Option ℕ → ℕ → ℕ
or_else o x = found o (λ w. w) (λ _. x)

-- the lanes of a mask that are answered, and an array with their words
unfoldable pub answered_lanes : (ℕ → Option ℕ) → List Bool → List Bool
answered_lanes ask live = tab (λ i. is_some (only (get_or live i false) (ask i))) 256

unfoldable pub answered_words : (ℕ → Option ℕ) → List Bool → List ℕ → List ℕ
answered_words ask live out = tab (λ i. or_else (only (get_or live i false) (ask i)) (get_or out i 0)) 256

-- what a pass over the lanes leaves: those that are answered, and the array with their words
abbrev pub Fills : (ℕ → Option ℕ) → List Bool → List ℕ → List Bool → List ℕ → Type 0
Fills ask live out marks words = (marks ≡ answered_lanes ask live) × (words ≡ answered_words ask live out)

-- the lanes of a mask that pass
unfoldable pub kept : (ℕ → Bool) → List Bool → List Bool
kept test live = tab (λ i. get_or live i false && test i) 256
