-- A new row, write value by write value: w is the book's words, m the memory of the bindings.
use Rattle.std.specs.Prelude.{ℕ, ◌+◌, ◌*◌, List, get_or, set, Option, None, Some, option_and_then, Result, Ok, Err, ok_or}
use Rattle.model.specs.Basics.{iter, found}
use Rattle.model.specs.Machine.Values.{draw}
use Rattle.args.specs.declared.Args.{Args}
use Rattle.args.specs.Args.{pushed}
use Rattle.counter.specs.declared.Counters.{Counters}
use Rattle.bindings.specs.Columns.{word_of}
use Rattle.instr.specs.declared.WriteVal.{WriteVal}
use Rattle.instr.specs.declared.WriteVal.TheVariants.{QueryEntry as Entry, IncCounter, CurrentVal}
use Rattle.instr.specs.Instr.{write_at}
use Rattle.instr.specs.Meaning.{entry_of}
use Rattle.build.specs.declared.Building.{Building}

abbrev pub appended : ℕ → Counters → Building → Building
appended x cs b = record { row = pushed b.row x; counters = cs }

-- counter c's next number; no row where it is spent
unfoldable pub handed : ℕ → Building → Option Building
handed c b = found (draw (get_or b.counters.next c 0)) (λ p. Some (appended p.0 (record { next = set b.counters.next c p.1 }) b)) (λ _. None)

-- in lane i
unfoldable pub written : List ℕ → ℕ → WriteVal → Building → Option Building
written m i (Entry e) b = Some (appended (word_of m i (entry_of e)) b.counters b)
written m i (IncCounter c) b = handed c.0 b
written m i (CurrentVal x) b = Some (appended (get_or b.row.vals x 0) b.counters b)

-- the write value whose tag stands at word p, unless a counter was spent
abbrev pub written_next : (w m : List ℕ) → ℕ → ℕ → Option Building → Option Building
written_next w m i p o = option_and_then (written m i (write_at w p)) o

-- n write values, the first tag at word `at`
unfoldable pub built : (w m : List ℕ) → ℕ → Args → (at n : ℕ) → Counters → Option Building
built w m i key at n cs = iter (λ k. written_next w m i (at + 2 * k)) n (Some (record { row = key; counters = cs }))

-- the same of a row that a spent counter may have ended: to such a row nothing is written any more
abbrev pub built_up_next : (w m : List ℕ) → ℕ → ℕ → Result Building Building → Result Building Building
built_up_next w m i p (Ok b) = ok_or (written m i (write_at w p) b) b
built_up_next w m i p (Err b) = Err b

-- n write values: the whole row; or, where a counter is spent, the row so far and the counters after the draws before
unfoldable pub built_up : (w m : List ℕ) → ℕ → Args → (at n : ℕ) → Counters → Result Building Building
built_up w m i key at n cs = iter (λ k. built_up_next w m i (at + 2 * k)) n (Ok (record { row = key; counters = cs }))
