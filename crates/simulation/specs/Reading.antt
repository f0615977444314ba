-- The instructions that only read, by the passes of their lanes.
use Prim.Native.Nat.{ℕ, ◌<◌}
use Rattle.std.specs.Prelude.{◌≡◌, ◌⊎◌, Bool, List, Option}
use Rattle.std.proofs.Math.Path.{sym, subst, fun_ext}
use Rattle.model.specs.Basics.{All}
use Rattle.model.specs.Machine.State.{State, stuck, Bindings, Env}
use Rattle.model.specs.Machine.Steps.{here, lanes, wait, plain, lookup, invoke, take_default, body}
use Rattle.model.specs.Book.Contents.{table_count}
use Rattle.model.specs.Machine.Values.{hold}
use Rattle.model.specs.Outcome.{env_of}
use Rattle.bindings.specs.Columns.{columns_of, word_of}
use Rattle.bindings.specs.BindingLaws.{Named, held_values}
use Rattle.ids.specs.declared.TableId.{TableId}
use Rattle.ids.specs.declared.ColumnId.{ColumnId}
use Rattle.ids.specs.declared.Variable.{Variable}
use Rattle.ids.specs.declared.ExternalFunctionId.{ExternalFunctionId}
use Rattle.instr.specs.declared.Entries.{Entries}
use Rattle.instr.specs.declared.QueryEntry.{QueryEntry}
use Rattle.instr.specs.declared.Instr.TheVariants as instr
use Rattle.instr.specs.Meaning.{entry_of, entries_of, instr_of}
use Rattle.instr.specs.Stands.{Short}
use Rattle.lanes.specs.declared.Ask.{Ask}
use Rattle.lanes.specs.declared.Ask.TheVariants.{External, Entry as AskEntry}
use Rattle.lanes.specs.declared.Test.{Test}
use Rattle.lanes.specs.declared.Test.TheVariants.{Eq, Ne, AnyNe}
use Rattle.mask.specs.Masks.{padded, united}
use Rattle.action.specs.Act.{row_ask}
use Rattle.lanes.specs.LaneLaws.{asked_entry}
use Rattle.lanes.specs.Lanes.{asked, holds, answered_lanes, answered_words, kept}
use Rattle.simulation.specs.Turns.{Answers, lookup_does, invoke_does, default_does, eq_does, ne_does, any_ne_does}
use Rattle.simulation.specs.Passes.{no_words, missed_lanes, Start, Ends, Waits, drop_pass, default_pass, test_pass, first_pass, fallback_pass}

module _ (w : List ℕ) where
  -- a list that can be read
  abbrev pub Reads : Entries → Type 0
  Reads l = Short l × All Named (entries_of w l)

  -- what a lane of the state is answered, and whether it passes
  abbrev pub asked_in : State → Ask → ℕ → Option ℕ
  asked_in s a = asked w (columns_of s.bindings) a

  abbrev pub holds_in : State → Test → ℕ → Bool
  holds_in s t = holds w (columns_of s.bindings) t

  -- lanes without an answer drop
  abbrev pub EndsAsked : State → State → Ask → Type 0
  EndsAsked s s' a = Ends s s' (answered_lanes (asked_in s a) (padded s.live)) (answered_words (asked_in s a) (padded s.live) no_words)

  -- the words of two asks, the second by the lanes that the first left without an answer
  abbrev pub twice_words : State → Ask → Ask → List ℕ
  twice_words s a b = answered_words (asked_in s b) (missed_lanes (asked_in s a) (padded s.live)) (answered_words (asked_in s a) (padded s.live) no_words)

  -- no lane drops
  abbrev pub EndsGiven : State → State → Ask → Ask → Type 0
  EndsGiven s s' a b = Ends s s' (padded s.live) (twice_words s a b)

  -- lanes without either answer drop
  abbrev pub EndsTwice : State → State → Ask → Ask → Type 0
  EndsTwice s s' a b = Ends s s' (united (answered_lanes (asked_in s a) (padded s.live)) (answered_lanes (asked_in s b) (missed_lanes (asked_in s a) (padded s.live)))) (twice_words s a b)

  -- lanes that fail drop
  abbrev pub EndsTested : State → State → Test → Type 0
  EndsTested s s' t = Ends s s' (kept (holds_in s t) (padded s.live)) no_words

  -- lanes without an answer are left to be served
  abbrev pub EndsWaiting : State → State → Ask → Type 0
  EndsWaiting s s' a = (s'.status ≡ stuck) ⊎ Waits s s' (asked_in s a)

module _ (w : List ℕ) (room : ℕ → Bool) (k j : ℕ) (s : State) (start : Start s) where
  abbrev E : Env
  E = env_of w room

  -- a lane's turn, by what it does on a miss
  abbrev look : ℕ → Entries → ColumnId → ℕ → (State → State) → State → State
  look t args col i miss = lookup E (here k j i) t (entries_of w args) col.0 miss

  abbrev call : ℕ → (Bindings → Bindings) → ExternalFunctionId → Entries → ℕ → (State → State) → State → State
  call c held func args i miss = invoke E (here k j i) c held func.0 (entries_of w args) miss

  looks : (t : TableId) (args : Entries) (col : ColumnId) → t.0 < table_count w → Reads w args → Answers s.bindings (asked_in w s (row_ask w t args col)) (look t.0 args col)
  looks t args col l r = lookup_does w room k j t l args col r.0.1 r.1 s.bindings

  calls : (c : ℕ) (func : ExternalFunctionId) (args : Entries) → Reads w args → Answers s.bindings (asked_in w s (External func args)) (call c plain func args)
  calls c func args r = invoke_does w room k j c plain (λ b i es ws e. e) func args r.0.1 r.1 s.bindings

  -- with dst held out
  calls_held : (c dst : ℕ) (func : ExternalFunctionId) (args : Entries) → Reads w args → Answers s.bindings (asked_in w s (External func args)) (call c (hold dst) func args)
  calls_held c dst func args r = invoke_does w room k j c (hold dst) (held_values dst) func args r.0.1 r.1 s.bindings

  -- 1, before the missed lanes are served
  pub lookup_first : (table : TableId) (args : Entries) (col : ColumnId) → table.0 < table_count w → Reads w args
      → EndsWaiting w s (lanes (λ i. lookup E (here k j i) table.0 (entries_of w args) col.0 wait) s) (row_ask w table args col)
  lookup_first table args col l r = first_pass s start _ (look table.0 args col) (looks table args col l r)

  -- 2
  pub lookup_default : (table : TableId) (args : Entries) (col : ColumnId) (dst : Variable) (e : QueryEntry) → table.0 < table_count w → Reads w args → Named (entry_of e)
      → EndsGiven w s (body E k j (instr_of w (instr.LookupWithDefault table args col dst e)) s) (row_ask w table args col) (AskEntry e)
  unfolding body instr_of
  lookup_default table args col dst e l r n =
      let ask = asked_in w s (row_ask w table args col) in
      subst (λ (given : ℕ → Option ℕ). Ends s (body E k j (instr_of w (instr.LookupWithDefault table args col dst e)) s) (padded s.live) (answered_words given (missed_lanes ask (padded s.live)) (answered_words ask (padded s.live) no_words)))
      (fun_ext (λ i. sym (asked_entry w (columns_of s.bindings) e i)))
      (default_pass s start ask (λ i. word_of (columns_of s.bindings) i (entry_of e)) (look table.0 args col) (λ i. take_default (here k j i) (entry_of e)) (looks table args col l r) (default_does w room k j s.bindings e n))

  -- 3
  pub lookup_drop : (table : TableId) (args : Entries) (col : ColumnId) (dst : Variable) → table.0 < table_count w → Reads w args
      → EndsAsked w s (body E k j (instr_of w (instr.Lookup table args col dst)) s) (row_ask w table args col)
  unfolding body instr_of
  lookup_drop table args col dst l r = drop_pass s start _ (look table.0 args col) (looks table args col l r)

  -- 8
  pub external_drop : (func : ExternalFunctionId) (args : Entries) (dst : Variable) → Reads w args → EndsAsked w s (body E k j (instr_of w (instr.External func args dst)) s) (External func args)
  unfolding body instr_of
  external_drop func args dst r = drop_pass s start _ (call 0 plain func args) (calls 0 func args r)

  -- 4
  pub lookup_fallback : (table : TableId) (key : Entries) (func : ExternalFunctionId) (args : Entries) (col : ColumnId) (dst : Variable) → table.0 < table_count w → Reads w key → Reads w args
      → EndsTwice w s (body E k j (instr_of w (instr.LookupWithFallback table key func args col dst)) s) (row_ask w table key col) (External func args)
  unfolding body instr_of
  lookup_fallback table key func args col dst l r q = fallback_pass s start _ _ (look table.0 key col) (call 0 (hold dst.0) func args) (looks table key col l r) (calls_held 0 dst.0 func args q)

  -- 9
  pub external_fallback : (f1 : ExternalFunctionId) (args1 : Entries) (f2 : ExternalFunctionId) (args2 : Entries) (dst : Variable) → Reads w args1 → Reads w args2
      → EndsTwice w s (body E k j (instr_of w (instr.ExternalWithFallback f1 args1 f2 args2 dst)) s) (External f1 args1) (External f2 args2)
  unfolding body instr_of
  external_fallback f1 args1 f2 args2 dst r q = fallback_pass s start _ _ (call 0 plain f1 args1) (call 1 (hold dst.0) f2 args2) (calls 0 f1 args1 r) (calls_held 1 dst.0 f2 args2 q)

  -- 10, 11, 12
  pub assert_eq : (l r : QueryEntry) → Named (entry_of l) → Named (entry_of r) → EndsTested w s (body E k j (instr_of w (instr.AssertEq l r)) s) (Eq l r)
  unfolding body instr_of
  assert_eq l r n m = test_pass s start _ _ (eq_does w room k j l r n m s.bindings)

  pub assert_ne : (l r : QueryEntry) → Named (entry_of l) → Named (entry_of r) → EndsTested w s (body E k j (instr_of w (instr.AssertNe l r)) s) (Ne l r)
  unfolding body instr_of
  assert_ne l r n m = test_pass s start _ _ (ne_does w room k j l r n m s.bindings)

  pub assert_any_ne_lem : (ops : Entries) (divider : ℕ) → Reads w ops → EndsTested w s (body E k j (instr_of w (instr.AssertAnyNe ops divider)) s) (AnyNe ops divider)
  unfolding body instr_of
  assert_any_ne_lem ops divider r = test_pass s start _ _ (any_ne_does w room k j ops divider r.0.1 r.1 s.bindings)
