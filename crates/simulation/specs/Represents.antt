-- What the code holds of the plain machine's state, and how a part of a run may end in both.
use Rattle.std.specs.Prelude.{ℕ, zero, suc, ◌+◌, ◌*◌, ◌<◌, ◌≤◌, ◌≡◌, Bool, List, [], ◌∷◌, ◌⊎◌, eqb, leb, length, get_or, replicate, Option, None, Some}
use Rattle.std.proofs.Math.Path.{refl, sym}
use Rattle.std.proofs.Common.{ap, ◌∙◌, subst, inl, inr, arith, get_or-take, ext_get_or, length-take-le}
use Rattle.std.proofs.Math.Bool.{true, false}
use Rattle.std.proofs.Math.Dec.{T}
use borrow.Author.Tests.{eqb-true}
use Rattle.model.specs.Basics.{iter, when, tab, All}
use Rattle.model.specs.Book.Syntax.{Counter, QueryEntry}
use Rattle.model.specs.Book.Contents.{counter_count}
use Rattle.model.specs.Machine.State.{State, Status, is_going, going, stuck, spent, full, Record, Env, Bindings, log_words}
use Rattle.model.specs.Machine.Values.{value_of, cons?, values_of, list_of}
use Rattle.model.specs.Outcome.{env_of}
use Rattle.model.specs.Laws.Logic.{none_some, some_inj, only_some, either}
use Rattle.model.specs.Laws.Lists.{length_tab, get_or_tab}
use Rattle.model.specs.Laws.Turns.{when_F}
use Rattle.model.specs.Laws.Book.{keys_of}
use Rattle.words.specs.Filled.{length_filled}
use Rattle.args.specs.declared.Args.{Args}
use Rattle.args.specs.Args.{as_list}
use Rattle.counter.specs.CounterLaws.{padded}
use Rattle.tables.specs.Tables.{front}
use Rattle.record_log.specs.Log.{log_of}
use Rattle.predicted_index.specs.Home.{home_of}
use Rattle.predicted_index.specs.Right.{IndexOk}
use Rattle.bindings.specs.Columns.{columns_of, fetched, value_at}
use Rattle.bindings.specs.BindingLaws.{Named, fetch_is}
use Rattle.instr.specs.declared.Entries.{Entries}
use Rattle.instr.specs.Meaning.{entries_of}
use Rattle.lanes.specs.Lanes.{listed}
use Rattle.record_log.specs.RecordLaws.{Sized}
use Rattle.execution.specs.declared.Stop.{Stop}
use Rattle.execution.specs.declared.Stop.TheVariants.{Spent, Full}
use Rattle.execution.specs.Execution.{RunState, goes_on}

-- the book's machine with L words of log
abbrev pub machine : List ℕ → ℕ → Env
machine w L = env_of w (λ n. leb n L)

-- what the run keeps, and the words of the log and the index, are those of a log of records, counters and a flag
pub record LogIs (w : List ℕ) (L : ℕ) (records : List Record) (counters : List Counter) (changed : Bool) (x : RunState) (log index : List ℕ) : Type 0 where
  pub fits : log_words records ≤ L
  pub log_is : log ≡ log_of records L
  pub used : x.used ≡ log_words records
  pub index_ok : IndexOk home_of (keys_of w) index records
  pub next : x.counters.next ≡ padded counters
  pub counted : length counters ≡ counter_count w
  pub flag : x.changed ≡ changed
  pub sized : All (Sized w) records

abbrev pub status_of : Option Stop → Status
status_of None = going
status_of (Some Spent) = spent
status_of (Some Full) = full

-- the machine is stuck, or both end early for the same reason, or both go on: from s₀ the machine came to s, and the code to `stop`
pub data Follows (s₀ s : State) (stop : Option Stop) (R : Type 0) : Type 0 where
  sticks : s.status ≡ stuck → Follows s₀ s stop R
  stops : goes_on stop ≡ false → s.status ≡ status_of stop → s.answers ≡ s₀.answers → Follows s₀ s stop R
  goes : s.status ≡ going → stop ≡ None → R → Follows s₀ s stop R

pub follows_map : {s₀ s : State} {stop : Option Stop} {R Q : Type 0} → (R → Q) → Follows s₀ s stop R → Follows s₀ s stop Q
follows_map f (sticks x) = sticks x
follows_map f (stops x y z) = stops x y z
follows_map f (goes x y r) = goes x y (f r)

-- ## Lists

values_length : (b : Bindings) (i : ℕ) (es : List QueryEntry) (ws : List ℕ) → values_of b i es ≡ Some ws → length ws ≡ length es
values_length b i [] ws e = ap length (sym (some_inj e))
values_length b i (q ∷ es) ws e = by (value_of b i q) (values_of b i es) (values_length b i es) e
  where
    by : (o : Option ℕ) (os : Option (List ℕ)) → ((ws : List ℕ) → os ≡ Some ws → length ws ≡ length es) → cons? o os ≡ Some ws → length ws ≡ suc (length es)
    by None os h e = absurd (none_some e)
    by (Some x) None h e = absurd (none_some e)
    by (Some x) (Some xs) h e = ap length (sym (some_inj e)) ∙ ap suc (h xs refl)

-- what the machine reads of a list is what the code reads
pub record ListIs (ws : List ℕ) (n : ℕ) (a : Args) : Type 0 where
  pub words : as_list a ≡ ws
  pub size : length ws ≡ n
  pub count : a.count ≡ n
  pub room : length a.vals ≡ 16
  pub few : n ≤ 16

module _ (w : List ℕ) (b : Bindings) (i : ℕ) (h : i < 256) where
  pub list_read : (l : Entries) (n : ℕ) (ws : List ℕ) → l.count ≤ 16 → All Named (entries_of w l) → list_of b i n (entries_of w l) ≡ Some ws → ListIs ws n (listed w (columns_of b) i l)
  unfolding fetched
  list_read l n ws few named e =
      let p = only_some (eqb (length (entries_of w l)) n) (values_of b i (entries_of w l)) e in
      let c : l.count ≡ n = sym (length_tab _ l.count) ∙ eqb-true _ _ (by (eqb (length (entries_of w l)) n) p.0) in
      record {
        words = fetch_is b i h w l.at l.count ws few named p.1;
        size = values_length b i (entries_of w l) ws p.1 ∙ length_tab _ l.count ∙ c;
        count = c;
        room = length_filled (λ k. value_at w (columns_of b) i (l.at + 2 * k)) l.count (replicate 16 0) few;
        few = omega arith;
      }
    where
      by : (t : Bool) → T t → t ≡ true
      by true x = refl
      by false x = absurd x

-- the first n words of an array of 16 as a loop copies them
pub front_list : (a : Args) (ws : List ℕ) (n : ℕ) → ListIs ws n a → tab (λ k. get_or a.vals k 0) a.count ≡ ws
front_list a ws n h =
    let l : length (as_list a) ≡ a.count = length-take-le a.count a.vals (omega (arith, h.count, h.room, h.few)) in
    ext_get_or 0 (tab (λ k. get_or a.vals k 0) a.count) (as_list a) (length_tab _ a.count ∙ sym l) (λ k m. let q : k < a.count = omega (arith, length_tab (λ k. get_or a.vals k 0) a.count) in get_or_tab _ a.count k 0 q ∙ sym (get_or-take a.count a.vals k 0 q)) ∙ h.words

-- as the words of a key
pub key_front : (a : Args) (key : List ℕ) (n : ℕ) → ListIs key n a → front a.vals n ≡ key
key_front a key n h = ap (front a.vals) (sym h.count) ∙ front_list a key n h

-- ## Lanes past the last do nothing

pub iter_idle : {A : Type 0} (f : ℕ → A → A) (n m : ℕ) (s : A) → n ≤ m → ((i : ℕ) (a : A) → n ≤ i → f i a ≡ a) → iter f m s ≡ iter f n s
iter_idle f n zero s h idle = let e : n ≡ 0 = omega arith in rw e
iter_idle f n (suc m) s h idle = either (λ l. idle m (iter f m s) (omega arith) ∙ iter_idle f n m s (omega arith) idle) (λ e. rw e) (cases n (suc m) h)
  where
    cases : (n m : ℕ) → n ≤ m → (n < m) ⊎ (n ≡ m)
    cases zero zero h = inr refl
    cases zero (suc m) h = inl (omega arith)
    cases (suc n) zero h = absurd (omega arith)
    cases (suc n) (suc m) h = either (λ l. inl (omega arith)) (λ e. inr (ap suc e)) (cases n m (omega arith))

pub bool_clash : true ≡ false → ⊥
bool_clash e = let z : ◌≡◌ {A = ℕ} 0 1 = cc in omega arith

-- where the code has stopped, so has the machine
pub not_going : (o : Option Stop) (t : Status) → goes_on o ≡ false → t ≡ status_of o → is_going t ≡ false
not_going None t e q = absurd (bool_clash e)
not_going (Some Spent) t e q = rw q
not_going (Some Full) t e q = rw q

-- ## A pass over the lanes, turn by turn in both

-- f is the machine's turn and g the code's; lane i has a turn where who i says so
pub record Pass {C : Type 0} (stop_of : C → Option Stop) (has : State → ℕ → Bool) (f : ℕ → State → State) (g : ℕ → C → C) (R : ℕ → State → C → Type 0) (who : ℕ → Bool) (n : ℕ) (s₀ : State) : Type 0 where
  pub quiet : (s : State) (i : ℕ) → is_going s.status ≡ false → has s i ≡ false
  pub same : (i : ℕ) (s : State) (c : C) → i < n → s.status ≡ going → R i s c → has s i ≡ who i
  pub past : (i : ℕ) → n ≤ i → who i ≡ false
  pub halted : (i : ℕ) (c : C) → goes_on (stop_of c) ≡ false → g i c ≡ c
  pub idle : (i : ℕ) (c : C) → who i ≡ false → g i c ≡ c
  pub kept : (i : ℕ) (s : State) (c : C) → R i s c → s.answers ≡ s₀.answers
  pub skip : (i : ℕ) (s : State) (c : C) → i < n → who i ≡ false → R i s c → R (suc i) s c
  pub turn : (i : ℕ) (s : State) (c : C) → i < n → who i ≡ true → s.status ≡ going → stop_of c ≡ None → R i s c → Follows s (f i s) (stop_of (g i c)) (R (suc i) (f i s) (g i c))

module _ {C : Type 0} (stop_of : C → Option Stop) (has : State → ℕ → Bool) (f : ℕ → State → State) (g : ℕ → C → C) (R : ℕ → State → C → Type 0) (who : ℕ → Bool) (n : ℕ) (s₀ : State) (p : Pass stop_of has f g R who n s₀) (c₀ : C)
    (start : s₀.status ≡ going) (on : stop_of c₀ ≡ None) (begin : R 0 s₀ c₀) where
  abbrev ran : ℕ → State
  ran i = iter (λ i s. when (has s i) (f i) s) i s₀

  abbrev did : ℕ → C
  did i = iter g i c₀

  mid : (i : ℕ) → i ≤ n → Follows s₀ (ran i) (stop_of (did i)) (R i (ran i) (did i))
  mid zero h = goes start on begin
  mid (suc i) h = by (mid i (omega arith))
    where
      turned : (b : Bool) → who i ≡ b → (ran i).status ≡ going → stop_of (did i) ≡ None → R i (ran i) (did i) → Follows s₀ (when b (f i) (ran i)) (stop_of (g i (did i))) (R (suc i) (when b (f i) (ran i)) (g i (did i)))
      turned true e a b r = chain (p.turn i (ran i) (did i) (omega arith) e a b r)
        where
          chain : Follows (ran i) (f i (ran i)) (stop_of (g i (did i))) (R (suc i) (f i (ran i)) (g i (did i))) → Follows s₀ (f i (ran i)) (stop_of (g i (did i))) (R (suc i) (f i (ran i)) (g i (did i)))
          chain (sticks x) = sticks x
          chain (stops x y z) = stops x y (z ∙ p.kept i (ran i) (did i) r)
          chain (goes x y z) = goes x y z
      turned false e a b r = subst (λ c. Follows s₀ (ran i) (stop_of c) (R (suc i) (ran i) c)) (sym (p.idle i (did i) e)) (goes a b (p.skip i (ran i) (did i) (omega arith) e r))

      by : Follows s₀ (ran i) (stop_of (did i)) (R i (ran i) (did i)) → Follows s₀ (ran (suc i)) (stop_of (did (suc i))) (R (suc i) (ran (suc i)) (did (suc i)))
      by (sticks x) = let z : has (ran i) i ≡ false = p.quiet (ran i) i (rw x) in sticks (ap (λ (s : State). s.status) (when_F (has (ran i) i) (f i) (ran i) z) ∙ x)
      by (stops x y z) =
          let q : has (ran i) i ≡ false = p.quiet (ran i) i (not_going (stop_of (did i)) (ran i).status x y) in
          let e = when_F (has (ran i) i) (f i) (ran i) q in
          let k = p.halted i (did i) x in
          stops (ap (λ (c : C). goes_on (stop_of c)) k ∙ x) (ap (λ (s : State). s.status) e ∙ y ∙ ap (λ (c : C). status_of (stop_of c)) (sym k)) (ap (λ (s : State). s.answers) e ∙ z)
      by (goes x y r) = subst (λ b. Follows s₀ (when b (f i) (ran i)) (stop_of (g i (did i))) (R (suc i) (when b (f i) (ran i)) (g i (did i)))) (sym (p.same i (ran i) (did i) (omega arith) x r)) (turned (who i) refl x y r)

  pub pass_ends : n ≤ 256 → Follows s₀ (ran n) (stop_of (did 256)) (R n (ran n) (did 256))
  pass_ends h = subst (λ c. Follows s₀ (ran n) (stop_of c) (R n (ran n) c)) (sym (iter_idle g n 256 c₀ h (λ i c l. p.idle i c (p.past i l)))) (mid n (omega arith))
