-- A row is built in the code as in the machine: the same words, from the same counters.
use Prim.Native.Nat.{ℕ, zero, suc, ◌+◌, ◌*◌, ◌<◌, ◌≤◌}
use Rattle.std.specs.Prelude.{◌≡◌, length, take, Option, None, Some, slice_get}
use Rattle.std.proofs.Math.Path.{refl, ap}
use Rattle.std.proofs.Common.{sym, ◌∙◌, subst, add-zero, add-suc, arith, get_or-take, length-append, length-take}
use mathlib.Core.List.{List, [], ◌∷◌, ◌++◌}
use Rattle.std.proofs.lemmas.List.{take-append-le}
use Rattle.std.proofs.Math.Seq.{take-length}
use Rattle.std.proofs.Math.ListN.{get_or, set, length-set}
use Rattle.model.specs.Basics.{found, tab}
use Rattle.model.specs.Book.Syntax.{Counter, no_counter}
use Rattle.model.specs.Book.Syntax as syntax
use Rattle.model.specs.Book.Contents.{counter_count}
use Rattle.model.specs.Book.Decode as decode
use Rattle.model.specs.Machine.State.{Bindings}
use Rattle.model.specs.Machine.Values.{value_of, Built, is_stuck, is_spent, built, push, draw, hand_out, write, build}
use Rattle.model.specs.Laws.Logic.{none_some, some_inj, at_below}
use Rattle.args.specs.declared.Args.{Args}
use Rattle.args.specs.Args.{pushed}
use Rattle.args.specs.ArgsLaws.{push_list, push_count, push_length}
use Rattle.counter.specs.declared.Counters.{Counters}
use Rattle.counter.specs.CounterLaws.{padded, get_or_padded, set_padded}
use Rattle.bindings.specs.Columns.{word_of}
use Rattle.bindings.specs.BindingLaws.{Named}
use Rattle.instr.specs.declared.QueryEntry.{QueryEntry}
use Rattle.instr.specs.declared.WriteVal.{WriteVal}
use Rattle.instr.specs.declared.WriteVal.TheVariants.{QueryEntry as Entry, IncCounter, CurrentVal}
use Rattle.instr.specs.Instr.{write_at}
use Rattle.instr.specs.Meaning.{entry_of, write_of}
use Rattle.instr.specs.InstrLaws.{write_at_lem}
use Rattle.build.specs.declared.Building.{Building}
use Rattle.build.specs.Build as code
use Rattle.simulation.specs.Represents.{ListIs}

-- a write value of a book that can be read
abbrev pub Writable : List ℕ → WriteVal → Type 0
Writable w (Entry e) = Named (entry_of e)
Writable w (IncCounter c) = c.0 < counter_count w
Writable w (CurrentVal x) = Unit {0}

-- a row of n words, and the counters after it
pub record RowIs (w : List ℕ) (n : ℕ) (row : List ℕ) (cs : List Counter) (b : Building) : Type 0 where
  pub row_is : ListIs row n b.row
  pub next : b.counters.next ≡ padded cs
  pub counted : length cs ≡ counter_count w

abbrev pub BuildIs : List ℕ → ℕ → Built → Option Building → Type 0
BuildIs w n is_stuck o = Unit {0}
BuildIs w n is_spent o = o ≡ None
BuildIs w n (built row cs) o = (b : Building) × (o ≡ Some b) × RowIs w n row cs b

-- one word more
push_is : (row : List ℕ) (n : ℕ) (a : Args) → ListIs row n a → n < 16 → (x : ℕ) → ListIs (row ++ (x ∷ [])) (suc n) (pushed a x)
push_is row n a h l x = record {
  words = push_list a x (omega (arith, h.count)) h.room ∙ ap (λ (r : List ℕ). r ++ (x ∷ [])) h.words;
  size = omega (arith, length-append row (x ∷ []), h.size);
  count = omega (arith, push_count a x (omega (arith, h.count)), h.count);
  room = push_length a x ∙ h.room;
  few = omega arith;
}

-- a word of the row so far
current_is : (row : List ℕ) (n : ℕ) (a : Args) → ListIs row n a → (x y : ℕ) → slice_get row x ≡ Some y → get_or a.vals x 0 ≡ y
current_is row n a h x y e =
    let l : x < n = omega (arith, at_below row x e, h.size) in
    sym (get_or-take a.count a.vals x 0 (omega (arith, h.count))) ∙ ap (λ (r : List ℕ). get_or r x 0) h.words ∙ by row x e
  where
    by : (row : List ℕ) (x : ℕ) → slice_get row x ≡ Some y → get_or row x 0 ≡ y
    by [] x e = absurd (none_some e)
    by (r ∷ row) zero e = some_inj e
    by (r ∷ row) (suc x) e = by row x e

-- what the machine reads of an entry, the code reads of the memory
abbrev pub ReadsAs : Bindings → ℕ → List ℕ → Type 0
ReadsAs b i m = (e : QueryEntry) (x : ℕ) → Named (entry_of e) → value_of b i (entry_of e) ≡ Some x → word_of m i (entry_of e) ≡ x

module _ (w : List ℕ) (bindings : Bindings) (i : ℕ) (m : List ℕ) (reads : ReadsAs bindings i m) where
  written_is : (v : WriteVal) → Writable w v → (n : ℕ) (row : List ℕ) (cs : List Counter) (b : Building) → n < 16 → RowIs w n row cs b → BuildIs w (suc n) (write bindings i (write_of v) (built row cs)) (code.written m i v b)
  unfolding code.written code.handed
  written_is (Entry e) ok n row cs b l h = by (value_of bindings i (entry_of e)) refl
    where
      by : (o : Option ℕ) → value_of bindings i (entry_of e) ≡ o → BuildIs w (suc n) (push row cs o) (Some (code.appended (word_of m i (entry_of e)) b.counters b))
      by None q = tt
      by (Some x) q = (_, refl, record { row_is = rw (reads e x ok q) (push_is row n b.row h.row_is l x); next = h.next; counted = h.counted })
  written_is (IncCounter c) ok n row cs b l h =
      let e : get_or b.counters.next c.0 0 ≡ get_or cs c.0 no_counter = ap (λ (x : List ℕ). get_or x c.0 0) h.next ∙ get_or_padded cs c.0 (omega (arith, h.counted)) in
      rw e (by (draw (get_or cs c.0 no_counter)))
    where
      by : (o : Option (ℕ × Counter)) → BuildIs w (suc n) (hand_out row cs c.0 o) (found o (λ p. Some (code.appended p.0 (record { next = set b.counters.next c.0 p.1 }) b)) (λ _. None))
      by None = refl
      by (Some p) = (
        _,
        refl,
        record {
          row_is = push_is row n b.row h.row_is l p.0;
          next = ap (λ (x : List ℕ). set x c.0 p.1) h.next ∙ set_padded cs c.0 p.1 (omega (arith, h.counted));
          counted = length-set cs c.0 p.1 ∙ h.counted;
        },
      )
  written_is (CurrentVal x) ok n row cs b l h = by (slice_get row x) refl
    where
      by : (o : Option ℕ) → slice_get row x ≡ o → BuildIs w (suc n) (push row cs o) (Some (code.appended (get_or b.row.vals x 0) b.counters b))
      by None q = tt
      by (Some y) q = (_, refl, record { row_is = rw (current_is row n b.row h.row_is x y q) (push_is row n b.row h.row_is l y); next = h.next; counted = h.counted })

  next_is : (p : ℕ) → Writable w (write_at w p) → (n : ℕ) (B : Built) (o : Option Building) → n < 16 → BuildIs w n B o → BuildIs w (suc n) (write bindings i (decode.write_at w p) B) (code.written_next w m i p o)
  next_is p ok n is_stuck o l h = tt
  next_is p ok n is_spent o l h = subst (λ (q : Option Building). code.written_next w m i p q ≡ None) (sym h) refl
  next_is p ok n (built row cs) o l (b, e, h) = subst (λ (q : Option Building). BuildIs w (suc n) (write bindings i (decode.write_at w p) (built row cs)) (code.written_next w m i p q)) (sym e)
      (subst (λ (v : syntax.WriteVal). BuildIs w (suc n) (write bindings i v (built row cs)) (code.written m i (write_at w p) b)) (write_at_lem w p) (written_is (write_at w p) ok n row cs b l h))

  build_more : (vs : List syntax.WriteVal) (v : syntax.WriteVal) (B : Built) → build bindings i (vs ++ (v ∷ [])) B ≡ write bindings i v (build bindings i vs B)
  build_more [] v B = refl
  build_more (u ∷ vs) v B = build_more vs v (write bindings i u B)

  -- n write values past a key of `long` words
  pub built_is : (at n long : ℕ) → long + n ≤ 16 → ((k : ℕ) → k < n → Writable w (write_at w (at + 2 * k))) → (key : List ℕ) (cs : List Counter) (a : Args) (next : Counters) → RowIs w long key cs (record { row = a; counters = next })
      → BuildIs w (long + n) (build bindings i (tab (λ k. decode.write_at w (at + 2 * k)) n) (built key cs)) (code.built w m i a at n next)
  unfolding tab code.built
  built_is at zero long l ok key cs a next h = rw (add-zero long) (_, refl, h)
  built_is at (suc n) long l ok key cs a next h =
      rw (add-suc long n, build_more (tab (λ k. decode.write_at w (at + 2 * k)) n) (decode.write_at w (at + 2 * n)) (built key cs))
      (next_is (at + 2 * n) (ok n (omega arith)) (long + n) (build bindings i (tab (λ k. decode.write_at w (at + 2 * k)) n) (built key cs)) (code.built w m i a at n next) (omega arith) (built_is at n long (omega arith) (λ k q. ok k (omega arith)) key cs a next h))

-- a row begins with its key
abbrev Starts : List ℕ → Built → Type 0
Starts key is_stuck = Unit {0}
Starts key is_spent = Unit {0}
Starts key (built row cs) = take (length key) row ≡ key

module _ (bindings : Bindings) (i : ℕ) (key : List ℕ) where
  starts_more : (row : List ℕ) (x : ℕ) → take (length key) row ≡ key → take (length key) (row ++ (x ∷ [])) ≡ key
  starts_more row x h = take-append-le (length key) row (x ∷ []) (omega (arith, ap length h, length-take (length key) row)) ∙ h

  push_starts : (row : List ℕ) (cs : List Counter) (o : Option ℕ) → take (length key) row ≡ key → Starts key (push row cs o)
  push_starts row cs None h = tt
  push_starts row cs (Some x) h = starts_more row x h

  hand_starts : (row : List ℕ) (cs : List Counter) (c : ℕ) (o : Option (ℕ × Counter)) → take (length key) row ≡ key → Starts key (hand_out row cs c o)
  hand_starts row cs c None h = tt
  hand_starts row cs c (Some p) h = starts_more row p.0 h

  write_starts : (v : syntax.WriteVal) (r : Built) → Starts key r → Starts key (write bindings i v r)
  write_starts v is_stuck h = tt
  write_starts v is_spent h = tt
  write_starts (syntax.Entry e) (built row cs) h = push_starts row cs (value_of bindings i e) h
  write_starts (syntax.IncCounter c) (built row cs) h = hand_starts row cs c (draw (get_or cs c no_counter)) h
  write_starts (syntax.CurrentVal x) (built row cs) h = push_starts row cs (slice_get row x) h

  build_starts : (vs : List syntax.WriteVal) (r : Built) → Starts key r → Starts key (build bindings i vs r)
  build_starts [] r h = h
  build_starts (v ∷ vs) r h = build_starts vs (write bindings i v r) (write_starts v r h)

  pub starts_with : (vs : List syntax.WriteVal) (cs cs' : List Counter) (r : List ℕ) → build bindings i vs (built key cs) ≡ built r cs' → take (length key) r ≡ key
  starts_with vs cs cs' r e = subst (Starts key) e (build_starts vs (built key cs) (take-length key))
