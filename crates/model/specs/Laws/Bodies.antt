-- What is read from a body that is not refused is as demand 3 supposes it.
use Prim.Native.Nat.{ℕ, zero, suc, ◌+◌, ◌*◌, ◌<◌, ◌≤◌}
use Rattle.std.specs.Prelude.{◌≡◌, refl, ◌≢◌, Bool, true, false, ◌&&◌, cond, ltb, leb, length, take, None, Some, slice_get}
use Rattle.std.proofs.Common.{subst, arith, mul-le-mul_right, suc-mul, ltb-true, leb-true, length-take, length-drop, drop-cons}
use mathlib.Core.List.{List, [], ◌∷◌}
use Rattle.std.proofs.Math.ListN.{get_or}
use Rattle.model.specs.Basics.{All}
use Rattle.model.specs.Book.Syntax.{stale, Clean, WriteVal, Entry, IncCounter, CurrentVal, Instr}
use Rattle.model.specs.Book.Layout.{entries, writes, form_of}
use Rattle.model.specs.Book.Scan.{fine, three, Sizes, opcode, tag, tagged}
use Rattle.model.specs.Book.Decode.{part, entry_of, write_of, entry_at, write_at, entries_at, writes_at, past, instr_at, instr_place, read_table, read_rule, row_place}
use Rattle.model.specs.Book.Read.{repeated}
use Rattle.model.specs.Check.{reads_of, entries_of}
use Rattle.model.specs.Laws.Supposed.{TableOk, CleanConst}
use Rattle.model.specs.Laws.Logic.{and_split, All-append, All-at, all_pairs}
use Rattle.model.specs.Laws.Lists.{all_tab}
use Rattle.model.specs.Laws.Rows.{repeated_none}
use Rattle.model.specs.Laws.Scan.{clean_fine, PairOk, FieldOk, FieldsOk, TableWords, RuleWords}

-- ## Parts of a book

pub all_part : (P : ℕ → Type 0) (w : List ℕ) (p n : ℕ) → p + n ≤ length w → ((k : ℕ) → k < n → P (get_or w (p + k) 0)) → All P (part w p n)
all_part P w p zero h k = tt
all_part P w p (suc n) h k =
    let l : p < length w = omega arith in
    rw (drop-cons w p 0 l) (subst (λ (q : ℕ). P (get_or w q 0)) (omega arith) (k 0 (omega arith)), all_part P w (suc p) n (omega arith) (λ i q. subst (λ (q : ℕ). P (get_or w q 0)) (omega arith) (k (suc i) (omega arith))))

pub length_part : (w : List ℕ) (p n : ℕ) → p + n ≤ length w → length (part w p n) ≡ n
length_part w p n h = simp (length-take, length-drop) (omega arith)

-- row i of n, each of k words, ends among the n * k
pub row_fits : (i n k : ℕ) → i < n → i * k + k ≤ n * k
row_fits i n k h = omega (arith, suc-mul i k, mul-le-mul_right k h)

-- ## Tests that passed

pub tag_fine : (a b x : ℕ) → tag a b x ≡ fine → (a ≤ x) × (x ≤ b)
tag_fine a b x e = by (leb a x && leb x b) refl e
  where
    by : (c : Bool) → leb a x && leb x b ≡ c → cond c fine three ≡ fine → (a ≤ x) × (x ≤ b)
    by true q f = let p = and_split (leb a x) (leb x b) q in (leb-true a x p.0, leb-true x b p.1)
    by false q f = let u : ◌≡◌ {A = ℕ} 0 1 = cc in absurd (omega arith)

opcode_fine : (x : ℕ) → opcode x ≡ fine → (0 < x) × (x ≤ 13)
opcode_fine x e = by (ltb 0 x && leb x 13) refl e
  where
    by : (c : Bool) → ltb 0 x && leb x 13 ≡ c → cond c fine three ≡ fine → (0 < x) × (x ≤ 13)
    by true q f = let p = and_split (ltb 0 x) (leb x 13) q in (ltb-true 0 x p.0, leb-true x 13 p.1)
    by false q f = let u : ◌≡◌ {A = ℕ} 0 1 = cc in absurd (omega arith)

module _ (z : Sizes) (w : List ℕ) (end : ℕ) (words : (p : ℕ) → get_or w p 0 < 4294967296) (inside : end ≤ length w) where
  pub not_stale : (p : ℕ) → get_or w p 0 ≢ stale → Clean (get_or w p 0)
  not_stale p h = omega (arith, words p, h)

  -- ## A rule's constants

  const_clean : (t q : ℕ) → tag 0 1 t ≡ fine → tagged z t (get_or w q 0) ≡ fine → CleanConst (entry_of t (get_or w q 0))
  const_clean zero q a b = tt
  const_clean (suc zero) q a b = not_stale q (clean_fine _ b)
  const_clean (suc (suc t)) q a b = absurd (omega (arith, (tag_fine 0 1 (suc (suc t)) a).1))

  abbrev WriteClean : WriteVal → Type 0
  WriteClean v = All CleanConst (entries_of (v ∷ []))

  write_clean : (t q : ℕ) → tagged z t (get_or w q 0) ≡ fine → WriteClean (write_of t (get_or w q 0))
  write_clean zero q b = (tt, tt)
  write_clean (suc zero) q b = (not_stale q (clean_fine _ b), tt)
  write_clean (suc (suc zero)) q b = tt
  write_clean (suc (suc (suc t))) q b = tt

  entry_clean : (q : ℕ) → PairOk z w end 0 1 q → CleanConst (entry_at w q)
  entry_clean q h = const_clean (get_or w q 0) (q + 1) h.0 h.1

  entries_clean : (q : ℕ) → FieldOk z w end entries q → All CleanConst (entries_at w q)
  entries_clean q h = all_tab CleanConst (λ k. entry_at w (q + 1 + 2 * k)) (get_or w q 0) (λ k l. entry_clean (q + 1 + 2 * k) (h.1 k l))

  writes_clean : (q : ℕ) → FieldOk z w end writes q → All CleanConst (entries_of (writes_at w q))
  writes_clean q h = all_writes (writes_at w q) (all_tab WriteClean (λ k. write_at w (q + 1 + 2 * k)) (get_or w q 0) (λ k l. write_clean (get_or w (q + 1 + 2 * k) 0) (q + 1 + 2 * k + 1) (h.1 k l).1))
    where
      all_writes : (vs : List WriteVal) → All WriteClean vs → All CleanConst (entries_of vs)
      all_writes [] a = tt
      all_writes (Entry e ∷ vs) a = (a.0.0, all_writes vs a.1)
      all_writes (IncCounter c ∷ vs) a = all_writes vs a.1
      all_writes (CurrentVal x ∷ vs) a = all_writes vs a.1

  -- field k of opcode op, its first field at p
  abbrev place : ℕ → ℕ → ℕ → ℕ
  place op k p = past w (take k (form_of op).fields) p

  -- by opcode
  made_clean : (op p : ℕ) → opcode op ≡ fine → FieldsOk z w end (form_of op).fields p
      → All CleanConst (reads_of ((form_of op).make (λ k. get_or w (place op k p) 0) (λ k. entry_at w (place op k p)) (λ k. entries_at w (place op k p)) (λ k. writes_at w (place op k p))))
  unfolding form_of reads_of past
  made_clean zero p o h = absurd (omega (arith, (opcode_fine 0 o).0))
  made_clean (suc zero) p o h = All-append CleanConst (entries_at w (place 1 1 p)) (entries_of (writes_at w (place 1 2 p))) (entries_clean (place 1 1 p) h.1.0) (writes_clean (place 1 2 p) h.1.1.0)
  made_clean (suc (suc zero)) p o h = (entry_clean (place 2 4 p) h.1.1.1.1.0, entries_clean (place 2 1 p) h.1.0)
  made_clean (suc (suc (suc zero))) p o h = entries_clean (place 3 1 p) h.1.0
  made_clean (suc (suc (suc (suc zero)))) p o h = All-append CleanConst (entries_at w (place 4 1 p)) (entries_at w (place 4 3 p)) (entries_clean (place 4 1 p) h.1.0) (entries_clean (place 4 3 p) h.1.1.1.0)
  made_clean (suc (suc (suc (suc (suc zero))))) p o h = entries_clean (place 5 1 p) h.1.0
  made_clean (suc (suc (suc (suc (suc (suc zero)))))) p o h = (entry_clean (place 6 1 p) h.1.0, (entry_clean (place 6 2 p) h.1.1.0, entries_clean (place 6 3 p) h.1.1.1.0))
  made_clean (suc (suc (suc (suc (suc (suc (suc zero))))))) p o h = entries_clean (place 7 1 p) h.1.0
  made_clean (suc (suc (suc (suc (suc (suc (suc (suc zero)))))))) p o h = entries_clean (place 8 1 p) h.1.0
  made_clean (suc (suc (suc (suc (suc (suc (suc (suc (suc zero))))))))) p o h = All-append CleanConst (entries_at w (place 9 1 p)) (entries_at w (place 9 3 p)) (entries_clean (place 9 1 p) h.1.0) (entries_clean (place 9 3 p) h.1.1.1.0)
  made_clean (suc (suc (suc (suc (suc (suc (suc (suc (suc (suc zero)))))))))) p o h = (entry_clean (place 10 0 p) h.0, (entry_clean (place 10 1 p) h.1.0, tt))
  made_clean (suc (suc (suc (suc (suc (suc (suc (suc (suc (suc (suc zero))))))))))) p o h = (entry_clean (place 11 0 p) h.0, (entry_clean (place 11 1 p) h.1.0, tt))
  made_clean (suc (suc (suc (suc (suc (suc (suc (suc (suc (suc (suc (suc zero)))))))))))) p o h = entries_clean (place 12 1 p) h.1.0
  made_clean (suc (suc (suc (suc (suc (suc (suc (suc (suc (suc (suc (suc (suc zero))))))))))))) p o h = tt
  made_clean (suc (suc (suc (suc (suc (suc (suc (suc (suc (suc (suc (suc (suc (suc n)))))))))))))) p o h = absurd (omega (arith, (opcode_fine (suc (suc (suc (suc (suc (suc (suc (suc (suc (suc (suc (suc (suc (suc n)))))))))))))) o).1))

  pub rule_consts : (at : ℕ) → RuleWords z w end at → (j : ℕ) (ins : Instr) → slice_get (read_rule w at).instrs j ≡ Some ins → All CleanConst (reads_of ins)
  unfolding read_rule instr_at
  rule_consts at r j ins e = All-at (λ ins. All CleanConst (reads_of ins)) (read_rule w at).instrs j (all_tab _ (λ j. instr_at w (instr_place w at j)) _ (λ i l. made_clean (get_or w (instr_place w at i) 0) (instr_place w at i + 1) (r.instrs i l).0 (r.instrs i l).1)) e

  -- ## A table

  module _ (at : ℕ) (t : TableWords z w end at) where
    place_fits : (i : ℕ) → i < get_or w (at + 3) 0 → row_place w at i + (get_or w at 0 + get_or w (at + 1) 0) ≤ length w
    place_fits i h = omega (arith, row_fits i (get_or w (at + 3) 0) (get_or w at 0 + get_or w (at + 1) 0) h, t.fills)

    pub table_ok : repeated (read_table w at) ≡ None → TableOk (read_table w at)
    unfolding read_table
    table_ok e = record {
      sized = all_tab _ _ _ (λ i h. length_part w _ _ (place_fits i h));
      clean = all_tab _ _ _ (λ i h. all_part Clean w _ _ (place_fits i h) (λ j l. not_stale _ (subst (λ (q : ℕ). get_or w q 0 ≢ stale) (omega arith) (t.clean (i * (get_or w at 0 + get_or w (at + 1) 0) + j) (omega (arith, row_fits i (get_or w (at + 3) 0) (get_or w at 0 + get_or w (at + 1) 0) h))))));
      distinct = all_pairs _ [] (read_table w at).rows (λ i j p q s. repeated_none (read_table w at) e j q (record { earlier = i; less = p; same = s }));
    }
