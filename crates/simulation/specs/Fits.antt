-- What is known of an instruction of a book that can be read: what it names is there, and its lists are short.
use Prim.Native.Nat.{ℕ, zero, suc, ◌+◌, ◌*◌, ◌<◌, ◌≤◌}
use Rattle.std.specs.Prelude.{◌≡◌, refl, Bool, true, false, ◌&&◌, cond, ltb, leb, List, get_or, take}
use Rattle.std.proofs.Common.{sym, subst, leb-true, arith}
use Rattle.model.specs.Laws.Logic.{and_split}
use Rattle.model.specs.Basics.{tab}
use Rattle.model.specs.Book.Layout.{entries, writes, form_of}
use Rattle.model.specs.Book.Contents.{table_count, counter_count}
use Rattle.model.specs.Book.Scan.{fine, three, tagged, opcode}
use Rattle.model.specs.Book.Decode.{after, past}
use Rattle.model.specs.Book.Read.{sizes}
use Rattle.model.specs.Laws.Scan.{PairOk, FieldOk, FieldsOk, InstrOk, up_to_fine, below_fine}
use Rattle.model.specs.Laws.Book.{Readable}
use Rattle.model.specs.Laws.Kinds.{table_read}
use Rattle.bindings.specs.BindingLaws.{Named, entry_named, entries_named}
use Rattle.instr.specs.declared.Entries.{Entries}
use Rattle.instr.specs.declared.Instr.{Instr}
use Rattle.instr.specs.declared.Instr.TheVariants.{LookupOrInsertDefault, LookupWithDefault, Lookup, LookupWithFallback, Insert, InsertIfEq, Remove, External, ExternalWithFallback, AssertEq, AssertNe, AssertAnyNe, ReadCounter}
use Rattle.instr.specs.Fields.{part_at}
use Rattle.instr.specs.FieldLaws.{place_near}
use Rattle.instr.specs.Instr.{write_by, entry_at, write_at, list_at, instr_by, instr_at}
use Rattle.instr.specs.InstrLaws.{entry_at_lem}
use Rattle.instr.specs.Meaning.{entry_of}
use Rattle.instr.specs.Stands.{Short}
use Rattle.action.specs.ActLaws.{table_stands}
use Rattle.simulation.specs.Reading.{Reads}
use Rattle.simulation.specs.Building.{Writable}
use Rattle.simulation.specs.Predicting.{TableOk}

-- write values that can be read
abbrev pub Writes : List ℕ → Entries → Type 0
Writes w l = Short l × ((k : ℕ) → k < l.count → Writable w (write_at w (l.at + 2 * k)))

abbrev pub Fits : List ℕ → Instr → Type 0
Fits w (LookupOrInsertDefault table args default col dst) = TableOk w table.0 × Reads w args × Writes w default × (dst.0 < 32)
Fits w (LookupWithDefault table args col dst default) = TableOk w table.0 × Reads w args × Named (entry_of default) × (dst.0 < 32)
Fits w (Lookup table args col dst) = TableOk w table.0 × Reads w args × (dst.0 < 32)
Fits w (LookupWithFallback table key func args col dst) = TableOk w table.0 × Reads w key × Reads w args × (dst.0 < 32)
Fits w (Insert table vals) = TableOk w table.0 × Reads w vals
Fits w (InsertIfEq table l r vals) = TableOk w table.0 × Named (entry_of l) × Named (entry_of r) × Reads w vals
Fits w (Remove table args) = TableOk w table.0 × Reads w args
Fits w (External func args dst) = Reads w args × (dst.0 < 32)
Fits w (ExternalWithFallback f1 args1 f2 args2 dst) = Reads w args1 × Reads w args2 × (dst.0 < 32)
Fits w (AssertEq l r) = Named (entry_of l) × Named (entry_of r)
Fits w (AssertNe l r) = Named (entry_of l) × Named (entry_of r)
Fits w (AssertAnyNe ops divider) = Reads w ops
Fits w (ReadCounter counter dst) = (counter.0 < counter_count w) × (dst.0 < 32)

draw_clash : three ≡ fine → ⊥
draw_clash e = let z : ◌≡◌ {A = ℕ} 0 1 = cc in omega arith

is_opcode : (x : ℕ) → opcode x ≡ fine → x ≤ 13
is_opcode x e = by (ltb 0 x && leb x 13) refl e
  where
    by : (b : Bool) → ltb 0 x && leb x 13 ≡ b → cond b fine three ≡ fine → x ≤ 13
    by true q e = leb-true x 13 (and_split (ltb 0 x) (leb x 13) q).1
    by false q e = absurd (draw_clash e)

module _ (w : List ℕ) (h : Readable w) where
  pub table_ok : (t : ℕ) → t < table_count w → TableOk w t
  table_ok t l =
      let r = table_read w h.contents h.bodies t l in
      record { known = l; stands = table_stands w h t l; few = omega (arith, r.1.keys, r.1.vals); some_column = r.1.sum }

  module _ (end : ℕ) where
    named_at : (a b p : ℕ) → PairOk (sizes w) w end a b p → Named (entry_of (entry_at w p))
    named_at a b p e = subst Named (sym (entry_at_lem w p)) (entry_named (sizes w) w end a b p e)

    reads_at : (p : ℕ) → p ≤ 32768 → FieldOk (sizes w) w end entries p → Reads w (list_at w p)
    reads_at p l e = ((omega arith, up_to_fine (get_or w p 0) e.0), entries_named (sizes w) w end p e)

    writable_by : (t x : ℕ) → tagged (sizes w) t x ≡ fine → Writable w (write_by t x)
    unfolding write_by
    writable_by zero x e = below_fine {n = 32} x e
    writable_by (suc zero) x e = tt
    writable_by (suc (suc zero)) x e = below_fine {n = counter_count w} x e
    writable_by (suc (suc (suc t))) x e = tt

    pub writable_at : (a b p : ℕ) → PairOk (sizes w) w end a b p → Writable w (write_at w p)
    writable_at a b p e = writable_by (get_or w p 0) (get_or w (p + 1) 0) e.1

    writes_at : (p : ℕ) → p ≤ 32768 → FieldOk (sizes w) w end writes p → Writes w (list_at w p)
    writes_at p l e = ((omega arith, up_to_fine (get_or w p 0) e.0), λ k q. writable_at 0 3 (p + 1 + 2 * k) (e.1 k q))

    -- by opcode
    fits_by : (op p : ℕ) → p ≤ 16384 → opcode op ≡ fine → FieldsOk (sizes w) w end (form_of op).fields (p + 1) → Fits w (instr_by (tab (λ k. part_at w (past w (take k (form_of op).fields) (p + 1))) 6) op)
    unfolding form_of after past instr_by tab
    fits_by zero p l o h = absurd (draw_clash o)
    fits_by (suc zero) p l o h = (table_ok _ (below_fine _ h.0), reads_at _ (omega (arith, place_near w end (form_of 1).fields 1 (p + 1) h)) h.1.0, writes_at _ (omega (arith, place_near w end (form_of 1).fields 2 (p + 1) h)) h.1.1.0, below_fine _ h.1.1.1.1.0)
    fits_by (suc (suc zero)) p l o h = (table_ok _ (below_fine _ h.0), reads_at _ (omega (arith, place_near w end (form_of 2).fields 1 (p + 1) h)) h.1.0, named_at 0 1 _ h.1.1.1.1.0, below_fine _ h.1.1.1.0)
    fits_by (suc (suc (suc zero))) p l o h = (table_ok _ (below_fine _ h.0), reads_at _ (omega (arith, place_near w end (form_of 3).fields 1 (p + 1) h)) h.1.0, below_fine _ h.1.1.1.0)
    fits_by (suc (suc (suc (suc zero)))) p l o h = (table_ok _ (below_fine _ h.0), reads_at _ (omega (arith, place_near w end (form_of 4).fields 1 (p + 1) h)) h.1.0, reads_at _ (omega (arith, place_near w end (form_of 4).fields 3 (p + 1) h)) h.1.1.1.0, below_fine _ h.1.1.1.1.1.0)
    fits_by (suc (suc (suc (suc (suc zero))))) p l o h = (table_ok _ (below_fine _ h.0), reads_at _ (omega (arith, place_near w end (form_of 5).fields 1 (p + 1) h)) h.1.0)
    fits_by (suc (suc (suc (suc (suc (suc zero)))))) p l o h = (table_ok _ (below_fine _ h.0), named_at 0 1 _ h.1.0, named_at 0 1 _ h.1.1.0, reads_at _ (omega (arith, place_near w end (form_of 6).fields 3 (p + 1) h)) h.1.1.1.0)
    fits_by (suc (suc (suc (suc (suc (suc (suc zero))))))) p l o h = (table_ok _ (below_fine _ h.0), reads_at _ (omega (arith, place_near w end (form_of 7).fields 1 (p + 1) h)) h.1.0)
    fits_by (suc (suc (suc (suc (suc (suc (suc (suc zero)))))))) p l o h = (reads_at _ (omega (arith, place_near w end (form_of 8).fields 1 (p + 1) h)) h.1.0, below_fine _ h.1.1.0)
    fits_by (suc (suc (suc (suc (suc (suc (suc (suc (suc zero))))))))) p l o h = (reads_at _ (omega (arith, place_near w end (form_of 9).fields 1 (p + 1) h)) h.1.0, reads_at _ (omega (arith, place_near w end (form_of 9).fields 3 (p + 1) h)) h.1.1.1.0, below_fine _ h.1.1.1.1.0)
    fits_by (suc (suc (suc (suc (suc (suc (suc (suc (suc (suc zero)))))))))) p l o h = (named_at 0 1 _ h.0, named_at 0 1 _ h.1.0)
    fits_by (suc (suc (suc (suc (suc (suc (suc (suc (suc (suc (suc zero))))))))))) p l o h = (named_at 0 1 _ h.0, named_at 0 1 _ h.1.0)
    fits_by (suc (suc (suc (suc (suc (suc (suc (suc (suc (suc (suc (suc zero)))))))))))) p l o h = reads_at _ (omega (arith, place_near w end (form_of 12).fields 1 (p + 1) h)) h.1.0
    fits_by (suc (suc (suc (suc (suc (suc (suc (suc (suc (suc (suc (suc (suc zero))))))))))))) p l o h = (below_fine _ h.0, below_fine _ h.1.0)
    fits_by (suc (suc (suc (suc (suc (suc (suc (suc (suc (suc (suc (suc (suc (suc n)))))))))))))) p l o h = absurd (omega (arith, is_opcode (suc (suc (suc (suc (suc (suc (suc (suc (suc (suc (suc (suc (suc (suc n)))))))))))))) o))

    pub fits : (p : ℕ) → p ≤ 16384 → InstrOk (sizes w) w end p → Fits w (instr_at w p)
    fits p l e = fits_by (get_or w p 0) p l e.0 e.1
