-- An instruction of a body that can be read: what is known of it.
use Prim.Native.Nat.{ℕ, zero, suc, ◌+◌, ◌≤◌}
use Rattle.std.specs.Prelude.{◌≡◌, refl, List, get_or, take}
use Rattle.std.proofs.Common.{arith}
use Rattle.std.proofs.Math.Dec.{lit<}
use Rattle.model.specs.Book.Syntax.{dst_of}
use Rattle.model.specs.Basics.{tab}
use Rattle.model.specs.Book.Layout.{Field, form_of}
use Rattle.model.specs.Book.Scan.{fine, up_to}
use Rattle.model.specs.Book.Decode.{after, past}
use Rattle.model.specs.Book.Read.{sizes}
use Rattle.model.specs.Laws.Scan.{FieldsOk, InstrOk, up_to_fine, below_fine}
use Rattle.instr.specs.Fields.{part_at}
use Rattle.instr.specs.FieldLaws.{place_near}
use Rattle.instr.specs.Instr.{list_in, instr_by, instr_at}
use Rattle.instr.specs.declared.Instr.{Instr}
use Rattle.instr.specs.declared.Instr.TheVariants.{LookupOrInsertDefault, LookupWithDefault, Lookup, LookupWithFallback, Insert, InsertIfEq, Remove, External, ExternalWithFallback, AssertEq, AssertNe, AssertAnyNe, ReadCounter}
use Rattle.instr.specs.Meaning.{instr_of}
use Rattle.instr.specs.Stands.{Short, Stands, binds_of, IsVariable}

module _ (w : List ℕ) (end : ℕ) where
  -- a list among the first six fields is short
  short : (fs : List Field) (k p : ℕ) → p ≤ 16384 → k ≤ 6 → FieldsOk (sizes w) w end fs (p + 1) → up_to 16 (get_or w (past w (take k fs) (p + 1)) 0) ≡ fine → Short (list_in (part_at w (past w (take k fs) (p + 1))))
  short fs k p l m h e = (omega (arith, place_near w end fs k (p + 1) h), up_to_fine _ e)

  -- by opcode
  stands_by : (op p : ℕ) → p ≤ 16384 → FieldsOk (sizes w) w end (form_of op).fields (p + 1) → Stands w (instr_by (tab (λ k. part_at w (past w (take k (form_of op).fields) (p + 1))) 6) op)
  unfolding form_of after past instr_by tab
  stands_by zero p l h = lit< tt
  stands_by (suc zero) p l h = (below_fine _ h.0, short (form_of 1).fields 1 p l (omega arith) h h.1.0.0, short (form_of 1).fields 2 p l (omega arith) h h.1.1.0.0, below_fine _ h.1.1.1.1.0)
  stands_by (suc (suc zero)) p l h = (below_fine _ h.0, short (form_of 2).fields 1 p l (omega arith) h h.1.0.0, below_fine _ h.1.1.1.0)
  stands_by (suc (suc (suc zero))) p l h = (below_fine _ h.0, short (form_of 3).fields 1 p l (omega arith) h h.1.0.0, below_fine _ h.1.1.1.0)
  stands_by (suc (suc (suc (suc zero)))) p l h = (below_fine _ h.0, short (form_of 4).fields 1 p l (omega arith) h h.1.0.0, short (form_of 4).fields 3 p l (omega arith) h h.1.1.1.0.0, below_fine _ h.1.1.1.1.1.0)
  stands_by (suc (suc (suc (suc (suc zero))))) p l h = (below_fine _ h.0, short (form_of 5).fields 1 p l (omega arith) h h.1.0.0)
  stands_by (suc (suc (suc (suc (suc (suc zero)))))) p l h = (below_fine _ h.0, short (form_of 6).fields 3 p l (omega arith) h h.1.1.1.0.0)
  stands_by (suc (suc (suc (suc (suc (suc (suc zero))))))) p l h = (below_fine _ h.0, short (form_of 7).fields 1 p l (omega arith) h h.1.0.0)
  stands_by (suc (suc (suc (suc (suc (suc (suc (suc zero)))))))) p l h = (short (form_of 8).fields 1 p l (omega arith) h h.1.0.0, below_fine _ h.1.1.0)
  stands_by (suc (suc (suc (suc (suc (suc (suc (suc (suc zero))))))))) p l h = (short (form_of 9).fields 1 p l (omega arith) h h.1.0.0, short (form_of 9).fields 3 p l (omega arith) h h.1.1.1.0.0, below_fine _ h.1.1.1.1.0)
  stands_by (suc (suc (suc (suc (suc (suc (suc (suc (suc (suc zero)))))))))) p l h = tt
  stands_by (suc (suc (suc (suc (suc (suc (suc (suc (suc (suc (suc zero))))))))))) p l h = tt
  stands_by (suc (suc (suc (suc (suc (suc (suc (suc (suc (suc (suc (suc zero)))))))))))) p l h = short (form_of 12).fields 1 p l (omega arith) h h.1.0.0
  stands_by (suc (suc (suc (suc (suc (suc (suc (suc (suc (suc (suc (suc (suc zero))))))))))))) p l h = below_fine _ h.1.0
  stands_by (suc (suc (suc (suc (suc (suc (suc (suc (suc (suc (suc (suc (suc (suc n)))))))))))))) p l h = lit< tt

  pub stands : (p : ℕ) → p ≤ 16384 → InstrOk (sizes w) w end p → Stands w (instr_at w p)
  stands p l h = stands_by (get_or w p 0) p l h.1

pub binds : (w : List ℕ) (i : Instr) → dst_of (instr_of w i) ≡ binds_of i
unfolding dst_of instr_of
binds w (LookupOrInsertDefault table args default col dst) = refl
binds w (LookupWithDefault table args col dst default) = refl
binds w (Lookup table args col dst) = refl
binds w (LookupWithFallback table key func args col dst) = refl
binds w (Insert table vals) = refl
binds w (InsertIfEq table l r vals) = refl
binds w (Remove table args) = refl
binds w (External func args dst) = refl
binds w (ExternalWithFallback f1 args1 f2 args2 dst) = refl
binds w (AssertEq l r) = refl
binds w (AssertNe l r) = refl
binds w (AssertAnyNe ops divider) = refl
binds w (ReadCounter counter dst) = refl

pub binds_variable : (w : List ℕ) (i : Instr) → Stands w i → IsVariable (binds_of i)
binds_variable w (LookupOrInsertDefault table args default col dst) s = s.3
binds_variable w (LookupWithDefault table args col dst default) s = s.2
binds_variable w (Lookup table args col dst) s = s.2
binds_variable w (LookupWithFallback table key func args col dst) s = s.3
binds_variable w (Insert table vals) s = tt
binds_variable w (InsertIfEq table l r vals) s = tt
binds_variable w (Remove table args) s = tt
binds_variable w (External func args dst) s = s.1
binds_variable w (ExternalWithFallback f1 args1 f2 args2 dst) s = s.2
binds_variable w (AssertEq l r) s = tt
binds_variable w (AssertNe l r) s = tt
binds_variable w (AssertAnyNe ops divider) s = tt
binds_variable w (ReadCounter counter dst) s = s
