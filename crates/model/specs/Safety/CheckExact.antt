-- The check passes a rule exactly when the four conditions hold.
use Prim.Native.Nat.{ℕ, zero, suc, ◌<◌}
use Rattle.std.proofs.Common.{not-suc-le-zero, arith, sym, ap, inr, eqb→eq, leb→le, le→leb, ltb→lt, T_not}
use Rattle.std.specs.Prelude.{◌≡◌, ◌⊎◌, ◌↔◌, Bool, true, false, List, [], ◌∷◌, T, eqb, length, Option, None, Some, slice_get}
use Rattle.std.proofs.Math.Path.{refl, subst}
use Rattle.std.proofs.Math.Logic.{inl}
use Rattle.std.proofs.Math.Dec.{eqb_refl, lt→ltb, not_T}
use Rattle.model.specs.Basics.{found, all, All}
use Rattle.model.specs.Book.Syntax.{QueryEntry, Var, Const, Instr, dst_of, Table, Rule}
use Rattle.model.specs.Check.{Size, exactly, at_least, reads_of, held_of, sizes_of, columns_of, Fits, IsKnown, NotHeld, Below, Sound, Known, Conditions, fits?, known?, is_var, free?, below?, refuse, check_instr, is_dst, bound?, check, check_at, placed}
use Rattle.model.specs.Laws.Logic.{and_T, T_and, or_T, or_l, or_r, none_some, found_ind, at_below, either, le_cases}

pub all→All : {A : Type 0} (P : A → Type 0) (f : A → Bool) → ((x : A) → T (f x) → P x) → (xs : List A) → T (all f xs) → All P xs
all→All P f h [] t = tt
all→All P f h (x ∷ xs) t = let p = and_T (f x) (all f xs) t in (h x p.0, all→All P f h xs p.1)

pub All→all : {A : Type 0} (P : A → Type 0) (f : A → Bool) → ((x : A) → P x → T (f x)) → (xs : List A) → All P xs → T (all f xs)
All→all P f h [] p = tt
All→all P f h (x ∷ xs) p = T_and (f x) (all f xs) (h x p.0) (All→all P f h xs p.1)

pub fits→ : (z : Size) → T (fits? z) → Fits z
fits→ (exactly n m) t = eqb→eq n m t
fits→ (at_least n m) t = leb→le m n t

pub →fits : (z : Size) → Fits z → T (fits? z)
→fits (exactly n m) e = subst (λ x. T (eqb n x)) e (eqb_refl n)
→fits (at_least n m) h = le→leb m n h

pub known→ : (K : ℕ → Type 0) (b : ℕ → Bool) → ((v : ℕ) → T (b v) → K v) → (e : QueryEntry) → T (known? b e) → IsKnown K e
known→ K b h (Var v) t = h v t
known→ K b h (Const c) t = tt

pub →known : (K : ℕ → Type 0) (b : ℕ → Bool) → ((v : ℕ) → K v → T (b v)) → (e : QueryEntry) → IsKnown K e → T (known? b e)
→known K b h (Var v) k = h v k
→known K b h (Const c) k = tt

is_var_lem : (x : ℕ) (e : QueryEntry) → T (is_var x e) → e ≡ Var x
is_var_lem x (Var v) t = ap Var (eqb→eq v x t)
is_var_lem x (Const c) t = absurd t

pub free→ : (p : ℕ × QueryEntry) → T (free? p) → NotHeld p
free→ p t e = T_not (is_var p.0 p.1) t (subst (λ y. T (is_var p.0 y)) (sym e) (eqb_refl p.0))

pub →free : (p : ℕ × QueryEntry) → NotHeld p → T (free? p)
→free p h = not_T (is_var p.0 p.1) λ t. h (is_var_lem p.0 p.1 t)

pub below→ : (p : ℕ × ℕ) → T (below? p) → Below p
below→ p t = ltb→lt p.0 p.1 t

pub →below : (p : ℕ × ℕ) → Below p → T (below? p)
→below p h = lt→ltb p.0 p.1 h

-- ## What is bindings

dst→ : (d : Option ℕ) (v : ℕ) → T (is_dst d v) → d ≡ Some v
dst→ None v t = absurd t
dst→ (Some x) v t = ap Some (sym (eqb→eq v x t))

→dst : (d : Option ℕ) (v : ℕ) → d ≡ Some v → T (is_dst d v)
→dst d v e = subst (λ y. T (is_dst y v)) (sym e) (eqb_refl v)

passes : (b : Bool) (n : ℕ) (o : Option ℕ) → refuse b n o ≡ None → T b × (o ≡ None)
passes true n o e = (tt, e)
passes false n o e = absurd (none_some (sym e))

accept : (b : Bool) (n : ℕ) (o : Option ℕ) → T b → o ≡ None → refuse b n o ≡ None
accept true n o t e = e
accept false n o t e = absurd t

unplaced : (j : ℕ) (o : Option ℕ) → placed j o ≡ None → o ≡ None
unplaced j None e = refl
unplaced j (Some x) e = absurd (none_some (sym e))

then_none : {A : Type 0} (o p : Option A) → found o Some (λ _. p) ≡ None → (o ≡ None) × (p ≡ None)
then_none None p e = (refl, e)
then_none (Some a) p e = absurd (none_some (sym e))

module _ (r : Rule) where
  later : (j v : ℕ) → Known r j v → Known r (suc j) v
  later j v (inl h) = inl h
  later j v (inr p) = inr (p.0, omega (arith, p.1), p.2, p.3, p.4)

  abbrev is_dst_at : ℕ → ℕ → Bool
  is_dst_at j v = found (slice_get r.instrs j) (λ ins. is_dst (dst_of ins) v) (λ _. false)

  dst_here : (j v : ℕ) → T (found (slice_get r.instrs j) (λ ins. is_dst (dst_of ins) v) (λ _. false)) → Known r (suc j) v
  dst_here j v = found_ind (λ b. T b → Known r (suc j) v) (slice_get r.instrs j) _ _
      (λ ins e t. inr (j, omega arith, ins, e, dst→ (dst_of ins) v t)) (λ _ t. absurd t)

  pub bound→ : (j v : ℕ) → T (bound? r j v) → Known r j v
  unfolding bound?
  bound→ zero v t = inl (ltb→lt v r.starts t)
  bound→ (suc j) v t = either (λ p. later j v (bound→ j v p)) (λ p. dst_here j v p) (or_T (bound? r j v) (is_dst_at j v) t)

  here_dst : (j v : ℕ) (ins : Instr) → slice_get r.instrs j ≡ Some ins → dst_of ins ≡ Some v → T (found (slice_get r.instrs j) (λ i. is_dst (dst_of i) v) (λ _. false))
  here_dst j v ins e d = subst (λ o. T (found o (λ i. is_dst (dst_of i) v) (λ _. false))) (sym e) (→dst (dst_of ins) v d)

  pub known_cases : (j v : ℕ) → Known r (suc j) v → Known r j v ⊎ ((ins : Instr) × (slice_get r.instrs j ≡ Some ins) × (dst_of ins ≡ Some v))
  known_cases j v (inl h) = inl (inl h)
  known_cases j v (inr p) = go (le_cases p.1)
    where
      go : (p.0 < j) ⊎ (p.0 ≡ j) → Known r j v ⊎ ((ins : Instr) × (slice_get r.instrs j ≡ Some ins) × (dst_of ins ≡ Some v))
      go (inl h) = inl (inr (p.0, h, p.2, p.3, p.4))
      go (inr e) = inr (p.2, subst (λ x. slice_get r.instrs x ≡ Some p.2) e p.3, p.4)

  pub →bound : (j v : ℕ) → Known r j v → T (bound? r j v)
  unfolding bound?
  →bound zero v (inl h) = lt→ltb v r.starts h
  →bound zero v (inr p) = absurd (not-suc-le-zero p.1)
  →bound (suc j) v k = either (λ p. or_l (bound? r j v) (is_dst_at j v) (→bound j v p)) (λ p. or_r (bound? r j v) (is_dst_at j v) (here_dst j v p.0 p.1 p.2)) (known_cases j v k)

  -- ## One instruction

  module _ (ts : List Table) (arity : ℕ → ℕ) where
    pub sound : (j : ℕ) (ins : Instr) → check_instr ts arity (bound? r j) ins ≡ None → Sound ts arity (Known r j) ins
    unfolding check_instr
    sound j ins e =
        let a = passes (all fits? (sizes_of ts arity ins)) 8 _ e in
        let b = passes (all (known? (bound? r j)) (reads_of ins)) 7 _ a.1 in
        let c = passes (all free? (held_of ins)) 10 _ b.1 in
        let d = passes (all below? (columns_of ts arity ins)) 9 None c.1 in
        record {
          fit = all→All Fits fits? fits→ (sizes_of ts arity ins) a.0;
          known = all→All (IsKnown (Known r j)) (known? (bound? r j)) (known→ (Known r j) (bound? r j) (bound→ j)) (reads_of ins) b.0;
          free = all→All NotHeld free? free→ (held_of ins) c.0;
          in_row = all→All Below below? below→ (columns_of ts arity ins) d.0;
        }

    pub complete : (j : ℕ) (ins : Instr) → Sound ts arity (Known r j) ins → check_instr ts arity (bound? r j) ins ≡ None
    unfolding check_instr
    complete j ins c =
        accept (all fits? (sizes_of ts arity ins)) 8 _ (All→all Fits fits? →fits (sizes_of ts arity ins) c.fit)
        (accept (all (known? (bound? r j)) (reads_of ins)) 7 _ (All→all (IsKnown (Known r j)) (known? (bound? r j)) (→known (Known r j) (bound? r j) (→bound j)) (reads_of ins) c.known)
        (accept (all free? (held_of ins)) 10 _ (All→all NotHeld free? →free (held_of ins) c.free)
        (accept (all below? (columns_of ts arity ins)) 9 None (All→all Below below? →below (columns_of ts arity ins) c.in_row) refl)))

    -- ## A rule

    at_none : (j : ℕ) (ins : Instr) → slice_get r.instrs j ≡ Some ins → check_at ts arity r j ≡ None → check_instr ts arity (bound? r j) ins ≡ None
    at_none j ins e h = unplaced j (check_instr ts arity (bound? r j) ins) (rw e at h)

    up_to : (n j : ℕ) → j < n → check ts arity r n ≡ None → check_at ts arity r j ≡ None
    unfolding check
    up_to zero j h e = absurd (not-suc-le-zero h)
    up_to (suc n) j h e =
        let p = then_none (check ts arity r n) (check_at ts arity r n) e in
        either (λ q. up_to n j q p.0) (λ q. subst (λ x. check_at ts arity r x ≡ None) (sym q) p.1) (le_cases h)

    pub check→conditions : check ts arity r (length r.instrs) ≡ None → Conditions ts arity r
    check→conditions e j ins h = sound j ins (at_none j ins h (up_to (length r.instrs) j (at_below r.instrs j h) e))

    at_passes : Conditions ts arity r → (j : ℕ) → check_at ts arity r j ≡ None
    at_passes c j = found_ind (λ o. o ≡ None) (slice_get r.instrs j) _ _ (λ ins e. ap (placed j) (complete j ins (c j ins e))) (λ _. refl)

    pub conditions→check : Conditions ts arity r → (n : ℕ) → check ts arity r n ≡ None
    unfolding check
    conditions→check c zero = refl
    conditions→check c (suc n) = rw (conditions→check c n) (at_passes c n)

-- A rule passes the check exactly when the four conditions hold
pub check_exact : (ts : List Table) (arity : ℕ → ℕ) (r : Rule) → (check ts arity r (length r.instrs) ≡ None) ↔ Conditions ts arity r
check_exact ts arity r = (check→conditions r ts arity, λ c. conditions→check r ts arity c (length r.instrs))
