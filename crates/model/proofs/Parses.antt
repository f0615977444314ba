-- How a walk reads words by a grammar: it is bad exactly where no words of the grammar stand, and else it has passed them one by one.
use Prim.Native.Nat.{ℕ, ◌+◌, ◌≤◌}
use mathlib.Core.Path.{◌≡◌, refl, sym, ap, ◌∙◌, subst}
use mathlib.Core.Logic.{◌⊎◌, inl, inr}
use mathlib.Core.Bool.{Bool, true, false, cond}
use mathlib.Core.List.{List, [], ◌∷◌, ◌++◌}
use native.Mathlib.Omega.{arith}
use lib.Dec.{eqb, ltb}
use borrow.Author.Tests.{ltb-true, ltb-false}
use lib.ListN.{length, get_or, length-append}
use Rattle.model.specs.Book.Syntax.{stale}
use Rattle.model.specs.Book.Scan.{Draw, fine, three, six, four, Scan, bad, good, ◌▹◌, earliest, mark, require, below, clean, step, word}
use Rattle.model.specs.Claims.Grammar.{Role, plain, one_of, kept, Word}

-- what a word draws in its role; the walk past a word, and past words
abbrev pub by_role : Role → ℕ → Draw
by_role plain x = fine
by_role (one_of n) x = below n x
by_role kept x = clean x

abbrev pub pass_word : Word → Scan → Scan
pass_word m bad = bad
pass_word m (good at p q) = mark (by_role m.role m.word) at p q

unfoldable pub pass : List Word → Scan → Scan
pass [] s = s
pass (m ∷ ms) s = pass ms (pass_word m s)

pass_append : (ms ns : List Word) (s : Scan) → pass (ms ++ ns) s ≡ pass ns (pass ms s)
unfolding pass
pass_append [] ns s = refl
pass_append (m ∷ ms) ns s = pass_append ms ns (pass_word m s)

-- it is never bad
abbrev pub Goes : ℕ → Scan → Type 0
Goes n s = (p q : ℕ) × (s ≡ good n p q)

mark_goes : (r : Role) (x at p q : ℕ) → Goes (at + 1) (mark (by_role r x) at p q)
mark_goes plain x at p q = (p, q, refl)
mark_goes (one_of n) x at p q = by (ltb x n)
  where
    by : (b : Bool) → Goes (at + 1) (mark (cond b fine six) at p q)
    by true = (p, q, refl)
    by false = (earliest p at, q, refl)
mark_goes kept x at p q = by (eqb x stale)
  where
    by : (b : Bool) → Goes (at + 1) (mark (cond b four fine) at p q)
    by true = (p, earliest q at, refl)
    by false = (p, q, refl)

pub pass_goes : (ms : List Word) (at p q : ℕ) → Goes (at + length ms) (pass ms (good at p q))
unfolding pass
pass_goes [] at p q = (p, q, ap (λ (n : ℕ). good n p q) (omega arith))
pass_goes (m ∷ ms) at p q =
    let a = mark_goes m.role m.word at p q in
    let b = pass_goes ms (at + 1) a.0 a.1 in
    (b.0, b.1, ap (pass ms) a.2 ∙ b.2 ∙ ap (λ (n : ℕ). good n b.0 b.1) (omega arith))

-- ## Words in a book

-- the words that stand from `at` on
abbrev pub Stands : List ℕ → ℕ → List Word → Type 0
Stands w at [] = Unit {0}
Stands w at (m ∷ ms) = (get_or w at 0 ≡ m.word) × Stands w (at + 1) ms

stands_split : (w : List ℕ) (ms ns : List Word) (at : ℕ) → Stands w at (ms ++ ns) → Stands w at ms × Stands w (at + length ms) ns
stands_split w [] ns at s = (tt, subst (λ (n : ℕ). Stands w n ns) (omega arith) s)
stands_split w (m ∷ ms) ns at s =
    let r = stands_split w ms ns (at + 1) s.1 in
    ((s.0, r.0), subst (λ (n : ℕ). Stands w n ns) (omega arith) r.1)

stands_join : (w : List ℕ) (ms ns : List Word) (at : ℕ) → Stands w at ms → Stands w (at + length ms) ns → Stands w at (ms ++ ns)
stands_join w [] ns at s t = subst (λ (n : ℕ). Stands w n ns) (omega arith) t
stands_join w (m ∷ ms) ns at s t = (s.0, stands_join w ms ns (at + 1) s.1 (subst (λ (n : ℕ). Stands w n ns) (omega arith) t))

-- how a test tells P: it draws 3, or what the role draws
abbrev pub Tells : Role → (ℕ → Type 0) → (ℕ → Draw) → Type 0
Tells r P d = (x : ℕ) → (P x × (d x ≡ by_role r x)) ⊎ ((P x → ⊥) × (d x ≡ three))

-- ## A walk in a body that ends at `end`

module _ (w : List ℕ) (end : ℕ) where
  abbrev pub Fits : (List Word → Type 0) → ℕ → List Word → Type 0
  Fits F at ms = F ms × Stands w at ms × (at + length ms ≤ end)

  -- what a walk from `at`, with p and q drawn before, has come to
  pub data Parse (F : List Word → Type 0) (at p q : ℕ) (s : Scan) : Type 0 where
    is_bad : s ≡ bad → ((ms : List Word) → Fits F at ms → ⊥) → Parse F at p q s
    is_good : (ms : List Word) → Fits F at ms → ((ns : List Word) → Fits F at ns → ns ≡ ms) → s ≡ pass ms (good at p q) → Parse F at p q s

  pub parse_map : (F G : List Word → Type 0) (at p q : ℕ) (s : Scan) → ((ms : List Word) → Fits F at ms → G ms) → ((ms : List Word) → Fits G at ms → F ms) → Parse F at p q s → Parse G at p q s
  parse_map F G at p q s f g (is_bad e h) = is_bad e (λ ms v. h ms (g ms v, v.1, v.2))
  parse_map F G at p q s f g (is_good ms v u e) = is_good ms (f ms v, v.1, v.2) (λ ns t. u ns (g ns t, t.1, t.2)) e

  -- nothing more
  pub parse_none : (at p q : ℕ) → at ≤ end → Parse (λ ms. ms ≡ []) at p q (good at p q)
  unfolding pass
  parse_none at p q h = is_good [] (refl, tt, omega arith) (λ ns v. v.0) refl

  -- nothing more, under a condition that the walk tests
  pub parse_require : (C : Type 0) (b : Bool) (at p q : ℕ) → at ≤ end → (b ≡ true → C) → (b ≡ false → C → ⊥) → Parse (λ ms. C × (ms ≡ [])) at p q (require b (good at p q))
  unfolding pass
  parse_require C true at p q h yes' no' = is_good [] ((yes' refl, refl), tt, omega arith) (λ ns v. v.0.1) refl
  parse_require C false at p q h yes' no' = is_bad refl (λ ms v. no' refl v.0.0)

  -- one word in a role, of which P holds
  abbrev pub One : ℕ → Role → (ℕ → Type 0) → List Word → Type 0
  One at r P ms = P (get_or w at 0) × (ms ≡ record { word = get_or w at 0; role = r } ∷ [])

  pub parse_word : (r : Role) (P : ℕ → Type 0) (d : ℕ → Draw) → Tells r P d → (at p q : ℕ) → Parse (One at r P) at p q (word end w d (good at p q))
  unfolding step pass
  parse_word r P d tells at p q = by (ltb at end) refl (tells (get_or w at 0))
    where
      by : (b : Bool) → ltb at end ≡ b → (P (get_or w at 0) × (d (get_or w at 0) ≡ by_role r (get_or w at 0))) ⊎ ((P (get_or w at 0) → ⊥) × (d (get_or w at 0) ≡ three))
          → Parse (One at r P) at p q (require b (mark (d (get_or w at 0)) at p q))
      by false e t = is_bad refl (λ ms v. let l : length ms ≡ 1 = ap length v.0.1 in omega (arith, ltb-false at end e, v.2))
      by true e (inl t) =
          is_good (record { word = get_or w at 0; role = r } ∷ []) ((t.0, refl), (refl, tt), omega (arith, ltb-true at end e)) (λ ns v. v.0.1) (rw t.1)
      by true e (inr t) = is_bad (rw t.1) (λ ms v. t.0 v.0.0)

  -- one after the other
  abbrev pub Then : (List Word → Type 0) → (List Word → List Word → Type 0) → List Word → Type 0
  Then F G ks = (ms ns : List Word) × F ms × G ms ns × (ks ≡ ms ++ ns)

  then_split : (F : List Word → Type 0) (G : List Word → List Word → Type 0) (at : ℕ) (ks : List Word) → Fits (Then F G) at ks
      → (ms ns : List Word) × Fits F at ms × Fits (G ms) (at + length ms) ns × (ks ≡ ms ++ ns)
  then_split F G at ks v =
      let e = v.0.4 in
      let s = stands_split w v.0.0 v.0.1 at (subst (Stands w at) e v.1) in
      let l : length ks ≡ length v.0.0 + length v.0.1 = ap length e ∙ length-append v.0.0 v.0.1 in
      (v.0.0, v.0.1, (v.0.2, s.0, omega (arith, v.2)), (v.0.3, s.1, omega (arith, v.2)), e)

  pub parse_then : (F : List Word → Type 0) (G : List Word → List Word → Type 0) (g : Scan → Scan) (at p q : ℕ) (s : Scan) → Parse F at p q s
      → ((ms : List Word) (p' q' : ℕ) → Fits F at ms → Parse (G ms) (at + length ms) p' q' (g (good (at + length ms) p' q'))) → Parse (Then F G) at p q (s ▹ g)
  parse_then F G g at p q s (is_bad e h) k = is_bad (ap (λ t. t ▹ g) e) (λ ks v. let r = then_split F G at ks v in h r.0 r.2)
  parse_then F G g at p q s (is_good ms v u e) k = joined (k ms t.0 t.1 v)
    where
      t : Goes (at + length ms) (pass ms (good at p q))
      t = pass_goes ms at p q

      here : s ▹ g ≡ g (good (at + length ms) t.0 t.1)
      here = ap (λ x. x ▹ g) (e ∙ t.2)

      joined : Parse (G ms) (at + length ms) t.0 t.1 (g (good (at + length ms) t.0 t.1)) → Parse (Then F G) at p q (s ▹ g)
      joined (is_bad e' h) = is_bad (here ∙ e') (λ ks v'.
          let r = then_split F G at ks v' in
          let same = u r.0 r.2 in
          h r.1 (subst (λ (x : List Word). Fits (G x) (at + length x) r.1) same r.3))
      joined (is_good ns v' u' e') =
          is_good (ms ++ ns) ((ms, ns, v.0, v'.0, refl), stands_join w ms ns at v.1 v'.1, omega (arith, length-append ms ns, v'.2))
          (λ ks v''.
          let r = then_split F G at ks v'' in
          let same = u r.0 r.2 in
          let rest = u' r.1 (subst (λ (x : List Word). Fits (G x) (at + length x) r.1) same r.3) in
          r.4 ∙ ap (λ (x : List Word). x ++ r.1) same ∙ ap (λ (x : List Word). ms ++ x) rest)
          (here ∙ e' ∙ ap (pass ns) (sym t.2) ∙ sym (pass_append ms ns (good at p q)))
