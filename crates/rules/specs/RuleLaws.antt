-- A rule of a book that can be read, instruction by instruction, and all rules.
use Rattle.std.specs.Prelude.{ℕ, zero, suc, ◌+◌, ◌<◌, ◌≤◌, ◌≡◌, Bool, true, false, ◌||◌, length, get_or, Option, None, Some, slice_get, Result, Ok, Err, is_err}
use Rattle.std.proofs.Math.Path.{refl, sym, fun_ext}
use Rattle.std.proofs.Common.{ap, ◌∙◌, add-one}
use mathlib.Core.List.{List, [], ◌∷◌}
use Rattle.std.proofs.Math.Nat.{le_refl}
use native.Mathlib.Omega.{arith}
use Rattle.model.specs.Basics.{◌else◌, tab}
use Rattle.model.specs.Book.Syntax.{Instr, dst_of, Rule}
use Rattle.model.specs.Book.Layout.{Field, table, counter, function, dst, column, divider, entry, entries, writes}
use Rattle.model.specs.Book.Words.{Refusal}
use Rattle.model.specs.Book.Contents.{contents_refusal, end_of, rule_count, first_rule}
use Rattle.model.specs.Book.Decode as decode
use Rattle.model.specs.Book.Read.{tables, bodies_refusal, steps_refusal}
use Rattle.model.specs.Check.{check_instr, is_dst, bound?, placed, check_at, check}
use Rattle.model.specs.Machine.Functions.{arity}
use Rattle.model.specs.Outcome.{rule_first, rule_refusal, rules_refusal, words_refusal}
use Rattle.model.specs.Laws.Logic.{else_none, none_some, some_inj, at_length, either, le_cases}
use Rattle.model.specs.Laws.Lists.{none_first_some, some_first_some, length_tab, get_or_tab}
use Rattle.instr.specs.declared.Instr as code
use Rattle.instr.specs.Instr.{instr_at}
use Rattle.instr.specs.Meaning.{instr_of}
use Rattle.instr.specs.InstrLaws.{instr_at_lem}
use Rattle.refusal.specs.declared.Refusal.{Refusal as Fault}
use Rattle.refusal.specs.Refusal.{told, refusal_of}
use Rattle.bound_vars.specs.declared.Bound.{Bound}
use Rattle.rules.specs.Rules.{placed_at}
use Rattle.bound_vars.specs.Bound.{has, first_bound, binding}
use Rattle.model.specs.Laws.Book.{Readable}
use Rattle.instr.specs.Stands.{Stands, binds_of}
use Rattle.model.specs.Laws.Kinds.{rule_read}
use Rattle.instr.specs.StandsLaws.{stands}
use Rattle.bound_vars.specs.BoundLaws.{has_first, has_binding}
use Rattle.instr.specs.StandsLaws.{binds, binds_variable}

-- ## What an answer says

pub not_refused : {A : Type 0} (c : Result A Fault) → is_err c ≡ false → refusal_of c ≡ None
not_refused (Ok a) e = refl
not_refused (Err r) e = let z : ◌≡◌ {A = ℕ} 0 1 = cc in absurd (omega arith)

pub refused : {A : Type 0} (c : Result A Fault) → is_err c ≡ true → (a : Refusal) × (refusal_of c ≡ Some a)
refused (Ok a) e = let z : ◌≡◌ {A = ℕ} 0 1 = cc in absurd (omega arith)
refused (Err r) e = (told r, refl)

-- ## Lists by an index

elem_get_or : {A : Type 0} (xs : List A) (j : ℕ) (d x : A) → slice_get xs j ≡ Some x → get_or xs j d ≡ x
elem_get_or [] j d x e = absurd (none_some e)
elem_get_or (y ∷ xs) zero d x e = some_inj e
elem_get_or (y ∷ xs) (suc j) d x e = elem_get_or xs j d x e

pub at_tab : {A : Type 0} (f : ℕ → A) (n j : ℕ) → j < n → slice_get (tab f n) j ≡ Some (f j)
at_tab f n j l =
    let p = at_length (tab f n) j (omega (arith, length_tab f n)) in
    p.1 ∙ ap Some (sym (elem_get_or (tab f n) j p.0 p.0 p.1) ∙ get_or_tab f n j p.0 l)

-- ## Places

module _ (w : List ℕ) where
  after_on : (f : Field) (p : ℕ) → p ≤ decode.after w f p
  unfolding decode.after
  after_on table p = omega arith
  after_on counter p = omega arith
  after_on function p = omega arith
  after_on dst p = omega arith
  after_on column p = omega arith
  after_on divider p = omega arith
  after_on entry p = omega arith
  after_on entries p = omega arith
  after_on writes p = omega arith

  past_on : (fs : List Field) (p : ℕ) → p ≤ decode.past w fs p
  unfolding decode.past
  past_on [] p = le_refl p
  past_on (f ∷ fs) p = omega (arith, after_on f p, past_on fs (decode.after w f p))

  next_on : (p : ℕ) → p ≤ decode.next w p
  unfolding decode.next
  next_on p = omega (arith, past_on (decode.fields_at w p) (p + 1))

  places_on : (at j n : ℕ) → j ≤ n → decode.instr_place w at j ≤ decode.instr_place w at n
  places_on at j zero l = let e : j ≡ 0 = omega arith in rw e (le_refl (at + 2))
  places_on at j (suc n) l = either (λ m. omega (arith, places_on at j n (omega arith), next_on (decode.instr_place w at n))) (λ e. rw e (le_refl (decode.instr_place w at (suc n)))) (le_cases {m = j} {n = suc n} (omega arith))

-- ## One rule

module _ (w : List ℕ) (r : ℕ) where
  abbrev first : ℕ
  first = rule_first w r

  abbrev pub many : ℕ
  many = get_or w (first + 1) 0

  abbrev pub rule_of : Rule
  rule_of = decode.read_rule w first

  -- instruction j, its place, and what it draws
  abbrev pub place_of : ℕ → ℕ
  place_of j = decode.instr_place w first j

  abbrev ins : ℕ → Instr
  ins j = decode.instr_at w (place_of j)

  abbrev drawn : ℕ → Option ℕ
  drawn j = check_instr (tables w) arity (bound? rule_of j) (ins j)

  abbrev pub Passed : ℕ → Type 0
  Passed j = (k : ℕ) → k < j → check_at (tables w) arity rule_of k ≡ None

  instr_j : (j : ℕ) → j < many → slice_get rule_of.instrs j ≡ Some (ins j)
  unfolding decode.read_rule
  instr_j j m = at_tab ins many j m

  bound_suc : (j v : ℕ) → j < many → bound? rule_of (suc j) v ≡ bound? rule_of j v || is_dst (dst_of (ins j)) v
  unfolding bound?
  bound_suc j v m = rw (instr_j j m)

  check_here : (j : ℕ) → j < many → check_at (tables w) arity rule_of j ≡ placed j (drawn j)
  check_here j m = rw (instr_j j m)

  pub rule_end : Passed many → None ≡ rule_refusal w r
  unfolding rule_refusal check decode.read_rule
  rule_end p = sym (rw (none_first_some (check_at (tables w) arity rule_of) (length rule_of.instrs) (λ i m. p i (omega (arith, length_tab ins many)))))

  module _ (h : Readable w) (l : r < rule_count w) where
    place_small : (j : ℕ) → j ≤ many → place_of j ≤ 16384
    place_small j m = omega (arith, places_on w first j many m, (rule_read w h.contents h.bodies r l).1.fills, (rule_read w h.contents h.bodies r l).0.within, h.most)

    pub bound_start : has (first_bound (get_or w first 0)) ≡ bound? rule_of 0
    unfolding bound? decode.read_rule
    bound_start = fun_ext (has_first (get_or w first 0) (rule_read w h.contents h.bodies r l).1.starts)

-- ## At an instruction: j of rule r stands at p, and is i

pub record At (w : List ℕ) (r j p : ℕ) (i : code.Instr) : Type 0 where
  pub readable : Readable w
  pub rule : r < rule_count w
  pub below : j < many w r
  pub place : p ≡ place_of w r j
  pub is : i ≡ instr_at w p

module _ {w : List ℕ} {r j p : ℕ} {i : code.Instr} (x : At w r j p i) where
  pub small_here : p ≤ 16384
  small_here = omega (arith, x.place, place_small w r x.readable x.rule j (omega (arith, x.below)))

  pub stands_here : Stands w i
  stands_here = rw x.is (stands w (end_of w (first_rule w + r)) p small_here (rw x.place ((rule_read w x.readable.contents x.readable.bodies r x.rule).1.instrs j x.below)))

  pub next_here : decode.next w p ≡ place_of w r (j + 1)
  next_here = rw (x.place, add-one)

  -- it means what stands there
  meant : instr_of w i ≡ ins w r j
  meant = rw (x.is, x.place) (instr_at_lem w (place_of w r j))

  module _ (b : Bound) (known : has b ≡ bound? (rule_of w r) j) where
    pub bound_here : length b.known ≡ 32 → has (binding (binds_of i) b) ≡ bound? (rule_of w r) (j + 1)
    bound_here n =
        let d : binds_of i ≡ dst_of (ins w r j) = sym (binds w i) ∙ ap dst_of meant in
        fun_ext (λ v. has_binding (binds_of i) b (binds_variable w i stands_here) n v ∙ ap (λ (f : ℕ → Bool). f v || is_dst (binds_of i) v) known ∙ rw (d, add-one) (sym (bound_suc w r j v x.below)))

    -- the answer
    module _ {A : Type 0} (c : Result A Fault) (drew : refusal_of c ≡ placed_at p (check_instr (tables w) arity (has b) (instr_of w i))) where
      as_drawn : refusal_of c ≡ placed_at (place_of w r j) (drawn w r j)
      as_drawn = drew ∙ rw (known, meant, x.place)

      pub rule_on : is_err c ≡ false → check_at (tables w) arity (rule_of w r) j ≡ None
      rule_on e = check_here w r j x.below ∙ by (drawn w r j) (sym as_drawn ∙ not_refused c e)
        where
          by : (o : Option ℕ) → placed_at (place_of w r j) o ≡ None → placed j o ≡ None
          by None q = refl
          by (Some y) q = absurd (none_some (sym q))

      pub rule_stop : is_err c ≡ true → Passed w r j → refusal_of c ≡ rule_refusal w r
      unfolding rule_refusal check decode.read_rule
      rule_stop e before = as_drawn ∙ by (drawn w r j) refl
        where
          by : (o : Option ℕ) → drawn w r j ≡ o → placed_at (place_of w r j) o ≡ rule_refusal w r
          by None q = absurd (none_some (sym (as_drawn ∙ rw q) ∙ (refused c e).1))
          by (Some y) q = sym (rw (some_first_some (check_at (tables w) arity (rule_of w r)) (length (rule_of w r).instrs) (y, j) (record { index = j; below = omega (arith, x.below, length_tab (ins w r) (many w r)); here = check_here w r j x.below ∙ rw q; before = before })))

-- ## All rules

module _ (w : List ℕ) where
  pub rules_stop : (r : ℕ) (e : Fault) → r < rule_count w → ((k : ℕ) → k < r → rule_refusal w k ≡ None) → Some (told e) ≡ rule_refusal w r → Some (told e) ≡ rules_refusal w
  unfolding rules_refusal
  rules_stop r e l before is = sym (some_first_some (rule_refusal w) (rule_count w) (told e) (record { index = r; below = l; here = sym is; before = before }))

  pub rules_end : ((k : ℕ) → k < rule_count w → rule_refusal w k ≡ None) → None ≡ rules_refusal w
  unfolding rules_refusal
  rules_end h = sym (none_first_some (rule_refusal w) (rule_count w) h)

-- ## Rules, and then what comes next

module _ (o next : Option Refusal) where
  pub else_stop : (e : Fault) → Some (told e) ≡ o → Some (told e) ≡ (o else λ _. next)
  else_stop e is = rw (← is)

  pub else_on : None ≡ o → next ≡ (o else λ _. next)
  else_on is = rw (← is)

-- ## What comes before the rules

module _ (w : List ℕ) where
  abbrev pub read_refusal : Option Refusal
  read_refusal = contents_refusal w else λ _. bodies_refusal w

  pub words_stop : (a : Refusal) → Some a ≡ read_refusal → Some a ≡ words_refusal w
  unfolding words_refusal
  words_stop a e = by (contents_refusal w) (bodies_refusal w) e
    where
      by : (o p : Option Refusal) → Some a ≡ (o else λ _. p) → Some a ≡ (o else λ _. p else λ _. rules_refusal w else λ _. steps_refusal w)
      by None None q = absurd (none_some (sym q))
      by None (Some b) q = q
      by (Some b) p q = q

  module _ (e : None ≡ read_refusal) where
    pub none_read : (contents_refusal w ≡ None) × (bodies_refusal w ≡ None)
    none_read = else_none (contents_refusal w) (λ _. bodies_refusal w) (sym e)

    pub words_on : (rules_refusal w else λ _. steps_refusal w) ≡ words_refusal w
    unfolding words_refusal
    words_on = rw (none_read.0, none_read.1)
