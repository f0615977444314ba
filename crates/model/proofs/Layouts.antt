-- The walk over fields and instructions agrees with the grammar.
use Prim.Native.Nat.{ℕ, zero, suc, ◌+◌, ◌≤◌, ◌<◌}
use mathlib.Core.Path.{◌≡◌, refl, sym, ap, ◌∙◌, subst}
use mathlib.Core.Logic.{◌⊎◌, inl, inr}
use mathlib.Core.Bool.{Bool, true, false, ◌&&◌, cond, true≢false}
use mathlib.Core.List.{List, [], ◌∷◌, ◌++◌}
use lib.Dec.{ltb, leb}
use borrow.Author.Tests.{ltb-true, leb-true, lt-ltb, le-leb}
use lib.ListN.{length, get_or}
use Rattle.model.specs.Basics.{iter}
use Rattle.model.specs.Book.Layout.{Field, table, counter, function, dst, column, divider, entry, entries, writes, form_of}
use Rattle.model.specs.Machine.Functions.{function_count}
use Rattle.model.specs.Book.Scan.{Draw, fine, three, Scan, bad, good, ◌▹◌, Sizes, any_word, below, up_to, opcode, tag, tagged, step, word, list, pair, field, walk, instr}
use Rattle.model.specs.Claims.Grammar as grammar
use Rattle.model.specs.Claims.Grammar.{Role, plain, one_of, Word, plainly, Times, tag_role, Pair, Listed, listed, FieldForm, FieldsForm, InstrForm}
use Rattle.model.specs.Laws.Logic.{and_split, and_join}
use Rattle.model.specs.Laws.Scan.{walk_bad}
use Rattle.model.proofs.Parses.{by_role, Stands, Tells, Fits, Parse, parse_map, parse_none, One, parse_word, Then, parse_then}

-- a count up to `most`, then so many
abbrev pub Counted : ℕ → (List Word → Type 0) → List Word → Type 0
Counted most F ks = (n : ℕ) × (ms : List Word) × (n ≤ most) × Times F n ms × (ks ≡ plainly n ∷ ms)

-- ## Tests of a word

-- a test that draws 3 or nothing
tells_plain : (P : ℕ → Type 0) (t : ℕ → Bool) → ((x : ℕ) → t x ≡ true → P x) → ((x : ℕ) → P x → t x ≡ true) → Tells plain P (λ x. cond (t x) fine three)
tells_plain P t yes' back x = go (t x) refl
  where
    go : (b : Bool) → t x ≡ b → (P x × (cond b fine three ≡ fine)) ⊎ ((P x → ⊥) × (cond b fine three ≡ three))
    go true e = inl (yes' x e, refl)
    go false e = inr ((λ p. true≢false (sym (back x p) ∙ e)), refl)

abbrev pub Any : ℕ → Type 0
Any x = Unit {0}

-- a test that draws what the role draws
pub tells_role : (r : Role) → Tells r Any (by_role r)
tells_role r x = inl (tt, refl)

pub tells_up_to : (n : ℕ) → Tells plain (λ x. x ≤ n) (up_to n)
tells_up_to n = tells_plain (λ x. x ≤ n) (λ x. leb x n) (λ x e. leb-true x n e) (λ x h. le-leb x n h)

tells_tag : (a b : ℕ) → Tells plain (λ x. (a ≤ x) × (x ≤ b)) (tag a b)
tells_tag a b = tells_plain (λ x. (a ≤ x) × (x ≤ b)) (λ x. leb a x && leb x b)
    (λ x e. let p = and_split (leb a x) (leb x b) e in (leb-true a x p.0, leb-true x b p.1)) (λ x h. and_join (le-leb a x h.0) (le-leb x b h.1))

tells_opcode : Tells plain (λ x. (0 < x) × (x ≤ 13)) opcode
tells_opcode = tells_plain (λ x. (0 < x) × (x ≤ 13)) (λ x. ltb 0 x && leb x 13)
    (λ x e. let p = and_split (ltb 0 x) (leb x 13) e in (ltb-true 0 x p.0, leb-true x 13 p.1)) (λ x h. and_join (lt-ltb 0 x h.0) (le-leb x 13 h.1))

tells_tagged : (z : Sizes) (t : ℕ) → Tells (tag_role z t) Any (tagged z t)
tells_tagged z zero x = inl (tt, refl)
tells_tagged z (suc zero) x = inl (tt, refl)
tells_tagged z (suc (suc zero)) x = inl (tt, refl)
tells_tagged z (suc (suc (suc zero))) x = inl (tt, refl)
tells_tagged z (suc (suc (suc (suc t)))) x = inl (tt, refl)

module _ (w : List ℕ) (end : ℕ) where
  -- the word that stands there
  pub one_of_lem : (at x : ℕ) (r : Role) (P : ℕ → Type 0) → get_or w at 0 ≡ x → P x → One w end at r P (record { word = x; role = r } ∷ [])
  one_of_lem at x r P e p = (subst P (sym e) p, ap (λ (y : ℕ). record { word = y; role = r } ∷ []) (sym e))

  -- ## So many, one after the other

  module _ (one : Scan → Scan) (F : List Word → Type 0) (stays : one bad ≡ bad) (parses : (at p q : ℕ) → at ≤ end → Parse w end F at p q (one (good at p q))) where
    times_none : (ms : List Word) → Times F zero ms → ms ≡ []
    times_none ms grammar.Times.none = refl

    times_more : (n : ℕ) (ks : List Word) → Times F (suc n) ks → Then w end (Times F n) (λ _. F) ks
    times_more n ks (grammar.Times.more {ms = ms} {ns = ns} a b) = (ms, ns, a, b, refl)

    again : (s : Scan) → s ▹ one ≡ one s
    again bad = sym stays
    again (good at p q) = refl

    pub parse_times : (n at p q : ℕ) → at ≤ end → Parse w end (Times F n) at p q (iter (λ _. one) n (good at p q))
    parse_times zero at p q h =
        parse_map w end (λ ms. ms ≡ []) (Times F zero) at p q (good at p q) (λ ms v. subst (Times F zero) (sym v.0) grammar.Times.none) (λ ms v. times_none ms v.0) (parse_none w end at p q h)
    parse_times (suc n) at p q h =
        let s : Scan = iter (λ _. one) n (good at p q) in
        subst (Parse w end (Times F (suc n)) at p q) (again s)
        (parse_map w end (Then w end (Times F n) (λ _. F)) (Times F (suc n)) at p q (s ▹ one)
        (λ ks v. subst (Times F (suc n)) (sym v.0.4) (grammar.Times.more v.0.2 v.0.3)) (λ ks v. times_more n ks v.0)
        (parse_then w end (Times F n) (λ _. F) one at p q s (parse_times n at p q h) (λ ms p' q' v. parses (at + length ms) p' q' v.2)))

    -- a count, then so many
    pub parse_count : (most at p q : ℕ) → Parse w end (Counted most F) at p q (list end w most one (good at p q))
    parse_count most at p q =
        parse_map w end (Then w end (One w end at plain (λ x. x ≤ most)) (λ _. Times F (get_or w at 0))) (Counted most F) at p q (list end w most one (good at p q))
        (λ ks v. (get_or w at 0, v.0.1, v.0.2.0, v.0.3, v.0.4 ∙ ap (λ (x : List Word). x ++ v.0.1) v.0.2.1))
        back
        (parse_then w end (One w end at plain (λ x. x ≤ most)) (λ _. Times F (get_or w at 0)) (iter (λ _. one) (get_or w at 0)) at p q (word end w (up_to most) (good at p q))
        (parse_word w end plain (λ x. x ≤ most) (up_to most) (tells_up_to most) at p q) (λ ms p' q' v. parse_times (get_or w at 0) (at + length ms) p' q' v.2))
      where
        back : (ks : List Word) → Fits w end (Counted most F) at ks → Then w end (One w end at plain (λ x. x ≤ most)) (λ _. Times F (get_or w at 0)) ks
        back ks v =
            let e = v.0.4 in
            let s = subst (Stands w at) e v.1 in
            (plainly v.0.0 ∷ [], v.0.1, one_of_lem at v.0.0 plain (λ x. x ≤ most) s.0 v.0.2, subst (λ (n : ℕ). Times F n v.0.1) (sym s.0) v.0.3, e)

  -- ## Entries, fields, instructions

  module _ (z : Sizes) where
    pub parse_pair : (a b at p q : ℕ) → Parse w end (Pair z a b) at p q (pair end w z a b (good at p q))
    unfolding pair
    parse_pair a b at p q =
        parse_map w end (Then w end F G) (Pair z a b) at p q (word end w (tag a b) (good at p q) ▹ word end w (tagged z (get_or w at 0))) there back
        (parse_then w end F G (word end w (tagged z (get_or w at 0))) at p q (word end w (tag a b) (good at p q))
        (parse_word w end plain (λ x. (a ≤ x) × (x ≤ b)) (tag a b) (tells_tag a b) at p q)
        (λ ms p' q' v. parse_word w end (tag_role z (get_or w at 0)) Any (tagged z (get_or w at 0)) (tells_tagged z (get_or w at 0)) (at + length ms) p' q'))
      where
        F : List Word → Type 0
        F = One w end at plain (λ x. (a ≤ x) × (x ≤ b))

        G : List Word → List Word → Type 0
        G ms = One w end (at + length ms) (tag_role z (get_or w at 0)) Any

        there : (ks : List Word) → Fits w end (Then w end F G) at ks → Pair z a b ks
        there ks v =
            let e : ks ≡ plainly (get_or w at 0) ∷ record { word = get_or w (at + length v.0.0) 0; role = tag_role z (get_or w at 0) } ∷ [] = v.0.4 ∙ ap (λ (x : List Word). x ++ v.0.1) v.0.2.1 ∙ ap (λ (y : List Word). plainly (get_or w at 0) ∷ y) v.0.3.1 in
            subst (Pair z a b) (sym e) (grammar.Pair.pair (get_or w at 0) (get_or w (at + length v.0.0) 0) v.0.2.0.0 v.0.2.0.1)

        back : (ks : List Word) → Fits w end (Pair z a b) at ks → Then w end F G ks
        back ks (grammar.Pair.pair t x l h, s, inside) = (
          plainly t ∷ [],
          record { word = x; role = tag_role z t } ∷ [],
          one_of_lem at t plain (λ x. (a ≤ x) × (x ≤ b)) s.0 (l, h),
          subst (λ (u : ℕ). One w end (at + 1) (tag_role z u) Any (record { word = x; role = tag_role z t } ∷ [])) (sym s.0) (one_of_lem (at + 1) x (tag_role z t) Any s.1.0 tt),
          refl,
        )

    parse_list : (a b at p q : ℕ) → Parse w end (Listed z (Pair z a b)) at p q (list end w 16 (pair end w z a b) (good at p q))
    unfolding pair step
    parse_list a b at p q =
        parse_map w end (Counted 16 (Pair z a b)) (Listed z (Pair z a b)) at p q (list end w 16 (pair end w z a b) (good at p q))
        (λ ks v. subst (Listed z (Pair z a b)) (sym v.0.4) (listed v.0.0 v.0.1 v.0.2 v.0.3)) (λ ks v. back ks v.0)
        (parse_count (pair end w z a b) (Pair z a b) refl (λ at p q h. parse_pair a b at p q) 16 at p q)
      where
        back : (ks : List Word) → Listed z (Pair z a b) ks → Counted 16 (Pair z a b) ks
        back ks (listed n ms h t) = (n, ms, h, t, refl)

    -- a field of one number
    parse_number : (r : Role) (d : ℕ → Draw) → Tells r Any d → (at p q : ℕ) → Parse w end (λ ms. (x : ℕ) × (ms ≡ record { word = x; role = r } ∷ [])) at p q (word end w d (good at p q))
    parse_number r d tells at p q =
        parse_map w end (One w end at r Any) (λ ms. (x : ℕ) × (ms ≡ record { word = x; role = r } ∷ [])) at p q (word end w d (good at p q))
        (λ ms v. (get_or w at 0, v.0.1)) (λ ms v. (tt, v.0.1 ∙ ap (λ (y : ℕ). record { word = y; role = r } ∷ []) (sym (subst (Stands w at) v.0.1 v.1).0)))
        (parse_word w end r Any d tells at p q)

    pub parse_field : (f : Field) (at p q : ℕ) → Parse w end (FieldForm z f) at p q (field end w z f (good at p q))
    unfolding field
    parse_field table = parse_number (one_of z.tables) (below z.tables) (tells_role (one_of z.tables))
    parse_field counter = parse_number (one_of z.counters) (below z.counters) (tells_role (one_of z.counters))
    parse_field function = parse_number (one_of function_count) (below function_count) (tells_role (one_of function_count))
    parse_field dst = parse_number (one_of 32) (below 32) (tells_role (one_of 32))
    parse_field column = parse_number plain any_word (tells_role plain)
    parse_field divider = parse_number plain any_word (tells_role plain)
    parse_field entry = parse_pair 0 1
    parse_field entries = parse_list 0 1
    parse_field writes = parse_list 0 3

    walk_then : (fs : List Field) (s : Scan) → s ▹ walk end w z fs ≡ walk end w z fs s
    walk_then fs bad = sym (walk_bad z w end fs)
    walk_then fs (good at p q) = refl

    parse_fields : (fs : List Field) (at p q : ℕ) → at ≤ end → Parse w end (FieldsForm z fs) at p q (walk end w z fs (good at p q))
    unfolding walk
    parse_fields [] at p q h = parse_map w end (λ ms. ms ≡ []) (FieldsForm z []) at p q (good at p q) (λ ms v. subst (FieldsForm z []) (sym v.0) grammar.FieldsForm.none) (λ ms v. back ms v.0) (parse_none w end at p q h)
      where
        back : (ms : List Word) → FieldsForm z [] ms → ms ≡ []
        back ms grammar.FieldsForm.none = refl
    parse_fields (f ∷ fs) at p q h =
        subst (Parse w end (FieldsForm z (f ∷ fs)) at p q) (walk_then fs (field end w z f (good at p q)))
        (parse_map w end (Then w end (FieldForm z f) (λ _. FieldsForm z fs)) (FieldsForm z (f ∷ fs)) at p q (field end w z f (good at p q) ▹ walk end w z fs)
        (λ ks v. subst (FieldsForm z (f ∷ fs)) (sym v.0.4) (grammar.FieldsForm.more v.0.0 v.0.1 v.0.2 v.0.3)) (λ ks v. back ks v.0)
        (parse_then w end (FieldForm z f) (λ _. FieldsForm z fs) (walk end w z fs) at p q (field end w z f (good at p q)) (parse_field f at p q) (λ ms p' q' v. parse_fields fs (at + length ms) p' q' v.2)))
      where
        back : (ks : List Word) → FieldsForm z (f ∷ fs) ks → Then w end (FieldForm z f) (λ _. FieldsForm z fs) ks
        back ks (grammar.FieldsForm.more ms ns a b) = (ms, ns, a, b, refl)

    pub parse_instr : (at p q : ℕ) → Parse w end (InstrForm z) at p q (instr end w z (good at p q))
    unfolding instr
    parse_instr at p q =
        parse_map w end (Then w end F G) (InstrForm z) at p q (word end w opcode (good at p q) ▹ walk end w z (form_of (get_or w at 0)).fields) there back
        (parse_then w end F G (walk end w z (form_of (get_or w at 0)).fields) at p q (word end w opcode (good at p q))
        (parse_word w end plain (λ x. (0 < x) × (x ≤ 13)) opcode tells_opcode at p q)
        (λ ms p' q' v. parse_fields (form_of (get_or w at 0)).fields (at + length ms) p' q' v.2))
      where
        F : List Word → Type 0
        F = One w end at plain (λ x. (0 < x) × (x ≤ 13))

        G : List Word → List Word → Type 0
        G ms = FieldsForm z (form_of (get_or w at 0)).fields

        there : (ks : List Word) → Fits w end (Then w end F G) at ks → InstrForm z ks
        there ks v =
            let e : ks ≡ plainly (get_or w at 0) ∷ v.0.1 = v.0.4 ∙ ap (λ (x : List Word). x ++ v.0.1) v.0.2.1 in
            subst (InstrForm z) (sym e) (grammar.InstrForm.instr (get_or w at 0) v.0.1 v.0.2.0.0 v.0.2.0.1 v.0.3)

        back : (ks : List Word) → Fits w end (InstrForm z) at ks → Then w end F G ks
        back ks (grammar.InstrForm.instr op ms l h fs, s, inside) =
            (plainly op ∷ [], ms, one_of_lem at op plain (λ x. (0 < x) × (x ≤ 13)) s.0 (l, h), subst (λ (u : ℕ). FieldsForm z (form_of u).fields ms) (sym s.0) fs, refl)
