-- The walk over each kind of body agrees with the grammar, and so with what stands in the book.
use Prim.Native.Nat.{ℕ, zero, suc, ◌+◌, ◌*◌, ◌≤◌, ◌<◌}
use mathlib.Core.Path.{◌≡◌, refl, sym, ap, ◌∙◌, subst}
use mathlib.Core.Bool.{Bool, true, false}
use mathlib.Core.List.{List, [], ◌∷◌, ◌++◌, map, append-nil, append_assoc}
use native.Mathlib.Omega.{arith}
use lib.Dec.{eqb, ltb}
use borrow.Author.Tests.{ltb-true, ltb-false, eqb-true, eqb-false}
use lib.ListN.{length, get_or, length-append, length-map}
use Rattle.model.specs.Basics.{iter}
use Rattle.model.specs.Book.Scan.{Draw, Scan, bad, good, ◌▹◌, require, Sizes, any_word, below, up_to, clean, step, finish, left, word, list, block, pair, field, instr, scan_table, scan_counter, scan_rule, scan_batch, scan_prediction, scan}
use Rattle.model.specs.Claims.Grammar as grammar
use Rattle.model.specs.Claims.Grammar.{Role, plain, one_of, kept, Word, plainly, number, datum, Times, Pair, Listed, listed, InstrForm, BodyForm, table_body, counter_body, rule_body, batch_body, prediction_body}
use Rattle.model.proofs.Parses.{Stands, Tells, Fits, Parse, is_bad, parse_map, parse_require, One, parse_word, Then, parse_then}
use Rattle.model.proofs.Layouts.{Counted, Any, tells_role, tells_up_to, parse_times, parse_count, parse_pair, parse_instr}

assoc : (s : Scan) (f g : Scan → Scan) → s ▹ f ▹ g ≡ s ▹ (λ t. f t ▹ g)
assoc bad f g = refl
assoc (good at p q) f g = refl

-- ## Words of data

times_cons : (F : List Word → Type 0) (n : ℕ) (ns ms : List Word) → F ns → Times F n ms → Times F (suc n) (ns ++ ms)
times_cons F zero ns ms f grammar.Times.none = subst (Times F 1) (sym (append-nil ns)) (grammar.Times.more grammar.Times.none f)
times_cons F (suc n) ns ms f (grammar.Times.more {ms = as'} {ns = bs} a b) = subst (Times F (suc (suc n))) (append_assoc ns as' bs) (grammar.Times.more (times_cons F n ns as' f a) b)

abbrev Datum : List Word → Type 0
Datum ms = (x : ℕ) × (ms ≡ datum x ∷ [])

abbrev Data : ℕ → List Word → Type 0
Data n ms = (ws : List ℕ) × (length ws ≡ n) × (ms ≡ map datum ws)

map_snoc : (ws : List ℕ) (x : ℕ) → map datum (ws ++ (x ∷ [])) ≡ map datum ws ++ (datum x ∷ [])
map_snoc [] x = refl
map_snoc (y ∷ ws) x = ap (λ (l : List Word). datum y ∷ l) (map_snoc ws x)

data_of : (n : ℕ) (ms : List Word) → Times Datum n ms → Data n ms
data_of zero ms grammar.Times.none = ([], refl, refl)
data_of (suc n) ms (grammar.Times.more {ms = as'} {ns = bs} a b) =
    let r = data_of n as' a in
    (r.0 ++ (b.0 ∷ []), length-append r.0 (b.0 ∷ []) ∙ omega (arith, r.1), ap (λ (l : List Word). l ++ bs) r.2 ∙ ap (λ (l : List Word). map datum r.0 ++ l) b.1 ∙ sym (map_snoc r.0 b.0))

of_data : (ws : List ℕ) → Times Datum (length ws) (map datum ws)
of_data [] = grammar.Times.none
of_data (x ∷ ws) = times_cons Datum (length ws) (datum x ∷ []) (map datum ws) (x, refl) (of_data ws)

module _ (w : List ℕ) (end : ℕ) where
  parse_datum : (at p q : ℕ) → Parse w end Datum at p q (word end w clean (good at p q))
  parse_datum at p q =
      parse_map w end (One w end at kept Any) Datum at p q (word end w clean (good at p q))
      (λ ms v. (get_or w at 0, v.0.1)) (λ ms v. (tt, v.0.1 ∙ ap (λ (y : ℕ). datum y ∷ []) (sym (subst (Stands w at) v.0.1 v.1).0)))
      (parse_word w end kept Any clean (tells_role kept) at p q)

  parse_data : (n at p q : ℕ) → at ≤ end → Parse w end (Data n) at p q (iter (λ _. word end w clean) n (good at p q))
  unfolding step
  parse_data n at p q h =
      parse_map w end (Times Datum n) (Data n) at p q (iter (λ _. word end w clean) n (good at p q))
      (λ ms v. data_of n ms v.0) (λ ms v. subst (Times Datum n) (sym v.0.2) (subst (λ (k : ℕ). Times Datum k (map datum v.0.0)) v.0.1 (of_data v.0.0)))
      (parse_times w end (word end w clean) Datum refl (λ at p q h. parse_datum at p q) n at p q h)

  -- ## A word and what follows; a condition and what follows; the end

  abbrev Head : ℕ → Role → (ℕ → Type 0) → (List Word → Type 0) → List Word → Type 0
  Head at r P G ks = P (get_or w at 0) × (ns : List Word) × G ns × (ks ≡ record { word = get_or w at 0; role = r } ∷ ns)

  head_of : (at x : ℕ) (r : Role) (P : ℕ → Type 0) (G : List Word → Type 0) (ns : List Word) → get_or w at 0 ≡ x → P x → G ns → Head at r P G (record { word = x; role = r } ∷ ns)
  head_of at x r P G ns e p g = (subst P (sym e) p, ns, g, ap (λ (y : ℕ). record { word = y; role = r } ∷ ns) (sym e))

  parse_head : (r : Role) (P : ℕ → Type 0) (d : ℕ → Draw) → Tells r P d → (G : List Word → Type 0) (g : Scan → Scan) (at p q : ℕ)
      → ((p' q' : ℕ) → P (get_or w at 0) → at + 1 ≤ end → Parse w end G (at + 1) p' q' (g (good (at + 1) p' q'))) → Parse w end (Head at r P G) at p q (word end w d (good at p q) ▹ g)
  parse_head r P d tells G g at p q k =
      parse_map w end (Then w end (One w end at r P) (λ _. G)) (Head at r P G) at p q (word end w d (good at p q) ▹ g)
      (λ ks v. (v.0.2.0, v.0.1, v.0.3, v.0.4 ∙ ap (λ (x : List Word). x ++ v.0.1) v.0.2.1))
      (λ ks v. (record { word = get_or w at 0; role = r } ∷ [], v.0.1, (v.0.0, refl), v.0.2, v.0.3))
      (parse_then w end (One w end at r P) (λ _. G) g at p q (word end w d (good at p q)) (parse_word w end r P d tells at p q) next)
    where
      next : (ms : List Word) (p' q' : ℕ) → Fits w end (One w end at r P) at ms → Parse w end G (at + length ms) p' q' (g (good (at + length ms) p' q'))
      next ms p' q' v =
          let e = v.0.1 in
          let l : length ms ≡ 1 = ap length e in
          subst (λ (x : List Word). Parse w end G (at + length x) p' q' (g (good (at + length x) p' q'))) (sym e) (k p' q' v.0.0 (omega (arith, v.2)))

  parse_guard : (C : Type 0) (b : Bool) → (b ≡ true → C) → (b ≡ false → C → ⊥) → (G : List Word → Type 0) (g : Scan → Scan) (at p q : ℕ)
      → (C → Parse w end G at p q (g (good at p q))) → Parse w end (λ ks. C × G ks) at p q (require b (good at p q) ▹ g)
  parse_guard C true yes' no' G g at p q k = parse_map w end G (λ ks. C × G ks) at p q (g (good at p q)) (λ ms v. (yes' refl, v.0)) (λ ms v. v.0.1) (k (yes' refl))
  parse_guard C false yes' no' G g at p q k = is_bad refl (λ ms v. no' refl v.0.0)

  abbrev pub Ends : ℕ → (List Word → Type 0) → List Word → Type 0
  Ends at F ms = F ms × (at + length ms ≡ end)

  parse_ends : (F : List Word → Type 0) (at p q : ℕ) (s : Scan) → Parse w end F at p q s → Parse w end (Ends at F) at p q (s ▹ finish end)
  unfolding finish
  parse_ends F at p q s r =
      parse_map w end (Then w end F G) (Ends at F) at p q (s ▹ finish end) there back
      (parse_then w end F G (finish end) at p q s r
      (λ ms p' q' v. parse_require w end (at + length ms ≡ end) (eqb (at + length ms) end) (at + length ms) p' q' v.2 (λ e. eqb-true (at + length ms) end e) (λ e. eqb-false (at + length ms) end e)))
    where
      G : List Word → List Word → Type 0
      G ms ns = (at + length ms ≡ end) × (ns ≡ [])

      there : (ks : List Word) → Fits w end (Then w end F G) at ks → Ends at F ks
      there ks v =
          let e : ks ≡ v.0.0 = v.0.4 ∙ ap (λ (x : List Word). v.0.0 ++ x) v.0.3.1 ∙ append-nil v.0.0 in
          subst (Ends at F) (sym e) (v.0.2, v.0.3.0)

      back : (ks : List Word) → Fits w end (Ends at F) at ks → Then w end F G ks
      back ks v = (ks, [], v.0.0, (v.0.1, refl), sym (append-nil ks))

  -- n words of data, which end the body
  parse_block : (n at p q : ℕ) → at ≤ end → Parse w end (Ends at (Data n)) at p q (block end w n (good at p q))
  unfolding left
  parse_block n at p q h =
      parse_map w end (λ ks. (at + n ≡ end) × Data n ks) (Ends at (Data n)) at p q (block end w n (good at p q))
      (λ ks v. (v.0.1, omega (arith, v.0.0, many ks v.0.1))) (λ ks v. (omega (arith, v.0.1, many ks v.0.0), v.0.0))
      (parse_guard (at + n ≡ end) (eqb (at + n) end) (λ e. eqb-true (at + n) end e) (λ e. eqb-false (at + n) end e) (Data n) (iter (λ _. word end w clean) n) at p q (λ c. parse_data n at p q h))
    where
      many : (ks : List Word) → Data n ks → length ks ≡ n
      many ks d = ap length d.2 ∙ length-map d.0 datum ∙ d.1

  -- ## The bodies

  module _ (z : Sizes) (at : ℕ) (h : at ≤ end) where
    abbrev x : ℕ → ℕ
    x p = get_or w p 0

    parse_table : Parse w end (Ends at (BodyForm z 1)) at 0 0 (scan_table end w z at)
    unfolding scan_table
    parse_table =
        subst (Parse w end (Ends at (BodyForm z 1)) at 0 0) (sym nested)
        (parse_map w end H0 (Ends at (BodyForm z 1)) at 0 0 _ there back
        (parse_head plain (λ n. n ≤ 8) (up_to 8) (tells_up_to 8) H1 g1 at 0 0 (λ p1 q1 c1 l1.
        parse_head plain (λ n. n ≤ 8) (up_to 8) (tells_up_to 8) H2 g2 (at + 1) p1 q1 (λ p2 q2 c2 l2.
        parse_guard (0 < x at + x (at + 1)) (ltb 0 (x at + x (at + 1))) (λ e. ltb-true _ _ e) (λ e c. omega (arith, ltb-false 0 (x at + x (at + 1)) e, c)) H3 g3 (at + 1 + 1) p2 q2 (λ c.
        parse_head (one_of 4) Any (below 4) (tells_role (one_of 4)) H4 g4 (at + 1 + 1) p2 q2 (λ p3 q3 c3 l3.
        parse_head plain Any any_word (tells_role plain) H5 (block end w n) (at + 1 + 1 + 1) p3 q3 (λ p4 q4 c4 l4. parse_block n (at + 1 + 1 + 1 + 1) p4 q4 l4)))))))
      where
        n : ℕ
        n = x (at + 3) * (x at + x (at + 1))

        H5 : List Word → Type 0
        H5 = Ends (at + 1 + 1 + 1 + 1) (Data n)

        H4 : List Word → Type 0
        H4 = Head (at + 1 + 1 + 1) plain Any H5

        H3 : List Word → Type 0
        H3 = Head (at + 1 + 1) (one_of 4) Any H4

        H2 : List Word → Type 0
        H2 ks = (0 < x at + x (at + 1)) × H3 ks

        H1 : List Word → Type 0
        H1 = Head (at + 1) plain (λ n. n ≤ 8) H2

        H0 : List Word → Type 0
        H0 = Head at plain (λ n. n ≤ 8) H1

        g4 : Scan → Scan
        g4 s = word end w any_word s ▹ block end w n

        g3 : Scan → Scan
        g3 s = word end w (below 4) s ▹ g4

        g2 : Scan → Scan
        g2 s = require (ltb 0 (x at + x (at + 1))) s ▹ g3

        g1 : Scan → Scan
        g1 s = word end w (up_to 8) s ▹ g2

        s0 : Scan
        s0 = word end w (up_to 8) (good at 0 0)

        nested : s0 ▹ word end w (up_to 8) ▹ require (ltb 0 (x at + x (at + 1))) ▹ word end w (below 4) ▹ word end w any_word ▹ block end w n ≡ s0 ▹ g1
        nested =
            assoc (s0 ▹ word end w (up_to 8) ▹ require (ltb 0 (x at + x (at + 1))) ▹ word end w (below 4)) (word end w any_word) (block end w n)
            ∙ assoc (s0 ▹ word end w (up_to 8) ▹ require (ltb 0 (x at + x (at + 1)))) (word end w (below 4)) g4
            ∙ assoc (s0 ▹ word end w (up_to 8)) (require (ltb 0 (x at + x (at + 1)))) g3
            ∙ assoc s0 (word end w (up_to 8)) g2

        there : (ks : List Word) → Fits w end H0 at ks → Ends at (BodyForm z 1) ks
        there ks v =
            let a = v.0 in
            let b = a.2 in
            let c = b.2.1 in
            let d = c.2 in
            let f = d.2 in
            let e : ks ≡ plainly (x at) ∷ plainly (x (at + 1)) ∷ number 4 (x (at + 1 + 1)) ∷ plainly (x (at + 1 + 1 + 1)) ∷ map datum f.0.0 = cc (a.3, b.3, c.3, d.3, f.0.2) in
            let three : at + 3 ≡ at + 1 + 1 + 1 = omega arith in (
              subst (BodyForm z 1) (sym e) (table_body _ _ _ _ f.0.0 a.0 b.0 b.2.0 (f.0.1 ∙ ap (λ (p : ℕ). x p * (x at + x (at + 1))) three)),
              ap (λ (l : List Word). at + length l) e ∙ omega (arith, f.1, ap (length {A = Word}) f.0.2),
            )

        back : (ks : List Word) → Fits w end (Ends at (BodyForm z 1)) at ks → H0 ks
        back ks ((table_body keys vals merge rows ws a b c d, e), s, inside) =
            let three : at + 1 + 1 + 1 ≡ at + 3 = omega arith in
            let r : x (at + 3) ≡ rows = subst (λ (p : ℕ). x p ≡ rows) three s.1.1.1.0 in
            let m : length ws ≡ n = d ∙ rw (s.0, s.1.0, r) in
            head_of at keys plain (λ n. n ≤ 8) H1 _ s.0 a
            (head_of (at + 1) vals plain (λ n. n ≤ 8) H2 _ s.1.0 b (
              rw (s.0, s.1.0) c,
              head_of (at + 1 + 1) merge (one_of 4) Any H4 _ s.1.1.0 tt
                  (head_of (at + 1 + 1 + 1) rows plain Any H5 _ s.1.1.1.0 tt ((ws, m, refl), omega (arith, e))),
            ))

    parse_counter : Parse w end (Ends at (BodyForm z 2)) at 0 0 (scan_counter end w z at)
    unfolding scan_counter
    parse_counter =
        parse_map w end (Ends at Datum) (Ends at (BodyForm z 2)) at 0 0 _ (λ ks v. (subst (BodyForm z 2) (sym v.0.0.1) (counter_body v.0.0.0), v.0.1)) (λ ks v. back ks v.0)
        (parse_ends Datum at 0 0 (word end w clean (good at 0 0)) (parse_datum at 0 0))
      where
        back : (ks : List Word) → Ends at (BodyForm z 2) ks → Ends at Datum ks
        back ks (counter_body next, e) = ((next, refl), e)

    parse_rule : Parse w end (Ends at (BodyForm z 3)) at 0 0 (scan_rule end w z at)
    unfolding scan_rule instr step
    parse_rule =
        subst (Parse w end (Ends at (BodyForm z 3)) at 0 0) (sym (assoc (word end w (up_to 32) (good at 0 0)) (list end w 64 (instr end w z)) (finish end)))
        (parse_map w end H0 (Ends at (BodyForm z 3)) at 0 0 _ there back
        (parse_head plain (λ n. n ≤ 32) (up_to 32) (tells_up_to 32) (Ends (at + 1) (Counted 64 (InstrForm z))) (λ s. list end w 64 (instr end w z) s ▹ finish end) at 0 0
        (λ p q c l. parse_ends (Counted 64 (InstrForm z)) (at + 1) p q _ (parse_count w end (instr end w z) (InstrForm z) refl (λ at p q h. parse_instr w end z at p q) 64 (at + 1) p q))))
      where
        H0 : List Word → Type 0
        H0 = Head at plain (λ n. n ≤ 32) (Ends (at + 1) (Counted 64 (InstrForm z)))

        there : (ks : List Word) → Fits w end H0 at ks → Ends at (BodyForm z 3) ks
        there ks v =
            let a = v.0 in
            let b = a.2.0 in
            let e : ks ≡ plainly (x at) ∷ plainly b.0 ∷ b.1 = cc (a.3, b.4) in
            (subst (BodyForm z 3) (sym e) (rule_body (x at) b.0 b.1 a.0 b.2 b.3), ap (λ (l : List Word). at + length l) a.3 ∙ omega (arith, a.2.1))

        back : (ks : List Word) → Fits w end (Ends at (BodyForm z 3)) at ks → H0 ks
        back ks ((rule_body v n ms a b t, e), s, inside) = head_of at v plain (λ n. n ≤ 32) (Ends (at + 1) (Counted 64 (InstrForm z))) _ s.0 a ((n, ms, b, t, refl), omega (arith, e))

    parse_batch : Parse w end (Ends at (BodyForm z 4)) at 0 0 (scan_batch end w z at)
    unfolding scan_batch
    parse_batch =
        subst (Parse w end (Ends at (BodyForm z 4)) at 0 0) (sym nested)
        (parse_map w end H0 (Ends at (BodyForm z 4)) at 0 0 _ there back
        (parse_head (one_of z.rules) Any (below z.rules) (tells_role (one_of z.rules)) H1 g1 at 0 0 (λ p1 q1 c1 l1.
        parse_head plain (λ n. n ≤ 256) (up_to 256) (tells_up_to 256) H2 g2 (at + 1) p1 q1 (λ p2 q2 c2 l2.
        parse_head plain (λ n. n ≤ 32) (up_to 32) (tells_up_to 32) H3 (block end w n) (at + 1 + 1) p2 q2 (λ p3 q3 c3 l3. parse_block n (at + 1 + 1 + 1) p3 q3 l3)))))
      where
        n : ℕ
        n = x (at + 2) * x (at + 1)

        H3 : List Word → Type 0
        H3 = Ends (at + 1 + 1 + 1) (Data n)

        H2 : List Word → Type 0
        H2 = Head (at + 1 + 1) plain (λ n. n ≤ 32) H3

        H1 : List Word → Type 0
        H1 = Head (at + 1) plain (λ n. n ≤ 256) H2

        H0 : List Word → Type 0
        H0 = Head at (one_of z.rules) Any H1

        g2 : Scan → Scan
        g2 s = word end w (up_to 32) s ▹ block end w n

        g1 : Scan → Scan
        g1 s = word end w (up_to 256) s ▹ g2

        s0 : Scan
        s0 = word end w (below z.rules) (good at 0 0)

        nested : s0 ▹ word end w (up_to 256) ▹ word end w (up_to 32) ▹ block end w n ≡ s0 ▹ g1
        nested = assoc (s0 ▹ word end w (up_to 256)) (word end w (up_to 32)) (block end w n) ∙ assoc s0 (word end w (up_to 256)) g2

        there : (ks : List Word) → Fits w end H0 at ks → Ends at (BodyForm z 4) ks
        there ks v =
            let a = v.0 in
            let b = a.2 in
            let c = b.2 in
            let f = c.2 in
            let e : ks ≡ number z.rules (x at) ∷ plainly (x (at + 1)) ∷ plainly (x (at + 1 + 1)) ∷ map datum f.0.0 = cc (a.3, b.3, c.3, f.0.2) in
            let two : at + 2 ≡ at + 1 + 1 = omega arith in (
              subst (BodyForm z 4) (sym e) (batch_body _ _ _ f.0.0 b.0 c.0 (f.0.1 ∙ ap (λ (p : ℕ). x p * x (at + 1)) two)),
              ap (λ (l : List Word). at + length l) e ∙ omega (arith, f.1, ap (length {A = Word}) f.0.2),
            )

        back : (ks : List Word) → Fits w end (Ends at (BodyForm z 4)) at ks → H0 ks
        back ks ((batch_body r lanes v ws a b d, e), s, inside) =
            let two : at + 1 + 1 ≡ at + 2 = omega arith in
            let c : x (at + 2) ≡ v = subst (λ (p : ℕ). x p ≡ v) two s.1.1.0 in
            let m : length ws ≡ n = d ∙ rw (s.1.0, c) in
            head_of at r (one_of z.rules) Any H1 _ s.0 tt
            (head_of (at + 1) lanes plain (λ n. n ≤ 256) H2 _ s.1.0 a
            (head_of (at + 1 + 1) v plain (λ n. n ≤ 32) H3 _ s.1.1.0 b ((ws, m, refl), omega (arith, e))))

    parse_prediction : Parse w end (Ends at (BodyForm z 5)) at 0 0 (scan_prediction end w z at)
    unfolding scan_prediction field pair step
    parse_prediction =
        subst (Parse w end (Ends at (BodyForm z 5)) at 0 0) (sym nested)
        (parse_map w end H0 (Ends at (BodyForm z 5)) at 0 0 _ there back
        (parse_head (one_of z.tables) Any (below z.tables) (tells_role (one_of z.tables)) H1 g1 at 0 0 (λ p1 q1 c1 l1.
        parse_then w end (Counted 16 Datum) G g2 (at + 1) p1 q1 (list end w 16 (word end w clean) (good (at + 1) p1 q1))
        (parse_count w end (word end w clean) Datum refl (λ at p q h. parse_datum at p q) 16 (at + 1) p1 q1)
        (λ ms p2 q2 v. parse_ends (Counted 16 (Pair z 1 2)) (at + 1 + length ms) p2 q2 _ (parse_count w end (pair end w z 1 2) (Pair z 1 2) refl (λ at p q h. parse_pair w end z 1 2 at p q) 16 (at + 1 + length ms) p2 q2)))))
      where
        G : List Word → List Word → Type 0
        G ms = Ends (at + 1 + length ms) (Counted 16 (Pair z 1 2))

        H1 : List Word → Type 0
        H1 = Then w end (Counted 16 Datum) G

        H0 : List Word → Type 0
        H0 = Head at (one_of z.tables) Any H1

        g2 : Scan → Scan
        g2 s = list end w 16 (pair end w z 1 2) s ▹ finish end

        g1 : Scan → Scan
        g1 s = list end w 16 (word end w clean) s ▹ g2

        s0 : Scan
        s0 = word end w (below z.tables) (good at 0 0)

        nested : s0 ▹ list end w 16 (word end w clean) ▹ list end w 16 (pair end w z 1 2) ▹ finish end ≡ s0 ▹ g1
        nested = assoc (s0 ▹ list end w 16 (word end w clean)) (list end w 16 (pair end w z 1 2)) (finish end) ∙ assoc s0 (list end w 16 (word end w clean)) g2

        there : (ks : List Word) → Fits w end H0 at ks → Ends at (BodyForm z 5) ks
        there ks v =
            let a = v.0 in
            let b = a.2 in
            let c = b.2 in
            let d = data_of c.0 c.1 c.3 in
            let f = b.3.0 in
            let key : b.0 ≡ plainly c.0 ∷ map datum d.0 = cc (c.4, d.2) in
            let whole : ks ≡ number z.tables (x at) ∷ (b.0 ++ b.1) = cc (a.3, b.4) in
            let e : ks ≡ number z.tables (x at) ∷ plainly c.0 ∷ map datum d.0 ++ b.1 = whole ∙ ap (λ (l : List Word). number z.tables (x at) ∷ (l ++ b.1)) key in (
              subst (BodyForm z 5) (sym e) (prediction_body (x at) c.0 d.0 b.1 c.2 d.1 (subst (Listed z (Pair z 1 2)) (sym f.4) (listed f.0 f.1 f.2 f.3))),
              ap (λ (l : List Word). at + length l) whole ∙ omega (arith, b.3.1, length-append b.0 b.1),
            )

        list_of : (ms : List Word) → Listed z (Pair z 1 2) ms → Counted 16 (Pair z 1 2) ms
        list_of ms (listed m ms' b t) = (m, ms', b, t, refl)

        back : (ks : List Word) → Fits w end (Ends at (BodyForm z 5)) at ks → H0 ks
        back ks ((prediction_body t n key ms a b l, e), s, inside) =
            head_of at t (one_of z.tables) Any H1 _ s.0 tt
            (plainly n ∷ map datum key, ms, (n, map datum key, a, subst (λ (k : ℕ). Times Datum k (map datum key)) b (of_data key), refl), (list_of ms l, omega (arith, e, length-append (map datum key) ms)), refl)

    known : (kind : ℕ) (ms : List Word) → BodyForm z kind ms → (0 < kind) × (kind ≤ 5)
    known kind ms (table_body keys vals merge rows ws a b c d) = (omega arith, omega arith)
    known kind ms (counter_body next) = (omega arith, omega arith)
    known kind ms (rule_body v n ns a b t) = (omega arith, omega arith)
    known kind ms (batch_body r lanes v ws a b d) = (omega arith, omega arith)
    known kind ms (prediction_body t n key ns a b l) = (omega arith, omega arith)

    -- whatever its kind
    pub parse_body : (kind : ℕ) → Parse w end (Ends at (BodyForm z kind)) at 0 0 (scan end w z kind at)
    unfolding scan
    parse_body zero = is_bad refl (λ ks v. let k = known 0 ks v.0.0 in omega arith)
    parse_body (suc zero) = parse_table
    parse_body (suc (suc zero)) = parse_counter
    parse_body (suc (suc (suc zero))) = parse_rule
    parse_body (suc (suc (suc (suc zero)))) = parse_batch
    parse_body (suc (suc (suc (suc (suc zero))))) = parse_prediction
    parse_body (suc (suc (suc (suc (suc (suc kind)))))) = is_bad refl (λ ks v. let k = known (suc (suc (suc (suc (suc (suc kind)))))) ks v.0.0 in omega arith)
