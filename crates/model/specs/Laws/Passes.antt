-- What a pass over the lanes leaves, lane by lane, where each lane's turn gives it a dst, drops it, or does neither.
use Rattle.std.specs.Prelude.{ℕ, zero, suc, ◌<◌, ◌≤◌, ◌≡◌, refl, ◌⊎◌, ◌≢◌, Bool, true, false, ◌&&◌, List, ltb, length, get_or, set, Option, None, Some}
use Rattle.std.proofs.Common.{sym, ap, ◌∙◌, inl, inr, arith, length-set, get_or-set_same, get_or-set_other, lt-ltb, le-ltb}
use Rattle.std.proofs.Math.Decide.{dec_lt}
use Rattle.std.proofs.Math.ListN.{get_or-eq_default}
use Rattle.model.specs.Basics.{iter, when}
use Rattle.model.specs.Machine.State.{State, going, stuck}
use Rattle.model.specs.Machine.Steps.{is_live, is_none}
use Rattle.model.specs.Laws.Logic.{either}

pub data Effect : Type 0 where
  keeps loses : Effect
  gives : ℕ → Effect

abbrev pub live_by : Effect → ℕ → List Bool → List Bool
live_by keeps i l = l
live_by loses i l = set l i false
live_by (gives w) i l = l

abbrev pub out_by : Effect → ℕ → List (Option ℕ) → List (Option ℕ)
out_by keeps i o = o
out_by loses i o = o
out_by (gives w) i o = set o i (Some w)

-- the same state but for its live lanes, what was found for dst, and the trace
pub record Passed (s s' : State) (live : List Bool) (out : List (Option ℕ)) : Type 0 where
  pub bindings : s'.bindings ≡ s.bindings
  pub live_is : s'.live ≡ live
  pub out_is : s'.out ≡ out
  pub log : s'.log ≡ s.log
  pub counters : s'.counters ≡ s.counters
  pub changed : s'.changed ≡ s.changed
  pub answers : s'.answers ≡ s.answers
  pub status : s'.status ≡ s.status

pub passed_on : (s s' s'' : State) (live live' : List Bool) (out out' : List (Option ℕ)) → Passed s s' live out → Passed s' s'' live' out' → Passed s s'' live' out'
passed_on s s' s'' live live' out out' p q = record {
  bindings = q.bindings ∙ p.bindings;
  live_is = q.live_is;
  out_is = q.out_is;
  log = q.log ∙ p.log;
  counters = q.counters ∙ p.counters;
  changed = q.changed ∙ p.changed;
  answers = q.answers ∙ p.answers;
  status = q.status ∙ p.status;
}

-- what a lane's turn does, unless the machine is stuck there
abbrev pub Does : Effect → ℕ → State → State → Type 0
Does e i s s' = (s'.status ≡ stuck) ⊎ Passed s s' (live_by e i s.live) (out_by e i s.out)

-- a lane after the pass, if it had a turn
abbrev pub live_after : Bool → Effect → Bool → Bool
live_after false e b = b
live_after true keeps b = b
live_after true loses b = false
live_after true (gives w) b = b

abbrev pub out_after : Bool → Effect → Option ℕ → Option ℕ
out_after false e o = o
out_after true keeps o = o
out_after true loses o = o
out_after true (gives w) o = Some w

-- which lanes have a turn, by the lane's mark and what was found for it
pub record Turns (has : State → ℕ → Bool) (todo : Bool → Option ℕ → Bool) : Type 0 where
  pub on : (s : State) (i : ℕ) → s.status ≡ going → has s i ≡ todo (get_or s.live i false) (get_or s.out i None)
  pub off : (s : State) (i : ℕ) → s.status ≡ stuck → has s i ≡ false
  pub live : (o : Option ℕ) → todo false o ≡ false

pub turns_live : Turns is_live (λ b o. b)
turns_live = record { on = λ s i e. rw e; off = λ s i e. rw e; live = λ o. refl }

pub turns_missed : Turns (λ s i. is_live s i && is_none (get_or s.out i None)) (λ b o. b && is_none o)
turns_missed = record { on = λ s i e. rw e; off = λ s i e. rw e; live = λ o. refl }

-- ## One lane

live_other : (e : Effect) (i j : ℕ) (l : List Bool) → j ≢ i → get_or (live_by e i l) j false ≡ get_or l j false
live_other keeps i j l n = refl
live_other loses i j l n = get_or-set_other l i j false false n
live_other (gives w) i j l n = refl

live_same : (e : Effect) (i : ℕ) (l : List Bool) → i < length l → get_or (live_by e i l) i false ≡ live_after true e (get_or l i false)
live_same keeps i l h = refl
live_same loses i l h = get_or-set_same l i false false h
live_same (gives w) i l h = refl

out_other : (e : Effect) (i j : ℕ) (o : List (Option ℕ)) → j ≢ i → get_or (out_by e i o) j None ≡ get_or o j None
out_other keeps i j o n = refl
out_other loses i j o n = refl
out_other (gives w) i j o n = get_or-set_other o i j (Some w) None n

out_same : (e : Effect) (i : ℕ) (o : List (Option ℕ)) → i < length o → get_or (out_by e i o) i None ≡ out_after true e (get_or o i None)
out_same keeps i o h = refl
out_same loses i o h = refl
out_same (gives w) i o h = get_or-set_same o i (Some w) None h

length_live : (e : Effect) (i : ℕ) (l : List Bool) → length (live_by e i l) ≡ length l
length_live keeps i l = refl
length_live loses i l = length-set l i false
length_live (gives w) i l = refl

length_out : (e : Effect) (i : ℕ) (o : List (Option ℕ)) → length (out_by e i o) ≡ length o
length_out keeps i o = refl
length_out loses i o = refl
length_out (gives w) i o = length-set o i (Some w)

bool_cases : (b : Bool) → (b ≡ true) ⊎ (b ≡ false)
bool_cases true = inl refl
bool_cases false = inr refl

pub eq_or_not : (i j : ℕ) → (j ≡ i) ⊎ (j ≢ i)
eq_or_not i j = elim (dec_lt i j) [ yes p ↦ inr (λ e. omega arith) | no p ↦ elim (dec_lt j i) [ yes q ↦ inr (λ e. omega arith) | no q ↦ inl (omega arith) ] ]

-- ## A pass

-- what a pass leaves of each lane, by its mark and what was found for it before
pub record Whole (todo : Bool → Option ℕ → Bool) (e : ℕ → Effect) (s₀ s : State) : Type 0 where
  pub passed : Passed s₀ s s.live s.out
  pub live_size : length s.live ≡ length s₀.live
  pub out_size_lem : length s.out ≡ length s₀.out
  pub live : (j : ℕ) → get_or s.live j false ≡ live_after (todo (get_or s₀.live j false) (get_or s₀.out j None)) (e j) (get_or s₀.live j false)
  pub out : (j : ℕ) → get_or s.out j None ≡ out_after (todo (get_or s₀.live j false) (get_or s₀.out j None)) (e j) (get_or s₀.out j None)

module _ (has : State → ℕ → Bool) (todo : Bool → Option ℕ → Bool) (q : Turns has todo) (f : ℕ → State → State) (e : ℕ → Effect) (s₀ : State) (run : s₀.status ≡ going) (sizes : length s₀.out ≡ length s₀.live)
    (does : (i : ℕ) (s : State) → i < length s₀.live → s.bindings ≡ s₀.bindings → s.status ≡ going → Does (e i) i s (f i s)) where
  abbrev due : ℕ → Bool
  due j = todo (get_or s₀.live j false) (get_or s₀.out j None)

  -- lane j has had a turn among the first i
  abbrev turned : ℕ → ℕ → Bool
  turned i j = ltb j i && due j

  record Mid (i : ℕ) (s : State) : Type 0 where
    passed : Passed s₀ s s.live s.out
    live_size : length s.live ≡ length s₀.live
    out_size_lem : length s.out ≡ length s₀.out
    live : (j : ℕ) → get_or s.live j false ≡ live_after (turned i j) (e j) (get_or s₀.live j false)
    out : (j : ℕ) → get_or s.out j None ≡ out_after (turned i j) (e j) (get_or s₀.out j None)

  turned_later : (i j : ℕ) → j ≢ i → turned (suc i) j ≡ turned i j
  turned_later i j n = elim (dec_lt j i) [ yes p ↦ rw (lt-ltb j i p, lt-ltb j (suc i) (omega arith)) | no p ↦ rw (le-ltb j i (omega arith), le-ltb j (suc i) (omega arith)) ]

  turned_here : (i : ℕ) → turned i i ≡ false
  turned_here i = rw (le-ltb i i (omega arith))

  turned_now : (i : ℕ) → turned (suc i) i ≡ due i
  turned_now i = rw (lt-ltb i (suc i) (omega arith))

  -- no turn for lane i
  skipped : (i : ℕ) (s : State) → due i ≡ false → Mid i s → Mid (suc i) s
  skipped i s z m =
      record {
        passed = m.passed;
        live_size = m.live_size;
        out_size_lem = m.out_size_lem;
        live = λ j. m.live j ∙ ap (λ (t : Bool). live_after t (e j) (get_or s₀.live j false)) (same j);
        out = λ j. m.out j ∙ ap (λ (t : Bool). out_after t (e j) (get_or s₀.out j None)) (same j);
      }
    where
      same : (j : ℕ) → turned i j ≡ turned (suc i) j
      same j = either (λ p. rw p (turned_here i ∙ sym z ∙ sym (turned_now i))) (λ p. sym (turned_later i j p)) (eq_or_not i j)

  took : (i : ℕ) (s s' : State) → i < length s₀.live → due i ≡ true → Mid i s → Passed s s' (live_by (e i) i s.live) (out_by (e i) i s.out) → Mid (suc i) s'
  took i s s' h z m p =
      record {
        passed = passed_on s₀ s s' s.live s'.live s.out s'.out m.passed (record { bindings = p.bindings; live_is = refl; out_is = refl; log = p.log; counters = p.counters; changed = p.changed; answers = p.answers; status = p.status });
        live_size = ap length p.live_is ∙ length_live (e i) i s.live ∙ m.live_size;
        out_size_lem = ap length p.out_is ∙ length_out (e i) i s.out ∙ m.out_size_lem;
        live = λ j. ap (λ (l : List Bool). get_or l j false) p.live_is ∙ either (live_now j) (λ n. live_other (e i) i j s.live n ∙ m.live j ∙ ap (λ (t : Bool). live_after t (e j) (get_or s₀.live j false)) (sym (turned_later i j n))) (eq_or_not i j);
        out = λ j. ap (λ (l : List (Option ℕ)). get_or l j None) p.out_is ∙ either (out_now j) (λ n. out_other (e i) i j s.out n ∙ m.out j ∙ ap (λ (t : Bool). out_after t (e j) (get_or s₀.out j None)) (sym (turned_later i j n))) (eq_or_not i j);
      }
    where
      live_now : (j : ℕ) → j ≡ i → get_or (live_by (e i) i s.live) j false ≡ live_after (turned (suc i) j) (e j) (get_or s₀.live j false)
      live_now j eq = rw (eq, turned_now i, z) (live_same (e i) i s.live (omega (arith, m.live_size)) ∙ ap (live_after true (e i)) (m.live i ∙ rw (turned_here i)))

      out_now : (j : ℕ) → j ≡ i → get_or (out_by (e i) i s.out) j None ≡ out_after (turned (suc i) j) (e j) (get_or s₀.out j None)
      out_now j eq = rw (eq, turned_now i, z) (out_same (e i) i s.out (omega (arith, m.out_size_lem, sizes)) ∙ ap (out_after true (e i)) (m.out i ∙ rw (turned_here i)))

  abbrev pass : ℕ → State
  pass n = iter (λ i s. when (has s i) (f i) s) n s₀

  mid : (i : ℕ) → i ≤ length s₀.live → ((pass i).status ≡ stuck) ⊎ Mid i (pass i)
  mid zero h = inr (record { passed = record { bindings = refl; live_is = refl; out_is = refl; log = refl; counters = refl; changed = refl; answers = refl; status = refl }; live_size = refl; out_size_lem = refl; live = λ j. rw (le-ltb j 0 (omega arith)); out = λ j. rw (le-ltb j 0 (omega arith)) })
  mid (suc i) h = either (λ x. inl (rw (q.off (pass i) i x) x)) next (mid i (omega arith))
    where
      next : Mid i (pass i) → ((pass (suc i)).status ≡ stuck) ⊎ Mid (suc i) (pass (suc i))
      next m = either turn (λ (z : due i ≡ false). rw (here ∙ z) (inr (skipped i (pass i) z m))) (bool_cases (due i))
        where
          going_on : (pass i).status ≡ going
          going_on = m.passed.status ∙ run

          here : has (pass i) i ≡ due i
          here = q.on (pass i) i going_on ∙ rw (m.live i, m.out i, turned_here i)

          turn : due i ≡ true → ((pass (suc i)).status ≡ stuck) ⊎ Mid (suc i) (pass (suc i))
          turn z = rw (here ∙ z) (either inl (λ p. inr (took i (pass i) (f i (pass i)) (omega arith) z m p)) (does i (pass i) (omega arith) m.passed.bindings going_on))

  all_turned : (j : ℕ) → turned (length s₀.live) j ≡ due j
  all_turned j = elim (dec_lt j (length s₀.live)) [ yes p ↦ rw (lt-ltb j (length s₀.live) p) | no p ↦ rw (le-ltb j (length s₀.live) (omega arith)) (sym (rw (get_or-eq_default s₀.live false {n = j} (omega arith)) (q.live (get_or s₀.out j None)))) ]

  pub whole : ((pass (length s₀.live)).status ≡ stuck) ⊎ Whole todo e s₀ (pass (length s₀.live))
  whole = either inl (λ m. inr (record { passed = m.passed; live_size = m.live_size; out_size_lem = m.out_size_lem; live = λ j. m.live j ∙ rw (all_turned j); out = λ j. m.out j ∙ rw (all_turned j) })) (mid (length s₀.live) (omega arith))

-- ## A machine that is stuck stays so

pub stuck_stays : (has : State → ℕ → Bool) (todo : Bool → Option ℕ → Bool) → Turns has todo → (f : ℕ → State → State) (n : ℕ) (s : State) → s.status ≡ stuck → iter (λ i s'. when (has s' i) (f i) s') n s ≡ s
stuck_stays has todo q f zero s e = refl
stuck_stays has todo q f (suc n) s e = rw (stuck_stays has todo q f n s e, q.off s n e)
