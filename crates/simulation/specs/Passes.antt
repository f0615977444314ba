-- A pass of the plain machine that only reads, against the code's masks and arrays of 256 lanes.
use Prim.Native.Nat.{ℕ, zero, suc, ◌<◌, ◌≤◌}
use Rattle.std.specs.Prelude.{◌≡◌, refl, ◌⊎◌, ◌≢◌, true, ◌&&◌, List, map, length, take, replicate, Option, None, Some}
use Rattle.std.proofs.Common.{sym, ap, ◌∙◌, arith, ext_get_or, get_or-take, length-take-le}
use Rattle.std.proofs.Math.Logic.{inl, inr}
use Rattle.std.proofs.Math.Bool.{Bool, false, ◌||◌}
use Rattle.std.proofs.Math.ListN.{get_or, get_or-map}
use Rattle.std.proofs.lemmas.List.{length-replicate, length-map, get_or-replicate}
use Rattle.model.specs.Basics.{only, tab}
use Rattle.model.specs.Book.Syntax.{stale}
use Rattle.model.specs.Machine.State.{State, going, stuck, lose}
use Rattle.model.specs.Machine.Steps.{is_live, is_none, lanes, missed, wait, clear, or_stale}
use Rattle.model.specs.Laws.Logic.{either}
use Rattle.model.specs.Laws.Lists.{length_tab, get_or_tab}
use Rattle.model.specs.Laws.Passes.{Effect, keeps, loses, gives, Passed, passed_on, Does, live_after, out_after, turns_live, turns_missed, Whole, whole, stuck_stays}
use Rattle.mask.specs.Masks.{padded, both, united, but_not, without}
use Rattle.mask.specs.MaskLaws.{has_both, has_padded, length_padded, is_padded}
use Rattle.lanes.specs.Lanes.{is_some, or_else, answered_lanes, answered_words, kept}
use Rattle.simulation.specs.Turns.{effect, verdict, Answers, Judges, wait_does, lose_does}

-- ## The machine's dst as the code has it

-- stale where nothing was found, and past the lanes
unfoldable pub out_words : List (Option ℕ) → List ℕ
out_words out = tab (λ i. or_stale (get_or out i None)) 256

abbrev pub no_words : List ℕ
no_words = replicate 256 stale

pub out_word : (out : List (Option ℕ)) (i d : ℕ) → i < 256 → get_or (out_words out) i d ≡ or_stale (get_or out i None)
unfolding out_words
out_word out i d h = get_or_tab (λ i. or_stale (get_or out i None)) 256 i d h

pub length_out : (out : List (Option ℕ)) → length (out_words out) ≡ 256
unfolding out_words
length_out out = length_tab (λ i. or_stale (get_or out i None)) 256

is_out : (out : List (Option ℕ)) (words : List ℕ) → length words ≡ 256 → ((i : ℕ) → i < 256 → get_or words i 0 ≡ or_stale (get_or out i None)) → out_words out ≡ words
is_out out words n h = ext_get_or 0 (out_words out) words (length_out out ∙ sym n) (λ i l. let k : i < 256 = omega (arith, length_out out) in out_word out i 0 k ∙ sym (h i k))

-- the words of the lanes
pub out_taken : (out : List (Option ℕ)) → length out ≤ 256 → map or_stale out ≡ take (length out) (out_words out)
out_taken out h =
    let n : length (map or_stale out) ≡ length out = length-map out or_stale in
    ext_get_or stale (map or_stale out) (take (length out) (out_words out)) (n ∙ sym (length-take-le (length out) (out_words out) (omega (arith, length_out out))))
    (λ i l. let k : i < length out = omega arith in get_or-map or_stale out i None ∙ sym (get_or-take (length out) (out_words out) i stale k ∙ out_word out i stale (omega arith)))

-- ## Lane by lane

pub length_both : (f : Bool → Bool → Bool) (a b : List Bool) → length (both f a b) ≡ 256
unfolding both
length_both f a b = length_tab (λ i. f (get_or a i false) (get_or b i false)) 256

module _ (ask : ℕ → Option ℕ) (live : List Bool) where
  pub answered_lane : (i : ℕ) → i < 256 → get_or (answered_lanes ask live) i false ≡ is_some (only (get_or live i false) (ask i))
  unfolding answered_lanes
  answered_lane i h = get_or_tab (λ i. is_some (only (get_or live i false) (ask i))) 256 i false h

  pub length_answered : length (answered_lanes ask live) ≡ 256
  unfolding answered_lanes
  length_answered = length_tab (λ i. is_some (only (get_or live i false) (ask i))) 256

  pub answered_word : (out : List ℕ) (i : ℕ) → i < 256 → get_or (answered_words ask live out) i 0 ≡ or_else (only (get_or live i false) (ask i)) (get_or out i 0)
  unfolding answered_words
  answered_word out i h = get_or_tab (λ i. or_else (only (get_or live i false) (ask i)) (get_or out i 0)) 256 i 0 h

  pub length_words : (out : List ℕ) → length (answered_words ask live out) ≡ 256
  unfolding answered_words
  length_words out = length_tab (λ i. or_else (only (get_or live i false) (ask i)) (get_or out i 0)) 256

module _ (test : ℕ → Bool) (live : List Bool) where
  pub kept_lane : (i : ℕ) → i < 256 → get_or (kept test live) i false ≡ get_or live i false && test i
  unfolding kept
  kept_lane i h = get_or_tab (λ i. get_or live i false && test i) 256 i false h

  pub length_kept : length (kept test live) ≡ 256
  unfolding kept
  length_kept = length_tab (λ i. get_or live i false && test i) 256

-- the lanes of a mask that are asked and get no answer
abbrev pub missed_lanes : (ℕ → Option ℕ) → List Bool → List Bool
missed_lanes ask live = without live (answered_lanes ask live)

-- ## Before and after

-- a batch of at most 256 lanes, and nothing found yet
pub record Start (s : State) : Type 0 where
  pub status : s.status ≡ going
  pub few : length s.live ≤ 256
  pub out : s.out ≡ replicate (length s.live) None

pub start_clear : (s : State) → s.status ≡ going → length s.live ≤ 256 → Start (clear s)
start_clear s e h = record { status = e; few = h; out = refl }

none_yet : (n i : ℕ) → ◌≡◌ {A = Option ℕ} (get_or (replicate n None) i None) None
none_yet zero i = refl
none_yet (suc n) zero = refl
none_yet (suc n) (suc i) = none_yet n i

-- a state after a pass from s: its marks, and what was found for dst. The rest is as it was, but for the trace
pub record Ended (s s' : State) (live : List Bool) (words : List ℕ) : Type 0 where
  pub passed : Passed s s' s'.live s'.out
  pub live_size : length s'.live ≡ length s.live
  pub out_size_lem : length s'.out ≡ length s.live
  pub live_is : padded s'.live ≡ live
  pub words_is : out_words s'.out ≡ words

abbrev pub Ends : State → State → List Bool → List ℕ → Type 0
Ends s s' live words = (s'.status ≡ stuck) ⊎ Ended s s' live words

-- of a pass in which the machine did not get stuck
pub unstuck : (s s' : State) (live : List Bool) (words : List ℕ) → Ends s s' live words → s'.status ≢ stuck → Ended s s' live words
unstuck s s' live words e n = either (λ x. absurd (n x)) (λ p. p) e

-- after a pass that drops no lane: each live lane has its answer, if there is one
pub record Waits (s s' : State) (ask : ℕ → Option ℕ) : Type 0 where
  pub passed : Passed s s' s.live s'.out
  pub out_size_lem : length s'.out ≡ length s.live
  pub out_is : (i : ℕ) → get_or s'.out i None ≡ only (get_or s.live i false) (ask i)

-- the column that is bound to dst
pub dst_is : (s s' : State) (live : List Bool) (words : List ℕ) → length s.live ≤ 256 → Ended s s' live words → map or_stale s'.out ≡ take (length s.live) words
dst_is s s' live words few e = out_taken s'.out (omega (arith, e.out_size_lem)) ∙ rw (e.out_size_lem, e.words_is) refl

-- ## Passes, from what each lane's turn does

-- by lane
module _ (todo : Bool → Option ℕ → Bool) (e : ℕ → Effect) (s s' : State) (few : length s.live ≤ 256) (size : length s.out ≡ length s.live) (p : Whole todo e s s') where
  abbrev mark : ℕ → Bool
  mark i = get_or s.live i false

  abbrev dst : ℕ → Option ℕ
  dst i = get_or s.out i None

  ended : (live : List Bool) (words : List ℕ) → length live ≡ 256 → length words ≡ 256
      → ((i : ℕ) → i < 256 → get_or live i false ≡ live_after (todo (mark i) (dst i)) (e i) (mark i))
      → ((i : ℕ) → i < 256 → get_or words i 0 ≡ or_stale (out_after (todo (mark i) (dst i)) (e i) (dst i))) → Ended s s' live words
  ended live words n m l o = record {
    passed = p.passed;
    live_size = p.live_size;
    out_size_lem = p.out_size_lem ∙ size;
    live_is = sym (is_padded live s'.live (omega (arith, p.live_size)) n (λ i h. l i h ∙ sym (p.live i)));
    words_is = is_out s'.out words m (λ i h. o i h ∙ ap or_stale (sym (p.out i)));
  }

drop_lane : (a : Bool) (o : Option ℕ) → is_some (only a o) ≡ live_after a (effect loses o) a
drop_lane false o = refl
drop_lane true None = refl
drop_lane true (Some x) = refl

drop_word : (a : Bool) (o : Option ℕ) → or_else (only a o) stale ≡ or_stale (out_after a (effect loses o) None)
drop_word false o = refl
drop_word true None = refl
drop_word true (Some x) = refl

default_lane : (a : Bool) (o : Option ℕ) (d : ℕ) → a ≡ live_after a (effect (gives d) o) a
default_lane false o d = refl
default_lane true None d = refl
default_lane true (Some x) d = refl

default_word : (a : Bool) (o : Option ℕ) (d : ℕ) → or_else (only (but_not a (is_some (only a o))) (Some d)) (or_else (only a o) stale) ≡ or_stale (out_after a (effect (gives d) o) None)
default_word false o d = refl
default_word true None d = refl
default_word true (Some x) d = refl

test_lane : (a b : Bool) → a && b ≡ live_after a (verdict b) a
test_lane false b = refl
test_lane true true = refl
test_lane true false = refl

test_out : (a b : Bool) (o : Option ℕ) → out_after a (verdict b) o ≡ o
test_out false b o = refl
test_out true true o = refl
test_out true false o = refl

wait_lane : (a : Bool) (o : Option ℕ) → live_after a (effect keeps o) a ≡ a
wait_lane false o = refl
wait_lane true None = refl
wait_lane true (Some x) = refl

wait_out : (a : Bool) (o : Option ℕ) → out_after a (effect keeps o) None ≡ only a o
wait_out false o = refl
wait_out true None = refl
wait_out true (Some x) = refl

second_lane : (a : Bool) (o o' : Option ℕ) → is_some (only a o) || is_some (only (but_not a (is_some (only a o))) o') ≡ live_after (a && is_none (only a o)) (effect loses o') a
second_lane false o o' = refl
second_lane true None None = refl
second_lane true None (Some x) = refl
second_lane true (Some x) o' = refl

second_word : (a : Bool) (o o' : Option ℕ) → or_else (only (but_not a (is_some (only a o))) o') (or_else (only a o) stale) ≡ or_stale (out_after (a && is_none (only a o)) (effect loses o') (only a o))
second_word false o o' = refl
second_word true None None = refl
second_word true None (Some x) = refl
second_word true (Some x) o' = refl

missed_some : (a : Bool) (o : Option ℕ) → but_not a (is_some (only a o)) ≡ a && is_none (only a o)
missed_some false o = refl
missed_some true None = refl
missed_some true (Some x) = refl

or_else_stale : (o : Option ℕ) → or_else o stale ≡ or_stale o
or_else_stale None = refl
or_else_stale (Some x) = refl

no_word : (i : ℕ) → i < 256 → get_or no_words i 0 ≡ stale
no_word i h = get_or-replicate 256 i stale 0 h

pub missed_stuck : (f : ℕ → State → State) (s : State) → s.status ≡ stuck → missed f s ≡ s
unfolding missed
missed_stuck f s e = stuck_stays _ (λ b o. b && is_none o) turns_missed f (length s.live) s e

module _ (s : State) (start : Start s) where
  abbrev marks : List Bool
  marks = padded s.live

  size : length s.out ≡ length s.live
  size = ap length start.out ∙ length-replicate (length s.live) None

  nothing : (i : ℕ) → get_or s.out i None ≡ None
  nothing i = ap (λ (o : List (Option ℕ)). get_or o i None) start.out ∙ none_yet (length s.live) i

  turns : (f : ℕ → State → State) (e : ℕ → Effect) → ((i : ℕ) (s' : State) → i < 256 → s'.bindings ≡ s.bindings → Does (e i) i s' (f i s')) → ((lanes f s).status ≡ stuck) ⊎ Whole (λ b o. b) e s (lanes f s)
  unfolding lanes
  turns f e does = whole is_live (λ b o. b) turns_live f e s start.status size (λ i s' h same _. does i s' (omega (arith, start.few)) same)

  -- nothing was found before
  first_ended : (f : ℕ → State → State) (e : ℕ → Effect) → ((i : ℕ) (s' : State) → i < 256 → s'.bindings ≡ s.bindings → Does (e i) i s' (f i s'))
      → (live : List Bool) (words : List ℕ) → length live ≡ 256 → length words ≡ 256
      → ((i : ℕ) → i < 256 → get_or live i false ≡ live_after (get_or s.live i false) (e i) (get_or s.live i false))
      → ((i : ℕ) → i < 256 → get_or words i 0 ≡ or_stale (out_after (get_or s.live i false) (e i) None)) → Ends s (lanes f s) live words
  first_ended f e does live words n m l o =
      either inl (λ p. inr (ended (λ b o. b) e s (lanes f s) start.few size p live words n m l (λ i h. o i h ∙ ap (λ (x : Option ℕ). or_stale (out_after (get_or s.live i false) (e i) x)) (sym (nothing i))))) (turns f e does)

  -- a miss drops the lane
  pub drop_pass : (ask : ℕ → Option ℕ) (f : ℕ → (State → State) → State → State) → Answers s.bindings ask f
      → Ends s (lanes (λ i. f i (lose i)) s) (answered_lanes ask marks) (answered_words ask marks no_words)
  drop_pass ask f q =
      first_ended (λ i. f i (lose i)) (λ i. effect loses (ask i)) (λ i s' h same. q i s' (lose i) loses h same (λ s'' _. lose_does i s''))
      (answered_lanes ask marks) (answered_words ask marks no_words) (length_answered ask marks) (length_words ask marks no_words)
      (λ i h. answered_lane ask marks i h ∙ rw (has_padded s.live i) (drop_lane (get_or s.live i false) (ask i)))
      (λ i h. answered_word ask marks no_words i h ∙ rw (has_padded s.live i, no_word i h) (drop_word (get_or s.live i false) (ask i)))

  missed_lane : (ask : ℕ → Option ℕ) (i : ℕ) → i < 256 → get_or (missed_lanes ask marks) i false ≡ but_not (get_or s.live i false) (is_some (only (get_or s.live i false) (ask i)))
  missed_lane ask i h = has_both but_not marks (answered_lanes ask marks) i h ∙ rw (answered_lane ask marks i h, has_padded s.live i) refl

  -- a missed lane was not answered
  pub missed_none : (ask : ℕ → Option ℕ) (i : ℕ) → i < 256 → get_or (missed_lanes ask marks) i false ≡ true → ask i ≡ None
  missed_none ask i h e = by (get_or s.live i false) (ask i) (sym (missed_lane ask i h) ∙ e)
    where
      by : (a : Bool) (o : Option ℕ) → but_not a (is_some (only a o)) ≡ true → o ≡ None
      by true None q = refl
      by true (Some x) q = let z : ◌≡◌ {A = ℕ} 0 1 = cc in absurd (omega arith)
      by false o q = let z : ◌≡◌ {A = ℕ} 0 1 = cc in absurd (omega arith)

  first_word : (ask : ℕ → Option ℕ) (i : ℕ) → i < 256 → get_or (answered_words ask marks no_words) i 0 ≡ or_else (only (get_or s.live i false) (ask i)) stale
  first_word ask i h = answered_word ask marks no_words i h ∙ rw (has_padded s.live i, no_word i h) refl

  -- a miss gives the lane a word of its own
  pub default_pass : (ask : ℕ → Option ℕ) (d : ℕ → ℕ) (f : ℕ → (State → State) → State → State) (g : ℕ → State → State) → Answers s.bindings ask f
      → ((i : ℕ) (s' : State) → i < 256 → s'.bindings ≡ s.bindings → Does (gives (d i)) i s' (g i s'))
      → Ends s (lanes (λ i. f i (g i)) s) marks (answered_words (λ i. Some (d i)) (missed_lanes ask marks) (answered_words ask marks no_words))
  default_pass ask d f g q r =
      first_ended (λ i. f i (g i)) (λ i. effect (gives (d i)) (ask i)) (λ i s' h same. q i s' (g i) (gives (d i)) h same (λ s'' e. r i s'' h e))
      marks (answered_words (λ i. Some (d i)) (missed_lanes ask marks) (answered_words ask marks no_words)) (length_padded s.live start.few) (length_words (λ i. Some (d i)) (missed_lanes ask marks) (answered_words ask marks no_words))
      (λ i h. has_padded s.live i ∙ default_lane (get_or s.live i false) (ask i) (d i))
      (λ i h. answered_word (λ i. Some (d i)) (missed_lanes ask marks) (answered_words ask marks no_words) i h ∙ rw (missed_lane ask i h, first_word ask i h) (default_word (get_or s.live i false) (ask i) (d i)))

  -- a lane that fails drops
  pub test_pass : (test : ℕ → Bool) (f : ℕ → State → State) → Judges s.bindings test f → Ends s (lanes f s) (kept test marks) no_words
  test_pass test f q =
      first_ended f (λ i. verdict (test i)) q (kept test marks) no_words (length_kept test marks) (length-replicate 256 stale)
      (λ i h. kept_lane test marks i h ∙ rw (has_padded s.live i) (test_lane (get_or s.live i false) (test i)))
      (λ i h. no_word i h ∙ ap or_stale (sym (test_out (get_or s.live i false) (test i) None)))

  -- and dst is left as it is
  pub test_same : (test : ℕ → Bool) (f : ℕ → State → State) → Judges s.bindings test f → ((lanes f s).status ≡ stuck) ⊎ ((lanes f s).out ≡ s.out)
  test_same test f q = either inl (λ p. inr (ext_get_or None (lanes f s).out s.out p.out_size_lem (λ i _. p.out i ∙ test_out (get_or s.live i false) (test i) (get_or s.out i None)))) (turns f (λ i. verdict (test i)) q)

  -- a miss leaves the lane as it is
  pub first_pass : (ask : ℕ → Option ℕ) (f : ℕ → (State → State) → State → State) → Answers s.bindings ask f → ((lanes (λ i. f i wait) s).status ≡ stuck) ⊎ Waits s (lanes (λ i. f i wait) s) ask
  first_pass ask f q = either inl (λ p. inr (waits p)) (turns (λ i. f i wait) e (λ i s' h same. q i s' wait keeps h same (λ s'' _. wait_does i s'')))
    where
      e : ℕ → Effect
      e i = effect keeps (ask i)

      s' : State
      s' = lanes (λ i. f i wait) s

      waits : Whole (λ b o. b) e s s' → Waits s s' ask
      waits p = record {
        passed = record { bindings = p.passed.bindings; live_is = ext_get_or false s'.live s.live p.live_size (λ i _. p.live i ∙ wait_lane (get_or s.live i false) (ask i)); out_is = refl; log = p.passed.log; counters = p.passed.counters; changed = p.passed.changed; answers = p.passed.answers; status = p.passed.status };
        out_size_lem = p.out_size_lem ∙ size;
        out_is = λ i. p.out i ∙ ap (λ (o : Option ℕ). out_after (get_or s.live i false) (e i) o) (nothing i) ∙ wait_out (get_or s.live i false) (ask i);
      }

  -- ## After a pass that waits

  module _ (ask : ℕ → Option ℕ) (s₁ : State) (waited : Waits s s₁ ask) where
    -- the code's mask of the lanes that were answered, and its array
    pub waits_found : (i : ℕ) → i < 256 → get_or (answered_lanes ask marks) i false ≡ is_some (get_or s₁.out i None)
    waits_found i h = answered_lane ask marks i h ∙ rw (has_padded s.live i, waited.out_is i) refl

    pub waits_words : out_words s₁.out ≡ answered_words ask marks no_words
    waits_words = is_out s₁.out (answered_words ask marks no_words) (length_words ask marks no_words) (λ i h. first_word ask i h ∙ or_else_stale (only (get_or s.live i false) (ask i)) ∙ ap or_stale (sym (waited.out_is i)))

    -- the lanes that have a turn in the pass over the missed ones
    pub waits_missed : (i : ℕ) → i < 256 → get_or (missed_lanes ask marks) i false ≡ get_or s₁.live i false && is_none (get_or s₁.out i None)
    waits_missed i h = missed_lane ask i h ∙ missed_some (get_or s.live i false) (ask i) ∙ rw (waited.passed.live_is, waited.out_is i) refl

    -- missed lanes ask again, and a second miss drops the lane
    pub second_pass : (ask' : ℕ → Option ℕ) (f : ℕ → (State → State) → State → State) → Answers s.bindings ask' f
        → Ends s (missed (λ i. f i (lose i)) s₁) (united (answered_lanes ask marks) (answered_lanes ask' (missed_lanes ask marks))) (answered_words ask' (missed_lanes ask marks) (answered_words ask marks no_words))
    unfolding missed
    second_pass ask' f q =
        either inl (λ p. inr (on (ended todo e s₁ s₂ few₁ size₁ p live words (length_both ◌||◌ (answered_lanes ask marks) (answered_lanes ask' (missed_lanes ask marks))) (length_words ask' (missed_lanes ask marks) (answered_words ask marks no_words)) lane word)))
        (whole _ todo turns_missed (λ i. f i (lose i)) e s₁ (waited.passed.status ∙ start.status) size₁ (λ i s' h same _. q i s' (lose i) loses (omega (arith, few₁)) (same ∙ waited.passed.bindings) (λ s'' _. lose_does i s'')))
      where
        todo : Bool → Option ℕ → Bool
        todo b o = b && is_none o

        e : ℕ → Effect
        e i = effect loses (ask' i)

        s₂ : State
        s₂ = missed (λ i. f i (lose i)) s₁

        live : List Bool
        live = united (answered_lanes ask marks) (answered_lanes ask' (missed_lanes ask marks))

        words : List ℕ
        words = answered_words ask' (missed_lanes ask marks) (answered_words ask marks no_words)

        few₁ : length s₁.live ≤ 256
        few₁ = rw waited.passed.live_is start.few

        size₁ : length s₁.out ≡ length s₁.live
        size₁ = waited.out_size_lem ∙ ap length (sym waited.passed.live_is)

        a : ℕ → Bool
        a i = get_or s.live i false

        now : (i : ℕ) → (get_or s₁.live i false ≡ a i) × (get_or s₁.out i None ≡ only (a i) (ask i))
        now i = (ap (λ (l : List Bool). get_or l i false) waited.passed.live_is, waited.out_is i)

        lane : (i : ℕ) → i < 256 → get_or live i false ≡ live_after (todo (get_or s₁.live i false) (get_or s₁.out i None)) (e i) (get_or s₁.live i false)
        lane i h = has_both ◌||◌ (answered_lanes ask marks) (answered_lanes ask' (missed_lanes ask marks)) i h ∙ rw (answered_lane ask marks i h, answered_lane ask' (missed_lanes ask marks) i h, missed_lane ask i h, has_padded s.live i, (now i).0, (now i).1) (second_lane (a i) (ask i) (ask' i))

        word : (i : ℕ) → i < 256 → get_or words i 0 ≡ or_stale (out_after (todo (get_or s₁.live i false) (get_or s₁.out i None)) (e i) (get_or s₁.out i None))
        word i h = answered_word ask' (missed_lanes ask marks) (answered_words ask marks no_words) i h ∙ rw (missed_lane ask i h, first_word ask i h, (now i).0, (now i).1) (second_word (a i) (ask i) (ask' i))

        on : Ended s₁ s₂ live words → Ended s s₂ live words
        on p = record {
          passed = passed_on s s₁ s₂ s.live s₂.live s₁.out s₂.out waited.passed p.passed;
          live_size = p.live_size ∙ ap length waited.passed.live_is;
          out_size_lem = p.out_size_lem ∙ ap length waited.passed.live_is;
          live_is = p.live_is;
          words_is = p.words_is;
        }

  -- both passes
  pub fallback_pass : (ask ask' : ℕ → Option ℕ) (f g : ℕ → (State → State) → State → State) → Answers s.bindings ask f → Answers s.bindings ask' g
      → Ends s (missed (λ i. g i (lose i)) (lanes (λ i. f i wait) s)) (united (answered_lanes ask marks) (answered_lanes ask' (missed_lanes ask marks))) (answered_words ask' (missed_lanes ask marks) (answered_words ask marks no_words))
  fallback_pass ask ask' f g q r = either (λ x. inl (ap (λ (t : State). t.status) (missed_stuck (λ i. g i (lose i)) (lanes (λ i. f i wait) s) x) ∙ x)) (λ p. second_pass ask (lanes (λ i. f i wait) s) p ask' g r) (first_pass ask f q)
