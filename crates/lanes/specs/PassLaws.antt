-- A pass over the lanes goes to the last live one: past it, it would change nothing. It changes the marks of its mask as it goes.
use Rattle.std.specs.Prelude.{ℕ, ◌+◌, ◌≤◌, ◌<◌, ◌≡◌, refl, Bool, true, ◌&&◌, List, length, get_or, set, Option, Some}
use Rattle.std.proofs.Common.{ap, ◌∙◌, arith, length-set}
use Rattle.std.proofs.Math.Bool.{false}
use Rattle.std.proofs.lemmas.List.{set-get_or}
use Rattle.model.specs.Basics.{iter, only, tab}
use Rattle.model.specs.Laws.Iter.{iter_rest}
use Rattle.words.specs.Filled.{filled, filled_none, filled_turn, filled_rest, get_or_filled}
use Rattle.mask.specs.Masks.{end}
use Rattle.mask.specs.MaskLaws.{end_le, end_past}
use Rattle.lanes.specs.Lanes.{is_some, or_else, answered_lanes, answered_words, Fills, kept}

within : (live : List Bool) → length live ≡ 256 → end live ≤ 256
within live whole = rw whole at (end_le live)

-- a state that goes through a turn for each lane, which leaves it where the lane is not live
pub live_turns : (live : List Bool) → length live ≡ 256 → {A : Type 0} (f : ℕ → A → A) (i : ℕ) (s now : A) → now ≡ iter f i s → i ≡ end live → ((k : ℕ) → get_or live k false ≡ false → f k now ≡ now) → now ≡ iter f 256 s
live_turns live whole f i s now e h dead = iter_rest f i 256 s now e (omega (arith, within live whole)) (λ k p. dead k (end_past live k (omega arith)))

-- ## An element for each lane

-- after i lanes: each of them has f of it, in place of what was there
pub record Passed {A : Type 0} (live : List Bool) (f : ℕ → A) (was : List A) (i : ℕ) (cur : List A) : Type 0 where
  pub mask : length live ≡ 256
  pub whole : length was ≡ 256
  pub size : length cur ≡ 256
  pub is : cur ≡ filled f i was

module _ {A : Type 0} (live : List Bool) (f : ℕ → A) (was : List A) where
  pub passed_none : length live ≡ 256 → length was ≡ 256 → Passed live f was 0 was
  passed_none m n = record { mask = m; whole = n; size = n; is = filled_none f was }

  -- the next lane has what was there
  pub passed_next : (i : ℕ) (cur : List A) (d : A) → Passed live f was i cur → get_or cur i d ≡ get_or was i d
  passed_next i cur d p = rw p.is (get_or_filled f i was d)

  pub passed_turn : (i : ℕ) (cur : List A) (v d : A) → Passed live f was i cur → i < 256 → v ≡ f i → Passed live f was (i + 1) (set cur i v)
  passed_turn i cur v d p h e = record { mask = p.mask; whole = p.whole; size = simp length-set p.size; is = filled_turn f i was cur v d p.is e (omega (arith, p.whole)) }

  -- past the last live lane, where each lane that is not live has its element already
  pub passed_all : (i : ℕ) (cur : List A) (d : A) → Passed live f was i cur → i ≡ end live → ((k : ℕ) → get_or live k false ≡ false → get_or was k d ≡ f k) → cur ≡ tab f 256
  passed_all i cur d p h dead =
      p.is ∙ filled_rest f i was d (omega (arith, within live p.mask, p.whole)) (λ k l q. dead k (end_past live k (omega arith))) ∙ ap (tab f) p.whole

-- ## Lanes that are answered: their marks, and an array with their words

module _ (ask : ℕ → Option ℕ) (live : List Bool) (out : List ℕ) where
  abbrev given : ℕ → Option ℕ
  given k = only (get_or live k false) (ask k)

  abbrev mark : ℕ → Bool
  mark k = is_some (given k)

  abbrev word : ℕ → ℕ
  word k = or_else (given k) (get_or out k 0)

  abbrev pub Answered : ℕ → List Bool → List ℕ → Type 0
  Answered i marks words = Passed live mark live i marks × Passed live word out i words

  pub answered_none : length live ≡ 256 → length out ≡ 256 → Answered 0 live out
  answered_none m n = (passed_none live mark live m m, passed_none live word out m n)

  -- a turn: x is what lane i is answered, and b whether it is
  pub answered_turn : (i : ℕ) (marks : List Bool) (words next : List ℕ) (x : Option ℕ) (b : Bool) → Answered i marks words → i < 256 → x ≡ only (get_or marks i false) (ask i)
      → (b ≡ is_some x) × (next ≡ set words i (or_else x (get_or words i 0))) → Answered (i + 1) (set marks i b) next
  answered_turn i marks words next x b a h e p =
      let g : x ≡ given i = e ∙ rw (passed_next live mark live i marks false a.0) in
      (passed_turn live mark live i marks b false a.0 h (p.0 ∙ ap is_some g), rw p.1 (passed_turn live word out i words _ 0 a.1 h (rw (g, passed_next live word out i words 0 a.1))))

  -- a turn in which the lane is answered if it is live, so that its mark stays
  pub answered_still : (i : ℕ) (words : List ℕ) (x y : ℕ) → Answered i live words → i < 256 → ask i ≡ Some x → y ≡ or_else (only (get_or live i false) (Some x)) (get_or words i 0) → Answered (i + 1) live (set words i y)
  answered_still i words x y a h e q = rw (set-get_or live i false) at (answered_turn i live words (set words i y) (only (get_or live i false) (Some x)) (get_or live i false) a h (rw e) (by (get_or live i false), rw q))
    where
      by : (b : Bool) → b ≡ is_some (only b (Some x))
      by true = refl
      by false = refl

  pub answered_all : (i : ℕ) (marks : List Bool) (words : List ℕ) → Answered i marks words → i ≡ end live → Fills ask live out marks words
  unfolding answered_lanes answered_words
  answered_all i marks words a h = (passed_all live mark live i marks false a.0 h (λ k q. q ∙ rw q), passed_all live word out i words 0 a.1 h (λ k q. rw q))

-- ## Lanes that pass a test

module _ (test : ℕ → Bool) (live : List Bool) where
  abbrev passes : ℕ → Bool
  passes k = get_or live k false && test k

  abbrev pub Kept : ℕ → List Bool → Type 0
  Kept i marks = Passed live passes live i marks

  pub kept_none : length live ≡ 256 → Kept 0 live
  kept_none n = passed_none live passes live n n

  pub kept_turn : (i : ℕ) (marks : List Bool) (b : Bool) → Kept i marks → i < 256 → b ≡ get_or marks i false && test i → Kept (i + 1) (set marks i b)
  kept_turn i marks b p h e = passed_turn live passes live i marks b false p h (e ∙ rw (passed_next live passes live i marks false p))

  pub kept_all : (i : ℕ) (marks : List Bool) → Kept i marks → i ≡ end live → marks ≡ kept test live
  unfolding kept
  kept_all i marks p h = passed_all live passes live i marks false p h (λ k q. q ∙ rw q)
