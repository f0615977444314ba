-- What a call puts into the answer, one word after the other.
use Rattle.std.specs.Prelude.{ℕ, ◌+◌, ◌<◌, ◌≤◌, ◌≡◌, List, [], ◌++◌, length}
use Rattle.std.proofs.Math.Path.{refl}
use Rattle.std.proofs.Common.{sym, ap, subst, ◌∙◌, add-one, arith, length-append}
use Rattle.std.proofs.lemmas.List.Edits.{sets}
use Rattle.std.proofs.Math.Seq.{length-sets}
use Rattle.std.proofs.lemmas.Slice.{put_mid-paste}
use borrow.Rule.Slice.PartMut.{put_mid}
use Rattle.step_bodies.specs.Runs.{runs, runs_none, runs_suc, runs_fits, sets_append, paste_sets}
use Rattle.step_bodies.specs.Steps.{placed}
use Rattle.step_bodies.specs.StepLaws.{placed_fits, placed_not, length_placed}
use Rattle.step_bodies.specs.declared.page.Page.{Page}

-- n words more have room
abbrev pub Room : Page → ℕ → Type 0
Room p n = p.at + n ≤ length p.words.now

-- a call leaves the same words lent, and as many, whatever it puts there
pub record SamePage (p q : Page) : Type 0 where
  pub words : q.words.ghost_name ≡ p.words.ghost_name
  pub size : length q.words.now ≡ length p.words.now

-- q has the words ws from p's place on, in the same words lent
pub record Appends (p q : Page) (ws : List ℕ) : Type 0 where
  pub same_words : q.words.ghost_name ≡ p.words.ghost_name
  pub words : q.words.now ≡ sets p.words.now p.at ws
  pub at : q.at ≡ p.at + length ws

-- the same, where they fit whole; else no word is written, but all are counted
pub record Places (p q : Page) (ws : List ℕ) : Type 0 where
  pub same_words : q.words.ghost_name ≡ p.words.ghost_name
  pub words : q.words.now ≡ placed ws p.at p.words.now
  pub at : q.at ≡ p.at + length ws

module _ {p q : Page} {ws : List ℕ} where
  -- as many words are lent as before
  pub appends_size : Appends p q ws → length q.words.now ≡ length p.words.now
  appends_size h = ap length h.words ∙ length-sets p.words.now p.at ws

  pub appends_same : Appends p q ws → SamePage p q
  appends_same h = record { words = h.same_words; size = appends_size h }

  pub places_same : Places p q ws → SamePage p q
  places_same h = record { words = h.same_words; size = ap length h.words ∙ length_placed ws p.at p.words.now }

  pub appends_is : {vs : List ℕ} → ws ≡ vs → Appends p q ws → Appends p q vs
  appends_is e h = subst (λ (l : List ℕ). Appends p q l) e h

  pub places_fit : Room p (length ws) → Appends p q ws → Places p q ws
  places_fit r h = record { same_words = h.same_words; words = h.words ∙ placed_fits ws p.at p.words.now r; at = h.at }

-- what has no room is counted
pub places_out : {p : Page} {ws : List ℕ} {n : ℕ} → n ≡ p.at + length ws → length p.words.now < n → Places p (record { words = p.words; at = n }) ws
places_out {p} {ws} e h = record { same_words = refl; words = placed_not ws p.at p.words.now (rw (← e) h); at = e }

-- the room that is left
pub room_left : {p q : Page} {ws : List ℕ} (n : ℕ) → Room p (length ws + n) → Appends p q ws → Room q n
room_left n r h = omega (arith, h.at, appends_size h)

-- the words xs, stored in the n words from p's place on
pub stored : (p : Page) (xs : List ℕ) (n k : ℕ) → n ≡ k → n ≡ length xs → Room p n → put_mid p.at k p.words.now xs ≡ sets p.words.now p.at xs
stored p xs n k e f r = put_mid-paste p.at k p.words.now xs xs n refl e f ∙ rw f (paste_sets p.words.now p.at xs (omega arith))

pub appends_none : (p : Page) → Appends p p []
appends_none p = record { same_words = refl; words = refl; at = omega arith }

pub appends_more : {p q r : Page} {a b : List ℕ} → Appends p q a → Appends q r b → Appends p r (a ++ b)
appends_more {p} {q} {r} {a} {b} h k = record {
  same_words = k.same_words ∙ h.same_words;
  words = k.words ∙ ap (λ (l : List ℕ). sets l q.at b) h.words ∙ ap (λ (i : ℕ). sets (sets p.words.now p.at a) i b) h.at ∙ sets_append a b p.words.now p.at;
  at = omega (arith, h.at, k.at, length-append a b);
}

-- ## A loop that puts f i at its turn i

module _ (f : ℕ → List ℕ) where
  pub runs_start : (p : Page) → Appends p p (runs f 0)
  runs_start p = appends_is (sym (runs_none f)) (appends_none p)

  pub runs_turn : {p q r : Page} {i : ℕ} → Appends p q (runs f i) → Appends q r (f i) → Appends p r (runs f (i + 1))
  runs_turn {i = i} h k = rw add-one (appends_is (sym (runs_suc f i)) (appends_more h k))

  pub runs_room : {p q : Page} {i n : ℕ} → i < n → Room p (length (runs f n)) → Appends p q (runs f i) → Room q (length (f i))
  runs_room {i = i} {n} l r h = omega (arith, h.at, appends_size h, runs_fits f i n l)
