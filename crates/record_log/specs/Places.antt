-- The iterator over the places of the log's records, and what the loops over it lean on.
use Rattle.std.specs.Prelude.{ℕ, ◌<◌, ◌≤◌, ◌≡◌, refl, List, length, Option, None, Some, MatchOption}
use Rattle.std.proofs.Common.{◌∙◌, arith}
use Rattle.record_log.specs.Walk.{end_of, walked}
use Rattle.record_log.specs.WalkLaws.{Reached, reached_none, reached_more, reached_end, end_after}
use Rattle.record_log.specs.declared.places.Places.{Places}

-- it gives the word at which the next record begins, if that ends within the log
pub record GivesPlace (s : Places) (r : Option ℕ) (t : Places) : Type 0 where
  pub words : t.words.now ≡ s.words.now
  pub of_log : t.log.now ≡ s.log.now
  pub gives : MatchOption r (length s.log.now < end_of s.words.now s.log.now s.at) (λ p. (p ≡ s.at) × (t.at ≡ end_of s.words.now s.log.now s.at) × (t.at ≤ length s.log.now))

module _ {A : Type 0} (w log : List ℕ) (f : ℕ → A → A) (a : A) where
  -- a loop over it that has come so far in a walk
  pub record Walks (s : Places) (now : A) : Type 0 where
    pub words : s.words.now ≡ w
    pub of_log : s.log.now ≡ log
    pub reached : Reached (end_of w log) (length log) f a s.at now

  pub walks_none : {s : Places} → s.words.now ≡ w → s.log.now ≡ log → s.at ≡ 0 → Walks s a
  walks_none e h z = record { words = e; of_log = h; reached = rw z (reached_none _ _ _ _) }

module _ {A : Type 0} {w log : List ℕ} {f : ℕ → A → A} {a : A} {s : Places} {now : A} (l : Walks w log f a s now) {t : Places} where
  -- the record ends where the next begins
  pub record_end : {p : ℕ} → GivesPlace s (Some p) t → (t.at ≡ end_of w log p) × (end_of w log p ≤ length log)
  record_end g = rw (g.gives.0, ← l.words, ← l.of_log) (g.gives.1, rw g.gives.1 at g.gives.2)

  pub walks_more : {p : ℕ} {next : A} → GivesPlace s (Some p) t → next ≡ f p now → Walks w log f a t next
  walks_more g m = record {
    words = g.words ∙ l.words;
    of_log = g.of_log ∙ l.of_log;
    reached =
        let q = rw (l.words, l.of_log) at g.gives.1 in
        reached_more (end_of w log) (length log) f a l.reached q (omega (arith, end_after w log s.at)) (rw (← l.of_log) g.gives.2) (rw (← g.gives.0) m);
  }

  pub walks_end : GivesPlace s None t → now ≡ walked (end_of w log) (length log) f a
  walks_end g = reached_end (end_of w log) (length log) f a l.reached refl (rw (l.words, l.of_log) at g.gives)
