-- What the loops over the log lean on.
use Rattle.std.specs.Prelude.{ℕ, zero, suc, ◌+◌, ◌<◌, ◌≤◌, Bool, List, eqb, leb, get_or}
use Rattle.std.proofs.Math.Path.{◌≡◌, refl, ap}
use Rattle.std.proofs.Math.Bool.{true, false, not, cond}
use native.Mathlib.Omega.{arith}
use borrow.Author.Tests.{eqb-true, leb-true, le-leb, lt-leb}
use Rattle.model.specs.Basics.{iter}
use Rattle.model.specs.Laws.Logic.{and_split}
use Rattle.model.specs.Laws.Iter.{iter_more, iter_stop}
use Rattle.tables.specs.Tables.{info_of}
use Rattle.record_log.specs.declared.Change.TheVariants.{Insert, Remove}
use Rattle.record_log.specs.Walk.{change_by, end_of, Walk, pass, start, walked, is_removal, is_insertion}

-- ## A record's kind

pub removes_is : (kind : ℕ) → change_by kind ≡ Remove → eqb kind 1 ≡ true
removes_is kind = by (eqb kind 1)
  where
    by : (b : Bool) → cond b Remove Insert ≡ Remove → b ≡ true
    by true e = refl
    by false e = absurd (let z : ◌≡◌ {A = ℕ} 0 1 = cc in omega arith)

pub inserts_is : (kind : ℕ) → change_by kind ≡ Insert → eqb kind 1 ≡ false
inserts_is kind = by (eqb kind 1)
  where
    by : (b : Bool) → cond b Remove Insert ≡ Insert → b ≡ false
    by true e = absurd (let z : ◌≡◌ {A = ℕ} 0 1 = cc in omega arith)
    by false e = refl

pub ruleset change_is = (removes_is, inserts_is)

-- ## A record's end

module _ (w log : List ℕ) (p : ℕ) where
  pub end_after : p + 2 ≤ end_of w log p
  unfolding end_of
  end_after = omega arith

  module _ (t : ℕ) where
    pub removal_end : is_removal log t p ≡ true → end_of w log p ≡ p + 2 + (info_of w t).keys
    unfolding end_of
    removal_end e =
        let q = and_split _ _ e in
        rw (eqb-true (get_or log (p + 1) 0) t q.0, q.1)

    pub insertion_end : is_insertion log t p ≡ true → end_of w log p ≡ p + 2 + (info_of w t).width
    unfolding end_of
    insertion_end e =
        let q = and_split _ _ e in
        rw (eqb-true (get_or log (p + 1) 0) t q.0) (by (eqb (get_or log p 0) 1) q.1)
      where
        by : (b : Bool) → not b ≡ true → p + 2 + cond b (info_of w t).keys (info_of w t).width ≡ p + 2 + (info_of w t).width
        by true n = absurd (let z : ◌≡◌ {A = ℕ} 0 1 = cc in omega arith)
        by false n = refl

-- ## The loop

module _ {A : Type 0} (end : ℕ → ℕ) (n : ℕ) (f : ℕ → A → A) (a : A) where
  -- a walk that stands at p and has `now`, after so many records: not more than words
  pub record Reached (p : ℕ) (now : A) : Type 0 where
    pub turns : ℕ
    pub few : turns ≤ p
    pub within : p ≤ n
    pub is : ◌≡◌ {A = Walk A} (record { at = p; state = now }) (iter (pass end n f) turns (start a))

  pub reached_none : Reached 0 a
  reached_none = record { turns = 0; few = omega arith; within = omega arith; is = refl }

  module _ {p : ℕ} {now : A} (r : Reached p now) where
    pub reached_more : {q : ℕ} {next : A} → q ≡ end p → p < q → q ≤ n → next ≡ f p now → Reached q next
    reached_more {q} {next} e h l m = record {
      turns = r.turns + 1;
      few = omega (arith, r.few);
      within = l;
      is = iter_more (pass end n f) r.turns (start a) (record { at = p; state = now }) (record { at = q; state = next }) r.is (rw (← e, le-leb q n l, m));
    }

    -- the record at p does not end within n words
    pub reached_end : {q : ℕ} → q ≡ end p → n < q → now ≡ walked end n f a
    unfolding walked
    reached_end {q} e h = ap (λ (s : Walk A). s.state) (iter_stop (pass end n f) r.turns n (start a) (record { at = p; state = now }) r.is (omega (arith, r.few, r.within)) (λ i. rw (← e, lt-leb q n h)))

-- ## All records

-- two walks over the same records: what holds of both at the start, and is kept by each record that ends within n words
module _ {A B : Type 0} (end : ℕ → ℕ) (n : ℕ) (f : ℕ → A → A) (h : ℕ → B → B) (R : A → B → Type 0) (keeps : (p : ℕ) (x : A) (y : B) → end p ≤ n → R x y → R (f p x) (h p y)) where
  abbrev Both : Walk A → Walk B → Type 0
  Both s u = (s.at ≡ u.at) × R s.state u.state

  both_pass : (i : ℕ) (s : Walk A) (u : Walk B) → Both s u → Both (pass end n f i s) (pass end n h i u)
  both_pass i s u (e, r) = rw (← e) (by (leb (end s.at) n) refl)
    where
      by : (b : Bool) → leb (end s.at) n ≡ b → Both (cond b (record { at = end s.at; state = f s.at s.state }) s) (cond b (record { at = end s.at; state = h s.at u.state }) (record { at = s.at; state = u.state }))
      by true l = (refl, keeps s.at s.state u.state (leb-true (end s.at) n l) r)
      by false l = (refl, r)

  both_turns : (k : ℕ) (a : A) (b : B) → R a b → Both (iter (pass end n f) k (start a)) (iter (pass end n h) k (start b))
  both_turns zero a b r = (refl, r)
  both_turns (suc k) a b r = both_pass k (iter (pass end n f) k (start a)) (iter (pass end n h) k (start b)) (both_turns k a b r)

  pub walked_both : (a : A) (b : B) → R a b → R (walked end n f a) (walked end n h b)
  unfolding walked
  walked_both a b r = (both_turns n a b r).1

-- the same of one
pub walked_keeps : {A : Type 0} (end : ℕ → ℕ) (n : ℕ) (f : ℕ → A → A) (P : A → Type 0) → ((p : ℕ) (x : A) → end p ≤ n → P x → P (f p x)) → (a : A) → P a → P (walked end n f a)
walked_keeps end n f P keeps a h = walked_both end n f f (λ x y. P x) (λ p x y l r. keeps p x l r) a a h
