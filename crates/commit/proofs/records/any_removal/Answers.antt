-- The records before the first removal leave the walk at false (`passed`), and from it on it stays at true (`stays`).
use Prim.Native.Nat.{ℕ, zero, suc, ◌≤◌}
use mathlib.Core.Path.{◌≡◌, refl, sym, ◌∙◌, subst}
use mathlib.Core.Bool.{Bool, true, false}
use mathlib.Core.List.{List, [], ◌∷◌}
use native.Mathlib.Omega.{arith}
use lib.Dec.{eqb, leb}
use lib.ListN.{length, get_or}
use denote.Param.Members.{Mut}
use borrow.Author.Rules.{rules}
use Rattle.std.proofs.Common.{cond, Option, None, Some, MatchOption}
use Rattle.std.proofs.Math.Decide.{dec_lt}
use Rattle.std.specs.Fn.{Called}
use Rattle.std.specs.Iterator.{Yields, YieldsThen}
use Rattle.std.specs.List.{FoldsTo}
use Rattle.model.specs.Basics.{iter}
use Rattle.record_log.specs.Walk.{end_of, Walk, pass, start, walked}
use Rattle.record_log.specs.declared.places.Places.{Places}
use Rattle.commit.specs.Walk.{removal_turn, any_removal}
use Rattle.record_log.specs.Places.{GivesPlace, Walks, walks_none, walks_more, walks_end}
use Rattle.commit.proofs.records.any_removal.Goals as goal

module _ (w log : List ℕ) where
  abbrev At : Places → Bool → Type 0
  At = Walks w log (removal_turn log) false

  abbrev turn : ℕ → Walk Bool → Walk Bool
  turn = pass (end_of w log) (length log) (removal_turn log)

  turn_stays : (i : ℕ) (s : Walk Bool) → s.state ≡ true → (turn i s).state ≡ true
  turn_stays i s e = by (leb (end_of w log s.at) (length log))
    where
      by : (b : Bool) → (cond b (record { at = end_of w log s.at; state = removal_turn log s.at s.state }) s).state ≡ true
      by true = rw e refl
      by false = e

  turns_stay : (k n : ℕ) (s : Walk Bool) → k ≤ n → (iter turn k s).state ≡ true → (iter turn n s).state ≡ true
  turns_stay k zero s h e = let z : k ≡ 0 = omega arith in rw z at e
  turns_stay k (suc n) s h e = elim (dec_lt n k) [ yes l ↦ let z : k ≡ suc n = omega arith in rw z at e | no l ↦ turn_stays n _ (turns_stay k n s (omega arith) e) ]

  stays : {s : Places} → At s true → true ≡ walked (end_of w log) (length log) (removal_turn log) false
  unfolding walked
  stays l = sym (turns_stay l.reached.turns (length log) (start false) (omega (arith, l.reached.few, l.reached.within)) (rw (← l.reached.is) refl))

  module _ {F : Type 0} (g : Mut F (ℕ × Unit {0}) Bool) (f : F) (test : (x : ℕ) (b : Bool) (q : F) → Called g f (x, tt) b q → (q ≡ f) × (b ≡ eqb (get_or log x 0) 1)) where
    passed : (xs : List ℕ) (s t : Places) (j : F) → At s false → Yields GivesPlace s xs t → FoldsTo (λ p x q. Called g p (x, tt) false q) f xs j → At t false × (j ≡ f)
    passed [] s t j l e h = (subst (λ (x : Places). At x false) e l, sym h)
    passed (x ∷ xs) s t j l (k, y, ys) (q, m, ms) =
        let e = test x false q m in
        passed xs k t j (walks_more l y e.1) ys (subst (λ (p : F). FoldsTo (λ p x q. Called g p (x, tt) false q) p xs j) e.0 ms)

    answer : (s u : Places) (r : Bool) → At s false → (xs : List ℕ) × (o : Option ℕ) × (j : F) × YieldsThen GivesPlace s xs o u × FoldsTo (λ p x q. Called g p (x, tt) false q) f xs j × MatchOption o (r ≡ false) (λ x. (r ≡ true) × ((h : F) × Called g j (x, tt) true h)) → r ≡ walked (end_of w log) (length log) (removal_turn log) false
    answer s u r l (xs, None, j, (t, y, e), m, z) = z ∙ walks_end (passed xs s t j l y m).0 e
    answer s u r l (xs, Some x, j, (t, y, e), m, (z, (h, k))) =
        let p = passed xs s t j l y m in
        z ∙ stays (walks_more p.0 e (test x true h (subst (λ (i : F). Called g i (x, tt) true h) p.1 k)).1)

pub returns : goal.returns
unfolding any_removal
returns c = answer c.args.words.now c.args.log.now _ _ (λ x b q k. search rules) c.of.result _ c.any.result (walks_none _ _ _ _ c.of.ensures.words c.of.ensures.log c.of.ensures.at) c.any.ensures.ran
