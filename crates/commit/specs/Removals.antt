-- The model's removals keep the rows that no removal names, and these are the rows that the code keeps.
use Rattle.std.specs.Prelude.{ℕ, zero, suc, ◌+◌, ◌<◌, ◌≡◌, refl, Bool, true, ◌&&◌, ◌||◌, not, List, [], ◌∷◌, ◌++◌, eqb, length, take, Option, None, Some, slice_get}
use Rattle.std.proofs.Common.{sym, ap, ◌∙◌, eqb-true}
use Rattle.std.proofs.Math.Bool.{false}
use Rattle.model.specs.Basics.{iter, when, found, eq_list, keep_if, All}
use Rattle.model.specs.Book.Syntax.{Table}
use Rattle.model.specs.Book.Decode.{part}
use Rattle.model.specs.Machine.State.{Record}
use Rattle.model.specs.Commit.{has_key, without, removal, removals}
use Rattle.model.specs.Laws.Logic.{and_split, at_length, eq_list_eq, eq_eq_list}
use Rattle.model.specs.Laws.Iter.{iter_agree}
use Rattle.record_log.specs.Log.{place_of}
use Rattle.tables.specs.Tables.{info_of}
use Rattle.commit.specs.Walk.{remove_turn, removed}
use Rattle.record_log.specs.RecordLaws.{Sized, records_of, size_is, its_size, removal_is, words_are, walk_records}

-- ## Rows of which p is false

abbrev pub remain : (List ℕ → Bool) → List (List ℕ) → List (List ℕ)
remain p [] = []
remain p (r ∷ rows) = keep_if (not (p r)) r (remain p rows)

pub remain_snoc : (p : List ℕ → Bool) (rows : List (List ℕ)) (r : List ℕ) → remain p (rows ++ (r ∷ [])) ≡ remain p rows ++ keep_if (not (p r)) r []
remain_snoc p [] r = refl
remain_snoc p (s ∷ rows) r = by (not (p s)) (remain_snoc p rows r)
  where
    by : (b : Bool) → remain p (rows ++ (r ∷ [])) ≡ remain p rows ++ keep_if (not (p r)) r [] → keep_if b s (remain p (rows ++ (r ∷ []))) ≡ keep_if b s (remain p rows) ++ keep_if (not (p r)) r []
    by true e = ap (λ (l : List (List ℕ)). s ∷ l) e
    by false e = e

pub remain_all : (P : List ℕ → Type 0) (p : List ℕ → Bool) (rows : List (List ℕ)) → All P rows → All P (remain p rows)
remain_all P p [] h = tt
remain_all P p (r ∷ rows) h = by (not (p r)) (remain_all P p rows h.1)
  where
    by : (b : Bool) → All P (remain p rows) → All P (keep_if b r (remain p rows))
    by true t = (h.0, t)
    by false t = t

remain_none : (rows : List (List ℕ)) → remain (λ _. false) rows ≡ rows
remain_none [] = refl
remain_none (r ∷ rows) = ap (λ (l : List (List ℕ)). r ∷ l) (remain_none rows)

-- one removal more
remain_agree : (p q : List ℕ → Bool) → ((r : List ℕ) → p r ≡ q r) → (rows : List (List ℕ)) → remain p rows ≡ remain q rows
remain_agree p q h [] = refl
remain_agree p q h (r ∷ rows) = rw (h r, remain_agree p q h rows)

or_false : (b : Bool) → b ≡ b || false
or_false true = refl
or_false false = refl

without_remain : (k : ℕ) (key : List ℕ) (p : List ℕ → Bool) (rows : List (List ℕ)) → without k key (remain p rows) ≡ remain (λ r. p r || has_key k key r) rows
without_remain k key p [] = refl
without_remain k key p (r ∷ rows) = by (p r) (without_remain k key p rows)
  where
    by : (b : Bool) → without k key (remain p rows) ≡ remain (λ r. p r || has_key k key r) rows → without k key (keep_if (not b) r (remain p rows)) ≡ keep_if (not (b || has_key k key r)) r (remain (λ r. p r || has_key k key r) rows)
    by true e = e
    by false e = ap (keep_if (not (has_key k key r)) r) e

removal_remain : (k : ℕ) (key : List ℕ) (p : List ℕ → Bool) (b : Bool) (rows : List (List ℕ)) → when b (without k key) (remain p rows) ≡ remain (λ r. p r || (b && has_key k key r)) rows
removal_remain k key p true rows = without_remain k key p rows
removal_remain k key p false rows = remain_agree p (λ r. p r || false) (λ r. or_false (p r)) rows

-- ## The model's removals

module _ (log : List Record) (t : ℕ) (T : Table) where
  -- a removal of the first n records names the row
  abbrev pub named : ℕ → List ℕ → Bool
  named n row = iter (λ i b. b || found (slice_get log i) (λ r. removal t r && has_key T.keys r.words row) (λ _. false)) n false

  pub removals_remain : (n : ℕ) (rows : List (List ℕ)) → removals log t T n rows ≡ remain (named n) rows
  removals_remain zero rows = sym (remain_none rows)
  removals_remain (suc n) rows = rw (removals_remain n rows) (by (slice_get log n))
    where
      by : (o : Option Record) → found o (λ r. when (removal t r) (without T.keys r.words) (remain (named n) rows)) (λ _. remain (named n) rows) ≡ remain (λ row. named n row || found o (λ r. removal t r && has_key T.keys r.words row) (λ _. false)) rows
      by None = remain_agree (named n) (λ row. named n row || false) (λ row. or_false (named n row)) rows
      by (Some r) = removal_remain T.keys r.words (named n) (removal t r) rows

-- ## The code's

eq_list_swap : (a b : List ℕ) → eq_list a b ≡ eq_list b a
eq_list_swap a b = by (eq_list a b) (eq_list b a) refl refl
  where
    by : (x y : Bool) → eq_list a b ≡ x → eq_list b a ≡ y → x ≡ y
    by true true e f = refl
    by false false e f = refl
    by true false e f = sym (eq_eq_list b a (sym (eq_list_eq a b e))) ∙ f
    by false true e f = sym e ∙ eq_eq_list a b (sym (eq_list_eq b a f))

module _ (w : List ℕ) (rs : List Record) (sized : All (Sized w) rs) (t : ℕ) (T : Table) (keys : T.keys ≡ (info_of w t).keys) where
  -- a row whose key is `key`
  module _ (row key : List ℕ) (is_key : take T.keys row ≡ key) where
    one : (n : ℕ) (b : Bool) → n < length rs → remove_turn (records_of rs) t T.keys key (place_of rs n) b ≡ b || found (slice_get rs n) (λ r. removal t r && has_key T.keys r.words row) (λ _. false)
    one n b h =
        let p = at_length rs n h in
        rw (p.1, removal_is w rs sized n p.0 p.1 t) (ap (λ (x : Bool). b || x) (by p.0 p.1 (removal t p.0) refl))
      where
        by : (r : Record) → slice_get rs n ≡ Some r → (x : Bool) → removal t r ≡ x → x && eq_list (part (records_of rs) (place_of rs n + 2) T.keys) key ≡ x && has_key T.keys r.words row
        by r e false q = refl
        by r e true q =
            let s = and_split (eqb r.table t) (eqb r.kind 1) q in
            let z : length r.words ≡ T.keys = size_is (its_size w rs sized n r e) ∙ rw (s.1, eqb-true r.table t s.0) (sym keys) in
            rw (words_are w rs sized n r e T.keys z, is_key) (eq_list_swap r.words key)

    pub removed_is : removed w (records_of rs) t T.keys key ≡ named rs t T (length rs) row
    unfolding removed
    removed_is = walk_records w rs sized (remove_turn (records_of rs) t T.keys key) false ∙ iter_agree _ _ (length rs) false one
