-- A row that is built, or left unfinished, has 16 words at most.
use Rattle.std.specs.Prelude.{◌<◌, option_map, set, ℕ, zero, suc, Bool, true, false, eqb, ◌+◌, ◌*◌, ◌≤◌, ◌≡◌, refl, List, get_or, Option, None, Some, IfSome, Result, Ok, Err, ok_or, MatchResult}
use Rattle.std.specs.Result.{result_ok}
use Rattle.std.proofs.Common.{sym, subst, ap, arith, eqb-true}
use Rattle.std.proofs.lemmas.Bool.{eqb-false}
use Rattle.model.specs.Basics.{iter, found}
use Rattle.model.specs.Machine.Values.{draw}
use Rattle.model.specs.Book.Syntax.{Counter}
use Rattle.model.specs.Laws.Logic.{found_ind, none_some, some_inj}
use Rattle.model.specs.Laws.Iter.{iter_keeps, iter_stop}
use Rattle.args.specs.declared.Args.{Args}
use Rattle.args.specs.ArgsLaws.{push_fits}
use Rattle.counter.specs.declared.Counters.{Counters}
use Rattle.counter.specs.Counter.{after_draw}
use Rattle.instr.specs.declared.WriteVal.{WriteVal}
use Rattle.instr.specs.declared.WriteVal.TheVariants.{QueryEntry as Entry, IncCounter, CurrentVal}
use Rattle.instr.specs.Instr.{write_at}
use Rattle.build.specs.declared.Building.{Building}
use Rattle.build.specs.Build.{appended, handed, written, written_next, built, built_up_next, built_up}

abbrev Fits : Building → Type 0
Fits b = b.row.count ≤ 16

handed_fits : (c : ℕ) (b : Building) → Fits b → IfSome (handed c b) Fits
unfolding handed
handed_fits c b h = found_ind (λ o. IfSome o Fits) (draw (get_or b.counters.next c 0)) _ _ (λ p _. push_fits b.row p.0 h) (λ _. tt)

module _ (m : List ℕ) (i : ℕ) where
  written_fits : (v : WriteVal) (b : Building) → Fits b → IfSome (written m i v b) Fits
  unfolding written
  written_fits (Entry e) b h = push_fits b.row _ h
  written_fits (IncCounter c) b h = handed_fits c.0 b h
  written_fits (CurrentVal x) b h = push_fits b.row _ h

  next_fits : (w : List ℕ) (p : ℕ) (o : Option Building) → IfSome o Fits → IfSome (written_next w m i p o) Fits
  next_fits w p None h = tt
  next_fits w p (Some b) h = written_fits (write_at w p) b h

  pub built_fits : (w : List ℕ) (key : Args) (at n : ℕ) (cs : Counters) → key.count ≤ 16 → IfSome (built w m i key at n cs) Fits
  unfolding built
  built_fits w key at n cs h = iter_keeps (λ o. IfSome o Fits) (λ k. written_next w m i (at + 2 * k)) n _ h (λ k o _ f. next_fits w _ o f)

  -- once a counter was spent there is no row
  pub stays_spent : (w : List ℕ) (at k n : ℕ) (o : Option Building) → k ≤ n → iter (λ j. written_next w m i (at + 2 * j)) k o ≡ None → iter (λ j. written_next w m i (at + 2 * j)) n o ≡ None
  stays_spent w at k zero o l e = let z : k ≡ zero = omega arith in subst (λ (q : ℕ). iter (λ j. written_next w m i (at + 2 * j)) q o ≡ None) z e
  stays_spent w at k (suc n) o l e = by (λ q. stays_spent w at k n o q e) (eqb k (suc n)) refl
    where
      by : (k ≤ n → iter (λ j. written_next w m i (at + 2 * j)) n o ≡ None) → (b : Bool) → eqb k (suc n) ≡ b → iter (λ j. written_next w m i (at + 2 * j)) (suc n) o ≡ None
      by before true q = subst (λ (x : ℕ). iter (λ j. written_next w m i (at + 2 * j)) x o ≡ None) (eqb-true k (suc n) q) e
      by before false q = rw (before (omega (arith, l, eqb-false k (suc n) q)))

  -- a counter that was spent at one write value leaves no row at the end
  pub spent_early : (w : List ℕ) (key : Args) (at n k : ℕ) (cs : Counters) (b : Building) → k < n → Some b ≡ iter (λ j. written_next w m i (at + 2 * j)) k (Some (record { row = key; counters = cs }))
      → written m i (write_at w (at + 2 * k)) b ≡ None → None ≡ built w m i key at n cs
  unfolding built
  spent_early w key at n k cs b l e s = sym (stays_spent w at (suc k) n (Some (record { row = key; counters = cs })) (omega arith) (rw (← e) s))

  -- the whole row is `built`, which an unfinished one is not
  pub built_whole : (w : List ℕ) (key : Args) (at n : ℕ) (cs : Counters) → built w m i key at n cs ≡ result_ok (built_up w m i key at n cs)
  unfolding built built_up
  built_whole w key at zero cs = refl
  built_whole w key at (suc n) cs = rw (built_whole w key at n cs) (by (iter (λ k. built_up_next w m i (at + 2 * k)) n (Ok (record { row = key; counters = cs }))))
    where
      left : (b : Building) (o : Option Building) → o ≡ result_ok (ok_or o b)
      left b None = refl
      left b (Some c) = refl

      by : (r : Result Building Building) → written_next w m i (at + 2 * n) (result_ok r) ≡ result_ok (built_up_next w m i (at + 2 * n) r)
      by (Ok b) = left b (written m i (write_at w (at + 2 * n)) b)
      by (Err b) = refl

  pub built_up_fits : (w : List ℕ) (key : Args) (at n : ℕ) (cs : Counters) → key.count ≤ 16 → MatchResult (built_up w m i key at n cs) Fits Fits
  unfolding built_up
  built_up_fits w key at n cs h = iter_keeps (λ r. MatchResult r Fits Fits) (λ k. built_up_next w m i (at + 2 * k)) n _ h (λ k r _ f. next w (at + 2 * k) r f)
    where
      or_left : (b : Building) (o : Option Building) → Fits b → IfSome o Fits → MatchResult (ok_or o b) Fits Fits
      or_left b None h f = h
      or_left b (Some c) h f = f

      next : (w : List ℕ) (p : ℕ) (r : Result Building Building) → MatchResult r Fits Fits → MatchResult (built_up_next w m i p r) Fits Fits
      next w p (Ok b) h = or_left b (written m i (write_at w p) b) h (written_fits (write_at w p) b h)
      next w p (Err b) h = h

  -- a counter that was spent at one write value leaves what was built before it
  pub left_early : (w : List ℕ) (key : Args) (at n k : ℕ) (cs : Counters) (b : Building) → k < n → Ok b ≡ iter (λ j. built_up_next w m i (at + 2 * j)) k (Ok (record { row = key; counters = cs }))
      → written m i (write_at w (at + 2 * k)) b ≡ None → Err b ≡ built_up w m i key at n cs
  unfolding built_up
  left_early w key at n k cs b l e s = iter_stop (λ j. built_up_next w m i (at + 2 * j)) (suc k) n _ (Err b) (rw (← e) (sym (ap (λ (o : Option Building). ok_or o b) s))) (omega arith) (λ j. refl)

-- by what the draw gave
pub handed_spent : (c : ℕ) (b : Building) → None ≡ option_map (λ p. p.0) (draw (get_or b.counters.next c 0)) → None ≡ handed c b
unfolding handed
handed_spent c b e = by (draw (get_or b.counters.next c 0)) e
  where
    by : (o : Option (ℕ × Counter)) → None ≡ option_map (λ p. p.0) o → None ≡ found o (λ p. Some (appended p.0 (record { next = set b.counters.next c p.1 }) b)) (λ _. None)
    by None e = refl
    by (Some p) e = absurd (none_some e)

pub handed_next : (c : ℕ) (b : Building) (x : ℕ) (cs : Counters) → Some x ≡ option_map (λ p. p.0) (draw (get_or b.counters.next c 0)) → cs.next ≡ after_draw b.counters.next c → Some (appended x cs b) ≡ handed c b
unfolding handed
handed_next c b x cs e n = by (draw (get_or b.counters.next c 0)) e n
  where
    by : (o : Option (ℕ × Counter)) → Some x ≡ option_map (λ p. p.0) o → cs.next ≡ found o (λ p. set b.counters.next c p.1) (λ _. b.counters.next) → Some (appended x cs b) ≡ found o (λ p. Some (appended p.0 (record { next = set b.counters.next c p.1 }) b)) (λ _. None)
    by None e n = absurd (none_some (sym e))
    by (Some p) e n = rw (some_inj e) (ap (λ (l : List ℕ). Some (appended p.0 (record { next = l }) b)) n)
