-- Staging by what the append answers; it uses no more words than the log has.
use Rattle.std.specs.Prelude.{ℕ, ◌+◌, ◌≤◌, ◌≡◌, refl, Bool, true, false, cond, List, leb, length, take, Option, Some, None}
use Rattle.std.proofs.Common.{ap, leb-true}
use Rattle.record_log.specs.Log.{record_of, appended, stored}
use Rattle.record_log.specs.LogLaws.{record_of_taken}
use Rattle.execution.specs.Execution.{RunState, Logged, after_append, staged}

pub append_fits : (log r : List ℕ) (s : RunState) → s.used ≤ length log → (after_append (appended log s.used r) s).used ≤ length log
unfolding appended
append_fits log r s h = by (leb (s.used + length r) (length log)) refl
  where
    by : (b : Bool) → leb (s.used + length r) (length log) ≡ b → (after_append (cond b (Some (s.used + length r)) None) s).used ≤ length log
    by true e = leb-true _ _ e
    by false e = h

module _ (kind table : ℕ) (row : List ℕ) (n : ℕ) (l : Logged) where
  abbrev rec : List ℕ
  rec = record_of kind table row n

  pub staged_by : (a : Option ℕ) (s : RunState) (log : List ℕ) → a ≡ appended l.log l.state.used rec → s ≡ after_append a l.state → log ≡ stored l.log l.state.used rec → l.state.used ≤ length l.log
      → (◌≡◌ {A = Logged} (record { state = s; log = log }) (staged kind table row n l)) × (s.used ≤ length l.log)
  unfolding staged
  staged_by a s log e q m h = (rw (q, e, m), rw (q, e) (append_fits l.log rec l.state h))

-- the first n words of an array, as a slice
pub staged_taken : (kind table : ℕ) (row : List ℕ) (n : ℕ) (l : Logged) → n ≤ length row → staged kind table (take n row) (length (take n row)) l ≡ staged kind table row n l
unfolding staged
staged_taken kind table row n l h = ap (λ (r : List ℕ). record { state = after_append (appended l.log l.state.used r) l.state; log = stored l.log l.state.used r }) (record_of_taken kind table row n h)
