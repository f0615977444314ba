-- The invariant of a run, and how each change of the state keeps it.
use Rattle.std.specs.Prelude.{ℕ, zero, suc, ◌≤◌, ◌<◌, ◌≡◌, ◌⊎◌, ◌≢◌, Bool, false, List, [], ◌∷◌, ◌++◌, T, length, get_or, set, Option, None, Some}
use Rattle.std.proofs.Common.{arith, sym, ap, ◌∙◌, subst, inl, inr, length-set}
use Rattle.model.specs.Basics.{All, AllPairs}
use Rattle.model.specs.Book.Syntax.{Clean, Counter, table_at}
use Rattle.model.specs.Machine.State.{State, Site, Record, record_size, Event, mask, reads, took, asks, Status, stuck, is_going, Bindings, Env, stop, note, give, lose, with_counters, logged}
use Rattle.model.specs.Machine.Steps.{here}
use Rattle.model.specs.Claims.Demand3.{Within, NotStale, OneRow, OtherSite}
use Rattle.model.specs.Laws.Supposed.{CounterOk}
use Rattle.model.specs.Laws.Logic.{All-map, All-append, AllPairs-snoc, some_inj, either, nil_cons}
use Rattle.model.specs.Safety.Rows.{rows_of, Steady}
use Rattle.model.specs.Safety.Fetch.{Readable}

-- ## Sites

-- a site before lane i of instruction j of step k
abbrev pub Earlier : ℕ → ℕ → ℕ → Record → Type 0
Earlier k j i r = (r.site.step < k) ⊎ ((r.site.step ≡ k) × ((r.site.instr < j) ⊎ ((r.site.instr ≡ j) × (r.site.lane < i))))

pub next_lane : (k j i : ℕ) (r : Record) → Earlier k j i r → Earlier k j (suc i) r
next_lane k j i r (inl h) = inl h
next_lane k j i r (inr (e, inl h)) = inr (e, inl h)
next_lane k j i r (inr (e, inr h)) = inr (e, inr (h.0, omega (arith, h.1)))

pub next_instr : (k j i : ℕ) (r : Record) → Earlier k j i r → Earlier k (suc j) 0 r
next_instr k j i r (inl h) = inl h
next_instr k j i r (inr (e, inl h)) = inr (e, inl (omega (arith, h)))
next_instr k j i r (inr (e, inr h)) = inr (e, inl (omega (arith, h.0)))

pub next_step : (k j i : ℕ) (r : Record) → Earlier k j i r → Earlier (suc k) 0 0 r
next_step k j i r (inl h) = inl (omega (arith, h))
next_step k j i r (inr (e, h)) = inl (omega (arith, e))

pub earlier_self : (k j i : ℕ) (r : Record) → r.site ≡ here k j i → Earlier k j (suc i) r
earlier_self k j i r e = inr (ap (λ s. s.step) e, inr (ap (λ s. s.instr) e, omega (arith, ap (λ s. s.lane) e)))

pub earlier_other : (k j i : ℕ) (q r : Record) → q.site ≡ here k j i → Earlier k j i r → OtherSite r q
earlier_other k j i q r e (inl h) d = omega (arith, h, ap (λ s. s.step) (d ∙ e))
earlier_other k j i q r e (inr (a, inl h)) d = omega (arith, h, ap (λ s. s.instr) (d ∙ e))
earlier_other k j i q r e (inr (a, inr h)) d = omega (arith, h.1, ap (λ s. s.lane) (d ∙ e))

-- ## The invariant, over the parts of a state

-- what has a dst is clean
abbrev pub CleanOut : List (Option ℕ) → Type 0
CleanOut out = (i w : ℕ) → get_or out i None ≡ Some w → Clean w

pub set_within : (l : List Bool) (x : ℕ) → Within (set l x false) l
set_within [] x i t = t
set_within (b ∷ l) zero zero t = absurd t
set_within (b ∷ l) zero (suc i) t = t
set_within (b ∷ l) (suc x) zero t = t
set_within (b ∷ l) (suc x) (suc i) t = set_within l x i t

pub set_get : (xs : List (Option ℕ)) (x w i w' : ℕ) → get_or (set xs x (Some w)) i None ≡ Some w' → (w ≡ w') ⊎ (get_or xs i None ≡ Some w')
set_get [] x w i w' e = inr e
set_get (o ∷ xs) zero w zero w' e = inl (some_inj e)
set_get (o ∷ xs) zero w (suc i) w' e = inr e
set_get (o ∷ xs) (suc x) w zero w' e = inr e
set_get (o ∷ xs) (suc x) w (suc i) w' e = set_get xs x w i w' e

module _ (E : Env) where
  abbrev pub RowSized : Record → Type 0
  RowSized r = length r.words ≡ record_size (table_at E.tables r.table) r.kind

  -- the log before lane i of instruction j of step k
  pub record LogOk (k j i : ℕ) (log : List Record) : Type 0 where
    pub clean : All (λ r. All Clean r.words) log
    pub sized : All RowSized log
    pub apart : AllPairs OtherSite log
    pub earlier : All (Earlier k j i) log
    pub single : (t : ℕ) (key : List ℕ) → length (rows_of E t key log) ≤ 1

  -- the events of a run with this log
  pub record EventsOk (log : List Record) (tr : List Event) : Type 0 where
    pub clean : All NotStale tr
    pub one_row : All (OneRow E log) tr

  -- all of it, with the variables K bound
  pub record Core (K : ℕ → Type 0) (k j i : ℕ) (b : Bindings) (l : List Bool) (out : List (Option ℕ)) (log : List Record) (cs : List Counter) (tr : List Event) (oc : Status) : Type 0 where
    pub unstuck : oc ≢ stuck
    pub readable : T (is_going oc) → Readable K b l
    pub clean_out : CleanOut out
    pub out_size : length out ≡ length l
    pub counted : All CounterOk cs
    pub logs : LogOk k j i log
    pub events : EventsOk log tr

  abbrev pub Inv : (ℕ → Type 0) → ℕ → ℕ → ℕ → State → Type 0
  Inv K k j i s = Core K k j i s.bindings s.live s.out s.log s.counters s.trace s.status

  -- ## What keeps it

  -- a later place in the run
  pub moved : (k j i k' j' i' : ℕ) (log : List Record) → ((r : Record) → Earlier k j i r → Earlier k' j' i' r) → LogOk k j i log → LogOk k' j' i' log
  moved k j i k' j' i' log f v = record { clean = v.clean; sized = v.sized; apart = v.apart; earlier = All-map f log v.earlier; single = v.single }

  single_next : {a b : List (List ℕ)} → length a ≤ 1 → (b ≡ a) ⊎ ((a ≡ []) × (ws : List ℕ) × (b ≡ ws ∷ [])) → length b ≤ 1
  single_next {a} {b} h (inl e) = rw e h
  single_next {a} {b} h (inr p) = rw p.2 (omega arith)

  row_next : (log log' : List Record) → Steady E log log' → (e : Event) → OneRow E log e → OneRow E log' e
  row_next log log' st (mask k m) h = tt
  row_next log log' st (reads o ws) h = tt
  row_next log log' st (took o ws) h = tt
  row_next log log' st (asks o t key ws) h = either (λ e. e ∙ h) (λ p. absurd (nil_cons (sym p.0 ∙ h))) (st t key)

  module _ (K : ℕ → Type 0) (k j i : ℕ) (s : State) (v : Inv K k j i s) where
    pub stop_inv : (o : Status) → o ≢ stuck → (T (is_going o) → ⊥) → Inv K k j i (stop o s)
    stop_inv o h n = record { unstuck = h; readable = λ g. absurd (n g); clean_out = v.clean_out; out_size = v.out_size; counted = v.counted; logs = v.logs; events = v.events }

    pub note_inv : (e : Event) → NotStale e → OneRow E s.log e → Inv K k j i (note e s)
    note_inv e c o = record { unstuck = v.unstuck; readable = v.readable; clean_out = v.clean_out; out_size = v.out_size; counted = v.counted; logs = v.logs; events = record { clean = (c, v.events.clean); one_row = (o, v.events.one_row) } }

    pub reads_inv : (o : Site) (ws : List ℕ) → All Clean ws → Inv K k j i (note (reads o ws) s)
    reads_inv o ws c = note_inv (reads o ws) c tt

    pub took_inv : (o : Site) (ws : List ℕ) → All Clean ws → Inv K k j i (note (took o ws) s)
    took_inv o ws c = note_inv (took o ws) c tt

    pub asks_inv : (o : Site) (t : ℕ) (key ws : List ℕ) → All Clean ws → rows_of E t key s.log ≡ ws ∷ [] → Inv K k j i (note (asks o t key ws) s)
    asks_inv o t key ws c e = note_inv (asks o t key ws) c e

    pub counters_inv : (cs : List Counter) → All CounterOk cs → Inv K k j i (with_counters cs s)
    counters_inv cs c = record { unstuck = v.unstuck; readable = v.readable; clean_out = v.clean_out; out_size = v.out_size; counted = c; logs = v.logs; events = v.events }

    pub give_inv : (x w : ℕ) → Clean w → Inv K k j i (give x w s)
    give_inv x w c = record { unstuck = v.unstuck; readable = v.readable; clean_out = λ y w' e. either (λ q. subst Clean q c) (λ q. v.clean_out y w' q) (set_get s.out x w y w' e); out_size = length-set s.out x (Some w) ∙ v.out_size; counted = v.counted; logs = v.logs; events = v.events }

    pub lose_inv : (x : ℕ) → Inv K k j i (lose x s)
    lose_inv x = record { unstuck = v.unstuck; readable = λ g a b h t. v.readable g a b h (set_within s.live x b t); clean_out = v.clean_out; out_size = v.out_size ∙ sym (length-set s.live x false); counted = v.counted; logs = v.logs; events = v.events }

    pub logged_inv : (r : Record) → r.site ≡ here k j i → All Clean r.words → RowSized r → Steady E s.log (s.log ++ (r ∷ [])) → Inv K k j (suc i) (logged r s)
    logged_inv r o c z st = record {
      unstuck = v.unstuck;
      readable = v.readable;
      clean_out = v.clean_out;
      out_size = v.out_size;
      counted = v.counted;
      logs = record {
        clean = All-append (λ q. All Clean q.words) s.log (r ∷ []) v.logs.clean (c, tt);
        sized = All-append RowSized s.log (r ∷ []) v.logs.sized (z, tt);
        apart = AllPairs-snoc OtherSite s.log r v.logs.apart (All-map (λ q h. earlier_other k j i r q o h) s.log v.logs.earlier);
        earlier = All-append (Earlier k j (suc i)) s.log (r ∷ []) (All-map (next_lane k j i) s.log v.logs.earlier) (earlier_self k j i r o, tt);
        single = λ t key. single_next (v.logs.single t key) (st t key);
      };
      events = record {
        clean = v.events.clean;
        one_row = All-map (λ e h. row_next s.log (s.log ++ (r ∷ [])) st e h) s.trace v.events.one_row;
      };
    }

    pub weaken : Inv K k j (suc i) s
    weaken = record { unstuck = v.unstuck; readable = v.readable; clean_out = v.clean_out; out_size = v.out_size; counted = v.counted; logs = moved k j i k j (suc i) s.log (next_lane k j i) v.logs; events = v.events }
