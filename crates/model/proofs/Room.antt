-- What a lane leaves on a log with less room, beside what it leaves on a log with more: where the two part, the log with less room is full.
use Prim.Native.Nat.{ℕ, zero, suc, ◌+◌, ◌≤◌, ◌<◌}
use native.Mathlib.Omega.{arith}
use mathlib.Core.Path.{◌≡◌, refl, sym, ap, ◌∙◌}
use mathlib.Core.Logic.{◌⊎◌, inl, inr, ◌≢◌}
use mathlib.Core.Bool.{Bool, true, false, ◌&&◌, not, false≢true}
use Rattle.std.specs.Prelude.{Option, None, Some, slice_get}
use mathlib.Core.List.{List, [], ◌∷◌, ◌++◌, append-nil, append_assoc}
use borrow.Author.Tests.{leb-true, leb-false}
use lib.Dec.{leb}
use lib.ListN.{length, get_or, take, drop}
use Rattle.model.specs.Basics.{iter, when, found, only, first}
use Rattle.model.specs.Book.Syntax.{QueryEntry, WriteVal}
use Rattle.model.specs.Machine.State.{State, Site, Record, Answer, Status, going, stuck, spent, full, is_going, reads, took, asks, Bindings, Env, stop, note, give, lose, with_counters, logged, change, reply, need, if_room, log_words}
use Rattle.model.specs.Machine.Values.{hold, value_of, values_of, list_of, find, predicted_rows, Built, is_stuck, is_spent, built, build}
use Rattle.model.specs.Machine.Steps.{is_live, is_none, lanes, missed, any_ne, read_pair, take_column, take_default, assert_any_ne, table_of, stage_new, row_start, predict_row, lookup, invoke, serve_missed, stage_list}
use Rattle.model.specs.Laws.Logic.{either}
use Rattle.model.proofs.Idle.{goes?, Idle, missed_idle}

-- with other room for the log
abbrev pub with_room : (ℕ → Bool) → Env → Env
with_room room E = record { tables = E.tables; rules = E.rules; arity = E.arity; answer = E.answer; room = room }

-- with no more than L words of it
abbrev pub within : ℕ → Env → Env
within L E = with_room (λ n. E.room n && leb n L) E

pub words_append : (a b : List Record) → log_words (a ++ b) ≡ log_words a + log_words b
words_append [] b = omega arith
words_append (r ∷ a) b = omega (arith, words_append a b)

going≢full : going ≢ full
going≢full e = let z : ◌≡◌ {A = ℕ} 0 1 = cc in omega arith

pub stuck≢full : stuck ≢ full
stuck≢full e = let z : ◌≡◌ {A = ℕ} 0 1 = cc in omega arith

pub full≢spent : full ≢ spent
full≢spent e = let z : ◌≡◌ {A = ℕ} 0 1 = cc in omega arith

-- n answers, unless it has stopped
abbrev pub answered : ℕ → Status → ℕ
answered n going = n
answered n stuck = 0
answered n spent = 0
answered n full = 0

pub unanswered : (n : ℕ) (o : Status) → is_going o ≡ false → answered n o ≡ 0
unanswered n going e = absurd (false≢true (sym e))
unanswered n stuck e = refl
unanswered n spent e = refl
unanswered n full e = refl

answered_none : (o : Status) → answered 0 o ≡ 0
answered_none going = refl
answered_none stuck = refl
answered_none spent = refl
answered_none full = refl

-- a machine, and less room for its log than it has
pub record Setting : Type 0 where
  pub env : Env
  pub most : ℕ

module _ (S : Setting) where
  abbrev pub less : Env
  less = within S.most S.env

  -- some words have no room
  abbrev pub Short : Type 0
  Short = (n : ℕ) × (S.env.room n ≡ false)

  -- what a stretch of a run leaves: s comes after this log and these answers, with n answers more unless it stopped
  pub record Later (n : ℕ) (log : List Record) (past : List Answer) (s : State) : Type 0 where
    pub more : List Record
    pub grew : s.log ≡ log ++ more
    pub counted : length s.answers ≡ answered n s.status + length past
    pub fills : s.status ≡ full → Short

  -- s, with less room, beside u: the same, or the log of s was too short
  abbrev pub Follows : State → State → Type 0
  Follows s u = ((s ≡ u) × (log_words u.log ≤ S.most)) ⊎ ((s.status ≡ full) × (S.most < log_words u.log))

  pub record Both (n : ℕ) (log : List Record) (past : List Answer) (s u : State) : Type 0 where
    pub later : Later n log past u
    pub follows : log_words log ≤ S.most → Follows s u

  -- from x, which goes on, the one log leads to s and the other to u, with n answers
  abbrev pub Goes : ℕ → State → State → State → Type 0
  Goes n x s u = x.status ≡ going → Both n x.log x.answers s u

  abbrev pub Keeps : (State → State) → (State → State) → Type 0
  Keeps f g = (s : State) → Goes 0 s (f s) (g s)

  grown : (n : ℕ) (log : List Record) (past : List Answer) (s : State) → Later n log past s → log_words log ≤ log_words s.log
  grown n log past s h = rw h.grew (omega (arith, words_append log h.more))

  -- ## Combinators

  -- the same in both, and nothing logged
  same : (n : ℕ) (x s : State) → s.log ≡ x.log → length s.answers ≡ answered n s.status + length x.answers → (s.status ≡ full → Short) → Both n x.log x.answers s s
  same n x s e c f = record { later = record { more = []; grew = e ∙ sym (append-nil x.log); counted = c; fills = f }; follows = λ h. inl (refl, rw e h) }

  pub stay : (s : State) → Goes 0 s s s
  stay s g = same 0 s s refl (omega (arith, answered_none s.status)) (λ e. absurd (going≢full (sym g ∙ e)))

  halt : (n : ℕ) (o : Status) (s : State) → is_going o ≡ false → (o ≡ full → Short) → Goes n s (stop o s) (stop o s)
  halt n o s e fills g = same n s (stop o s) refl (omega (arith, unanswered n o e)) fills

  pub reply_goes : (a : Answer) (s : State) → Goes 1 s (reply a s) (reply a s)
  reply_goes a s g = same 1 s (reply a s) refl (rw g (omega arith)) (λ e. absurd (going≢full (sym g ∙ e)))

  pub need_goes : {A : Type 0} (n : ℕ) (o : Option A) (s : State) (f g : A → State) → ((a : A) → o ≡ Some a → Goes n s (f a) (g a)) → Goes n s (need o s f) (need o s g)
  need_goes n None s f g h = halt n stuck s refl (λ e. absurd (stuck≢full e))
  need_goes n (Some a) s f g h = h a refl

  pub found_goes : {A : Type 0} (n : ℕ) (o : Option A) (s : State) (f f' : A → State) (g g' : Unit {0} → State)
      → ((a : A) → o ≡ Some a → Goes n s (f a) (f' a)) → (o ≡ None → Goes n s (g tt) (g' tt)) → Goes n s (found o f g) (found o f' g')
  found_goes n None s f f' g g' h k = k refl
  found_goes n (Some a) s f f' g g' h k = h a refl

  pub when_goes : (b : Bool) (f g : State → State) (s : State) → (b ≡ true → Goes 0 s (f s) (g s)) → Goes 0 s (when b f s) (when b g s)
  when_goes true f g s h = h refl
  when_goes false f g s h = stay s

  -- one stretch, then another
  trans : (n : ℕ) (log : List Record) (past : List Answer) (s u : State) → Later 0 log past s → s.status ≡ going → Later n s.log s.answers u → Later n log past u
  trans n log past s u a g b = record {
    more = a.more ++ b.more;
    grew = b.grew ∙ ap (λ x. x ++ b.more) a.grew ∙ append_assoc log a.more b.more;
    counted = omega (arith, a.counted, b.counted, answered_none s.status);
    fills = b.fills;
  }

  -- what the machine does next: a run that has stopped is left, and the longer log only grows
  pub then_goes : (n : ℕ) (f g : State → State) → Idle f → Idle g → ((s : State) → Goes n s (f s) (g s)) → (x s u : State) → Goes 0 x s u → Goes n x (f s) (g u)
  then_goes n f g i i' h x s u b e = go (b e) (goes? u.status)
    where
      go : Both 0 x.log x.answers s u → (u.status ≡ going) ⊎ (is_going u.status ≡ false) → Both n x.log x.answers (f s) (g u)
      go c (inl r) = record {
        later = trans n x.log x.answers u (g u) c.later r (h u r).later;
        follows = λ l. either (λ p. rw p.0 ((h u r).follows p.1)) (λ p. inr (ap (λ y. y.status) (i s (rw p.0 refl)) ∙ p.0, omega (arith, p.1, grown n u.log u.answers (g u) (h u r).later))) (c.follows l);
      }
      go c (inr r) = record {
        later = rw (i' u r) (record { more = c.later.more; grew = c.later.grew; counted = omega (arith, c.later.counted, unanswered n u.status r, answered_none u.status); fills = c.later.fills });
        follows = λ l. either (λ p. inl (ap f p.0 ∙ i u r ∙ sym (i' u r), rw (i' u r) p.1)) (λ p. inr (ap (λ y. y.status) (i s (rw p.0 refl)) ∙ p.0, rw (i' u r) p.1)) (c.follows l);
      }

  pub iter_goes : (f g : ℕ → State → State) → ((i : ℕ) → Idle (f i)) → ((i : ℕ) → Idle (g i)) → ((i : ℕ) → Keeps (f i) (g i)) → (n : ℕ) → Keeps (iter f n) (iter g n)
  iter_goes f g i i' h zero s = stay s
  iter_goes f g i i' h (suc n) s = then_goes 0 (f n) (g n) (i n) (i' n) (h n) s (iter f n s) (iter g n s) (iter_goes f g i i' h n s)

  pub lose_goes : (i : ℕ) → Keeps (lose i) (lose i)
  lose_goes i s = stay (lose i s)

  -- a record: it fits both logs, or the one with more room alone, or neither
  room_goes : (n m : ℕ) (c : Bool) → S.env.room m ≡ c → (r : Record) (s : State) (f g : State → State) → Goes n (logged r s) (f (logged r s)) (g (logged r s))
      → Goes n s (if_room (c && leb (log_words (s.log ++ (r ∷ []))) S.most) r s f) (if_room c r s g)
  room_goes n m false z r s f g h e = halt n full s refl (λ _. (m, z)) e
  room_goes n m true z r s f g h e = go (h e) (leb (log_words (s.log ++ (r ∷ []))) S.most) refl
    where
      shorter : Later n (s.log ++ (r ∷ [])) s.answers (g (logged r s)) → Later n s.log s.answers (g (logged r s))
      shorter l = record { more = r ∷ l.more; grew = l.grew ∙ append_assoc s.log (r ∷ []) l.more; counted = l.counted; fills = l.fills }

      go : Both n (s.log ++ (r ∷ [])) s.answers (f (logged r s)) (g (logged r s)) → (b : Bool) → leb (log_words (s.log ++ (r ∷ []))) S.most ≡ b
          → Both n s.log s.answers (if_room b r s f) (g (logged r s))
      go p true q = record { later = shorter p.later; follows = λ _. p.follows (leb-true (log_words (s.log ++ (r ∷ []))) S.most q) }
      go p false q = record { later = shorter p.later; follows = λ _. inr (refl, omega (arith, leb-false (log_words (s.log ++ (r ∷ []))) S.most q, grown n (s.log ++ (r ∷ [])) s.answers (g (logged r s)) p.later)) }

  -- ## Lanes

  pub two_goes : (o : Site) (l r : QueryEntry) (f g : ℕ → ℕ → State → State) → ((a b : ℕ) → Keeps (f a b) (g a b)) → Keeps (read_pair o l r f) (read_pair o l r g)
  unfolding read_pair
  two_goes o l r f g h s = need_goes 0 (value_of s.bindings o.lane l) s _ _ (λ a _. need_goes 0 (value_of s.bindings o.lane r) s _ _ (λ b _. h a b (note (reads o (a ∷ b ∷ [])) s)))

  take_goes : (o : Site) (col : ℕ) (r : List ℕ) → Keeps (take_column o col r) (take_column o col r)
  unfolding take_column
  take_goes o col r s = need_goes 0 (slice_get r col) s _ _ (λ w _. stay (give o.lane w (note (took o r) s)))

  pub default_goes : (o : Site) (e : QueryEntry) → Keeps (take_default o e) (take_default o e)
  unfolding take_default
  default_goes o e s = need_goes 0 (value_of s.bindings o.lane e) s _ _ (λ w _. stay (give o.lane w (note (reads o (w ∷ [])) s)))

  pub any_goes : (o : Site) (d : ℕ) (ops : List QueryEntry) → Keeps (assert_any_ne o d ops) (assert_any_ne o d ops)
  unfolding assert_any_ne
  any_goes o d ops s = need_goes 0 (only (leb d (length ops)) (values_of s.bindings o.lane ops)) s _ _ (λ ws _.
      when_goes (not (any_ne (take d ws) (drop d ws))) (lose o.lane) (lose o.lane) (note (reads o ws) s) (λ _. stay (lose o.lane (note (reads o ws) s))))

  pub look_goes : (o : Site) (t : ℕ) (args : List QueryEntry) (col : ℕ) (f g : State → State) → Keeps f g → Keeps (lookup less o t args col f) (lookup S.env o t args col g)
  unfolding lookup
  look_goes o t args col f g h s = need_goes 0 (list_of s.bindings o.lane (table_of S.env t).keys args) s _ _ (λ key _.
      found_goes 0 (find (table_of S.env t).keys (table_of S.env t).rows key) (note (reads o key) s) _ _ _ _ (λ r _. take_goes o col r (note (reads o key) s)) (λ _. h (note (reads o key) s)))

  pub call_goes : (o : Site) (c : ℕ) (held : Bindings → Bindings) (x : ℕ) (args : List QueryEntry) (f g : State → State) → Keeps f g → Keeps (invoke less o c held x args f) (invoke S.env o c held x args g)
  unfolding invoke
  call_goes o c held x args f g h s = need_goes 0 (list_of (held s.bindings) o.lane (S.env.arity x) args) s _ _ (λ ws _.
      found_goes 0 (S.env.answer o c x ws) (note (reads o ws) s) _ _ _ _ (λ w _. stay (give o.lane w (note (reads o ws) s))) (λ _. h (note (reads o ws) s)))

  pub list_goes : (o : Site) (kind t n : ℕ) (vals : List QueryEntry) → Keeps (stage_list less o kind t n vals) (stage_list S.env o kind t n vals)
  unfolding stage_list
  list_goes o kind t n vals s = need_goes 0 (list_of s.bindings o.lane n vals) s _ _ (λ ws _.
      let r : Record = record { site = o; kind = kind; table = t; words = ws } in
      let s₁ : State = change (note (reads o ws) s) in
      room_goes 0 (log_words (s.log ++ (r ∷ []))) (S.env.room (log_words (s.log ++ (r ∷ [])))) refl r s₁ (λ s'. s') (λ s'. s') (stay (logged r s₁)))

  new_goes : (n : ℕ) (o : Site) (t : ℕ) (B : Built) (s : State) (f g : List ℕ → State → State) → ((r : List ℕ) (s' : State) → Goes n s' (f r s') (g r s'))
      → Goes n s (stage_new less o t B s f) (stage_new S.env o t B s g)
  new_goes n o t is_stuck s f g h = halt n stuck s refl (λ q. absurd (stuck≢full q))
  new_goes n o t is_spent s f g h = halt n spent s refl (λ q. absurd (full≢spent (sym q)))
  new_goes n o t (built r cs) s f g h =
      let e : Record = record { site = o; kind = 2; table = t; words = r } in
      let s₁ : State = note (reads o r) (with_counters cs s) in
      room_goes n (log_words (s.log ++ (e ∷ []))) (S.env.room (log_words (s.log ++ (e ∷ [])))) refl e s₁ (f r) (g r) (h r (logged e s₁))

  pub row_goes : (n : ℕ) (o : Site) (b : Bindings) (t : ℕ) (key : List ℕ) (vs : List WriteVal) (s : State) (f g : Bool → List ℕ → State → State)
      → ((new : Bool) (r : List ℕ) (s' : State) → Goes n s' (f new r s') (g new r s')) → Goes n s (predict_row less o b t key vs s f) (predict_row S.env o b t key vs s g)
  unfolding predict_row
  row_goes n o b t key vs s f g h =
      found_goes n (first (predicted_rows (table_of S.env t).keys t key s.log)) s _ _ _ _ (λ r _. h false r s)
      (λ _. need_goes n (row_start S.env t key vs s.counters) s _ _ (λ B _. new_goes n o t (build b o.lane vs B) s (f true) (g true) (h true)))

  pub serve_goes : (o : Site) (dst t : ℕ) (args : List QueryEntry) (vs : List WriteVal) (col : ℕ) → Keeps (serve_missed less o dst t args vs col) (serve_missed S.env o dst t args vs col)
  unfolding serve_missed
  serve_goes o dst t args vs col s = need_goes 0 (list_of (hold dst s.bindings) o.lane (table_of S.env t).keys args) s _ _ (λ key _.
      row_goes 0 o (hold dst s.bindings) t key vs (note (reads o key) s) _ _ (λ _ r s'. take_goes o col r (note (asks o t key r) s')))

  -- ## Passes

  -- what each lane's turn keeps
  abbrev pub Turns : (ℕ → State → State) → (ℕ → State → State) → Type 0
  Turns f g = (i : ℕ) → Keeps (f i) (g i)

  pub lanes_goes : (f g : ℕ → State → State) → Turns f g → Keeps (lanes f) (lanes g)
  unfolding lanes
  lanes_goes f g h s = iter_goes (λ i s'. when (is_live s' i) (f i) s') (λ i s'. when (is_live s' i) (g i) s') (λ i s' e. rw e) (λ i s' e. rw e)
      (λ i s'. when_goes (is_live s' i) (f i) (g i) s' (λ _. h i s')) (length s.live) s

  missed_goes : (f g : ℕ → State → State) → Turns f g → Keeps (missed f) (missed g)
  unfolding missed
  missed_goes f g h s = iter_goes (λ i s'. when (is_live s' i && is_none (get_or s'.out i None)) (f i) s') (λ i s'. when (is_live s' i && is_none (get_or s'.out i None)) (g i) s') (λ i s' e. rw e) (λ i s' e. rw e)
      (λ i s'. when_goes (is_live s' i && is_none (get_or s'.out i None)) (f i) (g i) s' (λ _. h i s')) (length s.live) s

  -- a pass, then the lanes that it missed
  pub pass_goes : (f g f' g' : ℕ → State → State) → Turns f g → Turns f' g' → Keeps (λ s. missed f' (lanes f s)) (λ s. missed g' (lanes g s))
  pass_goes f g f' g' h h' s = then_goes 0 (missed f') (missed g') (missed_idle f') (missed_idle g') (missed_goes f' g' h') s (lanes f s) (lanes g s) (lanes_goes f g h s)
