-- Inserts and removals: what the lanes stage in the code is what they stage in the machine.
use Rattle.std.specs.Prelude.{ℕ, ◌<◌, ◌≤◌, ◌≡◌, Bool, ◌&&◌, eqb, leb, length, Some, None}
use Rattle.std.proofs.Math.Path.{refl, ap, subst}
use Rattle.std.proofs.Common.{sym, ◌∙◌, arith, leb-true}
use Rattle.std.proofs.Math.Bool.{true, false, cond}
use mathlib.Core.List.{List, [], ◌∷◌, ◌++◌}
use Rattle.std.proofs.Math.Decide.{dec_lt}
use Rattle.std.proofs.Math.ListN.{get_or, get_or-eq_default}
use Rattle.model.specs.Basics.{when, All}
use Rattle.model.specs.Book.Syntax.{Counter}
use Rattle.model.specs.Book.Contents.{table_count}
use Rattle.model.specs.Machine.State.{State, Site, Record, record_size, going, note, reads, change, if_room, log_words}
use Rattle.model.specs.Machine.Values.{value_of, list_of}
use Rattle.model.specs.Machine.Steps.{here, is_live, lanes, table_of, read_pair, stage_list}
use Rattle.model.specs.Answer.{record_words}
use Rattle.model.specs.Laws.Logic.{All-append}
use Rattle.model.specs.Laws.Lists.{length_tab, get_or_tab}
use Rattle.model.specs.Laws.Book.{keys_of}
use Rattle.model.specs.Laws.Turns.{need_ind, when_T, when_F}
use Rattle.args.specs.declared.Args.{Args}
use Rattle.record_log.specs.Log.{record_of, log_of, appended, stored}
use Rattle.record_log.specs.LogLaws.{append_answer, append_log}
use Rattle.predicted_index.specs.Home.{home_of}
use Rattle.predicted_index.specs.HomeLaws.{home_below}
use Rattle.predicted_index.specs.RightLaws.{other_ok}
use Rattle.mask.specs.Masks.{padded}
use Rattle.mask.specs.MaskLaws.{has_padded}
use Rattle.bindings.specs.Columns.{columns_of, word_of}
use Rattle.bindings.specs.BindingLaws.{Named, word_is}
use Rattle.instr.specs.declared.Entries.{Entries}
use Rattle.instr.specs.declared.QueryEntry.{QueryEntry}
use Rattle.instr.specs.Meaning.{entry_of, entries_of}
use Rattle.lanes.specs.declared.Test.TheVariants.{Eq}
use Rattle.lanes.specs.Lanes.{listed, holds, kept}
use Rattle.record_log.specs.RecordLaws.{Sized}
use Rattle.record_log.specs.declared.Change.{Change}
use Rattle.record_log.specs.declared.Change.TheVariants.{Insert, Remove}
use Rattle.execution.specs.Execution.{RunState, goes_on, is_going as code_goes, changing, Logged, after_append, staged, record_kind, staged_lane, staged_lanes}
use Rattle.simulation.specs.Represents.{machine, LogIs, Follows, sticks, stops, goes, ListIs, list_read, front_list, pass_ends}

-- a state that has the lanes of another
pub record Kept (s₀ s : State) : Type 0 where
  pub bindings : s.bindings ≡ s₀.bindings
  pub live : s.live ≡ s₀.live
  pub out : s.out ≡ s₀.out
  pub answers : s.answers ≡ s₀.answers

-- the record's words are those that the code appends
pub record_is : (r : Record) (a : Args) (n : ℕ) → ListIs r.words n a → record_of r.kind r.table a.vals a.count ≡ record_words r
record_is r a n h = ap (λ (l : List ℕ). r.kind ∷ r.table ∷ l) (front_list a r.words n h)

-- what a lane stages is no predicted row
not_predicted : (c : Change) → record_kind c ≡ 2 → ⊥
not_predicted Insert e = omega arith
not_predicted Remove e = omega arith

module _ (w : List ℕ) (L : ℕ) where
  -- one record more, in the code
  module _ (records : List Record) (cs : List Counter) (ch : Bool) (x : RunState) (log index : List ℕ) (is : LogIs w L records cs ch x log index) (r : Record) (row : List ℕ) (n : ℕ) (e : record_of r.kind r.table row n ≡ record_words r) where
    abbrev all : List Record
    all = records ++ (r ∷ [])

    pub stage_is : staged r.kind r.table row n (record { state = x; log = log }) ≡ record { state = after_append (cond (leb (log_words all) L) (Some (log_words all)) None) x; log = cond (leb (log_words all) L) (log_of all L) (log_of records L) }
    unfolding staged
    stage_is =
        let a : appended log x.used (record_of r.kind r.table row n) ≡ cond (leb (log_words all) L) (Some (log_words all)) None = rw (is.log_is, is.used, e) (append_answer records L r is.fits) in
        let b : stored log x.used (record_of r.kind r.table row n) ≡ cond (leb (log_words all) L) (log_of all L) (log_of records L) = rw (is.log_is, is.used, e) (append_log records L r is.fits) in
        rw (a, b)

  -- ## A lane's turn

  module _ (index : List ℕ) (s₀ : State) (what : Change) (t n : ℕ) (known : t < table_count w) (size : n ≡ record_size (table_of (machine w L) t) (record_kind what)) (l : Entries) (few : l.count ≤ 16) (named : All Named (entries_of w l)) where
    abbrev kind : ℕ
    kind = record_kind what

    abbrev row : ℕ → Args
    row i = listed w (columns_of s₀.bindings) i l

    pub record Staged (s : State) (c : Logged) : Type 0 where
      pub kept : Kept s₀ s
      pub is : LogIs w L s.log s.counters s.changed c.state c.log index

    -- with the record that the machine stages
    module _ (o : Site) (ws : List ℕ) where
      abbrev new : Record
      new = record { site = o; kind = kind; table = t; words = ws }

      staged_turn : (s : State) (c : Logged) → s.status ≡ going → c.state.stop ≡ None → Staged s c → ListIs ws n (row o.lane)
          → (b : Bool) → leb (log_words (s.log ++ (new ∷ []))) L ≡ b
          → let s' : State = if_room b new (change (note (reads o ws) s)) (λ s'. s') in
          let c' : Logged = record { state = changing (after_append (cond b (Some (log_words (s.log ++ (new ∷ [])))) None) c.state); log = cond b (log_of (s.log ++ (new ∷ [])) L) (log_of s.log L) } in
          Follows s s' c'.state.stop (Staged s' c')
      staged_turn s c a b m is true e = goes a b (record {
        kept = record { bindings = m.kept.bindings; live = m.kept.live; out = m.kept.out; answers = m.kept.answers };
        is = record {
          fits = leb-true _ _ e;
          log_is = refl;
          used = refl;
          index_ok = other_ok home_of home_below (keys_of w) index s.log m.is.index_ok new (not_predicted what);
          next = m.is.next;
          counted = m.is.counted;
          flag = refl;
          sized = All-append (Sized w) s.log (new ∷ []) m.is.sized (record { table = known; size = is.size ∙ size }, tt);
        };
      })
      staged_turn s c a b m is false e = stops refl refl refl

    pub list_turn : (o : Site) (s : State) (c : Logged) → o.lane < 256 → s.status ≡ going → c.state.stop ≡ None → Staged s c
        → Follows s (stage_list (machine w L) o kind t n (entries_of w l) s) (staged_lane what t (row o.lane) true c).state.stop (Staged (stage_list (machine w L) o kind t n (entries_of w l) s) (staged_lane what t (row o.lane) true c))
    unfolding stage_list staged_lane
    list_turn o s c h a b m = need_ind (λ s'. Follows s s' (staged_lane what t (row o.lane) true c).state.stop (Staged s' (staged_lane what t (row o.lane) true c))) (list_of s.bindings o.lane n (entries_of w l)) s _ (sticks refl) read
      where
        read : (ws : List ℕ) → list_of s.bindings o.lane n (entries_of w l) ≡ Some ws
            → let s' : State = if_room (leb (log_words (s.log ++ (new o ws ∷ []))) L) (new o ws) (change (note (reads o ws) s)) (λ s'. s') in
            Follows s s' (staged_lane what t (row o.lane) true c).state.stop (Staged s' (staged_lane what t (row o.lane) true c))
        read ws e =
            let is : ListIs ws n (row o.lane) = list_read w s₀.bindings o.lane h l n ws few named (rw m.kept.bindings at e) in
            let code : staged_lane what t (row o.lane) true c ≡ record { state = changing (after_append (cond (leb (log_words (s.log ++ (new o ws ∷ []))) L) (Some (log_words (s.log ++ (new o ws ∷ [])))) None) c.state); log = cond (leb (log_words (s.log ++ (new o ws ∷ []))) L) (log_of (s.log ++ (new o ws ∷ [])) L) (log_of s.log L) } =
            when_T (code_goes c.state) _ c (ap goes_on b) ∙ ap (λ (g : Logged). record { state = changing g.state; log = g.log }) (stage_is s.log s.counters s.changed c.state c.log index m.is (new o ws) (row o.lane).vals (row o.lane).count (record_is (new o ws) (row o.lane) n is)) in
            let s' : State = if_room (leb (log_words (s.log ++ (new o ws ∷ []))) L) (new o ws) (change (note (reads o ws) s)) (λ s'. s') in
            subst (λ (g : Logged). Follows s s' g.state.stop (Staged s' g)) (sym code) (staged_turn o ws s c a b m is (leb (log_words (s.log ++ (new o ws ∷ []))) L) refl)

    -- ## All lanes

    halted : (i : ℕ) (b : Bool) (c : Logged) → goes_on c.state.stop ≡ false → staged_lane what t (row i) b c ≡ c
    unfolding staged_lane
    halted i b c e = when_F (b && code_goes c.state) _ c (by b (code_goes c.state) e)
      where
        by : (b g : Bool) → g ≡ false → b && g ≡ false
        by true g e = e
        by false g e = refl

    idle : (i : ℕ) (c : Logged) → staged_lane what t (row i) false c ≡ c
    unfolding staged_lane
    idle i c = refl

    -- f stages where who says so, and does nothing of note elsewhere
    module _ (f : ℕ → State → State) (who : List Bool) (small : length s₀.live ≤ 256)
        (turn : (i : ℕ) (s : State) (c : Logged) → i < length s₀.live → get_or s₀.live i false ≡ true → s.status ≡ going → c.state.stop ≡ None → Staged s c → Follows s (f i s) (staged_lane what t (row i) (get_or who i false) c).state.stop (Staged (f i s) (staged_lane what t (row i) (get_or who i false) c)))
        (dead : (i : ℕ) → get_or s₀.live i false ≡ false → get_or who i false ≡ false) where
      pub stage_pass : (c₀ : Logged) → s₀.status ≡ going → c₀.state.stop ≡ None → LogIs w L s₀.log s₀.counters s₀.changed c₀.state c₀.log index
          → Follows s₀ (lanes f s₀) (staged_lanes what t row who c₀).state.stop (Staged (lanes f s₀) (staged_lanes what t row who c₀))
      unfolding lanes staged_lanes
      stage_pass c₀ a b is = pass_ends (λ c. c.state.stop) is_live f (λ i. staged_lane what t (row i) (get_or who i false)) (λ i s c. Staged s c) (λ i. get_or s₀.live i false) (length s₀.live) s₀ (record {
        quiet = λ s i e. rw e;
        same = λ i s c l e m. rw (e, m.kept.live);
        past = λ i l. get_or-eq_default s₀.live false {n = i} l;
        halted = λ i c e. halted i (get_or who i false) c e;
        idle = λ i c e. ap (λ (b : Bool). staged_lane what t (row i) b c) (dead i e) ∙ idle i c;
        kept = λ i s c m. m.kept.answers;
        skip = λ i s c l e m. m;
        turn = λ i s c l e x y m. turn i s c l e x y m;
      }) c₀ a b (record { kept = record { bindings = refl; live = refl; out = refl; answers = refl }; is = is }) small

    pub list_pass : (k j : ℕ) → length s₀.live ≤ 256 → (c₀ : Logged) → s₀.status ≡ going → c₀.state.stop ≡ None → LogIs w L s₀.log s₀.counters s₀.changed c₀.state c₀.log index
        → let s : State = lanes (λ i. stage_list (machine w L) (here k j i) kind t n (entries_of w l)) s₀ in
        let c : Logged = staged_lanes what t row (padded s₀.live) c₀ in
        Follows s₀ s c.state.stop (Staged s c)
    list_pass k j small c₀ = stage_pass (λ i. stage_list (machine w L) (here k j i) kind t n (entries_of w l)) (padded s₀.live) small
        (λ i s c h e a b m. subst (λ (q : Bool). Follows s (stage_list (machine w L) (here k j i) kind t n (entries_of w l) s) (staged_lane what t (row i) q c).state.stop (Staged (stage_list (machine w L) (here k j i) kind t n (entries_of w l) s) (staged_lane what t (row i) q c))) (sym (has_padded s₀.live i ∙ e)) (list_turn (here k j i) s c (omega arith) a b m))
        (λ i e. has_padded s₀.live i ∙ e) c₀

    -- where two entries are equal
    module _ (a b : QueryEntry) (na : Named (entry_of a)) (nb : Named (entry_of b)) where
      abbrev equal : ℕ → Bool
      equal i = holds w (columns_of s₀.bindings) (Eq a b) i

      abbrev who : List Bool
      who = kept (holds w (columns_of s₀.bindings) (Eq a b)) (padded s₀.live)

      is_who : (i : ℕ) → i < 256 → get_or who i false ≡ get_or s₀.live i false && equal i
      unfolding kept
      is_who i h = get_or_tab _ 256 i false h ∙ ap (λ (q : Bool). q && equal i) (has_padded s₀.live i)

      no_who : (i : ℕ) → get_or s₀.live i false ≡ false → get_or who i false ≡ false
      unfolding kept
      no_who i e = elim (dec_lt i 256) [ yes h ↦ is_who i h ∙ rw e | no h ↦ get_or-eq_default who false {n = i} (omega (arith, length_tab (λ i. get_or (padded s₀.live) i false && equal i) 256)) ]

      abbrev turn : ℕ → ℕ → ℕ → State → State
      turn k j i = read_pair (here k j i) (entry_of a) (entry_of b) λ x y. when (eqb x y) (stage_list (machine w L) (here k j i) kind t n (entries_of w l))

      pair_turn : (k j i : ℕ) (s : State) (c : Logged) → i < 256 → s.status ≡ going → c.state.stop ≡ None → Staged s c → Follows s (turn k j i s) (staged_lane what t (row i) (equal i) c).state.stop (Staged (turn k j i s) (staged_lane what t (row i) (equal i) c))
      unfolding read_pair holds
      pair_turn k j i s c h e o m = need_ind P (value_of s.bindings i (entry_of a)) s _ (sticks refl) (λ x p. need_ind P (value_of s.bindings i (entry_of b)) s _ (sticks refl) (λ y q. both x y (is a na x p) (is b nb y q)))
        where
          P : State → Type 0
          P s' = Follows s s' (staged_lane what t (row i) (equal i) c).state.stop (Staged s' (staged_lane what t (row i) (equal i) c))

          is : (e : QueryEntry) → Named (entry_of e) → (x : ℕ) → value_of s.bindings i (entry_of e) ≡ Some x → word_of (columns_of s₀.bindings) i (entry_of e) ≡ x
          is e n x p = word_is s₀.bindings i h (entry_of e) x n (rw m.kept.bindings at p)

          both : (x y : ℕ) → word_of (columns_of s₀.bindings) i (entry_of a) ≡ x → word_of (columns_of s₀.bindings) i (entry_of b) ≡ y → P (when (eqb x y) (stage_list (machine w L) (here k j i) kind t n (entries_of w l)) (note (reads (here k j i) (x ∷ y ∷ [])) s))
          both x y p q = subst (λ (r : Bool). Follows s (when (eqb x y) stages s₁) (staged_lane what t (row i) r c).state.stop (Staged (when (eqb x y) stages s₁) (staged_lane what t (row i) r c))) (sym (rw (p, q))) (by (eqb x y))
            where
              s₁ : State
              s₁ = note (reads (here k j i) (x ∷ y ∷ [])) s

              stages : State → State
              stages = stage_list (machine w L) (here k j i) kind t n (entries_of w l)

              m₁ : Staged s₁ c
              m₁ = record { kept = record { bindings = m.kept.bindings; live = m.kept.live; out = m.kept.out; answers = m.kept.answers }; is = m.is }

              by : (r : Bool) → Follows s (when r stages s₁) (staged_lane what t (row i) r c).state.stop (Staged (when r stages s₁) (staged_lane what t (row i) r c))
              by true = turned (list_turn (here k j i) s₁ c h e o m₁)
                where
                  turned : Follows s₁ (stages s₁) (staged_lane what t (row i) true c).state.stop (Staged (stages s₁) (staged_lane what t (row i) true c)) → Follows s (stages s₁) (staged_lane what t (row i) true c).state.stop (Staged (stages s₁) (staged_lane what t (row i) true c))
                  turned (sticks x) = sticks x
                  turned (stops x y z) = stops x y z
                  turned (goes x y z) = goes x y z
              by false = subst (λ (d : Logged). Follows s s₁ d.state.stop (Staged s₁ d)) (sym (idle i c)) (goes e o m₁)

      pub if_pass : (k j : ℕ) → length s₀.live ≤ 256 → (c₀ : Logged) → s₀.status ≡ going → c₀.state.stop ≡ None → LogIs w L s₀.log s₀.counters s₀.changed c₀.state c₀.log index
          → let s : State = lanes (turn k j) s₀ in
          let c : Logged = staged_lanes what t row who c₀ in
          Follows s₀ s c.state.stop (Staged s c)
      if_pass k j small c₀ = stage_pass (turn k j) who small
          (λ i s c h e x y m. subst (λ (q : Bool). Follows s (turn k j i s) (staged_lane what t (row i) q c).state.stop (Staged (turn k j i s) (staged_lane what t (row i) q c))) (sym (is_who i (omega arith) ∙ rw e)) (pair_turn k j i s c (omega arith) x y m))
          no_who c₀
