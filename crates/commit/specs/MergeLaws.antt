-- What the code that merges values leans on.
use Rattle.std.specs.Prelude.{ℕ, zero, suc, ◌+◌, ◌<◌, ◌≤◌, ◌≡◌, refl, ◌≢◌, List, [], ◌∷◌, length, get_or, set, drop}
use Rattle.std.proofs.Common.{sym, ap, ◌∙◌, add-zero, arith, length-set, ext_get_or, get_or-set_same, get_or-set_other, get_or-take, get_or-drop}
use Rattle.std.proofs.lemmas.List.Edits.{sets}
use Rattle.model.specs.Basics.{tab}
use Rattle.model.specs.Book.Decode.{part}
use Rattle.model.specs.Commit.{merge_word, merge_words}
use Rattle.model.specs.Laws.Lists.{length_tab, get_or_tab}
use Rattle.model.specs.Laws.Bodies.{length_part}
use Rattle.record_log.specs.LogLaws.{store_more}
use Rattle.commit.specs.MergeRule.{merged}

-- a rule that is none of 1, 2 and 3 keeps
pub merge_rest : (m old new : ℕ) → (m ≡ 1 → ⊥) → (m ≡ 2 → ⊥) → (m ≡ 3 → ⊥) → old ≡ merge_word m old new
merge_rest zero old new a b c = refl
merge_rest (suc zero) old new a b c = absurd (a refl)
merge_rest (suc (suc zero)) old new a b c = absurd (b refl)
merge_rest (suc (suc (suc zero))) old new a b c = absurd (c refl)
merge_rest (suc (suc (suc (suc m)))) old new a b c = refl

-- ## Merged by any rule

module _ (f : ℕ → ℕ → ℕ) where
  -- by a rule of the model's
  pub merged_as : (m : ℕ) → ((old new : ℕ) → f old new ≡ merge_word m old new) → (old new : List ℕ) → merged f old new ≡ merge_words m old new
  merged_as m e [] new = refl
  merged_as m e (a ∷ old) [] = refl
  merged_as m e (a ∷ old) (b ∷ new) = rw (e a b) (ap (λ (l : List ℕ). merge_word m a b ∷ l) (merged_as m e old new))

  length_merged : (old new : List ℕ) → length (merged f old new) ≡ length old
  length_merged [] new = refl
  length_merged (a ∷ old) [] = refl
  length_merged (a ∷ old) (b ∷ new) = ap suc (length_merged old new)

  get_or_merged : (old new : List ℕ) (i : ℕ) → i < length old → i < length new → get_or (merged f old new) i 0 ≡ f (get_or old i 0) (get_or new i 0)
  get_or_merged [] new i h l = absurd (omega arith)
  get_or_merged (a ∷ old) [] i h l = absurd (omega arith)
  get_or_merged (a ∷ old) (b ∷ new) zero h l = refl
  get_or_merged (a ∷ old) (b ∷ new) (suc i) h l = get_or_merged old new i (omega arith) (omega arith)

-- ## And so by one of the model's

pub length_merge : (m : ℕ) (old new : List ℕ) → length (merge_words m old new) ≡ length old
length_merge m old new = ap length (sym (merged_as (merge_word m) m (λ a b. refl) old new)) ∙ length_merged (merge_word m) old new

pub get_or_merge : (m : ℕ) (old new : List ℕ) (i : ℕ) → i < length old → i < length new → get_or (merge_words m old new) i 0 ≡ merge_word m (get_or old i 0) (get_or new i 0)
get_or_merge m old new i h l = ap (λ (x : List ℕ). get_or x i 0) (sym (merged_as (merge_word m) m (λ a b. refl) old new)) ∙ get_or_merged (merge_word m) old new i h l

-- a word that is none of those stored is as it was
pub sets_other : (vs l : List ℕ) (at p : ℕ) → ((i : ℕ) → i < length vs → p ≢ at + i) → get_or (sets l at vs) p 0 ≡ get_or l p 0
sets_other [] l at p h = refl
sets_other (v ∷ vs) l at p h = sets_other vs (set l at v) (suc at) p (λ i q e. h (suc i) (omega arith) (omega arith)) ∙ get_or-set_other l at p v 0 (λ e. h 0 (omega arith) (omega arith))

pub sets_here : (vs l : List ℕ) (at i : ℕ) → at + length vs ≤ length l → i < length vs → get_or (sets l at vs) (at + i) 0 ≡ get_or vs i 0
sets_here [] l at i h q = absurd (omega arith)
sets_here (v ∷ vs) l at zero h q =
    sets_other vs (set l at v) (suc at) (at + 0) (λ i q e. omega arith)
    ∙ ap (λ (k : ℕ). get_or (set l at v) k 0) (add-zero at)
    ∙ get_or-set_same l at v 0 (omega arith)
sets_here (v ∷ vs) l at (suc i) h q =
    let e : at + suc i ≡ suc at + i = omega arith in
    ap (λ (k : ℕ). get_or (sets (set l at v) (suc at) vs) k 0) e ∙ sets_here vs (set l at v) (suc at) i (omega (arith, length-set l at v)) (omega arith)

module _ (f : ℕ → ℕ → ℕ) (l : List ℕ) (at : ℕ) (new : List ℕ) where
  -- word i of the values, merged
  abbrev pub merged_word : ℕ → ℕ
  merged_word i = f (get_or l (at + i) 0) (get_or new i 0)

  -- a turn: the word that is read is an old one
  pub merge_turn : (i : ℕ) (cur : List ℕ) (v : ℕ) → cur ≡ sets l at (tab merged_word i) → v ≡ f (get_or cur (at + i) 0) (get_or new i 0) → set cur (at + i) v ≡ sets l at (tab merged_word (i + 1))
  merge_turn i cur v h e =
      let n = length_tab merged_word i in
      let old : get_or cur (at + i) 0 ≡ get_or l (at + i) 0 = ap (λ (x : List ℕ). get_or x (at + i) 0) h ∙ sets_other (tab merged_word i) l at (at + i) (λ k q z. omega (arith, n)) in
      rw (e, old, h) (store_more merged_word i l at)

  pub merge_all : at + length new ≤ length l → tab merged_word (length new) ≡ merged f (part l at (length new)) new
  merge_all h =
      let n = length_part l at (length new) h in
      let m = length_merged f (part l at (length new)) new in
      ext_get_or 0 (tab merged_word (length new)) (merged f (part l at (length new)) new) (length_tab merged_word (length new) ∙ sym (m ∙ n))
      (λ i q.
      let b : i < length new = omega (arith, length_tab merged_word (length new)) in
      get_or_tab merged_word (length new) i 0 b
      ∙ ap (λ (x : ℕ). f x (get_or new i 0)) (sym (get_or-take (length new) (drop at l) i 0 b ∙ get_or-drop at l i 0))
      ∙ sym (get_or_merged f (part l at (length new)) new i (omega arith) b))
