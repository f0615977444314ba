-- Words are folded one by one, and stay below 2 ^ 32.
use Rattle.std.specs.Prelude.{◌≡◌, ℕ, ◌+◌, ◌<◌, ◌≤◌, List, [], ◌∷◌, ◌++◌, length, take, drop, slice_index, refl}
use Rattle.std.specs.List.{fold}
use Rattle.std.proofs.Common.{sym, ◌∙◌, add-one, arith, length-drop, get_or-drop}
use Rattle.model.specs.Basics.{tab}
use Rattle.words.specs.Filled.{tab_agree}
use Rattle.tables.specs.TablesLaws.{front_take}
use Rattle.hash_index.specs.Fold.{mixed, folded}

-- the library's fold
pub folded_is : (h : ℕ) (ws : List ℕ) → fold mixed h ws ≡ folded h ws
unfolding folded
folded_is h [] = refl
folded_is h (w ∷ ws) = folded_is (mixed h w) ws

-- the k words at `at`, one by one and as a part
pub words_at : (w : List ℕ) (at k : ℕ) → at + k ≤ length w → take k (drop at w) ≡ tab (λ i. slice_index w (at + i)) k
words_at w at k h = sym (tab_agree (λ i. slice_index w (at + i)) (λ i. slice_index (drop at w) i) k (λ i l. sym (get_or-drop at w i 0)) ∙ front_take (drop at w) k (simp length-drop (omega arith)))

pub folded_below : (h : ℕ) (ws : List ℕ) → h < 4294967296 → folded h ws < 4294967296
unfolding folded
folded_below h [] l = l
folded_below h (w ∷ ws) l = folded_below (mixed h w) ws (omega arith)

folded_last : (h : ℕ) (ws : List ℕ) (x : ℕ) → folded h (ws ++ (x ∷ [])) ≡ mixed (folded h ws) x
unfolding folded
folded_last h [] x = refl
folded_last h (w ∷ ws) x = folded_last (mixed h w) ws x

pub folded_none : (h : ℕ) (f : ℕ → ℕ) → h ≡ folded h (tab f 0)
unfolding folded tab
folded_none h f = refl

pub folded_more : (h : ℕ) (f : ℕ → ℕ) (i now next : ℕ) → now ≡ folded h (tab f i) → next ≡ mixed now (f i) → next ≡ folded h (tab f (i + 1))
unfolding tab
folded_more h f i now next e g = g ∙ rw (e, add-one) (sym (folded_last h (tab f i) (f i)))
