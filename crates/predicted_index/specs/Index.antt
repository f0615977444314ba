-- Open addressing over 8192 slots: a slot is 0 where it is free, else a place in the log plus 1.
use Rattle.std.specs.Prelude.{ℕ, zero, suc, ◌+◌, ◌-◌, ◌<◌, ◌≡◌, Bool, ◌&&◌, cond, List, eqb, ltb, leb, length, get_or}
use Rattle.tables.specs.Tables.{front, same_words}
use Rattle.predicted_index.specs.declared.Slot.{Slot}
use Rattle.predicted_index.specs.declared.Slot.TheVariants.{Hit, Free, Full}

-- the slot after s, round the end
unfoldable pub after : ℕ → ℕ
after s = cond (ltb (s + 1) 8192) (s + 1) 0

-- the slot j after h
unfoldable pub slot_from : ℕ → ℕ → ℕ
slot_from h zero = h
slot_from h (suc j) = after (slot_from h j)

-- at most f slots from s on: the first that is free, or whose word answers to m
unfoldable pub probed : List ℕ → (ℕ → Bool) → ℕ → ℕ → Slot
probed ix m zero s = Full
probed ix m (suc f) s = cond (eqb (get_or ix s 0) 0) (Free s) (cond (m (get_or ix s 0)) (Hit (get_or ix s 0 - 1)) (probed ix m f (after s)))

-- v stands for a record of this table whose words begin with the key: its table is at v, its words past it
unfoldable pub answers : List ℕ → ℕ → List ℕ → ℕ → ℕ → Bool
answers log t key k v = leb (v + 1 + k) (length log) && eqb (get_or log v 0) t && same_words log (v + 1) key k

-- from the home that a key of table t has, whatever gives it one
unfoldable pub slot_of : (ℕ → List ℕ → ℕ) → List ℕ → List ℕ → ℕ → List ℕ → ℕ → Slot
slot_of home ix log t key k = probed ix (answers log t key k) 8192 (home t (front key k))

-- a place that was hit is one less than a slot's word
abbrev pub Small : Slot → Type 0
Small (Hit p) = p < 4294967295
Small (Free s) = Unit {0}
Small Full = Unit {0}

-- v stands j slots after h, and no slot before it is free
pub record Chain (ix : List ℕ) (h v j : ℕ) : Type 0 where
  pub short : j < 8192
  pub holds : get_or ix (slot_from h j) 0 ≡ v
  pub busy : (i : ℕ) → i < j → get_or ix (slot_from h i) 0 ≡ 0 → ⊥
