-- The words of a step's body, and a body that is put into the answer if it fits.
use Rattle.std.specs.Prelude.{ℕ, ◌+◌, ◌*◌, Bool, false, cond, List, [], ◌∷◌, ◌++◌, leb, length, get_or}
use Rattle.std.proofs.lemmas.List.Edits.{sets}
use Rattle.model.specs.Basics.{tab, how_many}
use Rattle.model.specs.Book.Decode.{part}
use Rattle.model.specs.Answer.{flag}
use Rattle.mask.specs.Masks.{count}
use Rattle.step_bodies.specs.Runs.{runs}

-- the words l go into b from the word `at` on, if they fit whole
unfoldable pub placed : List ℕ → ℕ → List ℕ → List ℕ
placed l at b = cond (leb (at + length l) (length b)) (sets b at l) b

-- of a prediction: whether it made the row, and the row
abbrev pub prediction_words : Bool → List ℕ → List ℕ
prediction_words made row = flag made ∷ row

-- variable v with its column; m is the memory of the bindings
abbrev pub bound_words : List ℕ → ℕ → ℕ → List ℕ
bound_words m lanes v = v ∷ part m (256 * v) lanes

-- the same, if it is bound
abbrev pub column_words : List ℕ → ℕ → Bool → ℕ → List ℕ
column_words m lanes known v = cond known (bound_words m lanes v) []

-- each bound variable and its column, smallest first
abbrev pub columns_words : List ℕ → ℕ → List Bool → List ℕ
columns_words m lanes known = runs (λ v. column_words m lanes (get_or known v false) v) 32

-- of a batch: how many lanes survive, how many there are, how many variables are bound; then these, smallest first, each before its column; then a flag for each lane
unfoldable pub batch_words : (lanes : ℕ) (known : List Bool) (m : List ℕ) (live : List Bool) → List ℕ
batch_words lanes known m live = count live ∷ lanes ∷ how_many (λ v. get_or known v false) 32 ∷ columns_words m lanes known ++ tab (λ i. flag (get_or live i false)) lanes
