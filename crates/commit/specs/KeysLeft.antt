-- What a call leaves of the keys that are gathered.
use Rattle.std.specs.Prelude.{◌≡◌, length}
use Rattle.commit.specs.Walk.{Keys, as_keys}
use Rattle.commit.specs.declared.keys.Keys.{Keys as Gathered}

abbrev pub keys_of : Gathered → Keys
keys_of g = as_keys g.words.now g.count

-- b has the keys s, in the same words as a, which are as many, and each as wide
pub record LeavesKeys (a b : Gathered) (s : Keys) : Type 0 where
  pub same_words : b.words.ghost_name ≡ a.words.ghost_name
  pub same_size : length b.words.now ≡ length a.words.now
  pub same_width : b.width ≡ a.width
  pub keys : keys_of b ≡ s
