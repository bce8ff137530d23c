-- "At most 4,096 fragments, given as three lent lists of 16-bit numbers (word, whitespace and penalty width)".
use Rattle.std.specs.Prelude.{ℕ, List, [], ◌∷◌, get_or, drop}

pub record Fragment : Type 0 where
  pub word : ℕ
  pub white : ℕ
  pub penalty : ℕ

-- The fragments that the three lists give, one for each word width.
unfoldable pub fragments : List ℕ → List ℕ → List ℕ → List Fragment
fragments [] ss ps = []
fragments (w ∷ ws) ss ps = record { word = w; white = get_or ss 0 0; penalty = get_or ps 0 0 } ∷ fragments ws (drop 1 ss) (drop 1 ps)
