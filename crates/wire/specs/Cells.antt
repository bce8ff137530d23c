-- What holds of the lists of a `Cell`: how the numbers lie in them, and how many there is room for.
use Rattle.std.specs.Prelude.{◌≡◌, ℕ, ◌*◌, ◌≤◌, ◌<◌, List, ◌++◌, length}

pub record CellLaws {A N : Type 0} (numbers : List A → List N) (places : List A → ℕ) (at : ℕ → ℕ) (stored : List N → List A) (size : ℕ) : Type 0 where
  pub counted : (l : List A) → length (numbers l) ≡ places l
  pub append : (xs ys : List N) → stored (xs ++ ys) ≡ stored xs ++ stored ys
  pub sized : (xs : List N) → length (stored xs) ≡ size * length xs
  pub found : (k : ℕ) → at k ≡ size * k
  pub some : 0 < size
  pub room : (k : ℕ) (l : List A) → k ≤ places l → size * k ≤ length l
  pub places_all : (k : ℕ) (l : List A) → size * k ≤ length l → k ≤ places l
