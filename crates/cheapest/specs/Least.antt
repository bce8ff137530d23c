-- The first index at which a function is least.
use Rattle.std.specs.Prelude.{◌≡◌, ℕ, zero, suc, ◌≤◌, ◌<◌, ltb}
use Rattle.logic.specs.Choice.{pick}

-- Of the indices below n, i is the first at which f is least, and v is what f is there.
pub record Cheapest (f : ℕ → ℕ) (n i v : ℕ) : Type 0 where
  pub below : i < n
  pub value : v ≡ f i
  pub least : (k : ℕ) → k < n → v ≤ f k
  pub first : (k : ℕ) → k < i → v < f k

-- The index i at v against the choice c, an index and its value: a later index is chosen only where it is cheaper.
abbrev pub better : ℕ → ℕ → ℕ × ℕ → ℕ × ℕ
better i v c = pick (ltb v c.1) (i, v) c

-- The first index up to and including n at which f is least, and its value.
unfoldable pub first_least : (ℕ → ℕ) → ℕ → ℕ × ℕ
first_least f zero = (0, f 0)
first_least f (suc n) = better (suc n) (f (suc n)) (first_least f n)
