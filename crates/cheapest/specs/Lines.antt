-- Lines: their numbers, their ends and what they cost. s has the chosen start of each position.
use Rattle.std.specs.Prelude.{◌≡◌, List, [], ◌∷◌, ◌++◌, ℕ, zero, suc, ◌+◌, ◌≤◌, ◌<◌}

-- Each chosen start up to n is smaller than its position.
abbrev pub Falls : (ℕ → ℕ) → ℕ → Type 0
Falls s n = (j : ℕ) → 0 < j → j ≤ n → s j < j

-- "The line number of a position is 0 at 0, otherwise one more than that of its chosen start, which is always smaller." The first argument bounds the steps; j of them are enough, since a start is smaller
-- (`line_zero` and `line_next` of proofs/Lines).
unfoldable pub line_in : (ℕ → ℕ) → ℕ → ℕ → ℕ
line_in s zero j = 0
line_in s (suc n) zero = 0
line_in s (suc n) (suc j) = suc (line_in s n (s (suc j)))

unfoldable pub line_of : (ℕ → ℕ) → ℕ → ℕ
line_of s j = line_in s j j

-- The ends of the lines before j, in order: j is the last, and before it stand those of its chosen start.
unfoldable pub ends_in : (ℕ → ℕ) → ℕ → ℕ → List ℕ
ends_in s zero j = []
ends_in s (suc n) zero = []
ends_in s (suc n) (suc j) = ends_in s n (s (suc j)) ++ (suc j ∷ [])

unfoldable pub ends_of : (ℕ → ℕ) → ℕ → List ℕ
ends_of s j = ends_in s j j

-- A layout of the fragments i up to n: its ends rise strictly from above i to n.
abbrev pub Rises : ℕ → List ℕ → ℕ → Type 0
Rises i [] n = i ≡ n
Rises i (e ∷ es) n = (i < e) × Rises e es n

-- What a layout costs whose first line has number l and starts at i.
unfoldable pub cost_of : (ℕ → ℕ → ℕ → ℕ) → ℕ → ℕ → List ℕ → ℕ
cost_of q l i [] = 0
cost_of q l i (e ∷ es) = q l i e + cost_of q (suc l) e es
