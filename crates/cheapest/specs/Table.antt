-- The table of best costs and chosen starts: as what is asked of it, and as what computes it.
use Rattle.std.specs.Prelude.{◌≡◌, List, [], ◌∷◌, ◌++◌, ℕ, zero, suc, ◌+◌, ◌≤◌, ◌<◌, get_or}
use Rattle.cheapest.specs.Least.{Cheapest, first_least}
use Rattle.cheapest.specs.Lines.{line_of}

-- What stands at place k of a list, and 0 past its end.
abbrev pub at : List ℕ → ℕ → ℕ
at l k = get_or l k 0

-- What j costs if its last line starts at i: best(i), and the line's price by the line number of i.
abbrev pub via : (ℕ → ℕ → ℕ → ℕ) → (ℕ → ℕ) → (ℕ → ℕ) → ℕ → ℕ → ℕ
via q c s j i = c i + q (line_of s i) i j

-- "best(0) = 0; best(j) is the least price, and of equal prices the smallest i is chosen": c has the best costs and s the chosen starts of the positions up to n.
pub record Table (q : ℕ → ℕ → ℕ → ℕ) (n : ℕ) (c s : ℕ → ℕ) : Type 0 where
  pub cost0 : c 0 ≡ 0
  pub start0 : s 0 ≡ 0
  pub step : (j : ℕ) → 0 < j → j ≤ n → Cheapest (via q c s j) j (s j) (c j)

-- Costs and starts of the positions before, and those of one more: what was chosen for it.
abbrev pub joined : List ℕ × List ℕ → ℕ × ℕ → List ℕ × List ℕ
joined t c = (t.0 ++ (c.1 ∷ []), t.1 ++ (c.0 ∷ []))

-- Of the positions up to n, what position n + 1 chooses.
unfoldable pub choice : (ℕ → ℕ → ℕ → ℕ) → ℕ → List ℕ × List ℕ → ℕ × ℕ
choice q n t = first_least (via q (at t.0) (at t.1) (suc n)) n

abbrev pub grown : (ℕ → ℕ → ℕ → ℕ) → ℕ → List ℕ × List ℕ → List ℕ × List ℕ
grown q n t = joined t (choice q n t)

-- The table of the positions 0 to n, position by position: best costs and chosen starts, 0 at 0.
unfoldable pub table_of : (ℕ → ℕ → ℕ → ℕ) → ℕ → List ℕ × List ℕ
table_of q zero = (0 ∷ [], 0 ∷ [])
table_of q (suc n) = grown q n (table_of q n)

unfoldable pub best_costs : (ℕ → ℕ → ℕ → ℕ) → ℕ → List ℕ
best_costs q n = (table_of q n).0

unfoldable pub chosen_starts : (ℕ → ℕ → ℕ → ℕ) → ℕ → List ℕ
chosen_starts q n = (table_of q n).1
