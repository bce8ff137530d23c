-- Document 01, "Layouts": what a line costs. w, s and p are the word, whitespace and penalty widths of the fragments, ws the line widths, P the penalties.
use Rattle.std.specs.Prelude.{ℕ, ◌+◌, ◌-◌, ◌*◌, max, List, [], ◌∷◌, ltb, eqb, length, get_or}
use Rattle.std.proofs.Math.Seq.{slice}
use Rattle.logic.specs.Choice.{pick}
use Rattle.fragments.specs.Lists.{width_of}
use Rattle.least_cost.specs.declared.Penalties.{Penalties}

unfoldable pub total : List ℕ → ℕ
total [] = 0
total (x ∷ xs) = x + total xs

-- "for fragments i up to, not including, j, L is the sum of words and whitespace, less the last whitespace, plus the last penalty width"
unfoldable pub line_len : List ℕ → List ℕ → List ℕ → ℕ → ℕ → ℕ
line_len w s p i j = total (slice i j w) + total (slice i j s) - get_or s (j - 1) 0 + get_or p (j - 1) 0

-- "T is the larger of 1 and the width of the line number of i"
unfoldable pub target : List ℕ → ℕ → ℕ
target ws line = max 1 (width_of ws line)

-- "one of: overflow × (L−T) if L > T; else (T−L)² if j is not the end; else the short-last-line penalty if the line has one fragment and L × fraction < T"; n is the end
unfoldable pub width_price : Penalties → ℕ → ℕ → ℕ → ℕ → ℕ → ℕ
width_price P T L i j n =
    pick (ltb T L) (P.overflow * (L - T))
    (pick (eqb j n)
    (pick (eqb j (i + 1)) (pick (ltb (L * P.fraction) T) P.short 0) 0)
    ((T - L) * (T - L)))

-- What it costs to end a line at a fragment: "Add the hyphen penalty if the last penalty width is above 0."
unfoldable pub ending_price : Penalties → ℕ → ℕ
ending_price P penalty = pick (ltb 0 penalty) P.hyphen 0

-- The price of a line without best(i): "plus the per-line penalty, plus one of: .. Add the hyphen penalty .."
unfoldable pub line_price : Penalties → ℕ → ℕ → ℕ → ℕ → ℕ → ℕ → ℕ
line_price P T L penalty i j n = P.line + width_price P T L i j n + ending_price P penalty

-- The same from the lists, where T is wanted.
unfoldable pub price_at : List ℕ → List ℕ → List ℕ → Penalties → ℕ → ℕ → ℕ → ℕ
price_at w s p P T i j = line_price P T (line_len w s p i j) (get_or p (j - 1) 0) i j (length w)

-- The price of the line of i up to j as line number l.
unfoldable pub price : List ℕ → List ℕ → List ℕ → List ℕ → Penalties → ℕ → ℕ → ℕ → ℕ
price w s p ws P l i j = price_at w s p P (target ws l) i j
