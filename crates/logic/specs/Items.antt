-- What a step finds, one after the other: at each place from i on that is below `end`, the item there, and on at the place after it. A step that goes on makes at most one item a place, so that many are
-- enough (`Items` of proofs/ shows it).
use Rattle.std.specs.Prelude.{ℕ, zero, suc, ◌-◌, List, [], ◌∷◌, ltb}
use Rattle.logic.specs.Choice.{pick}

unfoldable pub items_for : {A : Type 0} → (ℕ → A) → (ℕ → ℕ) → ℕ → ℕ → ℕ → List A
items_for at after end zero i = []
items_for at after end (suc n) i = pick (ltb i end) (at i ∷ items_for at after end n (after i)) []

unfoldable pub items : {A : Type 0} → (ℕ → A) → (ℕ → ℕ) → ℕ → ℕ → List A
items at after end i = items_for at after end (end - i) i
