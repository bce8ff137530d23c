-- Document 01's examples of least cost, computed from the definitions: ends and cost.
use Rattle.std.proofs.Common.{Ok}
use mathlib.Core.Path.{◌≡◌, refl}
use mathlib.Core.List.{List, [], ◌∷◌}
use Prim.Native.Nat.{ℕ}
use lib.ListN.{length}
use Rattle.fragments.specs.Lists.{width_of, first_above, tested_of}
use Rattle.logic.specs.Count.{count}
use Rattle.cheapest.specs.Least.{first_least}
use Rattle.cheapest.specs.Lines.{line_in, line_of, ends_in, ends_of}
use Rattle.cheapest.specs.Table.{at, choice, table_of, best_costs, chosen_starts}
use Rattle.least_cost.specs.declared.Penalties.{Penalties}
use Rattle.least_cost.specs.Price.{total, line_len, target, width_price, ending_price, line_price, price_at, price}
use Rattle.least_cost.specs.Layout.{first_big, admission_of, costs_of, starts_of, ends_of_lines, laid_of}

-- "defaults 1000, 2500, 4, 25, 25"
abbrev defaults : Penalties
defaults = record { line = 1000; overflow = 2500; fraction = 4; short = 25; hyphen = 25 }

-- What is asked of a layout of the fragments w, s, p in one width, with the default penalties: how many lines, their ends, and the cost.
abbrev Lays : List ℕ → List ℕ → List ℕ → ℕ → List ℕ → ℕ → Type 0
Lays w s p width es cost =
    (laid_of w s p (width ∷ []) defaults 10 11 11 ≡ Ok (length es))
    × (ends_of_lines w s p (width ∷ []) defaults ≡ es)
    × (at (costs_of w s p (width ∷ []) defaults) (length w) ≡ cost)

-- "Words 3, 50, whitespace 1, 0, default penalties: at 53 one line, cost 3500; at 52 two lines, cost 4401; at 54 one line, cost 1000."
two_words : Lays (3 ∷ 50 ∷ []) (1 ∷ 0 ∷ []) (0 ∷ 0 ∷ []) 53 (2 ∷ []) 3500
    × Lays (3 ∷ 50 ∷ []) (1 ∷ 0 ∷ []) (0 ∷ 0 ∷ []) 52 (1 ∷ 2 ∷ []) 4401
    × Lays (3 ∷ 50 ∷ []) (1 ∷ 0 ∷ []) (0 ∷ 0 ∷ []) 54 (2 ∷ []) 1000
unfolding laid_of admission_of tested_of first_big first_above count ends_of_lines ends_of ends_in starts_of chosen_starts costs_of best_costs table_of choice first_least line_of line_in price price_at line_price width_price
    ending_price line_len total target width_of
two_words = ((refl, refl, refl), (refl, refl, refl), (refl, refl, refl))

-- "Words 2 3 2 3 2 3 4 2 3 8, whitespace 1 except the last 0, at 10: ends 2 5 7 9 10, cost 5037."
ten_words : Lays (2 ∷ 3 ∷ 2 ∷ 3 ∷ 2 ∷ 3 ∷ 4 ∷ 2 ∷ 3 ∷ 8 ∷ []) (1 ∷ 1 ∷ 1 ∷ 1 ∷ 1 ∷ 1 ∷ 1 ∷ 1 ∷ 1 ∷ 0 ∷ []) (0 ∷ 0 ∷ 0 ∷ 0 ∷ 0 ∷ 0 ∷ 0 ∷ 0 ∷ 0 ∷ 0 ∷ []) 10 (2 ∷ 5 ∷ 7 ∷ 9 ∷ 10 ∷ []) 5037
unfolding laid_of admission_of tested_of first_big first_above count ends_of_lines ends_of ends_in starts_of chosen_starts costs_of best_costs table_of choice first_least line_of line_in price price_at line_price width_price
    ending_price line_len total target width_of
ten_words = (refl, refl, refl)
