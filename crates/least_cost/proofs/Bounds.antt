-- No line costs more than 2^50, and so no position: numbers of 16 bits, at most 4,096 fragments and penalties up to 1,000,000.
use mathlib.Core.Path.{◌≡◌}
use mathlib.Core.Logic.{⊎_elim}
use mathlib.Core.List.{List, [], ◌∷◌}
use Prim.Native.Nat.{ℕ, zero, suc, ◌+◌, ◌-◌, ◌*◌, ◌^◌, ◌≤◌, ◌<◌, min}
use native.Mathlib.Nat.{eq-zero-or-pos}
use native.Mathlib.Omega.{arith}
use lib.Dec.{ltb, eqb}
use lib.ListN.{length, get_or, take, drop}
use Rattle.logic.proofs.Choice.{pick_le}
use Rattle.fragments.specs.Lists.{width_of}
use Rattle.cheapest.specs.Table.{Table}
use Rattle.cheapest.proofs.Table.{table_bound}
use Rattle.least_cost.specs.declared.Penalties.{Penalties}
use Rattle.least_cost.specs.Price.{total, line_len, target, width_price, line_price, price_at, price}
use Rattle.least_cost.specs.Search.{Small}
use Rattle.least_cost.proofs.Pricing.{over, square, ending_cap}

-- Each of a list's numbers has 16 bits.
abbrev pub Short : List ℕ → Type 0
Short l = (k : ℕ) → get_or l k 0 ≤ 65535

total_take : (j : ℕ) (l : List ℕ) → Short l → total (take j l) ≤ 65535 * j
unfolding total
total_take zero l h = omega arith
total_take (suc j) [] h = omega arith
total_take (suc j) (x ∷ l) h = omega (arith, h 0, total_take j l (λ k. h (suc k)))

total_drop : (i : ℕ) (l : List ℕ) → total (drop i l) ≤ total l
unfolding total
total_drop zero l = omega arith
total_drop (suc i) [] = omega arith
total_drop (suc i) (x ∷ l) = omega (arith, total_drop i l)

pub len_cap : (w s p : List ℕ) (i j : ℕ) → Short w → Short s → Short p → j ≤ 4096 → line_len w s p i j ≤ 2 ^ 30
unfolding line_len
len_cap w s p i j a b d l =
    omega (arith, total_drop i (take j w), total_take j w a, total_drop i (take j s), total_take j s b, d (j - 1))

pub target_cap : (ws : List ℕ) (line : ℕ) → Short ws → target ws line ≤ 65535
unfolding target width_of
target_cap ws line h = omega (arith, h (min line (length ws - 1)))

pub line_cap : (P : Penalties) (T L h i j n : ℕ) → Small P → T ≤ 65535 → L ≤ 2 ^ 30 → line_price P T L h i j n ≤ 2 ^ 50
unfolding line_price width_price
line_cap P T L h i j n s t l =
    let most = 1000000 * 2 ^ 30 in
    let short = pick_le (ltb (L * P.fraction) T) P.short 0 most (omega (arith, s.last)) (omega arith) in
    let last = pick_le (eqb j (i + 1)) _ 0 most short (omega arith) in
    let fits = pick_le (eqb j n) _ ((T - L) * (T - L)) most last (omega (arith, square P T L t)) in
    omega (arith, s.line, ending_cap P h s, pick_le (ltb T L) (P.overflow * (L - T)) _ most (over P T L s l) fits)

module _ (w s p ws : List ℕ) (P : Penalties) (hw : Short w) (hs : Short s) (hp : Short p) (hws : Short ws) (small : Small P) where
  pub price_cap : (l i j : ℕ) → j ≤ 4096 → price w s p ws P l i j ≤ 2 ^ 50
  unfolding price price_at
  price_cap l i j m = line_cap P (target ws l) (line_len w s p i j) (get_or p (j - 1) 0) i j (length w) small (target_cap ws l hws) (len_cap w s p i j hw hs hp m)

  -- No position of a table costs more, and no price that is compared exceeds 2^51.
  module _ (n : ℕ) (c b : ℕ → ℕ) (t : Table (price w s p ws P) n c b) (few : n ≤ 4096) where
    pub cost_cap : (k : ℕ) → k ≤ n → c k ≤ 2 ^ 50
    cost_cap k l = ⊎_elim
        (λ (z : k ≡ 0). rw z (omega (arith, t.cost0)))
        (λ (z : 0 < k). omega (arith, table_bound (price w s p ws P) n c b t k z l, price_cap 0 0 k (omega arith)))
        (eq-zero-or-pos k)

    pub compared_cap : (l i j : ℕ) → i ≤ n → j ≤ n → c i + price w s p ws P l i j ≤ 2 ^ 51
    compared_cap l i j h g = omega (arith, cost_cap i h, price_cap l i j (omega arith))
