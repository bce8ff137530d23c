-- The price of a line, case by case as the code goes, that its numbers fit, and its bounds. A call's result is a number of its own with an equation.
use mathlib.Core.Path.{◌≡◌}
use mathlib.Core.Bool.{true}
use mathlib.Core.Logic.{⊎_elim}
use mathlib.Core.List.{List}
use Prim.Native.Nat.{ℕ, ◌+◌, ◌-◌, ◌*◌, ◌^◌, ◌≤◌, ◌<◌, min, max}
use native.Mathlib.Nat.{mul-le-mul, eq-or-lt_of_le}
use native.Mathlib.Decide.{dec_lt}
use native.Mathlib.Omega.{arith}
use mir.Syntax.{w64}
use mir.Val.{Fits}
use lib.Dec.{ltb}
use lib.ListN.{length, get_or, get_or-eq_default}
use borrow.Author.Tests.{lt-ltb, le-ltb, eq-eqb, ne_eqb, ltb-true}
use Rattle.logic.proofs.Choice.{pick_le}
use Rattle.fragments.specs.Lists.{width_of}
use Rattle.least_cost.specs.declared.Penalties.{Penalties}
use Rattle.least_cost.specs.Price.{width_price, ending_price, line_price, target}
use Rattle.least_cost.specs.Search.{Small, Sized, Weighable, Hopeless, Widest}

product : (a b x y : ℕ) → a ≤ x → b ≤ y → a * b ≤ x * y
product a b x y h g = mul-le-mul h g

module _ (P : Penalties) (T L : ℕ) where
  pub over : Small P → L ≤ 2 ^ 30 → P.overflow * (L - T) ≤ 1000000 * 2 ^ 30
  over h b = product P.overflow (L - T) 1000000 (2 ^ 30) h.over (omega arith)

  pub square : T ≤ 65535 → (T - L) * (T - L) ≤ 65535 * 65535
  square b = product (T - L) (T - L) 65535 65535 (omega arith) (omega arith)

  part : Small P → L ≤ 2 ^ 30 → L * P.fraction ≤ 2 ^ 30 * 1000000
  part h b = product L P.fraction (2 ^ 30) 1000000 b h.part

  pub over_fits : {o : ℕ} → Small P → L ≤ 2 ^ 30 → o ≡ P.overflow → Fits w64 (o * (L - T))
  over_fits h b e = record { fits = rw e (omega (arith, over h b)) }

  pub square_fits : {i : ℕ} → Sized T L i → Fits w64 ((T - L) * (T - L))
  square_fits z = record { fits = omega (arith, square z.target) }

  pub part_fits : {f i : ℕ} → Small P → Sized T L i → f ≡ P.fraction → Fits w64 (L * f)
  part_fits s z e = record { fits = rw e (omega (arith, part s z.len)) }

-- ---- what the line pays for its width

module _ (P : Penalties) (T L i j n : ℕ) where
  pub width_over : {o : ℕ} → Small P → Sized T L i → T < L → o ≡ P.overflow → (o * (L - T) ≡ width_price P T L i j n) × (o * (L - T) ≤ 1000000 * 2 ^ 30)
  unfolding width_price
  width_over s z a e = rw e (simp (lt-ltb T L a), over P T L s z.len)

  pub width_gap : Sized T L i → L ≤ T → (j ≡ n → ⊥) → ((T - L) * (T - L) ≡ width_price P T L i j n) × ((T - L) * (T - L) ≤ 1000000 * 2 ^ 30)
  unfolding width_price
  width_gap z a m = (simp (le-ltb T L a, ne_eqb j n m), omega (arith, square P T L z.target))

  pub width_last : L ≤ T → j ≡ n → (j ≡ i + 1 → ⊥) → (0 ≡ width_price P T L i j n) × (0 ≤ 1000000 * 2 ^ 30)
  unfolding width_price
  width_last a e m = (simp (le-ltb T L a, eq-eqb j n e, ne_eqb j (i + 1) m), omega arith)

  pub width_short : {f s : ℕ} → Small P → L ≤ T → j ≡ n → j ≡ i + 1 → f ≡ P.fraction → L * f < T → s ≡ P.short
      → (s ≡ width_price P T L i j n) × (s ≤ 1000000 * 2 ^ 30)
  unfolding width_price
  width_short z a e o x b y =
      let b' : L * P.fraction < T = rw x at b in
      rw y (simp (le-ltb T L a, eq-eqb j n e, eq-eqb j (i + 1) o, lt-ltb (L * P.fraction) T b'), omega (arith, z.last))

  pub width_long : {f : ℕ} → L ≤ T → j ≡ n → j ≡ i + 1 → f ≡ P.fraction → T ≤ L * f → (0 ≡ width_price P T L i j n) × (0 ≤ 1000000 * 2 ^ 30)
  unfolding width_price
  width_long a e o x b =
      let b' : T ≤ L * P.fraction = rw x at b in
      (simp (le-ltb T L a, eq-eqb j n e, eq-eqb j (i + 1) o, le-ltb (L * P.fraction) T b'), omega arith)

-- ---- the whole price

pub ending_cap : (P : Penalties) (h : ℕ) → Small P → ending_price P h ≤ 1000000
unfolding ending_price
ending_cap P h s = pick_le (ltb 0 h) P.hyphen 0 1000000 s.dash (omega arith)

pub line_fits : (P : Penalties) (h : ℕ) {a b c : ℕ} → Small P → a ≡ P.line → b ≤ 1000000 * 2 ^ 30 → c ≡ ending_price P h → Fits w64 (a + b + c)
line_fits P h s x y z = record { fits = omega (arith, s.line, ending_cap P h s) }

module _ (P : Penalties) (T L h i j n : ℕ) where
  pub line_whole : {a b c : ℕ} → Small P → a ≡ P.line → b ≡ width_price P T L i j n → b ≤ 1000000 * 2 ^ 30 → c ≡ ending_price P h
      → (a + b + c ≡ line_price P T L h i j n) × (a + b + c ≤ 2 ^ 50)
  unfolding line_price
  line_whole s x y b z = (cc, omega (arith, s.line, ending_cap P h s))

-- ---- whether a search goes on

module _ (P : Penalties) (widest L penalty cost best : ℕ) (s : Small P) (z : Weighable widest L cost best) {bar o : ℕ} (eb : bar ≡ max widest penalty) (eo : o ≡ P.overflow) where
  weighed : o * (L - bar) ≤ 1000000 * 2 ^ 30
  weighed = rw eo (over P bar L s z.len)

  pub weigh_over : Fits w64 (o * (L - bar))
  weigh_over = record { fits = omega (arith, weighed) }

  pub weigh_cost : Fits w64 (cost + o * (L - bar))
  weigh_cost = record { fits = omega (arith, weighed, z.cheap) }

squares : (n : ℕ) → n ≤ 65535 → n * n ≤ 65535 * 65535
squares n l = product n n 65535 65535 l l

pub weigh_square : {widest L cost best : ℕ} → Weighable widest L cost best → Fits w64 (widest * widest)
weigh_square {widest} z = record { fits = omega (arith, squares widest z.most) }

pub weigh_best : {widest L cost best : ℕ} → Weighable widest L cost best → Fits w64 (best + widest * widest)
weigh_best {widest} z = record { fits = omega (arith, squares widest z.most, z.low) }

pub weigh_all : {P : Penalties} {widest L cost best e : ℕ} (penalty : ℕ) → Small P → Weighable widest L cost best → e ≡ ending_price P penalty → Fits w64 (best + widest * widest + e)
weigh_all {P} {widest} penalty s z q = record { fits = omega (arith, squares widest z.most, z.low, ending_cap P penalty s) }

pub hopeless_true : {P : Penalties} {widest L penalty cost best bar o e : ℕ} → bar ≡ max widest penalty → bar < L → o ≡ P.overflow → e ≡ ending_price P penalty
    → ltb (best + widest * widest + e) (cost + o * (L - bar)) ≡ true → Hopeless P widest L penalty cost best
hopeless_true {P} {widest} {L} {penalty} {cost} {best} {bar} {o} {e} eb l eo ee t = record {
  over = rw eb at l;
  dear = rw (eb, eo, ee) at (ltb-true (best + widest * widest + e) (cost + o * (L - bar)) t);
}

pub ruleset pricing = (over_fits, square_fits, part_fits, line_fits, weigh_over, weigh_cost, weigh_square, weigh_best, weigh_all)

-- ---- the wanted width

pub target_low : (ws : List ℕ) (k : ℕ) {w : ℕ} → w ≡ width_of ws k → w < 1 → 1 ≡ target ws k
unfolding target
target_low ws k e l = omega arith

pub target_high : (ws : List ℕ) (k : ℕ) {w : ℕ} → w ≡ width_of ws k → 1 ≤ w → w ≡ target ws k
unfolding target
target_high ws k e l = omega arith

-- No line wants more than the largest of the widths passed, 1 at least.
pub record Widening (ws : List ℕ) (most i : ℕ) : Type 0 where
  pub one : 1 ≤ most
  pub low : most ≤ 65535
  pub all : (k : ℕ) → k < i → get_or ws k 0 ≤ most

module _ (ws : List ℕ) where
  pub widening_start : Widening ws 1 0
  widening_start = record { one = omega arith; low = omega arith; all = λ k l. absurd (omega arith) }

  pub widening_more : {most v i : ℕ} → Widening ws most i → v ≡ get_or ws i 0 → v ≤ 65535 → most < v → Widening ws v (i + 1)
  widening_more {most} {v} {i} h e b l = record {
    one = omega (arith, h.one);
    low = b;
    all = λ k m. ⊎_elim (λ (z : k ≡ i). rw (z, e) (omega arith)) (λ (n : k < i). omega (arith, h.all k n)) (eq-or-lt_of_le (let n : k ≤ i = omega arith in n));
  }

  pub widening_same : {most v i : ℕ} → Widening ws most i → v ≡ get_or ws i 0 → v ≤ most → Widening ws most (i + 1)
  widening_same {most} {v} {i} h e l = record {
    one = h.one;
    low = h.low;
    all = λ k m. ⊎_elim (λ (z : k ≡ i). rw z (omega arith)) (λ (n : k < i). h.all k n) (eq-or-lt_of_le (let n : k ≤ i = omega arith in n));
  }

  pub widening_end : {most i : ℕ} → Widening ws most i → length ws ≤ i → Widest ws most
  unfolding target width_of
  widening_end {most} {i} h l = record {
    all = λ k.
        let m : get_or ws (min k (length ws - 1)) 0 ≤ most = elim (dec_lt (min k (length ws - 1)) i) [
          | yes b ↦ h.all (min k (length ws - 1)) b
          | no b ↦ rw (get_or-eq_default ws 0 (let n : length ws ≤ min k (length ws - 1) = omega arith in n)) (omega arith)
        ] in
        omega (arith, h.one);
    low = h.low;
  }

pub ruleset widening = (widening_start, widening_more, widening_same, widening_end)
