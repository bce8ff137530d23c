-- The first least: what computes it is what is asked of it, and there is only one.
use mathlib.Core.Path.{◌≡◌, refl, sym, ◌∙◌, subst}
use mathlib.Core.Logic.{⊎_elim}
use Prim.Native.Nat.{ℕ, zero, suc, ◌≤◌, ◌<◌}
use native.Mathlib.Decide.{dec_lt}
use native.Mathlib.Nat.{le_antisymm, eq-or-lt_of_le}
use native.Mathlib.Omega.{arith}
use lib.Dec.{ltb}
use borrow.Author.Tests.{ltb-true, ltb-false}
use Rattle.logic.proofs.Choice.{both}
use Rattle.cheapest.specs.Least.{Cheapest, first_least}

pub cheapest_one : (f : ℕ → ℕ) (v : ℕ) → v ≡ f 0 → Cheapest f 1 0 v
cheapest_one f v e = record {
  below = omega arith;
  value = e;
  least = λ k l. let z : k ≡ 0 = omega arith in rw (z, e) (omega arith);
  first = λ k l. absurd (omega arith);
}

module _ (f : ℕ → ℕ) (n i v : ℕ) (h : Cheapest f n i v) where
  upto : (P : ℕ → Type 0) → ((k : ℕ) → k < n → P k) → P n → (k : ℕ) → k < suc n → P k
  upto P b e k l = ⊎_elim (λ (z : k ≡ n). subst P (sym z) e) (λ (m : k < n). b k m) (eq-or-lt_of_le (let m : k ≤ n = omega arith in m))

  -- f n is below what was least: n is chosen.
  pub cheapest_new : f n < v → Cheapest f (suc n) n (f n)
  cheapest_new l = record {
    below = omega arith;
    value = refl;
    least = upto (λ k. f n ≤ f k) (λ k b. omega (arith, h.least k b)) (omega arith);
    first = λ k b. omega (arith, h.least k b);
  }

  -- It is not: the choice stands.
  pub cheapest_old : v ≤ f n → Cheapest f (suc n) i v
  cheapest_old l = record {
    below = omega (arith, h.below);
    value = h.value;
    least = upto (λ k. v ≤ f k) h.least l;
    first = h.first;
  }

-- What is computed is the first least.
pub first_least_lem : (f : ℕ → ℕ) (n : ℕ) → Cheapest f (suc n) (first_least f n).0 (first_least f n).1
unfolding first_least
first_least_lem f zero = cheapest_one f (f 0) refl
first_least_lem f (suc n) =
    let h = first_least_lem f n in
    both (ltb (f (suc n)) (first_least f n).1)
    (λ t. rw t (cheapest_new f (suc n) _ _ h (ltb-true _ _ t)))
    (λ t. rw t (cheapest_old f (suc n) _ _ h (ltb-false _ _ t)))

-- It speaks of f below n alone.
pub cheapest_same : (f g : ℕ → ℕ) (n i v : ℕ) → ((k : ℕ) → k < n → f k ≡ g k) → Cheapest f n i v → Cheapest g n i v
cheapest_same f g n i v e h = record {
  below = h.below;
  value = h.value ∙ e i h.below;
  least = λ k b. omega (arith, h.least k b, e k b);
  first = λ k b. omega (arith, h.first k b, e k (omega (arith, h.below)));
}

-- Two that are chosen are the same.
not_later : (f : ℕ → ℕ) (n i v i' v' : ℕ) → Cheapest f n i v → Cheapest f n i' v' → i ≤ i'
not_later f n i v i' v' h h' = elim (dec_lt i' i) [
  | yes l ↦ absurd (omega (arith, h.first i' l, h'.least i h.below, h.value, h'.value))
  | no m ↦ omega arith
]

pub cheapest_unique : (f : ℕ → ℕ) (n i v i' v' : ℕ) → Cheapest f n i v → Cheapest f n i' v' → (i ≡ i') × (v ≡ v')
cheapest_unique f n i v i' v' h h' = (
  le_antisymm (not_later f n i v i' v' h h') (not_later f n i' v' i v h' h),
  omega (arith, h.least i' h'.below, h'.least i h.below, h.value, h'.value),
)
