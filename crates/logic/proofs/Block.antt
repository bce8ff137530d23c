-- Whether a place of a block passes a test: what it says of each place.
use mathlib.Core.Path.{◌≡◌, refl}
use mathlib.Core.Bool.{Bool, false}
use Prim.Native.Nat.{ℕ, zero, suc, ◌+◌, ◌<◌}
use native.Mathlib.Omega.{arith}
use lib.Dec.{ltb}
use borrow.Author.Tests.{ltb-true, ltb-false}
use Rattle.logic.specs.Block.{any}
use Rattle.logic.proofs.Choice.{both, neither}

-- None of the k passes, by each of them.
pub none_passes : (p : ℕ → Bool) (from k : ℕ) → any p from k ≡ false → (j : ℕ) → j < k → p (from + j) ≡ false
unfolding any
none_passes p from zero e j l = absurd (omega arith)
none_passes p from (suc k) e j l =
    let h = neither (any p from k) (p (from + k)) e in
    both (ltb j k)
    (λ q. none_passes p from k h.0 j (ltb-true j k q))
    (λ q. let s : j ≡ k = omega (arith, ltb-false j k q) in rw s h.1)

pub all_fail : (p : ℕ → Bool) (from k : ℕ) → ((j : ℕ) → j < k → p (from + j) ≡ false) → any p from k ≡ false
unfolding any
all_fail p from zero f = refl
all_fail p from (suc k) f = rw (all_fail p from k (λ j l. f j (omega arith)), f k (omega arith))
