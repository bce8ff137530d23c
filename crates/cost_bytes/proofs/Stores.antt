-- What stands at the front of a list after stores, and numbers that are zero as bytes.
use mathlib.Core.Path.{◌≡◌, refl, sym, ap, ◌∙◌}
use mathlib.Core.List.{List, [], ◌∷◌}
use Prim.Native.Nat.{ℕ, zero, suc, ◌+◌, ◌*◌, ◌≤◌}
use native.Mathlib.Omega.{arith}
use lib.ListN.{length, take, drop, replicate}
use lib.Seq.{sets, sets-eq, take_at}
use Rattle.logic.specs.Flat.{flat}
use Rattle.wire.specs.Wire.{be16, be64}

-- As many as were stored are what was stored.
pub take_stored : (l vs : List ℕ) (n : ℕ) → n ≡ length vs → length vs ≤ length l → take n (sets l 0 vs) ≡ vs
take_stored l vs n e h =
    let m : 0 + length vs ≤ length l = omega arith in
    rw (sets-eq vs l 0 m) (take_at vs (drop (0 + length vs) l) n (sym e))

zeros16 : (n : ℕ) → flat be16 (replicate n 0) ≡ replicate (2 * n) 0
zeros16 zero = refl
zeros16 (suc n) = let e : 2 * suc n ≡ suc (suc (2 * n)) = omega arith in rw (e, zeros16 n)

zeros64 : (n : ℕ) → flat be64 (replicate n 0) ≡ replicate (8 * n) 0
zeros64 zero = refl
zeros64 (suc n) = let e : 8 * suc n ≡ suc (suc (suc (suc (suc (suc (suc (suc (8 * n)))))))) = omega arith in rw (e, zeros64 n)

-- Zeros for numbers are zeros for their bytes.
pub zero_bytes16 : (vs : List ℕ) → flat be16 (replicate (length vs) 0) ≡ replicate (length (flat be16 vs)) 0
zero_bytes16 vs = zeros16 (length vs) ∙ ap (λ n. replicate n 0) (sym (size vs))
  where
    size : (vs : List ℕ) → length (flat be16 vs) ≡ 2 * length vs
    size [] = refl
    size (v ∷ vs) = omega (arith, size vs)

pub zero_bytes64 : (vs : List ℕ) → flat be64 (replicate (length vs) 0) ≡ replicate (length (flat be64 vs)) 0
zero_bytes64 vs = zeros64 (length vs) ∙ ap (λ n. replicate n 0) (sym (size vs))
  where
    size : (vs : List ℕ) → length (flat be64 vs) ≡ 8 * length vs
    size [] = refl
    size (v ∷ vs) = omega (arith, size vs)
