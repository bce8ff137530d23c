-- The digits that `io::decimal` writes are `decimal_of`'s, and they are at most twenty.
use mathlib.Core.Path.{◌≡◌, refl}
use mathlib.Core.List.{List, [], ◌∷◌, ◌++◌}
use Prim.Native.Nat.{ℕ, zero, suc, ◌+◌, ◌*◌, ◌-◌, ◌/◌, ◌%◌, ◌^◌, ◌≤◌, ◌<◌}
use native.Mathlib.Nat.{pow-le-pow_right}
use native.Mathlib.Omega.{arith}
use lib.Dec.{ltb}
use borrow.Author.Tests.{lt-ltb, le-ltb, ltb-true, ltb-false}
use Rattle.io.specs.Digits.{last_digits, IsDigitCount}
use Rattle.logic.proofs.Choice.{both}
use Rattle.saying.specs.declared.Line.{Line}
use Rattle.saying.specs.Saying.{Said, number_most, digit_of, decimal_for, decimal_of}

pos_pow : (k : ℕ) → 1 ≤ 10 ^ k
pos_pow zero = omega arith
pos_pow (suc k) = omega (arith, pos_pow k)

-- The digits of the fewest places that hold a number.
fewest : (f n j : ℕ) → j < f → n < 10 ^ suc j → (1 ≤ j → 10 ^ j ≤ n) → decimal_for f n ≡ last_digits 10 (suc j) n
unfolding decimal_for
fewest zero n j h q w = absurd (omega arith)
fewest (suc f) n zero h q w =
    let l : n < 10 = omega arith in
    let e : n % 10 ≡ n = omega arith in
    rw (lt-ltb n 10 l, e, lt-ltb n 10 l)
fewest (suc f) n (suc i) h q w =
    let m : 10 ^ suc i ≤ n = w (omega arith) in
    let g : 10 ≤ n = omega (arith, pos_pow i) in
    let r : n % 10 < 10 = omega arith in
    rw (le-ltb n 10 g, lt-ltb (n % 10) 10 r, fewest f (n / 10) i (omega arith) (omega arith) (λ t. omega arith))

-- A number of 64 bits has at most twenty.
pub few_digits : (n k : ℕ) → IsDigitCount 10 1 n k → n < 2 ^ 64 → k ≤ number_most
few_digits n k w h =
    both (ltb 20 k)
    (λ t. let l = ltb-true 20 k t in absurd (omega (arith, w.2 (omega arith), pow-le-pow_right {n = 10} (omega arith) {i = 20} {j = k - 1} (omega arith))))
    (λ f. ltb-false 20 k f)

decimal_digits : (n k : ℕ) → IsDigitCount 10 1 n k → n < 2 ^ 64 → decimal_of n ≡ last_digits 10 k n
unfolding decimal_of
decimal_digits n zero w h = absurd (omega (arith, w.0))
decimal_digits n (suc j) w h =
    let z : suc j - 1 ≡ j = omega arith in
    fewest number_most n j (omega (arith, few_digits n (suc j) w h)) w.1 (λ l. rw z at (w.2 (omega arith)))

-- What `io::decimal` wrote is said.
pub number_said : {l m : Line} {b : List ℕ} (n k : ℕ) → IsDigitCount 10 1 n k → n < 2 ^ 64 → b ≡ last_digits 10 k n → Said l b m → Said l (decimal_of n) m
number_said n k w h d s = rw (decimal_digits n k w h, ← d) s

-- ---- the digits read back

-- The number that digits are, after those of v.
abbrev pub value : ℕ → List ℕ → ℕ
value v [] = v
value v (d ∷ t) = value (v * 10 + (d - 48)) t

value_snoc : (v : ℕ) (l : List ℕ) (d : ℕ) → value v (l ++ (d ∷ [])) ≡ value v l * 10 + (d - 48)
value_snoc v [] d = refl
value_snoc v (b ∷ l) d = value_snoc (v * 10 + (b - 48)) l d

reads : (k n : ℕ) → n < 10 ^ k → value 0 (decimal_for k n) ≡ n
unfolding decimal_for
reads zero n h = omega arith
reads (suc k) n h =
    both (ltb n 10)
    (λ t. rw t (omega arith))
    (λ f.
    let g = ltb-false n 10 f in
    let r = reads k (n / 10) (omega arith) in
    rw (f, value_snoc 0 (decimal_for k (n / 10)) (digit_of (n % 10)), r) (omega arith))

-- They are the number again.
pub decimal_reads : (n : ℕ) → n < 2 ^ 64 → value 0 (decimal_of n) ≡ n
unfolding decimal_of
decimal_reads n h = reads number_most n (omega arith)
