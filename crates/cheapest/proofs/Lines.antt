-- Line numbers and ends: what they are at 0 and at a position above it. The bound on the steps does not count.
use mathlib.Core.Path.{◌≡◌, refl, sym, ap, ◌∙◌}
use mathlib.Core.List.{List, [], ◌∷◌, ◌++◌}
use Prim.Native.Nat.{ℕ, zero, suc, ◌+◌, ◌≤◌, ◌<◌}
use native.Mathlib.Omega.{arith}
use lib.ListN.{length, length-append}
use Rattle.cheapest.specs.Lines.{Falls, line_in, line_of, ends_in, ends_of}

-- ---- ends

-- The steps do not count, and only starts up to j are read.
ends_in_same : (s t : ℕ → ℕ) (n m j : ℕ) → Falls s j → ((k : ℕ) → k ≤ j → s k ≡ t k) → j ≤ n → j ≤ m → ends_in s n j ≡ ends_in t m j
unfolding ends_in
ends_in_same s t zero zero j f e a b = refl
ends_in_same s t zero (suc m) zero f e a b = refl
ends_in_same s t zero (suc m) (suc j) f e a b = absurd (omega arith)
ends_in_same s t (suc n) zero zero f e a b = refl
ends_in_same s t (suc n) zero (suc j) f e a b = absurd (omega arith)
ends_in_same s t (suc n) (suc m) zero f e a b = refl
ends_in_same s t (suc n) (suc m) (suc j) f e a b =
    let l : s (suc j) < suc j = f (suc j) (omega arith) (omega arith) in
    ap (λ (x : List ℕ). x ++ (suc j ∷ []))
    (ends_in_same s t n m (s (suc j)) (λ k p h. f k p (omega arith)) (λ k h. e k (omega arith)) (omega arith) (omega arith)
    ∙ ap (λ x. ends_in t m x) (e (suc j) (omega arith)))

pub ends_same : (s t : ℕ → ℕ) (j : ℕ) → Falls s j → ((k : ℕ) → k ≤ j → s k ≡ t k) → ends_of s j ≡ ends_of t j
unfolding ends_of
ends_same s t j f e = ends_in_same s t j j j f e (omega arith) (omega arith)

pub ends_zero : (s : ℕ → ℕ) → ends_of s 0 ≡ []
unfolding ends_of ends_in
ends_zero s = refl

pub ends_next : (s : ℕ → ℕ) (j : ℕ) → Falls s j → 0 < j → ends_of s j ≡ ends_of s (s j) ++ (j ∷ [])
unfolding ends_of ends_in
ends_next s zero f p = absurd (omega arith)
ends_next s (suc j) f p =
    let l : s (suc j) < suc j = f (suc j) p (omega arith) in
    ap (λ (x : List ℕ). x ++ (suc j ∷ [])) (ends_in_same s s j (s (suc j)) (s (suc j)) (λ k p h. f k p (omega arith)) (λ k h. refl) (omega arith) (omega arith))

-- There are as many ends as the line number says.
pub ends_length : (s : ℕ → ℕ) (j : ℕ) → length (ends_of s j) ≡ line_of s j
unfolding ends_of line_of ends_in line_in
ends_length s j = go j j
  where
    go : (n j : ℕ) → length (ends_in s n j) ≡ line_in s n j
    go zero j = refl
    go (suc n) zero = refl
    go (suc n) (suc j) = rw length-append (omega (arith, go n (s (suc j))))

-- ---- line numbers, by their ends

pub line_zero : (s : ℕ → ℕ) → line_of s 0 ≡ 0
unfolding line_of line_in
line_zero s = refl

pub line_same : (s t : ℕ → ℕ) (j : ℕ) → Falls s j → ((k : ℕ) → k ≤ j → s k ≡ t k) → line_of s j ≡ line_of t j
line_same s t j f e = sym (ends_length s j) ∙ ap length (ends_same s t j f e) ∙ ends_length t j

pub line_next : (s : ℕ → ℕ) (j : ℕ) → Falls s j → 0 < j → line_of s j ≡ line_of s (s j) + 1
line_next s j f p =
    omega (arith, ends_length s j, ends_length s (s j), ap length (ends_next s j f p), length-append (ends_of s (s j)) (j ∷ []))

pub line_le : (s : ℕ → ℕ) (j : ℕ) → line_of s j ≤ j
unfolding line_of line_in
line_le s j = go j j
  where
    go : (n j : ℕ) → line_in s n j ≤ n
    go zero j = omega arith
    go (suc n) zero = omega arith
    go (suc n) (suc j) = omega (arith, go n (s (suc j)))
