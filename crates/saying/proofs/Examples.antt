-- Numbers as text, by computing.
use mathlib.Core.Path.{◌≡◌, refl}
use mathlib.Core.List.{[], ◌∷◌}
use Rattle.saying.specs.Saying.{decimal_for, decimal_of}
use Rattle.saying.specs.Ascii.{ascii}

-- 0, 42, 60000, and the largest number of 64 bits.
numbers : (decimal_of 0 ≡ 48 ∷ []) × (decimal_of 42 ≡ 52 ∷ 50 ∷ []) × (decimal_of 60000 ≡ 54 ∷ 48 ∷ 48 ∷ 48 ∷ 48 ∷ [])
    × (decimal_of 18446744073709551615 ≡ 49 ∷ 56 ∷ 52 ∷ 52 ∷ 54 ∷ 55 ∷ 52 ∷ 52 ∷ 48 ∷ 55 ∷ 51 ∷ 55 ∷ 48 ∷ 57 ∷ 53 ∷ 53 ∷ 49 ∷ 54 ∷ 49 ∷ 53 ∷ [])
unfolding decimal_of decimal_for
numbers = (refl, refl, refl, refl)

words : ascii "at\n" ≡ 97 ∷ 116 ∷ 10 ∷ []
words = refl
