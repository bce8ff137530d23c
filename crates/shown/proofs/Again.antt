-- What is shown has nothing left to show: no byte below 20, no 7F and no control character of C1 passes.
use mathlib.Core.Path.{◌≡◌, refl, ap, ◌∙◌}
use mathlib.Core.Bool.{false, and-false}
use mathlib.Core.List.{List, [], ◌∷◌, ◌++◌}
use Prim.Native.Nat.{ℕ, zero, suc, ◌+◌, ◌≤◌}
use native.Mathlib.Omega.{arith}
use lib.Dec.{eqb, ltb}
use lib.ListN.{get_or}
use borrow.Author.Tests.{le-ltb, ltb-true, ne_eqb}
use Rattle.logic.specs.Choice.{pick}
use Rattle.logic.proofs.Choice.{both}
use Rattle.shown.specs.Shown.{is_c1, picture, shown_one, shown_from, shown}

-- A picture is shown as it is.
picture_again : (z : ℕ) (r : List ℕ) → 0x80 ≤ z → z ≤ 0xA6 → shown (picture z ++ r) ≡ picture z ++ shown r
unfolding shown_from shown_one
picture_again z r p q = rw (le-ltb z 0x20 (omega arith), ne_eqb z 0x7F (λ e. omega arith), ne_eqb z 0xC2 (λ e. omega arith))

-- So is a byte that is none of those.
plain_again : (a : ℕ) (r : List ℕ) → ltb a 0x20 ≡ false → eqb a 0x7F ≡ false → is_c1 a (get_or r 0 0) ≡ false → shown (a ∷ r) ≡ a ∷ shown r
unfolding shown_from shown_one
plain_again a r p q t = rw (p, q, t)

no_c1 : (a : ℕ) → is_c1 a 0xE2 ≡ false
no_c1 a = and-false (eqb a 0xC2)

-- What stands for bytes starts like them, or with a picture.
first_again : (a : ℕ) (t : List ℕ) → is_c1 a (get_or t 0 0) ≡ false → is_c1 a (get_or (shown t) 0 0) ≡ false
unfolding shown_from shown_one
first_again a [] e = e
first_again a (b ∷ t) e =
    both (ltb b 0x20)
    (λ p. rw p (no_c1 a))
    (λ p. both (eqb b 0x7F)
    (λ q. rw (p, q) (no_c1 a))
    (λ q. both (is_c1 b (get_or t 0 0)) (λ u. rw (p, q, u) (no_c1 a)) (λ u. rw (p, q, u) e)))

-- A character that is shown by a picture, and one that is not.
one_picture : (z : ℕ) (r : List ℕ) → 0x80 ≤ z → z ≤ 0xA6 → shown r ≡ r → shown (picture z ++ r) ≡ picture z ++ r
one_picture z r p q e = picture_again z r p q ∙ ap (λ l. picture z ++ l) e

from_again : (k : ℕ) (s : List ℕ) → shown (shown_from k s) ≡ shown_from k s
unfolding shown_from shown_one
from_again k [] = refl
from_again (suc k) (a ∷ t) = from_again k t
from_again zero (a ∷ t) =
    both (ltb a 0x20)
    (λ p. rw p (one_picture (0x80 + a) _ (omega arith) (omega (arith, ltb-true a 0x20 p)) (from_again (pick (is_c1 a (get_or t 0 0)) 1 0) t)))
    (λ p. both (eqb a 0x7F)
    (λ q. rw (p, q) (one_picture 0xA1 _ (omega arith) (omega arith) (from_again (pick (is_c1 a (get_or t 0 0)) 1 0) t)))
    (λ q. both (is_c1 a (get_or t 0 0))
    (λ u. rw (p, q, u) (one_picture 0xA6 _ (omega arith) (omega arith) (from_again 1 t)))
    (λ u. rw (p, q, u) (plain_again a (shown t) p q (first_again a t u) ∙ ap (λ l. a ∷ l) (from_again 0 t)))))

-- SHOWN AGAIN, what is shown stays as it is.
pub shown_again : (s : List ℕ) → shown (shown s) ≡ shown s
shown_again s = from_again 0 s
