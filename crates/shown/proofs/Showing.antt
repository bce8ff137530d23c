-- Control characters by their pictures: what stands for one character, and the loop over bytes.
use mathlib.Core.Path.{◌≡◌, refl, ap}
use mathlib.Core.Bool.{Bool, true, false}
use mathlib.Core.List.{List, [], ◌∷◌, ◌++◌}
use Prim.Native.Nat.{ℕ, zero, suc, ◌+◌, ◌-◌, ◌*◌, ◌≤◌, ◌<◌}
use native.Mathlib.Omega.{arith}
use lib.Dec.{eqb, ltb}
use lib.ListN.{length, get_or, take, drop, length-append, length-drop}
use borrow.Author.Tests.{lt-ltb, le-ltb, eq-eqb, ne_eqb}
use Rattle.std.proofs.lemmas.List.{take_rest, nil_from_length}
use Rattle.logic.specs.Choice.{pick, within}
use Rattle.logic.proofs.Choice.{both, and_true, within_says}
use Rattle.saying.specs.declared.Line.{Line}
use Rattle.saying.specs.Saying.{Said}
use Rattle.shown.specs.Shown.{is_c1, picture, shown_one, size_one, shown_from, shown}
use Rattle.shown.proofs.Telling.{Telling, telling_start, telling_step, telling_end}

-- ---- one character

module _ {l m : Line} (a b : ℕ) where
  pub one_low : a < 0x20 → Said l (picture (0x80 + a)) m → Said l (shown_one a b) m
  unfolding shown_one
  one_low h s = rw (lt-ltb a 0x20 h) s

  pub one_delete : 0x20 ≤ a → a ≡ 0x7F → Said l (picture 0xA1) m → Said l (shown_one a b) m
  unfolding shown_one
  one_delete h e s = rw (le-ltb a 0x20 h, eq-eqb a 0x7F e) s

  module _ {t : Bool} (q : t ≡ is_c1 a b) (h : 0x20 ≤ a) (n : a ≡ 0x7F → ⊥) where
    pub one_c1 : t ≡ true → Said l (picture 0xA6) m → Said l (shown_one a b) m
    unfolding shown_one
    one_c1 e s = rw (le-ltb a 0x20 h, ne_eqb a 0x7F n, ← q, e) s

    pub one_plain : t ≡ false → Said l (a ∷ []) m → Said l (shown_one a b) m
    unfolding shown_one
    one_plain e s = rw (le-ltb a 0x20 h, ne_eqb a 0x7F n, ← q, e) s

pub ruleset one = (one_low, one_delete, one_c1, one_plain)

module _ (a b : ℕ) {t : Bool} (q : t ≡ is_c1 a b) where
  pub size_two : t ≡ true → 2 ≡ size_one a b
  unfolding size_one
  size_two e = rw (← q, e)

  pub size_single : t ≡ false → 1 ≡ size_one a b
  unfolding size_one
  size_single e = rw (← q, e)

-- At most three bytes stand for it.
one_most : (a b : ℕ) → length (shown_one a b) ≤ 3
unfolding shown_one
one_most a b =
    both (ltb a 0x20)
    (λ t. rw t (omega arith))
    (λ t. both (eqb a 0x7F)
    (λ u. rw (t, u) (omega arith))
    (λ u. both (is_c1 a b) (λ v. rw (t, u, v) (omega arith)) (λ v. rw (t, u, v) (omega arith))))

size_some : (a b : ℕ) → 0 < size_one a b
unfolding size_one
size_some a b = both (is_c1 a b) (λ t. rw t (omega arith)) (λ t. rw t (omega arith))

-- It lies in the text: the second byte of a control character of C1 is not 0, so there is one.
size_inside : (s : List ℕ) → 0 < length s → size_one (get_or s 0 0) (get_or s 1 0) ≤ length s
unfolding size_one
size_inside [] h = absurd (omega arith)
size_inside (a ∷ []) h = both (is_c1 a 0) (λ p. absurd (omega (arith, (within_says 0x80 0x9F 0 (and_true (eqb a 0xC2) (within 0x80 0x9F 0) p).1).0))) (λ p. rw p (omega arith))
size_inside (a ∷ b ∷ t) h = both (is_c1 a b) (λ p. rw p (omega arith)) (λ p. rw p (omega arith))

-- ---- all of them

from_drop : (k : ℕ) (s : List ℕ) → shown_from k s ≡ shown (drop k s)
unfolding shown_from
from_drop zero s = refl
from_drop (suc k) [] = refl
from_drop (suc k) (a ∷ t) = from_drop k t

-- The first character, and then the rest.
shown_next : (s : List ℕ) → 0 < length s → shown s ≡ shown_one (get_or s 0 0) (get_or s 1 0) ++ shown (drop (size_one (get_or s 0 0) (get_or s 1 0)) s)
unfolding shown_from size_one
shown_next [] h = absurd (omega arith)
shown_next (a ∷ t) h =
    both (is_c1 a (get_or t 0 0))
    (λ p. rw p (ap (λ l. shown_one a (get_or t 0 0) ++ l) (from_drop 1 t)))
    (λ p. rw p)

-- At most three bytes a byte.
from_most : (k : ℕ) (s : List ℕ) → length (shown_from k s) ≤ 3 * length s
unfolding shown_from
from_most k [] = omega arith
from_most zero (a ∷ t) =
    let h = from_most (pick (is_c1 a (get_or t 0 0)) 1 0) t in
    omega (arith, length-append (shown_one a (get_or t 0 0)) (shown_from (pick (is_c1 a (get_or t 0 0)) 1 0) t), one_most a (get_or t 0 0))
from_most (suc k) (a ∷ t) = let h = from_most k t in omega arith

pub shown_most : (s : List ℕ) → length (shown s) ≤ 3 * length s
shown_most s = from_most 0 s

-- ---- the loop

-- Of the bytes s the last ones, `rest`, are still to be shown; the line has become m.
pub record Showing (l : Line) (s rest : List ℕ) (m : Line) : Type 0 where
  pub told : Telling l (shown s) (shown rest) m
  pub room : m.len + 3 * length rest ≤ length l.room.now

pub showing_start : (l : Line) (s : List ℕ) → l.len + 3 * length s ≤ length l.room.now → Showing l s s l
showing_start l s h = record { told = telling_start l (shown s) (omega arith); room = h }

module _ {l m : Line} {s r : List ℕ} (k : Showing l s r m) (h : 0 < length r) where
  pub showing_room : m.len + 3 ≤ length m.room.now
  showing_room = omega (arith, k.room, k.told.said.long)

  module _ {n : ℕ} (e : n ≡ size_one (get_or r 0 0) (get_or r 1 0)) where
    pub showing_size : n ≤ length r
    showing_size = rw e (size_inside r h)

    pub showing_less : length (take (length r - n) (drop n r)) < length r
    showing_less = rw (take_rest r n) (omega (arith, length-drop n r, e, size_some (get_or r 0 0) (get_or r 1 0), showing_size))

    pub showing_step : {q : Line} → Said m (shown_one (get_or r 0 0) (get_or r 1 0)) q → Showing l s (take (length r - n) (drop n r)) q
    showing_step {q} d = rw (take_rest r n) (record {
      told = telling_step (shown_one (get_or r 0 0) (get_or r 1 0)) (shown (drop n r)) k.told d (rw e (shown_next r h));
      room = omega (arith, k.room, d.count, one_most (get_or r 0 0) (get_or r 1 0), length-drop n r, e, size_some (get_or r 0 0) (get_or r 1 0), showing_size);
    })

pub showing_end : {l m : Line} {s r : List ℕ} → Showing l s r m → length r ≤ 0 → Said l (shown s) m
unfolding shown_from
showing_end {l} {m} {s} {r} k e = telling_end k.told (rw (nil_from_length r (omega arith)))

pub ruleset showing = (showing_start, showing_room, showing_size, showing_less, showing_step, showing_end)
