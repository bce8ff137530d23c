-- Reading digits from the left: what is still to come, from the number so far on, is the whole number.
use mathlib.Core.Path.{◌≡◌, refl}
use mathlib.Core.Bool.{Bool, true, false}
use mathlib.Core.List.{List, [], ◌∷◌}
use Prim.Native.Nat.{ℕ, ◌+◌, ◌≤◌, ◌<◌}
use native.Mathlib.Numerals.{add-one}
use native.Mathlib.Omega.{arith}
use lib.ListN.{length, drop, get_or, drop_of_length-le}
use lib.Seq.{drop-cons}
use borrow.Author.Tests.{not-true, not-false, eq-eqb, ne_eqb}
use Rattle.std.specs.Prelude.{Some, None}
use Rattle.std.specs.List.{list_all}
use Rattle.logic.proofs.Choice.{both}
use Rattle.decimal.specs.Decimal.{digit, worth, with_digit, decimal, all_digits, is_number, parse}

pub record Reading (s : List ℕ) (n i : ℕ) : Type 0 where
  pub left : decimal n (drop i s) ≡ decimal 0 s
  pub small : n ≤ 99999
  pub inside : i ≤ length s

pub reading_start : (s : List ℕ) → Reading s 0 0
reading_start s = record { left = refl; small = omega arith; inside = omega arith }

pub reading_step : {s : List ℕ} {n i d m : ℕ} {t : Bool} → Reading s n i → i < length s → t ≡ digit (get_or s i 0) → t ≡ true → d ≡ worth (get_or s i 0) → m ≡ with_digit n d → m ≤ 99999 → Reading s m (i + 1)
unfolding decimal
reading_step {s} {n} {i} {d} {m} {t} r h e q v f l =
    let is : digit (get_or s i 0) ≡ true = cc in
    record { left = rw (f, v, add-one i) (rw (drop-cons s i 0 h, is) at r.left); small = l; inside = omega arith }

pub reading_stop : {s : List ℕ} {n i : ℕ} {t : Bool} → Reading s n i → i < length s → t ≡ digit (get_or s i 0) → t ≡ false → n ≡ decimal 0 s
unfolding decimal
reading_stop {s} {n} {i} r h e q =
    let none : digit (get_or s i 0) ≡ false = cc in
    rw (drop-cons s i 0 h, none) at r.left

pub reading_end : {s : List ℕ} {n i : ℕ} → Reading s n i → length s ≤ i → n ≡ decimal 0 s
unfolding decimal
reading_end {s} {n} {i} r h = rw (drop_of_length-le s h) at r.left

pub ruleset reading = (reading_start, reading_step, reading_stop, reading_end, not-true, not-false)

-- ---- a number, or none

pub parse_some : {n : ℕ} (s : List ℕ) → Some n ≡ parse s → (is_number s ≡ true) × (decimal 0 s ≡ n)
parse_some {n} s e = both (is_number s)
    (λ q. let k : Some n ≡ Some (decimal 0 s) = rw q at e in (q, cc))
    (λ q. let k : Some n ≡ None = rw q at e in cc)

pub parse_none : (s : List ℕ) → None ≡ parse s → is_number s ≡ false
parse_none s e = both (is_number s)
    (λ q. let k : None ≡ Some (decimal 0 s) = rw q at e in cc)
    (λ q. q)

-- ---- whether all are digits

all_digits_list : (s : List ℕ) → all_digits s ≡ list_all digit s
unfolding all_digits
all_digits_list [] = refl
all_digits_list (b ∷ t) = both (digit b) (λ e. rw e (all_digits_list t)) (λ e. rw e)

pub number_some : {r : Bool} (s : List ℕ) → (length s ≡ 0 → ⊥) → r ≡ list_all digit s → r ≡ is_number s
unfolding is_number
number_some s h e = rw (ne_eqb (length s) 0 h, all_digits_list s) e

pub number_none : {r : Bool} (s : List ℕ) → length s ≡ 0 → r ≡ false → r ≡ is_number s
unfolding is_number
number_none s h e = rw (eq-eqb (length s) 0 h) e
