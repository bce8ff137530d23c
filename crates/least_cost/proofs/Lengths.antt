-- How wide a line is, from its last fragment downwards: it only grows as its start falls.
use mathlib.Core.Path.{◌≡◌}
use mathlib.Core.List.{List}
use Prim.Native.Nat.{ℕ, zero, suc, ◌+◌, ◌-◌, ◌≤◌, ◌<◌}
use native.Mathlib.Omega.{arith}
use lib.ListN.{length, get_or}
use lib.Seq.{slice, slice-cons, slice_empty}
use Rattle.least_cost.specs.Price.{total, line_len}
use Rattle.least_cost.specs.Search.{Even}

-- One number more at the front of a part, a part of one, and that the last is in it.
total_more : (l : List ℕ) (i j : ℕ) → i < j → j ≤ length l → total (slice i j l) ≡ get_or l i 0 + total (slice (suc i) j l)
unfolding total
total_more l i j h b = rw (slice-cons i j l 0 h b)

total_one : (l : List ℕ) (i : ℕ) → suc i ≤ length l → total (slice i (suc i) l) ≡ get_or l i 0
unfolding total
total_one l i b = rw (slice-cons i (suc i) l 0 (omega arith) b, slice_empty (suc i) l) (omega arith)

last_in : (l : List ℕ) (d i : ℕ) → suc i + d ≤ length l → get_or l (i + d) 0 ≤ total (slice i (suc i + d) l)
last_in l zero i b =
    let e : suc i + 0 ≡ suc i = omega arith in
    let z : i + 0 ≡ i = omega arith in
    rw (e, z) (omega (arith, total_one l i (omega arith)))
last_in l (suc d) i b =
    let e : suc i + suc d ≡ suc (suc i) + d = omega arith in
    let z : i + suc d ≡ suc i + d = omega arith in
    let h : get_or l (suc i + d) 0 ≤ total (slice (suc i) (suc (suc i) + d) l) = last_in l d (suc i) (omega arith) in
    rw (z, e) (omega (arith, h, total_more l i (suc (suc i) + d) (omega arith) (omega arith)))

last_le : (l : List ℕ) (i j : ℕ) → i < j → j ≤ length l → get_or l (j - 1) 0 ≤ total (slice i j l)
last_le l i j h b =
    let e : suc i + (j - 1 - i) ≡ j = omega arith in
    let z : i + (j - 1 - i) ≡ j - 1 = omega arith in
    rw (e, z) at (last_in l (j - 1 - i) i (omega arith))

-- A part in two.
split_by : (l : List ℕ) (d k j : ℕ) → k + d ≤ j → j ≤ length l → total (slice k j l) ≡ total (slice k (k + d) l) + total (slice (k + d) j l)
unfolding total
split_by l zero k j h b =
    let z : k + 0 ≡ k = omega arith in
    rw (z, slice_empty k l) (omega arith)
split_by l (suc d) k j h b =
    let z : k + suc d ≡ suc k + d = omega arith in
    rw z
    (omega (
      arith,
      total_more l k j (omega arith) b,
      total_more l k (suc k + d) (omega arith) (omega arith),
      split_by l d (suc k) j (omega arith) b,
    ))

total_split : (l : List ℕ) (k i j : ℕ) → k ≤ i → i ≤ j → j ≤ length l → total (slice k j l) ≡ total (slice k i l) + total (slice i j l)
total_split l k i j h g b =
    let z : k + (i - k) ≡ i = omega arith in
    rw z at (split_by l (i - k) k j (omega arith) b)

module _ (w s p : List ℕ) (e : Even w s p) where
  -- A line of one fragment has no whitespace.
  pub len_one : (i : ℕ) → suc i ≤ length w → line_len w s p i (suc i) ≡ get_or w i 0 + get_or p i 0
  unfolding line_len
  len_one i b =
      let z : suc i - 1 ≡ i = omega arith in
      rw (total_one w i b, total_one s i (omega (arith, e.whites)), z) (omega arith)

  -- A fragment more at the front brings its word and its whitespace.
  pub len_more : (i j : ℕ) → suc i < j → j ≤ length w → line_len w s p i j ≡ line_len w s p (suc i) j + (get_or w i 0 + get_or s i 0)
  unfolding line_len
  len_more i j h b =
      omega (
        arith,
        e.whites,
        total_more w i j (omega arith) b,
        total_more s i j (omega arith) (omega (arith, e.whites)),
        last_le s (suc i) j h (omega (arith, e.whites)),
      )

  grows_by : (d i j : ℕ) → i + d < j → j ≤ length w → line_len w s p (i + d) j ≤ line_len w s p i j
  grows_by zero i j h b = let z : i + 0 ≡ i = omega arith in rw z (omega arith)
  grows_by (suc d) i j h b =
      let z : i + suc d ≡ suc i + d = omega arith in
      rw z (omega (arith, grows_by d (suc i) j (omega arith) b, len_more i j (omega arith) b))

  pub len_grows : (k i j : ℕ) → k ≤ i → i < j → j ≤ length w → line_len w s p i j ≤ line_len w s p k j
  len_grows k i j l h b =
      let z : k + (i - k) ≡ i = omega arith in
      rw z at (grows_by (i - k) k j (omega arith) b)

  -- A line in two: the first of them loses its penalty width and has its last whitespace again.
  pub len_split : (k i j : ℕ) → k < i → i < j → j ≤ length w → line_len w s p k j + get_or p (i - 1) 0 ≡ line_len w s p k i + get_or s (i - 1) 0 + line_len w s p i j
  unfolding line_len
  len_split k i j h g b =
      omega (
        arith,
        e.whites,
        total_split w k i j (omega arith) (omega arith) b,
        total_split s k i j (omega arith) (omega arith) (omega (arith, e.whites)),
        last_le s k i h (omega (arith, e.whites)),
        last_le s i j g (omega (arith, e.whites)),
      )
