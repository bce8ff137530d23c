-- A list of numbers, each by its value, held against stored bytes: what is still to come of both decides.
use mathlib.Core.Path.{◌≡◌, refl, sym, ◌∙◌}
use mathlib.Core.Bool.{true, false}
use mathlib.Core.List.{List, map}
use Prim.Native.Nat.{ℕ, ◌+◌, ◌*◌, ◌/◌, ◌%◌, ◌≤◌, ◌<◌}
use native.Mathlib.Numerals.{add-one}
use native.Mathlib.Omega.{arith}
use lib.Dec.{eqb}
use lib.ListN.{length, drop, get_or, drop_of_length-le, length-map}
use lib.Seq.{drop-cons}
use borrow.Author.Tests.{eq-eqb, ne_eqb}
use Rattle.std.specs.Str.{bytes_eq}
use Rattle.std.proofs.lemmas.List.{get_or-map}
use Rattle.wire.specs.Wire.{numbers16}
use Rattle.wire.proofs.Laws.{numbers_length}
use Rattle.replay.specs.Parts.{holds}

module _ {A : Type 0} (f : A → ℕ) (l : List A) (s : List ℕ) where
  -- The first i numbers of the list are the stored ones.
  pub record Held (i : ℕ) : Type 0 where
    pub rest : bytes_eq (drop i (map f l)) (drop i (numbers16 s)) ≡ bytes_eq (map f l) (numbers16 s)
    pub count : length (numbers16 s) ≡ length l
    pub even : length s % 2 ≡ 0

  pub held_odd : (length s % 2 ≡ 0 → ⊥) → false ≡ holds (map f l) s
  unfolding holds
  held_odd h = rw (ne_eqb (length s) (2 * length (map f l)) (λ e. h (omega (arith, e))))

  pub held_other : (length s / 2 ≡ length l → ⊥) → false ≡ holds (map f l) s
  unfolding holds
  held_other h = rw (ne_eqb (length s) (2 * length (map f l)) (λ d. h (omega (arith, d, length-map l f))))

  pub held_start : length s % 2 ≡ 0 → length s / 2 ≡ length l → Held 0
  held_start e q = record { rest = refl; count = numbers_length s ∙ q; even = e }

  module _ {i : ℕ} (k : Held i) where
    pub held_in : i < length l → i < length (numbers16 s)
    held_in h = omega (arith, k.count)

    -- The stored bytes are as many as the numbers take.
    size : length s ≡ 2 * length (map f l)
    size = omega (arith, k.even, k.count, numbers_length s, length-map l f)

    module _ {x : A} {v w : ℕ} (h : i < length l) (e : x ≡ get_or l i x) (p : v ≡ f x) (q : w ≡ get_or (numbers16 s) i 0) where
      here : get_or (map f l) i 0 ≡ v
      here = get_or-map f l i x 0 h ∙ rw (p, ← e)

      pub held_step : w ≡ v → Held (i + 1)
      held_step g =
          let a : i < length (map f l) = omega (arith, length-map l f) in
          let b : i < length (numbers16 s) = held_in h in
          let d : get_or (map f l) i 0 ≡ get_or (numbers16 s) i 0 = here ∙ sym g ∙ q in
          record { rest = rw (add-one i) (rw (drop-cons (map f l) i 0 a, drop-cons (numbers16 s) i 0 b, eq-eqb (get_or (map f l) i 0) (get_or (numbers16 s) i 0) d) at k.rest); count = k.count; even = k.even }

      pub held_off : (w ≡ v → ⊥) → false ≡ holds (map f l) s
      unfolding holds
      held_off g =
          let a : i < length (map f l) = omega (arith, length-map l f) in
          let b : i < length (numbers16 s) = held_in h in
          let d : eqb (get_or (map f l) i 0) (get_or (numbers16 s) i 0) ≡ false = ne_eqb (get_or (map f l) i 0) (get_or (numbers16 s) i 0) (λ z. g (q ∙ sym z ∙ here)) in
          rw (eq-eqb (length s) (2 * length (map f l)) size) (rw (drop-cons (map f l) i 0 a, drop-cons (numbers16 s) i 0 b, d) at k.rest)

    pub held_end : length l ≤ i → true ≡ holds (map f l) s
    unfolding holds
    held_end h =
        let a : length (map f l) ≤ i = omega (arith, length-map l f) in
        let b : length (numbers16 s) ≤ i = omega (arith, k.count) in
        rw (eq-eqb (length s) (2 * length (map f l)) size) (rw (drop_of_length-le (map f l) a, drop_of_length-le (numbers16 s) b) at k.rest)

pub ruleset holding = (held_odd, held_other, held_start, held_in, held_step, held_off, held_end)
