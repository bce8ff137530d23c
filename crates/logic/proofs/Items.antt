-- Items are those of the step, as long as it goes on: where there are none, one is read off, something is shown of all, and how many there can be.
use mathlib.Core.Path.{◌≡◌, refl}
use mathlib.Core.List.{List, [], ◌∷◌}
use Prim.Native.Nat.{ℕ, zero, suc, ◌-◌, ◌≤◌, ◌<◌}
use native.Mathlib.Omega.{arith}
use lib.Dec.{ltb}
use lib.ListN.{length}
use borrow.Author.Tests.{lt-ltb, le-ltb, ltb-true, ltb-false}
use Rattle.logic.specs.Items.{items_for, items}
use Rattle.logic.proofs.Choice.{both}

pub items_none : {A : Type 0} (at : ℕ → A) (after : ℕ → ℕ) (end i : ℕ) → end ≤ i → items at after end i ≡ []
unfolding items items_for
items_none at after end i l = let z : end - i ≡ 0 = omega arith in rw z

-- P holds at the places that the step comes to, and at those it goes on.
module _ {A : Type 0} (at : ℕ → A) (after : ℕ → ℕ) (end : ℕ) (P : ℕ → Type 0) (on : (i : ℕ) → P i → i < end → (i < after i) × P (after i)) where
  -- More places than are left change nothing.
  enough : (m n i : ℕ) → P i → end - i ≤ m → end - i ≤ n → items_for at after end m i ≡ items_for at after end n i
  unfolding items_for
  enough zero zero i h p q = refl
  enough zero (suc n) i h p q = rw (le-ltb i end (omega arith))
  enough (suc m) zero i h p q = rw (le-ltb i end (omega arith))
  enough (suc m) (suc n) i h p q =
      both (ltb i end)
      (λ t.
      let l = ltb-true i end t in
      let g = on i h l in
      rw (t, enough m n (after i) g.1 (omega (arith, g.0)) (omega (arith, g.0))))
      (λ f. rw f)

  pub items_next_in : (i : ℕ) → P i → i < end → items at after end i ≡ at i ∷ items at after end (after i)
  unfolding items items_for
  items_next_in i h l =
      let g = on i h l in
      let z : end - i ≡ suc (end - suc i) = omega arith in
      rw (z, lt-ltb i end l, enough (end - suc i) (end - after i) (after i) g.1 (omega (arith, g.0)) (omega arith))

  -- To show something of the items from a place on, from the last to the first.
  module _ (Q : ℕ → List A → Type 0) (none : (i : ℕ) → P i → end ≤ i → Q i []) (more : (i : ℕ) (l : List A) → P i → i < end → Q (after i) l → Q i (at i ∷ l)) where
    each_within : (n i : ℕ) → end - i ≤ n → P i → Q i (items at after end i)
    each_within zero i l h = rw (items_none at after end i (omega arith)) (none i h (omega arith))
    each_within (suc n) i l h =
        both (ltb i end)
        (λ t.
        let b = ltb-true i end t in
        let g = on i h b in
        rw (items_next_in i h b) (more i _ h b (each_within n (after i) (omega (arith, g.0)) g.1)))
        (λ f. let b = ltb-false i end f in rw (items_none at after end i b) (none i h b))

    pub items_each : (i : ℕ) → P i → Q i (items at after end i)
    items_each i h = each_within (end - i) i (omega arith) h

module _ {A : Type 0} (at : ℕ → A) (after : ℕ → ℕ) (end : ℕ) (on : (i : ℕ) → i < end → i < after i) where
  pub items_next : (i : ℕ) → i < end → items at after end i ≡ at i ∷ items at after end (after i)
  items_next i l = items_next_in at after end (λ i. Unit) (λ i u h. (on i h, tt)) i tt l

-- There are at most as many as places.
few : {A : Type 0} (at : ℕ → A) (after : ℕ → ℕ) (end n i : ℕ) → length (items_for at after end n i) ≤ n
unfolding items_for
few at after end zero i = omega arith
few at after end (suc n) i = both (ltb i end) (λ t. let h = few at after end n (after i) in rw t (omega arith)) (λ f. rw f (omega arith))

pub items_few : {A : Type 0} (at : ℕ → A) (after : ℕ → ℕ) (end i : ℕ) → length (items at after end i) ≤ end - i
unfolding items
items_few at after end i = few at after end (end - i) i
