-- A loop that stores numbers into a list, one after the other: what is stored and what is still to come, from the place reached on, is all of them from the start. It serves lists whose numbers are
-- elements and lists of bytes.
use mathlib.Core.Path.{◌≡◌, refl, sym, ◌∙◌}
use mathlib.Core.List.{List, [], ◌∷◌, ◌++◌}
use Prim.Native.Nat.{ℕ, suc, ◌+◌, ◌≤◌}
use native.Mathlib.Omega.{arith}
use native.Mathlib.Nat.{add-zero, add-suc, suc-add}
use lib.ListN.{length, length-append}
use lib.Seq.{sets, length-sets}
use Rattle.logic.specs.Flat.{flat}

pub sets_append : {A : Type 0} (l : List A) (i : ℕ) (xs ys : List A) → sets l i (xs ++ ys) ≡ sets (sets l i xs) (i + length xs) ys
sets_append l i [] ys = rw add-zero
sets_append l i (x ∷ xs) ys = rw (add-suc, ← suc-add) (sets_append _ (suc i) xs ys)

-- `l` has come of `l₀`, all the numbers are `vs`, those still to come are `rest`, and the next goes to `place`.
pub record Stored {N A : Type 0} (one : N → List A) (vs rest : List N) (place : ℕ) (l l₀ : List A) : Type 0 where
  pub same : sets l place (flat one rest) ≡ sets l₀ 0 (flat one vs)
  pub room : place + length (flat one rest) ≤ length l
  pub long : length l ≡ length l₀
  pub count : place + length (flat one rest) ≡ length (flat one vs)

pub stored_start : {N A : Type 0} (one : N → List A) (vs : List N) (l : List A) → length (flat one vs) ≤ length l → Stored one vs vs 0 l l
stored_start one vs l h = record { same = refl; room = omega arith; long = refl; count = omega arith }

pub stored_step : {N A : Type 0} (one : N → List A) {vs rest : List N} {l l₀ l' : List A} {v : N} {place : ℕ} → Stored one vs (v ∷ rest) place l l₀ → l' ≡ sets l place (one v) → Stored one vs rest (place + length (one v)) l' l₀
stored_step one {vs} {rest} {l} {l₀} {l'} {v} {place} k e = rw e (record {
  same = sym (sets_append l place (one v) (flat one rest)) ∙ k.same;
  room = omega (arith, k.room, length-append (one v) (flat one rest), length-sets l place (one v));
  long = length-sets l place (one v) ∙ k.long;
  count = omega (arith, k.count, length-append (one v) (flat one rest));
})

pub stored_end : {N A : Type 0} {one : N → List A} {vs : List N} {l l₀ : List A} {place : ℕ} → Stored one vs [] place l l₀ → l ≡ sets l₀ 0 (flat one vs)
stored_end k = k.same
