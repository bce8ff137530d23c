-- A loop that passes the bytes from `from` on that pass the test p, and stands at `at`; and what is so passed.
use mathlib.Core.Path.{◌≡◌, refl, ◌∙◌}
use mathlib.Core.Bool.{Bool, true, false}
use mathlib.Core.Logic.{⊎_elim}
use mathlib.Core.List.Memᴰ
use mathlib.Core.List.{List, [], ◌∷◌}
use Prim.Native.Nat.{ℕ, zero, suc, ◌+◌, ◌-◌, ◌≤◌, ◌<◌}
use native.Mathlib.Numerals.{add-one}
use native.Mathlib.Omega.{arith}
use lib.ListN.{length, get_or, take, drop, length-drop, drop_of_length-le}
use lib.Seq.{drop-cons, get_or-drop}
use Rattle.logic.specs.Count.{count}
use Rattle.logic.specs.Member.{◌∈◌}
use Rattle.logic.proofs.Choice.{both, pick_le}

pub record Counting (p : ℕ → Bool) (s : List ℕ) (from at : ℕ) : Type 0 where
  pub same : at + count p (drop at s) ≡ from + count p (drop from s)

pub counting_start : (p : ℕ → Bool) (s : List ℕ) (from : ℕ) → Counting p s from from
counting_start p s from = record { same = refl }

pub counting_step : {p : ℕ → Bool} {s : List ℕ} {from at : ℕ} {t : Bool} → Counting p s from at → at < length s → t ≡ p (get_or s at 0) → t ≡ true → Counting p s from (at + 1)
unfolding count
counting_step {p} {s} {from} {at} k h e q =
    let d : count p (drop at s) ≡ count p (drop (at + 1) s) + 1 = rw (drop-cons s at 0 h, ← e, q, add-one at) (omega arith) in
    record { same = omega arith }

pub counting_stop : {p : ℕ → Bool} {s : List ℕ} {from at : ℕ} {t : Bool} → Counting p s from at → at < length s → t ≡ p (get_or s at 0) → t ≡ false → at ≡ from + count p (drop from s)
unfolding count
counting_stop {p} {s} {from} {at} k h e q =
    let d : count p (drop at s) ≡ 0 = rw (drop-cons s at 0 h, ← e, q) in
    omega arith

pub counting_end : {p : ℕ → Bool} {s : List ℕ} {from at : ℕ} → Counting p s from at → length s ≤ at → at ≡ from + count p (drop from s)
unfolding count
counting_end {p} {s} {from} {at} k h =
    let d : count p (drop at s) ≡ 0 = rw (drop_of_length-le s h) in
    omega arith

pub count_fits : (p : ℕ → Bool) (t : List ℕ) → count p t ≤ length t
unfolding count
count_fits p [] = omega arith
count_fits p (b ∷ t) = let h = count_fits p t in pick_le (p b) (suc (count p t)) 0 (suc (length t)) (omega arith) (omega arith)

pub count_inside : {e : ℕ} (p : ℕ → Bool) (s : List ℕ) (i : ℕ) → i ≤ length s → e ≡ i + count p (drop i s) → e ≤ length s
count_inside p s i h e = omega (arith, count_fits p (drop i s), length-drop i s)

-- A run without its first n bytes.
pub count_drop : (p : ℕ → Bool) (n : ℕ) (t : List ℕ) → n ≤ count p t → count p (drop n t) ≡ count p t - n
unfolding count
count_drop p zero t l = omega arith
count_drop p (suc n) [] l = omega arith
count_drop p (suc n) (b ∷ t) l =
    both (p b)
    (λ e. let l' : suc n ≤ suc (count p t) = rw e at l in rw e (count_drop p n t (omega arith) ∙ omega arith))
    (λ e. let l' : suc n ≤ 0 = rw e at l in absurd (omega arith))

-- A run that starts at a byte that does not pass, or that passes.
pub count_none : (p : ℕ → Bool) (t : List ℕ) (i : ℕ) → i < length t → p (get_or t i 0) ≡ false → count p (drop i t) ≡ 0
unfolding count
count_none p t i l e = rw (drop-cons t i 0 l, e)

pub count_some : (p : ℕ → Bool) (t : List ℕ) (i : ℕ) → i < length t → p (get_or t i 0) ≡ true → 0 < count p (drop i t)
unfolding count
count_some p t i l e = rw (drop-cons t i 0 l, e) (omega arith)

-- ---- what is counted

-- Each number that is counted passes, by itself and by its place; the one after them does not.
pub count_holds : (p : ℕ → Bool) (t : List ℕ) {b : ℕ} → b ∈ take (count p t) t → p b ≡ true
unfolding count
count_holds p [] m = absurd (Memᴰ.not-nil m)
count_holds p (a ∷ t) {b} m =
    both (p a)
    (λ e. let n : b ∈ a ∷ take (count p t) t = rw e at m in ⊎_elim (λ z. rw z e) (λ k. count_holds p t k) (Memᴰ.cases_cons n))
    (λ e. let n : b ∈ [] = rw e at m in absurd (Memᴰ.not-nil n))

pub count_passes : (p : ℕ → Bool) (t : List ℕ) (j : ℕ) → j < count p t → p (get_or t j 0) ≡ true
unfolding count
count_passes p [] j l = absurd (omega arith)
count_passes p (a ∷ t) zero l = both (p a) (λ e. e) (λ e. let n : 0 < 0 = rw e at l in absurd (omega arith))
count_passes p (a ∷ t) (suc j) l =
    both (p a)
    (λ e. let n : suc j < suc (count p t) = rw e at l in count_passes p t j (omega arith))
    (λ e. let n : suc j < 0 = rw e at l in absurd (omega arith))

pub count_stops : (p : ℕ → Bool) (t : List ℕ) → count p t < length t → p (get_or t (count p t) 0) ≡ false
unfolding count
count_stops p [] l = absurd (omega arith)
count_stops p (a ∷ t) l =
    both (p a)
    (λ e. let n : suc (count p t) < suc (length t) = rw e at l in rw e (count_stops p t (omega arith)))
    (λ e. rw e e)

-- The same of a run that starts at a place i of a list.
module _ (p : ℕ → Bool) (s : List ℕ) (i : ℕ) where
  pub run_passes : (j : ℕ) → i ≤ j → j < i + count p (drop i s) → p (get_or s j 0) ≡ true
  run_passes j l h =
      let e : i + (j - i) ≡ j = omega arith in
      rw (get_or-drop, e) at (count_passes p (drop i s) (j - i) (omega arith))

  pub run_stops : i + count p (drop i s) < length s → p (get_or s (i + count p (drop i s)) 0) ≡ false
  run_stops l = rw get_or-drop at (count_stops p (drop i s) (omega (arith, length-drop i s)))
