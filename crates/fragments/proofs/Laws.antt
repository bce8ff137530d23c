-- The lists of a layout at an index: a step of the loop that looks for a number above a bound, the width of a line, and the fragment at an index.
use Rattle.std.proofs.Common.{Option, Some, None, Result, Ok}
use mathlib.Core.Path.{◌≡◌, refl, sym, ap, ◌∙◌}
use mathlib.Core.List.{List, [], ◌∷◌}
use Prim.Native.Nat.{ℕ, zero, suc, ◌+◌, ◌-◌, ◌≤◌, ◌<◌, min}
use native.Mathlib.Nat.{zero-add}
use native.Mathlib.Omega.{arith}
use lib.Dec.{leb, ltb, eqb}
use lib.ListN.{length, get_or, drop, get_or-eq_default}
use lib.Seq.{get_or-drop}
use borrow.Author.Tests.{le-leb, lt-leb, lt-ltb, le-ltb, eq-eqb, eqb-true, ltb-false}
use Rattle.units.specs.declared.Answer.{Answer}
use Rattle.units.specs.Limits.{fragments_most}
use Rattle.logic.proofs.Choice.{both}
use Rattle.logic.proofs.Count.{Counting, counting_start, counting_step, counting_stop, counting_end}
use Rattle.fragments.specs.declared.ListRefusal.{ListRefusal}
use Rattle.fragments.specs.Fragments.{fragments}
use Rattle.fragments.specs.Lists.{found, width_of, first_above, width_tested, tested_of}
use Rattle.fragments.specs.Answers.{answer_of}

-- The numbers before i are at most `most`.
pub record Below (most : ℕ) (l : List ℕ) (i : ℕ) : Type 0 where
  pub passed : Counting (λ x. leb x most) l 0 i

pub below_start : (most : ℕ) (l : List ℕ) → Below most l 0
below_start most l = record { passed = counting_start (λ x. leb x most) l 0 }

pub below_step : {most i v : ℕ} {l : List ℕ} → Below most l i → i < length l → v ≡ get_or l i 0 → v ≤ most → Below most l (i + 1)
below_step {most} {i} {v} {l} b h e m = record { passed = counting_step b.passed h refl (le-leb (get_or l i 0) most (omega arith)) }

pub below_stop : {most i v : ℕ} {l : List ℕ} → Below most l i → i < length l → v ≡ get_or l i 0 → most < v → Some i ≡ found (first_above most l) (length l)
unfolding first_above
below_stop {most} {i} {v} {l} b h e m =
    let q : i ≡ first_above most l = counting_stop b.passed h refl (lt-leb (get_or l i 0) most (omega arith)) ∙ zero-add _ in
    rw (← q, lt-ltb i (length l) h)

pub below_end : {most i : ℕ} {l : List ℕ} → Below most l i → length l ≤ i → None ≡ found (first_above most l) (length l)
unfolding first_above
below_end {most} {i} {l} b h =
    let q : i ≡ first_above most l = counting_end b.passed h ∙ zero-add _ in
    rw (← q, le-ltb i (length l) h)

pub ruleset looking = (below_start, below_step, below_stop, below_end)

-- The width of a line, by where its number lies in a list of n widths.
module _ {r n : ℕ} (ws : List ℕ) (k : ℕ) (l : n ≡ length ws) where
  pub width_none : n ≡ 0 → r ≡ 0 → r ≡ width_of ws k
  unfolding width_of
  width_none e q = q ∙ sym (get_or-eq_default ws 0 (omega arith))

  pub width_in : k < n → r ≡ get_or ws k 0 → r ≡ width_of ws k
  unfolding width_of
  width_in h q = let e : k ≡ min k (length ws - 1) = omega arith in q ∙ ap (λ (i : ℕ). get_or ws i 0) e

  pub width_last : n ≤ k → r ≡ get_or ws (n - 1) 0 → r ≡ width_of ws k
  unfolding width_of
  width_last h q = let e : n - 1 ≡ min k (length ws - 1) = omega arith in q ∙ ap (λ (i : ℕ). get_or ws i 0) e

pub ruleset widths = (width_none, width_in, width_last)

-- There are as many fragments as word widths, and the fragment at an index has the numbers there.
pub fragments_length : (ws ss ps : List ℕ) → length (fragments ws ss ps) ≡ length ws
unfolding fragments
fragments_length [] ss ps = refl
fragments_length (w ∷ ws) ss ps = ap suc (fragments_length ws (drop 1 ss) (drop 1 ps))

pub fragments_at : (ws ss ps : List ℕ) (i : ℕ) → i < length ws
    → drop i (fragments ws ss ps) ≡ record { word = get_or ws i 0; white = get_or ss i 0; penalty = get_or ps i 0 } ∷ drop (suc i) (fragments ws ss ps)
unfolding fragments
fragments_at [] ss ps i h = absurd (omega arith)
fragments_at (w ∷ ws) ss ps zero h = refl
fragments_at (w ∷ ws) ss ps (suc i) h = rw (← (shift ss i), ← (shift ps i)) (fragments_at ws (drop 1 ss) (drop 1 ps) i (omega arith))
  where
    shift : (l : List ℕ) (i : ℕ) → get_or (drop 1 l) i 0 ≡ get_or l (suc i) 0
    shift l i = get_or-drop 1 l i 0 ∙ ap (λ (n : ℕ). get_or l n 0) (let e : 1 + i ≡ suc i = omega arith in e)

-- What lists that were found good are.
pub record Sound (words whites penalties : ℕ) : Type 0 where
  pub whites_same : whites ≡ words
  pub penalties_same : penalties ≡ words
  pub few : words ≤ fragments_most

-- An index past the end is none.
pub found_none : (i n : ℕ) → n ≤ i → found i n ≡ None
found_none i n l = rw (le-ltb i n l)

pub none_found : (i n : ℕ) → found i n ≡ None → n ≤ i
none_found i n e = both (ltb i n) (λ t. let q : Some i ≡ None = rw t at e in let z : ◌≡◌ {A = ℕ} 0 1 = cc in absurd (omega arith)) (λ t. ltb-false i n t)

none_wide : (wide : Option ℕ) → width_tested wide ≡ Ok tt → wide ≡ None
none_wide (Some at) e = let z : ◌≡◌ {A = ℕ} 0 1 = cc in absurd (omega arith)
none_wide None e = refl

pub tested_good : (words whites penalties : ℕ) (wide : Option ℕ) → tested_of words whites penalties wide ≡ Ok tt → Sound words whites penalties × (wide ≡ None)
unfolding tested_of
tested_good words whites penalties wide e =
    both (eqb whites words)
    (λ a. both (eqb penalties words)
    (λ b. both (ltb fragments_most words)
    (λ c. absurd (let q = rw (a, b, c) at e in let z : ◌≡◌ {A = ℕ} 0 1 = cc in omega arith))
    (λ c. (record { whites_same = eqb-true whites words a; penalties_same = eqb-true penalties words b; few = ltb-false fragments_most words c }, none_wide wide (rw (a, b, c) at e))))
    (λ b. absurd (let q = rw (a, b) at e in let z : ◌≡◌ {A = ℕ} 0 1 = cc in omega arith)))
    (λ a. absurd (let q = rw a at e in let z : ◌≡◌ {A = ℕ} 0 1 = cc in omega arith))

-- And such lists are found good.
pub good_tested : (words whites penalties : ℕ) (wide : Option ℕ) → Sound words whites penalties → wide ≡ None → tested_of words whites penalties wide ≡ Ok tt
unfolding tested_of
good_tested words whites penalties wide k e =
    rw (eq-eqb whites words k.whites_same, eq-eqb penalties words k.penalties_same, le-ltb fragments_most words k.few, e)
