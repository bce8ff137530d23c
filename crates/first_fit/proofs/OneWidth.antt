-- First fit over lists with one line width and no penalty widths is first fit of the groupings: the fewest lines, and no more at a larger width.
use mathlib.Core.Path.{◌≡◌, refl, ap}
use mathlib.Core.Bool.{Bool, true, false}
use mathlib.Core.List.{List, [], ◌∷◌}
use Prim.Native.Nat.{ℕ, suc, ◌+◌, ◌-◌, ◌≤◌, min, max}
use native.Mathlib.Nat.{add-zero}
use native.Mathlib.Omega.{arith}
use lib.ListN.{length, get_or, drop}
use Rattle.logic.proofs.Choice.{both}
use Rattle.fragments.specs.Fragments.{Fragment, fragments}
use Rattle.fragments.specs.Lists.{width_of}
use Rattle.first_fit.specs.FirstFit.{flags, ends_from, starts, step, line_ends}
use Rattle.first_fit.specs.Groupings.{Grouping, too_wide, fit, started, line_count, Bare}
use Rattle.first_fit.proofs.Groupings.{count_least, count_wider}

width_one : (w k : ℕ) → width_of (w ∷ []) k ≡ w
unfolding width_of
width_one w k = let e : min k (1 - 1) ≡ 0 = omega arith in rw e

same_test : (w k c : ℕ) (f : Fragment) → f.penalty ≡ 0 → starts (w ∷ []) (record { number = k; columns = c }) f ≡ too_wide w c f
same_test w k c f e = rw (width_one w k, e, add-zero)

same_flags : (w k c : ℕ) (r : List Fragment) → Bare r → flags (starts (w ∷ [])) (step (w ∷ [])) (record { number = k; columns = c }) r ≡ fit w c r
unfolding flags Bare
same_flags w k c [] b = refl
same_flags w k c (f ∷ r) b =
    both (too_wide w c f)
    (λ e. rw (same_test w k c f b.0, e) (ap (λ x. true ∷ x) (same_flags w (suc k) (f.word + f.white) r b.1)))
    (λ e. rw (same_test w k c f b.0, e) (ap (λ x. false ∷ x) (same_flags w k (c + (f.word + f.white)) r b.1)))

ends_started : (i : ℕ) (b : List Bool) → length (ends_from i b) ≡ suc (started b)
unfolding ends_from started
ends_started i [] = refl
ends_started i (true ∷ b) = ap suc (ends_started (suc i) b)
ends_started i (false ∷ b) = ends_started (suc i) b

pub lines_counted : (w : ℕ) (fs : List Fragment) → Bare fs → length (line_ends (w ∷ []) fs) ≡ line_count w fs
unfolding line_ends line_count Bare
lines_counted w [] b = refl
lines_counted w (f ∷ r) b = rw (same_flags w 0 (f.word + f.white) r b.1) (ends_started 1 (fit w (f.word + f.white) r))

-- The list of penalty widths holds zeros alone.
pub zeros_bare : (ws ss ps : List ℕ) → ((k : ℕ) → get_or ps k 0 ≡ 0) → Bare (fragments ws ss ps)
unfolding fragments Bare
zeros_bare [] ss ps z = tt
zeros_bare (w ∷ ws) ss [] z = (refl, zeros_bare ws (drop 1 ss) [] z)
zeros_bare (w ∷ ws) ss (p ∷ ps) z = (z 0, zeros_bare ws (drop 1 ss) ps (λ k. z (suc k)))

pub first_fit_least : {w : ℕ} {fs : List Fragment} {ls : List (List Fragment)} → Bare fs → Grouping w fs ls → length (line_ends (w ∷ []) fs) ≤ max 1 (length ls)
first_fit_least {w} {fs} b g = omega (arith, lines_counted w fs b, count_least g)

pub first_fit_wider : (v w : ℕ) (fs : List Fragment) → Bare fs → v ≤ w → length (line_ends (w ∷ []) fs) ≤ length (line_ends (v ∷ []) fs)
first_fit_wider v w fs b h = omega (arith, lines_counted v fs b, lines_counted w fs b, count_wider v w fs h)
