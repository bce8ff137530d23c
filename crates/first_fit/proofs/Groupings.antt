-- First fit has the fewest lines over all groupings at one width, and a larger width never needs more. Layouts are told by flags; groupings come in by two conversions.
use mathlib.Core.Path.{◌≡◌, refl, ap, ◌∙◌, subst}
use mathlib.Core.Bool.{Bool, true, false}
use mathlib.Core.List.{List, [], ◌∷◌, ◌++◌, append-nil}
use Prim.Native.Nat.{ℕ, suc, ◌+◌, ◌≤◌, max}
use native.Mathlib.Nat.{le_trans}
use native.Mathlib.Omega.{arith}
use lib.ListN.{length}
use borrow.Author.Tests.{ltb-true, ltb-false}
use Rattle.logic.proofs.Choice.{both}
use Rattle.fragments.specs.Fragments.{Fragment}
use Rattle.first_fit.specs.FirstFit.{flags}
use Rattle.first_fit.specs.Groupings.{line_width, Good, AllGood, joined, Grouping, too_wide, fit, started, line_count, cut, lines, Fits}
use Rattle.first_fit.specs.Groupings.Fits.{none, fresh, join}

-- ---- first fit among the layouts that fit

-- First fit is one of them.
pub fit_fits : (w c : ℕ) (r : List Fragment) → Fits w c r (fit w c r)
unfolding flags
fit_fits w c [] = none
fit_fits w c (f ∷ r) =
    both (too_wide w c f)
    (λ e. rw e (fresh (fit_fits w (f.word + f.white) r)))
    (λ e. rw e (join (ltb-false w (c + f.word) e) (fit_fits w (c + (f.word + f.white)) r)))

-- None starts fewer lines, from the same column or a higher one; and from any column first fit starts at most one more.
pub fit_least : (w c : ℕ) {d : ℕ} {r : List Fragment} {b : List Bool} → Fits w d r b → (c ≤ d → started (fit w c r) ≤ started b) × (started (fit w c r) ≤ suc (started b))
unfolding flags started
fit_least w c none = (λ h. omega arith, omega arith)
fit_least w c (fresh {c = d} {f = f} {b = b} h) =
    let p = fit_least w (f.word + f.white) h in
    let q = fit_least w (c + (f.word + f.white)) h in
    both (too_wide w c f)
    (λ e. rw e (λ k. omega (arith, p.0 (omega arith)), omega (arith, p.0 (omega arith))))
    (λ e. rw e (λ k. q.1, omega (arith, q.1)))
fit_least w c (join {c = d} {f = f} {b = b} k h) =
    let p = fit_least w (f.word + f.white) h in
    let q = fit_least w (c + (f.word + f.white)) h in
    both (too_wide w c f)
    (λ e. rw e (λ l. absurd (omega (arith, ltb-true w (c + f.word) e)), omega (arith, p.0 (omega arith))))
    (λ e. rw e (λ l. q.0 (omega arith), q.1))

-- A wider line takes what a narrower one takes, so a larger width never starts more lines.
fits_wider : {v w c : ℕ} {r : List Fragment} {b : List Bool} → v ≤ w → Fits v c r b → Fits w c r b
fits_wider h none = none
fits_wider h (fresh k) = fresh (fits_wider h k)
fits_wider h (join l k) = join (le_trans l h) (fits_wider h k)

pub fit_wider : (v w c : ℕ) (r : List Fragment) → v ≤ w → started (fit w c r) ≤ started (fit v c r)
fit_wider v w c r h = (fit_least w c (fits_wider h (fit_fits v c r))).0 (omega arith)

pub count_wider : (v w : ℕ) (r : List Fragment) → v ≤ w → line_count w r ≤ line_count v r
unfolding line_count
count_wider v w [] h = omega arith
count_wider v w (f ∷ r) h = omega (arith, fit_wider v w (f.word + f.white) r h)

-- ---- from flags to groupings

lines_joined : {w : ℕ} (f : Fragment) {c : ℕ} {r : List Fragment} {b : List Bool} → Fits w c r b → joined (lines f r b) ≡ f ∷ r
unfolding joined cut
lines_joined f none = refl
lines_joined f (fresh {f = g} h) = ap (λ l. f ∷ l) (lines_joined g h)
lines_joined f (join {f = g} k h) = ap (λ l. f ∷ l) (lines_joined g h)

pub lines_count : {w c : ℕ} {r : List Fragment} {b : List Bool} → Fits w c r b → length (cut r b).1 ≡ started b
unfolding cut started
lines_count none = refl
lines_count (fresh h) = ap suc (lines_count h)
lines_count (join k h) = lines_count h

lines_good : {w : ℕ} (p : ℕ) (f : Fragment) {c : ℕ} {r : List Fragment} {b : List Bool} → Fits w c r b → c ≡ p + (f.word + f.white)
    → (p + f.word ≤ w → p + line_width (f ∷ (cut r b).0) ≤ w) × AllGood w (cut r b).1 × (p ≡ 0 → Good w (f ∷ (cut r b).0))
unfolding cut line_width Good AllGood
lines_good p f none e = (λ h. h, tt, λ z. tt)
lines_good p f (fresh {f = g} h) e =
    let q = lines_good 0 g h (omega arith) in
    (λ k. k, (q.2 refl, q.1), λ z. tt)
lines_good p f (join {f = g} k h) e =
    let q = lines_good (p + (f.word + f.white)) g h (omega arith) in
    (λ l. omega (arith, q.0 (omega arith)), q.1, λ z. omega (arith, q.0 (omega arith)))

pub fits_grouping : {w : ℕ} {f : Fragment} {r : List Fragment} {b : List Bool} → Fits w (f.word + f.white) r b → Grouping w (f ∷ r) (lines f r b)
unfolding AllGood
fits_grouping {f = f} h = let q = lines_good 0 f h (omega arith) in record { whole = lines_joined f h; good = (q.2 refl, q.1) }

-- ---- from groupings to flags

-- the flags of the words of a line after its first, before those of what follows
unfoldable falses : List Fragment → List Bool → List Bool
falses [] b = b
falses (f ∷ l) b = false ∷ falses l b

-- the flags of lines that follow another
unfoldable flags_of : List (List Fragment) → List Bool
flags_of [] = []
flags_of ([] ∷ ls) = flags_of ls
flags_of ((f ∷ l) ∷ ls) = true ∷ falses l (flags_of ls)

started_falses : (l : List Fragment) (b : List Bool) → started (falses l b) ≡ started b
unfolding falses started
started_falses [] b = refl
started_falses (f ∷ l) b = started_falses l b

started_flags : (w : ℕ) (ls : List (List Fragment)) → AllGood w ls → started (flags_of ls) ≡ length ls
unfolding flags_of AllGood Good started
started_flags w [] h = refl
started_flags w ([] ∷ ls) h = absurd h.0
started_flags w ((f ∷ l) ∷ ls) h = ap suc (started_falses l (flags_of ls) ∙ started_flags w ls h.1)

first_le : (g : Fragment) (l : List Fragment) → g.word ≤ line_width (g ∷ l)
unfolding line_width
first_le g [] = omega arith
first_le g (h ∷ l) = omega arith

-- the words of a line that is wide enough join it
run_fits : {w : ℕ} (p : ℕ) (f : Fragment) (l : List Fragment) {c : ℕ} {r : List Fragment} {b : List Bool} → ((c : ℕ) → Fits w c r b)
    → c ≡ p + (f.word + f.white) → p + line_width (f ∷ l) ≤ w → Fits w c (l ++ r) (falses l b)
unfolding falses line_width
run_fits p f [] k e h = k _
run_fits p f (g ∷ l) {c = c} k e h =
    join {c = c} {f = g} (omega (arith, first_le g l)) (run_fits (p + (f.word + f.white)) g l k (omega arith) (omega arith))

line_fits : {w : ℕ} (f : Fragment) (l : List Fragment) {r : List Fragment} {b : List Bool} → Good w (f ∷ l) → ((c : ℕ) → Fits w c r b)
    → Fits w (f.word + f.white) (l ++ r) (falses l b)
unfolding falses Good
line_fits f [] h k = k _
line_fits f (g ∷ l) h k = run_fits 0 f (g ∷ l) k (omega arith) (omega arith)

flags_fit : {w : ℕ} (ls : List (List Fragment)) → AllGood w ls → (c : ℕ) → Fits w c (joined ls) (flags_of ls)
unfolding flags_of joined AllGood Good
flags_fit [] h c = none
flags_fit ([] ∷ ls) h c = absurd h.0
flags_fit ((f ∷ l) ∷ ls) h c = fresh (line_fits f l h.0 (flags_fit ls h.1))

-- ---- the fewest lines

fewest_in : (w : ℕ) (ls : List (List Fragment)) → AllGood w ls → line_count w (joined ls) ≤ max 1 (length ls)
unfolding joined AllGood Good line_count
fewest_in w [] h = omega arith
fewest_in w ([] ∷ ls) h = absurd h.0
fewest_in w ((f ∷ l) ∷ ls) h =
    let p = (fit_least w (f.word + f.white) (line_fits f l h.0 (flags_fit ls h.1))).0 (omega arith) in
    omega (arith, started_falses l (flags_of ls), started_flags w ls h.1)

-- No grouping has fewer lines than first fit,
pub count_least : {w : ℕ} {words : List Fragment} {ls : List (List Fragment)} → Grouping w words ls → line_count w words ≤ max 1 (length ls)
count_least {w = w} {ls = ls} g = subst (λ (x : List Fragment). line_count w x ≤ max 1 (length ls)) g.whole (fewest_in w ls g.good)

-- and first fit's own lines are a grouping with that many.
pub count_met : (w : ℕ) (f : Fragment) (r : List Fragment)
    → Grouping w (f ∷ r) (lines f r (fit w (f.word + f.white) r)) × (length (lines f r (fit w (f.word + f.white) r)) ≡ line_count w (f ∷ r))
unfolding line_count
count_met w f r = let h = fit_fits w (f.word + f.white) r in (fits_grouping h, ap suc (lines_count h))

-- A line of one word or of fitting width stays one line.
pub count_one : (w : ℕ) (l : List Fragment) → Good w l → line_count w l ≡ 1
unfolding Good AllGood line_count joined
count_one w [] h = absurd h
count_one w (f ∷ l) h = omega (arith, count_least {w = w} {words = f ∷ l} {ls = (f ∷ l) ∷ []} (record { whole = append-nil (f ∷ l); good = (h, tt) }))
