-- An input line by the lines that the text after forms of it: none is too wide exactly if all are good, and it has not too many exactly if no grouping has fewer.
use mathlib.Core.Path.{◌≡◌, refl, ap, ◌∙◌}
use mathlib.Core.Bool.{Bool, true, false}
use mathlib.Core.List.{List, [], ◌∷◌, map}
use Prim.Native.Nat.{ℕ, suc, ◌+◌, ◌≤◌, ◌<◌}
use native.Mathlib.Omega.{arith}
use lib.Dec.{ltb}
use lib.ListN.{length, length-map}
use borrow.Author.Tests.{ltb-true, ltb-false, le-ltb}
use Rattle.logic.proofs.Choice.{both}
use Rattle.fragments.specs.Fragments.{Fragment}
use Rattle.first_fit.specs.Groupings.{line_width, Good, AllGood, joined, Grouping, fit, started, line_count, cut, lines, Fits}
use Rattle.first_fit.specs.Groupings.Fits.{none, fresh, join}
use Rattle.first_fit.proofs.Groupings.{fits_grouping, lines_count, count_least, count_met}
use Rattle.words.specs.declared.Word.{Word}
use Rattle.words.specs.Lists.{start_of, width_of_word}
use Rattle.lines.specs.Breaks.{fragment_of, columns_of}
use Rattle.judge.specs.Judge.{marks, wide_from, wide_of, given_of, needed_of, many_of}
use Rattle.judge.specs.Demand.{formed_of}
use Rattle.std.specs.Prelude.{None, Some}
use Rattle.units.specs.declared.Offset.{Offset}

pub at_nowhere : {o : Offset} → Some o ≡ None → ⊥
at_nowhere {o} e = let z : ◌≡◌ {A = ℕ} 0 1 = cc in omega arith

-- ---- what is too wide, and what fits

fits_starts : {w c : ℕ} {f : Fragment} {r : List Fragment} {b : List Bool} → Fits w c (f ∷ r) (true ∷ b) → Fits w (f.word + f.white) r b
fits_starts (fresh h) = h

fits_joins : {w c : ℕ} {f : Fragment} {r : List Fragment} {b : List Bool} → Fits w c (f ∷ r) (false ∷ b) → (c + f.word ≤ w) × Fits w (c + (f.word + f.white)) r b
fits_joins (join k h) = (k, h)

pub wide_fits : (width start from c : ℕ) (ws : List Word) (b : List Bool) → length b ≡ length ws → wide_from width start from c ws b ≡ None → Fits width c (map fragment_of ws) b
unfolding wide_from
wide_fits width start from c [] [] n e = none
wide_fits width start from c [] (x ∷ b) n e = absurd (omega arith)
wide_fits width start from c (w ∷ ws) [] n e = absurd (omega arith)
wide_fits width start from c (w ∷ ws) (true ∷ b) n e = fresh (wide_fits width start (start_of w) (columns_of w) ws b (omega arith) e)
wide_fits width start from c (w ∷ ws) (false ∷ b) n e =
    both (ltb width (c + width_of_word w))
    (λ t. let z : Some (record { 0 = start + from }) ≡ None = rw t at e in absurd (at_nowhere z))
    (λ t. join (ltb-false width (c + width_of_word w) t) (wide_fits width start from (c + columns_of w) ws b (omega arith) (rw t at e)))

pub fits_wide : (width start from c : ℕ) (ws : List Word) (b : List Bool) → Fits width c (map fragment_of ws) b → wide_from width start from c ws b ≡ None
unfolding wide_from
fits_wide width start from c [] b h = refl
fits_wide width start from c (w ∷ ws) [] h = refl
fits_wide width start from c (w ∷ ws) (true ∷ b) h = fits_wide width start (start_of w) (columns_of w) ws b (fits_starts h)
fits_wide width start from c (w ∷ ws) (false ∷ b) h =
    let k = fits_joins h in
    rw (le-ltb width (c + width_of_word w) k.0) (fits_wide width start from (c + columns_of w) ws b k.1)

-- ---- good lines

-- Where the line of f, which p columns come before, and all after it are good, every word that joins a line fits there.
good_fits : (p : ℕ) (f : Fragment) {w c : ℕ} (r : List Fragment) (b : List Bool) → length b ≡ length r → c ≡ p + (f.word + f.white)
    → (0 < length (cut r b).0 → p + line_width (f ∷ (cut r b).0) ≤ w) → AllGood w (cut r b).1 → Fits w c r b
unfolding cut line_width AllGood Good
good_fits p f [] [] n e h k = none
good_fits p f [] (x ∷ b) n e h k = absurd (omega arith)
good_fits p f (g ∷ r) [] n e h k = absurd (omega arith)
good_fits p f {w} (g ∷ r) (true ∷ b) n e h k = fresh {f = g} (good_fits 0 g r b (omega arith) (omega arith) (good_width (cut r b).0 k.0) k.1)
  where
    good_width : (l : List Fragment) → Good w (g ∷ l) → 0 < length l → 0 + line_width (g ∷ l) ≤ w
    good_width [] q z = absurd (omega arith)
    good_width (x ∷ l) q z = omega (arith, q)
good_fits p f {w} {c} (g ∷ r) (false ∷ b) n e h k =
    let m = h (omega arith) in
    join {c = c} {f = g} (omega (arith, line_most_lem (cut r b).0)) (good_fits (p + (f.word + f.white)) g r b (omega arith) (omega arith) (λ z. omega arith) k)
  where
    line_most_lem : (l : List Fragment) → g.word ≤ line_width (g ∷ l)
    line_most_lem [] = omega arith
    line_most_lem (x ∷ l) = omega arith

pub formed_fits : (w : ℕ) (f : Fragment) (r : List Fragment) (b : List Bool) → length b ≡ length r → AllGood w (lines f r b) → Fits w (f.word + f.white) r b
unfolding AllGood Good
formed_fits w f r b n h = good_fits 0 f r b n (omega arith) (first (cut r b).0 h.0) h.1
  where
    first : (l : List Fragment) → Good w (f ∷ l) → 0 < length l → 0 + line_width (f ∷ l) ≤ w
    first [] q z = absurd (omega arith)
    first (x ∷ l) q z = omega (arith, q)

-- ---- the input line

marks_length : (after : List ℕ) (start : ℕ) (ws : List Word) → length (marks after start ws) ≡ length (map fragment_of ws)
marks_length after start [] = refl
marks_length after start (w ∷ ws) = ap suc (marks_length after start ws)

some_line : {w : ℕ} {f : Fragment} {r : List Fragment} (others : List (List Fragment)) → Grouping w (f ∷ r) others → 0 < length others
unfolding joined
some_line {f = f} {r = r} [] g = let e : [] ≡ f ∷ r = g.whole in let z : ◌≡◌ {A = ℕ} 0 1 = cc in absurd (omega arith)
some_line (l ∷ ls) g = omega arith

-- What demand 3 asks of the lines that are formed.
abbrev pub Formed : ℕ → List ℕ → ℕ → List Word → Type 0
Formed width after start ws =
    AllGood width (formed_of after start ws)
    × ((others : List (List Fragment)) → Grouping width (map fragment_of ws) others → length (formed_of after start ws) ≤ length others)

-- No line is too wide and there are not too many.
abbrev pub Fine : ℕ → List ℕ → ℕ → List Word → Type 0
Fine width after start ws = (wide_of width after start ws ≡ None) × (many_of width after start ws ≡ false)

module _ (width : ℕ) (after : List ℕ) (start : ℕ) where
  pub formed_fine : (ws : List Word) → Formed width after start ws → Fine width after start ws
  unfolding formed_of wide_of given_of needed_of line_count
  formed_fine [] h = (refl, refl)
  formed_fine (w ∷ ws) h =
      let f = fragment_of w in
      let r = map fragment_of ws in
      let b = marks after start ws in
      let k = formed_fits width f r b (marks_length after start ws) h.0 in
      let m = count_met width f r in
      (fits_wide width start 0 (columns_of w) ws b k, le-ltb (started (fit width (columns_of w) r)) (started b) (omega (arith, h.1 (lines f r (fit width (columns_of w) r)) m.0, m.1, lines_count k)))

  pub fine_formed : (ws : List Word) → Fine width after start ws → Formed width after start ws
  unfolding formed_of wide_of given_of needed_of line_count AllGood
  fine_formed [] h = (tt, λ others g. omega arith)
  fine_formed (w ∷ ws) h =
      let f = fragment_of w in
      let r = map fragment_of ws in
      let b = marks after start ws in
      let k = wide_fits width start 0 (columns_of w) ws b (marks_length after start ws ∙ length-map ws fragment_of) h.0 in
      let g = fits_grouping {f = f} k in
      let n = ltb-false (started (fit width (columns_of w) r)) (started b) h.1 in
      (g.good, λ others o. omega (arith, count_least o, some_line others o, lines_count k))

  -- Each half by itself.
  pub fits_good : (ws : List Word) → wide_of width after start ws ≡ None → AllGood width (formed_of after start ws)
  unfolding formed_of wide_of AllGood
  fits_good [] h = tt
  fits_good (w ∷ ws) h = (fits_grouping {f = fragment_of w} (wide_fits width start 0 (columns_of w) ws (marks after start ws) (marks_length after start ws ∙ length-map ws fragment_of) h)).good

  pub good_none : (ws : List Word) → AllGood width (formed_of after start ws) → wide_of width after start ws ≡ None
  unfolding formed_of wide_of
  good_none [] h = refl
  good_none (w ∷ ws) h = fits_wide width start 0 (columns_of w) ws (marks after start ws) (formed_fits width (fragment_of w) (map fragment_of ws) (marks after start ws) (marks_length after start ws) h)

  pub many_fewer : (ws : List Word) → wide_of width after start ws ≡ None → many_of width after start ws ≡ true
      → (others : List (List Fragment)) × Grouping width (map fragment_of ws) others × (length others < length (formed_of after start ws))
  unfolding formed_of wide_of given_of needed_of line_count
  many_fewer [] h g = absurd (omega (arith, ltb-true 0 0 g))
  many_fewer (w ∷ ws) h g =
      let f = fragment_of w in
      let r = map fragment_of ws in
      let b = marks after start ws in
      let k = wide_fits width start 0 (columns_of w) ws b (marks_length after start ws ∙ length-map ws fragment_of) h in
      let m = count_met width f r in
      (lines f r (fit width (columns_of w) r), m.0, omega (arith, m.1, lines_count k, ltb-true (started (fit width (columns_of w) r)) (started b) g))
