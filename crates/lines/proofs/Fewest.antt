-- The breaks of an input line and the theory of groupings: as many lines as first fit counts, so none can do with fewer, and a larger width gives no more.
use mathlib.Core.Path.{◌≡◌, refl, ap, ◌∙◌}
use mathlib.Core.Bool.{Bool, true, false}
use mathlib.Core.List.{List, [], ◌∷◌, map}
use Prim.Native.Nat.{ℕ, suc, ◌≤◌, max}
use native.Mathlib.Omega.{arith}
use lib.ListN.{length, length-map}
use Rattle.fragments.specs.Fragments.{Fragment}
use Rattle.first_fit.specs.Groupings.{Grouping, too_wide, columns_after, fit, started, line_count}
use Rattle.first_fit.proofs.Laying.{flags_length}
use Rattle.first_fit.proofs.Groupings.{count_least, count_wider}
use Rattle.words.specs.declared.Word.{Word}
use Rattle.words.specs.Words.{words}
use Rattle.lines.specs.Breaks.{fragment_of, columns_of, places, breaks_of, breaks}

places_count : (ws : List Word) (b : List Bool) → length b ≡ length ws → length (places ws b) ≡ started b
unfolding places started
places_count [] [] e = refl
places_count [] (t ∷ b) e = absurd (omega arith)
places_count (w ∷ ws) [] e = refl
places_count (w ∷ ws) (true ∷ b) e = ap suc (places_count ws b (omega arith))
places_count (w ∷ ws) (false ∷ b) e = places_count ws b (omega arith)

breaks_of_count : (width : ℕ) (ws : List Word) → suc (length (breaks_of width ws)) ≡ line_count width (map fragment_of ws)
unfolding breaks_of line_count
breaks_of_count width [] = refl
breaks_of_count width (w ∷ ws) =
    ap suc (places_count ws (fit width (columns_of w) (map fragment_of ws)) (flags_length (too_wide width) (columns_after width) (columns_of w) (map fragment_of ws) ∙ length-map ws fragment_of))

-- One line more than breaks.
pub breaks_lines : (width : ℕ) (s : List ℕ) → suc (length (breaks width s)) ≡ line_count width (map fragment_of (words s))
unfolding breaks
breaks_lines width s = breaks_of_count width (words s)

pub breaks_least : (width : ℕ) (s : List ℕ) {others : List (List Fragment)} → Grouping width (map fragment_of (words s)) others → suc (length (breaks width s)) ≤ max 1 (length others)
breaks_least width s g = omega (arith, breaks_lines width s, count_least g)

pub breaks_wider : (v w : ℕ) (s : List ℕ) → v ≤ w → length (breaks w s) ≤ length (breaks v s)
breaks_wider v w s h = omega (arith, breaks_lines v s, breaks_lines w s, count_wider v w (map fragment_of (words s)) h)
