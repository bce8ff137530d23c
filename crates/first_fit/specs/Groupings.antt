-- Groupings of words into lines under one width: document 01, "Fill and check". Penalty widths do not count here.
use Rattle.std.specs.Prelude.{◌≡◌, ℕ, suc, ◌+◌, ◌≤◌, Bool, true, false, List, [], ◌∷◌, ◌++◌, ltb}
use Rattle.logic.specs.Choice.{pick}
use Rattle.fragments.specs.Fragments.{Fragment}
use Rattle.first_fit.specs.FirstFit.{flags}

-- "Line width in fill and check is the sum of word widths and of the whitespace between words"
unfoldable pub line_width : List Fragment → ℕ
line_width [] = 0
line_width (f ∷ []) = f.word
line_width (f ∷ g ∷ r) = f.word + f.white + line_width (g ∷ r)

-- "lines of one word or of fitting width"
unfoldable pub Good : ℕ → List Fragment → Type 0
Good w [] = ⊥
Good w (f ∷ []) = Unit {0}
Good w (f ∷ g ∷ r) = line_width (f ∷ g ∷ r) ≤ w

unfoldable pub AllGood : ℕ → List (List Fragment) → Type 0
AllGood w [] = Unit {0}
AllGood w (l ∷ ls) = Good w l × AllGood w ls

unfoldable pub joined : List (List Fragment) → List Fragment
joined [] = []
joined (l ∷ ls) = l ++ joined ls

-- "groupings of an input line's words in order into lines of one word or of fitting width"
pub record Grouping (w : ℕ) (words : List Fragment) (lines : List (List Fragment)) : Type 0 where
  pub whole : joined lines ≡ words
  pub good : AllGood w lines

-- First fit at one width, from the columns that the line has already.
abbrev pub too_wide : ℕ → ℕ → Fragment → Bool
too_wide w c f = ltb w (c + f.word)

abbrev pub columns_after : ℕ → ℕ → Fragment → ℕ
columns_after w c f = pick (too_wide w c f) (f.word + f.white) (c + (f.word + f.white))

abbrev pub fit : ℕ → ℕ → List Fragment → List Bool
fit w c r = flags (too_wide w) (columns_after w) c r

-- How many lines the flags start.
unfoldable pub started : List Bool → ℕ
started [] = 0
started (true ∷ b) = suc (started b)
started (false ∷ b) = started b

-- How many lines first fit makes of an input line's words. "An input line without words has one line."
unfoldable pub line_count : ℕ → List Fragment → ℕ
line_count w [] = 1
line_count w (f ∷ r) = suc (started (fit w (f.word + f.white) r))

-- What flags make of the words after a line's first: the rest of that line, and the other lines.
unfoldable pub cut : List Fragment → List Bool → List Fragment × List (List Fragment)
cut [] b = ([], [])
cut (g ∷ r) [] = (g ∷ r, [])
cut (g ∷ r) (true ∷ b) = let t = cut r b in ([], (g ∷ t.0) ∷ t.1)
cut (g ∷ r) (false ∷ b) = let t = cut r b in (g ∷ t.0, t.1)

-- The lines of the words f ∷ r, by the flags of r.
abbrev pub lines : Fragment → List Fragment → List Bool → List (List Fragment)
lines f r b = (f ∷ (cut r b).0) ∷ (cut r b).1

-- Every word that joins the line before it, which has c columns, fits there.
pub data Fits (w : ℕ) : ℕ → List Fragment → List Bool → Type 0 where
  none : {c : ℕ} → Fits w c [] []
  fresh : {c : ℕ} {f : Fragment} {r : List Fragment} {b : List Bool} → Fits w (f.word + f.white) r b → Fits w c (f ∷ r) (true ∷ b)
  join : {c : ℕ} {f : Fragment} {r : List Fragment} {b : List Bool} → c + f.word ≤ w → Fits w (c + (f.word + f.white)) r b → Fits w c (f ∷ r) (false ∷ b)

-- No fragment has a penalty width.
unfoldable pub Bare : List Fragment → Type 0
Bare [] = Unit {0}
Bare (f ∷ r) = (f.penalty ≡ 0) × Bare r
