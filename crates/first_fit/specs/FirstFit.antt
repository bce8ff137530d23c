-- Document 01, "Layouts": first fit. A layout is told by one Bool for each fragment but the first: true where the fragment starts a new line.
use Rattle.std.specs.Prelude.{ℕ, suc, ◌+◌, Bool, true, false, List, [], ◌∷◌, ltb}
use Rattle.logic.specs.Choice.{pick}
use Rattle.fragments.specs.Fragments.{Fragment}
use Rattle.fragments.specs.Lists.{width_of}

-- Whether each fragment of a list starts a line, by a test and a step of the line that is being filled. Any kind of number may stand behind the two.
unfoldable pub flags : {L F : Type 0} → (L → F → Bool) → (L → F → L) → L → List F → List Bool
flags starts step l [] = []
flags starts step l (f ∷ r) = starts l f ∷ flags starts step (step l f) r

-- "The answer is one end index per line": the ends of the lines, the first flag being that of fragment i.
unfoldable pub ends_from : ℕ → List Bool → List ℕ
ends_from i [] = i ∷ []
ends_from i (true ∷ b) = i ∷ ends_from (suc i) b
ends_from i (false ∷ b) = ends_from (suc i) b

-- The line that is being filled: its number, and the width of its fragments, each with its whitespace.
pub record Line : Type 0 where
  pub number : ℕ
  pub columns : ℕ

-- "a new line starts before a fragment if the current line has one and (width of the current fragments, each with its whitespace) + word + penalty exceeds the line width"
abbrev pub starts : List ℕ → Line → Fragment → Bool
starts widths l f = ltb (width_of widths l.number) (l.columns + f.word + f.penalty)

abbrev pub step : List ℕ → Line → Fragment → Line
step widths l f =
    pick (starts widths l f) (record { number = suc l.number; columns = f.word + f.white })
    (record { number = l.number; columns = l.columns + (f.word + f.white) })

-- The first line as its first fragment has begun it.
abbrev pub begun : Fragment → Line
begun f = record { number = 0; columns = f.word + f.white }

-- The ends of all lines. "No fragments give one empty line with end 0".
unfoldable pub line_ends : List ℕ → List Fragment → List ℕ
line_ends widths [] = 0 ∷ []
line_ends widths (f ∷ r) = ends_from 1 (flags (starts widths) (step widths) (begun f) r)
