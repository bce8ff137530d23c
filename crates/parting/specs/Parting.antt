-- Where two texts part, for a person who looks for what is missing.
use Rattle.std.specs.Prelude.{ℕ, suc, Bool, true, false, List, [], ◌∷◌, eqb}
use Rattle.logic.specs.Choice.{pick}
use Rattle.words.specs.Words.{space}
use Rattle.lines.specs.Lines.{newline}

-- A byte and the one in its place: the same, or a space and a newline.
unfoldable pub goes_on : ℕ → ℕ → Bool
goes_on b a = pick (eqb b a) true (pick (space b) (newline a) false)

-- How far two texts go on together.
unfoldable pub parts_at : List ℕ → List ℕ → ℕ
parts_at [] after = 0
parts_at (b ∷ before) [] = 0
parts_at (b ∷ before) (a ∷ after) = pick (goes_on b a) (suc (parts_at before after)) 0
