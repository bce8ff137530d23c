-- How many numbers at the head of a list pass a test.
use Rattle.std.specs.Prelude.{ℕ, suc, Bool, List, [], ◌∷◌}
use Rattle.logic.specs.Choice.{pick}

unfoldable pub count : (ℕ → Bool) → List ℕ → ℕ
count p [] = 0
count p (b ∷ t) = pick (p b) (suc (count p t)) 0
