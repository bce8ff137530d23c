-- Numbers of a list as they lie in memory, each by the elements that it takes, one after the other.
use Rattle.std.specs.Prelude.{List, [], ◌∷◌, ◌++◌}

abbrev pub flat : {N A : Type 0} → (N → List A) → List N → List A
flat one [] = []
flat one (v ∷ vs) = one v ++ flat one vs
