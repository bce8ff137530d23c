-- How far two texts go on together, as std measures the front of two lists.
use mathlib.Core.Path.{◌≡◌}
use mathlib.Core.Bool.{Bool, true, false, cond}
use mathlib.Core.List.{List, [], ◌∷◌}
use Rattle.std.proofs.Common.{ℕ, suc, ◌+◌, refl, arith}
use Rattle.std.specs.List.{prefix_len, zip}
use Rattle.logic.specs.Choice.{pick}
use Rattle.parting.specs.Parting.{goes_on, parts_at}

abbrev pub both_go_on : ℕ × ℕ → Bool
both_go_on p = goes_on p.0 p.1

pub prefix_len-parts_at : (b a : List ℕ) → prefix_len both_go_on (zip b a) ≡ parts_at b a
unfolding parts_at
prefix_len-parts_at [] a = refl
prefix_len-parts_at (x ∷ b) [] = refl
prefix_len-parts_at (x ∷ b) (y ∷ a) =
    let e = prefix_len-parts_at b a in
    elim (goes_on x y) as (λ v. cond v (1 + prefix_len both_go_on (zip b a)) 0 ≡ pick v (suc (parts_at b a)) 0) [ true ↦ omega arith | false ↦ refl ]
