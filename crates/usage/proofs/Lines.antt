-- The line of a number, from a table of the lines.
use mathlib.Core.Path.{◌≡◌, sym, ◌∙◌}
use mathlib.Core.List.{List, [], map}
use Prim.Native.Nat.{ℕ, ◌<◌}
use lib.ListN.{length, get_or}
use denote.Bor.{Bor}
use Rattle.std.proofs.lemmas.List.{get_or-map}
use Rattle.usage.specs.Usage.{usage_lines, usage_line}

pub row_is : (t : List (Bor (List ℕ))) (k : ℕ) (d : Bor (List ℕ)) → map (λ x. x.now) t ≡ usage_lines → k < length t → (get_or t k d).now ≡ usage_line k
unfolding usage_line
row_is t k d e l = sym (get_or-map (λ x. x.now) t k d [] l) ∙ rw e
