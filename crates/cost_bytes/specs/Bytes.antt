-- Least cost for lists of bytes: the answer and the lists after it, where w, s, p and ws are the numbers that the lists of fragments and widths hold.
use Rattle.std.specs.Prelude.{◌≡◌, ℕ, List, Result, Ok, length}
use Rattle.logic.specs.Flat.{flat}
use Rattle.wire.specs.Wire.{be16, be64, places16, places64}
use Rattle.fragments.specs.Lists.{found, list_test}
use Rattle.fragments.specs.declared.ListRefusal.{ListRefusal}
use Rattle.least_cost.specs.declared.Penalties.{Penalties}
use Rattle.least_cost.specs.Layout.{first_big, admission_of, ends_after, scratch_after, costs_of, starts_of, ends_of_lines, laid_of}

-- What the entry promises: its answer r, and the bytes of ends, costs and starts before and after it.
pub record LaidBytes (w s p ws : List ℕ) (P : Penalties) (E C S : List ℕ) (r : Result ℕ ListRefusal) (E' C' S' : List ℕ) : Type 0 where
  pub answer : r ≡ laid_of w s p ws P (places16 E) (places64 C) (places16 S)
  pub ends : E' ≡ ends_after r (flat be16 (ends_of_lines w s p ws P)) E
  pub costs : C' ≡ scratch_after r (flat be64 (costs_of w s p ws P)) C
  pub starts : S' ≡ scratch_after r (flat be16 (starts_of w s p ws P)) S

-- Whether the search is begun.
unfoldable pub admitted : List ℕ → List ℕ → List ℕ → List ℕ → Penalties → ℕ → ℕ → ℕ → Result (Unit {0}) ListRefusal
admitted w s p ws P ends costs starts =
    admission_of (list_test w s p ws) (found (first_big P) 5) (length w) ends costs starts

pub record Begun (w s p ws : List ℕ) (P : Penalties) (E C S : List ℕ) : Type 0 where
  pub begun : admitted w s p ws P (places16 E) (places64 C) (places16 S) ≡ Ok tt
