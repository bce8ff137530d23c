-- Document 01, "Layouts" and "Numbers that come back": what the least-cost entry answers, and what its three lists hold after it.
use Rattle.std.specs.Prelude.{◌≡◌, ℕ, zero, suc, ◌+◌, min, max, List, [], ◌∷◌, Option, Some, None, Result, Ok, Err, ltb, length, replicate}
use Rattle.std.proofs.lemmas.List.Edits.{sets}
use Rattle.units.specs.Limits.{penalty_most, cost_most}
use Rattle.logic.specs.Choice.{pick}
use Rattle.fragments.specs.Lists.{found, first_above, list_test}
use Rattle.fragments.specs.declared.ListRefusal.{ListRefusal}
use Rattle.fragments.specs.declared.ListRefusal.TheVariants.{Unequal, TooMany, TooWide, BigPenalty, NoRoom, TooDear}
use Rattle.cheapest.specs.Lines.{ends_of}
use Rattle.cheapest.specs.Table.{at, best_costs, chosen_starts}
use Rattle.least_cost.specs.declared.Penalties.{Penalties}
use Rattle.least_cost.specs.Price.{price}

-- "Penalties are five numbers .. per line, overflow, short-last-line fraction, short last line, hyphen"
abbrev pub five : Penalties → List ℕ
five P = P.line ∷ P.overflow ∷ P.fraction ∷ P.short ∷ P.hyphen ∷ []

-- "a penalty exceeds 1,000,000 | first such, 0 to 4": its index, or 5
unfoldable pub first_big : Penalties → ℕ
first_big P = first_above penalty_most (five P)

-- "Layout entries go 5, 4, 3, 6, 7, 8": whether the search is begun, by what the lists were found to be, the index of the first big penalty, the fragments, and the places of ends, costs and starts. "the list
-- needs the larger of 1 and the fragment count", the scratch lists "fragment count + 1 places"; "7 is tested on the answer lists, then on the scratch, by the shortest of each".
unfoldable pub admission_of : Result (Unit {0}) ListRefusal → Option ℕ → ℕ → ℕ → ℕ → ℕ → Result (Unit {0}) ListRefusal
admission_of (Err why) big n ends costs starts = Err why
admission_of (Ok u) (Some i) n ends costs starts = Err (BigPenalty i)
admission_of (Ok u) None n ends costs starts =
    pick (ltb ends (max 1 n)) (Err (NoRoom (max 1 n)))
    (pick (ltb (min costs starts) (n + 1)) (Err (NoRoom (n + 1))) (Ok tt))

-- The ends of the lines of n fragments, by the chosen starts: "No fragments give one empty line with end 0".
abbrev pub lines_of : (ℕ → ℕ) → ℕ → List ℕ
lines_of s zero = 0 ∷ []
lines_of s (suc n) = ends_of s (suc n)

-- "the least cost exceeds 2^53" is the last refusal: the answer from the least cost and the number of lines.
abbrev pub laid_from : Result (Unit {0}) ListRefusal → ℕ → ℕ → Result ℕ ListRefusal
laid_from (Err why) cost lines = Err why
laid_from (Ok u) cost lines = pick (ltb cost_most cost) (Err TooDear) (Ok lines)

-- "A refusal .. changes no lent memory": the answer list after the entry, where the answer writes `es`.
abbrev pub ends_after : Result ℕ ListRefusal → List ℕ → List ℕ → List ℕ
ends_after (Ok k) es l = sets l 0 es
ends_after (Err why) es l = l

-- ".. except that 8 sets the scratch .. to zero": a scratch list after the entry, where the search writes `vs`.
abbrev pub scratch_after : Result ℕ ListRefusal → List ℕ → List ℕ → List ℕ
scratch_after (Ok k) vs l = sets l 0 vs
scratch_after (Err Unequal) vs l = l
scratch_after (Err TooMany) vs l = l
scratch_after (Err (TooWide i)) vs l = l
scratch_after (Err (BigPenalty i)) vs l = l
scratch_after (Err (NoRoom k)) vs l = l
scratch_after (Err TooDear) vs l = sets l 0 (replicate (length vs) 0)

-- ---- the entry, from what is lent to it: w, s, p, ws, P as in `Price`, and the places of ends, costs and starts

module _ (w s p ws : List ℕ) (P : Penalties) where
  -- best(0) to best(n), and the chosen starts
  unfoldable pub costs_of : List ℕ
  costs_of = best_costs (price w s p ws P) (length w)

  unfoldable pub starts_of : List ℕ
  starts_of = chosen_starts (price w s p ws P) (length w)

  -- the ends of the lines
  unfoldable pub ends_of_lines : List ℕ
  ends_of_lines = lines_of (at starts_of) (length w)

  unfoldable pub laid_of : ℕ → ℕ → ℕ → Result ℕ ListRefusal
  laid_of ends costs starts =
      laid_from
      (admission_of (list_test w s p ws) (found (first_big P) 5) (length w) ends costs starts)
      (at costs_of (length w))
      (length ends_of_lines)

-- What the entry promises: its answer r, and the lists of ends, costs and starts before and after it.
pub record Laying (w s p ws : List ℕ) (P : Penalties) (E C S : List ℕ) (r : Result ℕ ListRefusal) (E' C' S' : List ℕ) : Type 0 where
  pub answer : r ≡ laid_of w s p ws P (length E) (length C) (length S)
  pub ends : E' ≡ ends_after r (ends_of_lines w s p ws P) E
  pub costs : C' ≡ scratch_after r (costs_of w s p ws P) C
  pub starts : S' ≡ scratch_after r (starts_of w s p ws P) S
