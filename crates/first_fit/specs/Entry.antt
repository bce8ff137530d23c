-- What the entry answers, and what it leaves in the list of ends.
use Rattle.std.specs.Prelude.{◌≡◌, ℕ, ◌≤◌, max, List, Result, Ok, Err, ltb, length}
use Rattle.std.proofs.lemmas.List.Edits.{sets}
use Rattle.units.specs.Limits.{fragments_most}
use Rattle.logic.specs.Choice.{pick}
use Rattle.fragments.specs.declared.ListRefusal.{ListRefusal}
use Rattle.fragments.specs.declared.ListRefusal.TheVariants.{NoRoom}
use Rattle.fragments.specs.Fragments.{fragments}
use Rattle.fragments.specs.Lists.{list_test}
use Rattle.first_fit.specs.FirstFit.{line_ends}

-- "the list needs the larger of 1 and the fragment count": after the tests of the lists, 7 on the answer list; `room` is its length
abbrev pub laid_of : Result (Unit {0}) ListRefusal → ℕ → ℕ → ℕ → Result ℕ ListRefusal
laid_of (Ok u) n room lines = pick (ltb room (max 1 n)) (Err (NoRoom (max 1 n))) (Ok lines)
laid_of (Err why) n room lines = Err why

-- "Layout entries go 5, 4, 3, 6, 7, 8 (first fit has no 6 or 8)."
unfoldable pub first_fit_of : List ℕ → List ℕ → List ℕ → List ℕ → ℕ → Result ℕ ListRefusal
first_fit_of words whites penalties widths room =
    laid_of (list_test words whites penalties widths) (length words) room
    (length (line_ends widths (fragments words whites penalties)))

-- "List places past the answer keep what they held. A refusal .. changes no lent memory": the list of ends after the entry, by its answer, the ends, and what it held
abbrev pub Lays : {A : Type 0} → Result ℕ ListRefusal → List A → List A → List A
Lays (Ok n) es l = sets l 0 es
Lays (Err why) es l = l

-- What the layout itself asks of its lists, `room` being the places for ends.
pub record Lists (words whites penalties : List ℕ) (room : ℕ) : Type 0 where
  pub whites_same : length whites ≡ length words
  pub penalties_same : length penalties ≡ length words
  pub few : length words ≤ fragments_most
  pub room_enough : length words ≤ room
