-- FIRST FIT: success and each refusal exactly when document 01 says, in its order 5, 4, 3, 7; and what first fit is worth: at one width and with no penalty widths no grouping of the words has fewer
-- lines, and a larger width never needs more. `room` is the places of the list of ends.
use Rattle.std.proofs.Common.{Ok}
use mathlib.Core.Path.{◌≡◌}
use mathlib.Core.List.{List, [], ◌∷◌}
use Prim.Native.Nat.{ℕ, ◌+◌, ◌≤◌, ◌<◌, max}
use lib.Dec.{leb}
use lib.ListN.{length, get_or}
use borrow.Author.Tests.{lt-ltb, le-ltb, eq-eqb, ne_eqb, leb-true, leb-false}
use Rattle.units.specs.Limits.{fragments_most, width_most}
use Rattle.units.specs.Answers.{success, refusal}
use Rattle.logic.proofs.Count.{count_passes, count_stops}
use Rattle.fragments.specs.Fragments.{Fragment, fragments}
use Rattle.fragments.specs.Lists.{found, first_above, tested_of}
use Rattle.fragments.specs.Answers as laid
use Rattle.fragments.proofs.Laws.{found_none, good_tested}
use Rattle.first_fit.specs.FirstFit.{line_ends}
use Rattle.first_fit.specs.Entry.{first_fit_of}
use Rattle.first_fit.specs.Groupings.{Grouping, fit, lines, line_count}
use Rattle.first_fit.proofs.Groupings.{count_met}
use Rattle.first_fit.proofs.OneWidth.{zeros_bare, lines_counted, first_fit_least, first_fit_wider}

-- "a line width exceeds 255 | first such index": the width there is above the bound, and none before it is.
pub wide_there : (most : ℕ) (widths : List ℕ) → first_above most widths < length widths → most < get_or widths (first_above most widths) 0
unfolding first_above
wide_there most widths h = leb-false (get_or widths (first_above most widths) 0) most (count_stops (λ x. leb x most) widths h)

pub none_before : (most : ℕ) (widths : List ℕ) (k : ℕ) → k < first_above most widths → get_or widths k 0 ≤ most
unfolding first_above
none_before most widths k h = leb-true (get_or widths k 0) most (count_passes (λ x. leb x most) widths k h)

module _ (words whites penalties widths : List ℕ) (room : ℕ) where
  -- "the three fragment lists differ in length"
  pub first_fit_unequal_whites : (length whites ≡ length words → ⊥) → laid.answer_of (first_fit_of words whites penalties widths room) ≡ refusal 5 0
  unfolding first_fit_of tested_of laid.answer_of
  first_fit_unequal_whites d = rw (ne_eqb (length whites) (length words) d)

  pub first_fit_unequal_penalties : length whites ≡ length words → (length penalties ≡ length words → ⊥) → laid.answer_of (first_fit_of words whites penalties widths room) ≡ refusal 5 0
  unfolding first_fit_of tested_of laid.answer_of
  first_fit_unequal_penalties e d = rw (eq-eqb (length whites) (length words) e, ne_eqb (length penalties) (length words) d)

  module _ (e : length whites ≡ length words) (f : length penalties ≡ length words) where
    pub first_fit_too_many : fragments_most < length words → laid.answer_of (first_fit_of words whites penalties widths room) ≡ refusal 4 0
    unfolding first_fit_of tested_of laid.answer_of
    first_fit_too_many l = rw (eq-eqb (length whites) (length words) e, eq-eqb (length penalties) (length words) f, lt-ltb fragments_most (length words) l)

    module _ (l : length words ≤ fragments_most) where
      pub first_fit_too_wide : first_above width_most widths < length widths → laid.answer_of (first_fit_of words whites penalties widths room) ≡ refusal 3 (first_above width_most widths)
      unfolding first_fit_of tested_of laid.answer_of
      first_fit_too_wide h =
          rw (eq-eqb (length whites) (length words) e, eq-eqb (length penalties) (length words) f, le-ltb fragments_most (length words) l, lt-ltb (first_above width_most widths) (length widths) h)

      module _ (h : length widths ≤ first_above width_most widths) where
        good : tested_of (length words) (length whites) (length penalties) (found (first_above width_most widths) (length widths)) ≡ Ok tt
        good = good_tested (length words) (length whites) (length penalties) _ (record { whites_same = e; penalties_same = f; few = l }) (found_none _ _ h)

        pub first_fit_no_room : room < max 1 (length words) → laid.answer_of (first_fit_of words whites penalties widths room) ≡ refusal 7 (max 1 (length words))
        unfolding first_fit_of laid.answer_of
        first_fit_no_room m = rw (good, lt-ltb room (max 1 (length words)) m)

        pub first_fit_laid : max 1 (length words) ≤ room → laid.answer_of (first_fit_of words whites penalties widths room) ≡ success (length (line_ends widths (fragments words whites penalties)))
        unfolding first_fit_of laid.answer_of
        first_fit_laid m = rw (good, le-ltb room (max 1 (length words)) m)

-- No grouping of the words in order, into lines of one word or of fitting width, has fewer lines than first fit.
pub fewest_lines : (w : ℕ) (words whites penalties : List ℕ) → ((k : ℕ) → get_or penalties k 0 ≡ 0) → (others : List (List Fragment)) → Grouping w (fragments words whites penalties) others
    → length (line_ends (w ∷ []) (fragments words whites penalties)) ≤ max 1 (length others)
fewest_lines w words whites penalties z others g = first_fit_least (zeros_bare words whites penalties z) g

-- First fit's own lines are such a grouping, with as many lines as it counts.
pub own_lines : (w : ℕ) (f : Fragment) (r : List Fragment)
    → Grouping w (f ∷ r) (lines f r (fit w (f.word + f.white) r)) × (length (lines f r (fit w (f.word + f.white) r)) ≡ line_count w (f ∷ r))
own_lines = count_met

pub counted_lines : (w : ℕ) (words whites penalties : List ℕ) → ((k : ℕ) → get_or penalties k 0 ≡ 0)
    → length (line_ends (w ∷ []) (fragments words whites penalties)) ≡ line_count w (fragments words whites penalties)
counted_lines w words whites penalties z = lines_counted w (fragments words whites penalties) (zeros_bare words whites penalties z)

-- A larger width never needs more lines.
pub wider_no_more : (v w : ℕ) (words whites penalties : List ℕ) → ((k : ℕ) → get_or penalties k 0 ≡ 0) → v ≤ w
    → length (line_ends (w ∷ []) (fragments words whites penalties)) ≤ length (line_ends (v ∷ []) (fragments words whites penalties))
wider_no_more v w words whites penalties z h = first_fit_wider v w (fragments words whites penalties) (zeros_bare words whites penalties z) h
