-- Document 01, "Layouts" and "Numbers that come back": line widths, and the refusals that both layouts share.
use Rattle.std.specs.Prelude.{ℕ, ◌-◌, min, List, Option, Some, None, Result, Ok, Err, ltb, leb, eqb, length, get_or}
use Rattle.units.specs.Limits.{fragments_most, width_most}
use Rattle.logic.specs.Choice.{pick}
use Rattle.logic.specs.Count.{count}
use Rattle.fragments.specs.declared.ListRefusal.{ListRefusal}
use Rattle.fragments.specs.declared.ListRefusal.TheVariants.{Unequal, TooMany, TooWide}

-- "Line k has the k-th width, beyond the list the last one; an empty list counts as a single 0."
unfoldable pub width_of : List ℕ → ℕ → ℕ
width_of ws k = get_or ws (min k (length ws - 1)) 0

-- "a line width exceeds 255 | first such index": how many numbers come before the first above a bound, all where there is none
unfoldable pub first_above : ℕ → List ℕ → ℕ
first_above most l = count (λ x. leb x most) l

-- The index i if it lies in a list of n, and else none.
abbrev pub found : ℕ → ℕ → Option ℕ
found i n = pick (ltb i n) (Some i) None

-- What a width that is too wide, by its index, makes of the answer.
abbrev pub width_tested : Option ℕ → Result (Unit {0}) ListRefusal
width_tested (Some at) = Err (TooWide at)
width_tested None = Ok tt

-- "Layout entries go 5, 4, 3, ..": by the lengths of the three lists, and the index of the first width that is too wide
unfoldable pub tested_of : ℕ → ℕ → ℕ → Option ℕ → Result (Unit {0}) ListRefusal
tested_of words whites penalties wide =
    pick (eqb whites words)
    (pick (eqb penalties words)
    (pick (ltb fragments_most words) (Err TooMany) (width_tested wide))
    (Err Unequal))
    (Err Unequal)

-- The same of the numbers of the three lists and of the line widths.
abbrev pub list_test : List ℕ → List ℕ → List ℕ → List ℕ → Result (Unit {0}) ListRefusal
list_test words whites penalties widths = tested_of (length words) (length whites) (length penalties) (found (first_above width_most widths) (length widths))
