-- Document 01, "Fill and check": what is wrong with a changed byte. "An allowed break is such a last space, with another word after it in the input line."
use Rattle.std.specs.Prelude.{ℕ, zero, suc, Bool, true, false, List, eqb, ltb, length, get_or, Option, Some, None}
use Rattle.units.specs.declared.Offset.{Offset}
use Rattle.logic.specs.Choice.{pick}
use Rattle.words.specs.Words.{space}
use Rattle.lines.specs.Lines.{newline, in_body}
use Rattle.judge.specs.declared.Change.{Change}
use Rattle.judge.specs.declared.Change.TheVariants.{Kept, Break, NotSpace, NotNewline, SpaceFollows, NoWord}

-- What became of the byte at a place: it is the same; or it was a space that the next word of its input line directly follows, and is a newline now; or one of four kinds of change that is no such break.
-- Exactly one holds of each byte. Another space that follows is said before whether a word does.
unfoldable pub change_at : List ℕ → List ℕ → ℕ → Change
change_at before after p =
    pick (eqb (get_or before p 0) (get_or after p 0)) Kept
    (pick (space (get_or before p 0))
    (pick (newline (get_or after p 0))
    (pick (space (get_or before (suc p) 0)) SpaceFollows
    (pick (in_body before (suc p)) Break NoWord))
    NotNewline)
    NotSpace)

abbrev pub allowed : Change → Bool
allowed Kept = true
allowed Break = true
allowed NotSpace = false
allowed NotNewline = false
allowed SpaceFollows = false
allowed NoWord = false

-- "first such byte": the first of the n places from p on whose change is not allowed, or the place after them.
unfoldable pub first_bad_from : List ℕ → List ℕ → ℕ → ℕ → ℕ
first_bad_from before after zero p = p
first_bad_from before after (suc n) p = pick (allowed (change_at before after p)) (first_bad_from before after n (suc p)) p

unfoldable pub first_bad : List ℕ → List ℕ → ℕ
first_bad before after = first_bad_from before after (length before) 0

-- And whether there is one.
abbrev pub bad_of : List ℕ → List ℕ → Option Offset
bad_of before after = pick (ltb (first_bad before after) (length before)) (Some (record { 0 = first_bad before after })) None
