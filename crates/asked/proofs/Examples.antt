-- The definition of what is asked for, computed: a command line of each kind, and each way to misuse but an argument that is too long.
use mathlib.Core.Path.{◌≡◌, refl}
use mathlib.Core.List.{List, [], ◌∷◌, ◌++◌}
use Prim.Native.Nat.{ℕ}
use Rattle.logic.specs.Count.{count}
use Rattle.saying.specs.Ascii.{ascii}
use Rattle.decimal.specs.Decimal.{decimal, all_digits, is_number}
use Rattle.std.specs.Prelude.{Result, Ok, Err}
use Rattle.asked.specs.declared.Part.{Part}
use Rattle.asked.specs.declared.File.TheVariants.{Input, Named}
use Rattle.asked.specs.declared.Wrong.TheVariants.{NoCommand, NoSuchCommand, NotWidth, TooFew, TooMany, BothInput}
use Rattle.asked.specs.declared.Misuse.{Misuse}
use Rattle.asked.specs.declared.Plan.{Plan}
use Rattle.asked.specs.declared.Plan.TheVariants.{Help, Measure, Fill, Show, Check}
use Rattle.asked.specs.Block.{end_at, after_of, nowhere, same, runs_over}
use Rattle.asked.specs.Plan.{misuse, command_of, file_at, one_file_of, one_word_of, two_words_of, sized_of, pair_of, triple_of, check_of, plan_of}

-- Arguments as they come: each with a 0 after it.
abbrev block : List (List ℕ) → List ℕ
block [] = []
block (w ∷ ws) = w ++ (0 ∷ block ws)

abbrev from_to : ℕ → ℕ → Part
from_to a b = record { start = a; end = b }

-- What is asked for by some command lines,
abbrev given : List (Result Plan Misuse)
given =
    plan_of (block (ascii "measure" ∷ []))
    ∷ plan_of (block (ascii "fill" ∷ ascii "60" ∷ ascii "body" ∷ []))
    ∷ plan_of (block (ascii "fill" ∷ ascii "body" ∷ []))
    ∷ plan_of (block (ascii "show" ∷ ascii "99999999999" ∷ []))
    ∷ plan_of (block (ascii "check" ∷ ascii "-" ∷ ascii "paper" ∷ []))
    ∷ plan_of (block (ascii "check" ∷ ascii "3" ∷ ascii "body" ∷ ascii "-" ∷ []))
    ∷ plan_of (block (ascii "-h" ∷ ascii "fill" ∷ []))
    ∷ plan_of []
    ∷ plan_of (block (ascii "xyz" ∷ []))
    ∷ plan_of (block (ascii "fill" ∷ ascii "wide" ∷ ascii "body" ∷ []))
    ∷ plan_of (block (ascii "check" ∷ ascii "body" ∷ []))
    ∷ plan_of (block (ascii "words" ∷ ascii "a" ∷ ascii "b" ∷ []))
    ∷ plan_of (block (ascii "check" ∷ ascii "-" ∷ ascii "-" ∷ []))
    ∷ []

-- and what that is.
pub examples : given
    ≡ Ok (Measure Input)
    ∷ Ok (Fill 60 (Named (from_to 8 12)))
    ∷ Ok (Fill 42 (Named (from_to 5 9)))
    ∷ Ok (Show 99999 Input)
    ∷ Ok (Check 42 Input (Named (from_to 8 13)))
    ∷ Ok (Check 3 (Named (from_to 8 12)) Input)
    ∷ Ok Help
    ∷ Err (misuse NoCommand nowhere)
    ∷ Err (misuse NoSuchCommand (from_to 0 3))
    ∷ Err (misuse NotWidth (from_to 5 9))
    ∷ Err (misuse TooFew nowhere)
    ∷ Err (misuse TooMany (from_to 8 9))
    ∷ Err (misuse BothInput (from_to 8 9))
    ∷ []
unfolding count decimal all_digits is_number end_at after_of same runs_over command_of file_at one_file_of one_word_of two_words_of sized_of pair_of triple_of check_of plan_of
examples = refl
