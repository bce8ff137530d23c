-- What the arguments ask for, from their bytes: `slip measure [FILE]`, `slip words [FILE]`, `slip fill [WIDTH] [FILE]`, `slip show [WIDTH] [FILE]`,
-- `slip check [WIDTH] BEFORE AFTER`, `slip help`.
use Rattle.std.specs.Prelude.{ℕ, Bool, ◌&&◌, ◌||◌, List, eqb, length, Result, Ok, Err}
use Rattle.logic.specs.Choice.{pick}
use Rattle.saying.specs.Ascii.{ascii}
use Rattle.decimal.specs.Decimal.{decimal, is_number}
use Rattle.asked.specs.declared.Part.{Part}
use Rattle.asked.specs.declared.File.{File}
use Rattle.asked.specs.declared.File.TheVariants.{Input, Named}
use Rattle.asked.specs.declared.Wrong.{Wrong}
use Rattle.asked.specs.declared.Wrong.TheVariants.{NoCommand, NoSuchCommand, NotWidth, TooFew, TooMany, BothInput, TooLong}
use Rattle.asked.specs.declared.Misuse.{Misuse}
use Rattle.asked.specs.declared.Command.{Command}
use Rattle.asked.specs.declared.Command.TheVariants as command
use Rattle.asked.specs.declared.Plan.{Plan}
use Rattle.asked.specs.declared.Plan.TheVariants.{Help, Measure, Words, Fill, Show, Check}
use Rattle.asked.specs.Block.{after_of, word_at, part_at, nowhere, none, same, runs_over}

-- What is wrong, and the word that is.
abbrev pub misuse : Wrong → Part → Misuse
misuse x w = record { wrong = x; word = w }

-- The columns of the slip printer.
abbrev pub printer : ℕ
printer = 42

-- The most bytes of an argument.
abbrev pub argument_most : ℕ
argument_most = 4095

-- ---- the first word

-- `help`, `--help` and `-h`
abbrev pub is_help : List ℕ → Bool
is_help w = (same w (ascii "help") || same w (ascii "--help")) || same w (ascii "-h")

unfoldable pub command_of : List ℕ → Result Command Wrong
command_of w =
    pick (same w (ascii "measure")) (Ok command.Measure)
    (pick (same w (ascii "words")) (Ok command.Words)
    (pick (same w (ascii "fill")) (Ok command.Fill)
    (pick (same w (ascii "show")) (Ok command.Show)
    (pick (same w (ascii "check")) (Ok command.Check)
    (pick (is_help w) (Ok command.Help)
    (Err NoSuchCommand))))))

-- ---- the words after it

-- "No FILE, or `-`, is standard input."
abbrev pub is_input : List ℕ → ℕ → Bool
is_input b at = same (word_at b at) (ascii "-")

unfoldable pub file_at : List ℕ → ℕ → File
file_at b at = pick (is_input b at) Input (Named (part_at b at))

-- `[FILE]`
unfoldable pub one_file_of : List ℕ → ℕ → Result File Misuse
one_file_of b at =
    pick (none b at) (Ok Input)
    (pick (none b (after_of b at)) (Ok (file_at b at))
    (Err (misuse TooMany (part_at b (after_of b at)))))

-- `[WIDTH] [FILE]`: of one word, digits alone are the width; of two, the first must be digits.
unfoldable pub one_word_of : List ℕ → ℕ → ℕ × File
one_word_of b at = pick (is_number (word_at b at)) (decimal 0 (word_at b at), Input) (printer, file_at b at)

unfoldable pub two_words_of : List ℕ → ℕ → ℕ → Result (ℕ × File) Misuse
two_words_of b at second = pick (is_number (word_at b at)) (Ok (decimal 0 (word_at b at), file_at b second)) (Err (misuse NotWidth (part_at b at)))

abbrev sized_by : List ℕ → ℕ → ℕ → Result (ℕ × File) Misuse
sized_by b at second =
    pick (none b second) (Ok (one_word_of b at))
    (pick (none b (after_of b second)) (two_words_of b at second)
    (Err (misuse TooMany (part_at b (after_of b second)))))

unfoldable pub sized_of : List ℕ → ℕ → Result (ℕ × File) Misuse
sized_of b at = pick (none b at) (Ok (printer, Input)) (sized_by b at (after_of b at))

-- `[WIDTH] BEFORE AFTER`: standard input is one text, not two.
unfoldable pub pair_of : List ℕ → ℕ → ℕ → ℕ → Result Plan Misuse
pair_of b w before after =
    pick (is_input b before && is_input b after) (Err (misuse BothInput (part_at b after)))
    (Ok (Check w (file_at b before) (file_at b after)))

unfoldable pub triple_of : List ℕ → ℕ → ℕ → ℕ → Result Plan Misuse
triple_of b first second third =
    pick (is_number (word_at b first)) (pair_of b (decimal 0 (word_at b first)) second third) (Err (misuse NotWidth (part_at b first)))

abbrev check_by : List ℕ → ℕ → ℕ → ℕ → Result Plan Misuse
check_by b first second third =
    pick (none b first) (Err (misuse TooFew nowhere))
    (pick (none b second) (Err (misuse TooFew nowhere))
    (pick (none b third) (pair_of b printer first second)
    (pick (none b (after_of b third)) (triple_of b first second third)
    (Err (misuse TooMany (part_at b (after_of b third)))))))

unfoldable pub check_of : List ℕ → ℕ → Result Plan Misuse
check_of b first = check_by b first (after_of b first) (after_of b (after_of b first))

-- ---- all of it

abbrev pub measuring_of : Result File Misuse → Result Plan Misuse
measuring_of (Ok f) = Ok (Measure f)
measuring_of (Err m) = Err m

abbrev pub listing_of : Result File Misuse → Result Plan Misuse
listing_of (Ok f) = Ok (Words f)
listing_of (Err m) = Err m

abbrev pub filling_of : Result (ℕ × File) Misuse → Result Plan Misuse
filling_of (Ok (n, f)) = Ok (Fill n f)
filling_of (Err m) = Err m

abbrev pub showing_of : Result (ℕ × File) Misuse → Result Plan Misuse
showing_of (Ok (n, f)) = Ok (Show n f)
showing_of (Err m) = Err m

abbrev pub commanded_of : List ℕ → Command → ℕ → Result Plan Misuse
commanded_of b command.Help at = Ok Help
commanded_of b command.Measure at = measuring_of (one_file_of b at)
commanded_of b command.Words at = listing_of (one_file_of b at)
commanded_of b command.Fill at = filling_of (sized_of b at)
commanded_of b command.Show at = showing_of (sized_of b at)
commanded_of b command.Check at = check_of b at

abbrev pub begun_of : List ℕ → Result Command Wrong → Result Plan Misuse
begun_of b (Ok k) = commanded_of b k (after_of b 0)
begun_of b (Err x) = Err (misuse x (part_at b 0))

unfoldable pub plan_of : List ℕ → Result Plan Misuse
plan_of b =
    pick (runs_over argument_most 0 b) (Err (misuse TooLong nowhere))
    (pick (eqb (length b) 0) (Err (misuse NoCommand nowhere))
    (begun_of b (command_of (word_at b 0))))
