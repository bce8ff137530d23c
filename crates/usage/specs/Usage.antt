-- "Wrong arguments get what was wrong and the usage": what `slip` says of its own use.
use Rattle.std.specs.Prelude.{ℕ, List, [], ◌∷◌, ◌++◌, get_or}
use Rattle.saying.specs.Ascii.{ascii}
use Rattle.asked.specs.declared.Wrong.{Wrong}
use Rattle.asked.specs.declared.Wrong.TheVariants.{NoCommand, NoSuchCommand, NotWidth, TooFew, TooMany, BothInput, TooLong}

-- What is wrong; the word that is wrong comes after it.
abbrev pub wrong_words : Wrong → List ℕ
wrong_words NoCommand = ascii "slip: no command is given"
wrong_words NoSuchCommand = ascii "slip: no such command: "
wrong_words NotWidth = ascii "slip: not a width: "
wrong_words TooFew = ascii "slip: check takes two texts, BEFORE and AFTER"
wrong_words TooMany = ascii "slip: too many arguments, from here on: "
wrong_words BothInput = ascii "slip: standard input is not both texts: "
wrong_words TooLong = ascii "slip: an argument is longer than 4095 bytes"

-- No such words are more bytes.
abbrev pub wrong_most : ℕ
wrong_most = 63

unfoldable pub misuse_line : Wrong → List ℕ → List ℕ
misuse_line x word = wrong_words x ++ (word ++ (0x0A ∷ []))

-- How `slip` is used.
abbrev pub usage_lines : List (List ℕ)
usage_lines =
    ascii "slip measure [FILE]              the columns of a text\n"
    ∷ ascii "slip words [FILE]                its words: start, end, spaces, columns, bytes\n"
    ∷ ascii "slip fill [WIDTH] [FILE]         the text, filled\n"
    ∷ ascii "slip show [WIDTH] [FILE]         the slip as printed, and what the printer drops\n"
    ∷ ascii "slip check [WIDTH] BEFORE AFTER  whether AFTER is BEFORE, well filled\n"
    ∷ ascii "slip help                        these lines\n"
    ∷ ascii "\n"
    ∷ ascii "No FILE, or -, is standard input. No WIDTH is 42 columns.\n"
    ∷ ascii "One word of digits alone is a WIDTH; a file of that name is ./42.\n"
    ∷ ascii "The exit status is 0 where it is done or accepted, 1 where it is refused,\n"
    ∷ ascii "2 where the arguments are wrong, or a file is not read or not written.\n"
    ∷ []

unfoldable pub usage_line : ℕ → List ℕ
usage_line k = get_or usage_lines k []

-- No line is longer.
abbrev pub usage_most : ℕ
usage_most = 96
