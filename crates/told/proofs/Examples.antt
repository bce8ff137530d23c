-- Lines of answers, computed from the definitions.
use mathlib.Core.Path.{◌≡◌, refl}
use Rattle.saying.specs.Saying.{decimal_for, decimal_of}
use Rattle.saying.specs.Ascii.{ascii}
use Rattle.told.specs.Told.{measured_line, words_line, word_numbers}

-- "`Café Plain` 10"
columns : measured_line 10 ≡ ascii "columns: 10\n"
unfolding decimal_of decimal_for
columns = refl

-- The first word of `foo  bar`, and how many it has.
word : word_numbers (record { start = record { 0 = 0 }; end = record { 0 = 3 }; white = record { 0 = 2 }; width = record { 0 = 3 } }) ≡ ascii "0 3 2 3 "
unfolding decimal_of decimal_for
word = refl

count : words_line 2 ≡ ascii "words: 2\n"
unfolding decimal_of decimal_for
count = refl
