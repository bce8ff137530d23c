-- Lines of refusals, computed from the definitions.
use mathlib.Core.Path.{◌≡◌, refl}
use mathlib.Core.List.{[], ◌∷◌, ◌++◌}
use Rattle.units.specs.Answers.{refusal}
use Rattle.saying.specs.Saying.{decimal_for, decimal_of}
use Rattle.saying.specs.Ascii.{ascii}
use Rattle.parting.specs.Parting.{goes_on, parts_at}
use Rattle.refusals.specs.Places.{newlines, column_after}
use Rattle.refusals.specs.Sentences.{sentence}
use Rattle.refusals.specs.Lines.{place_part, parting_part, refusal_line}

-- The check's refusals of `a b c` at 3: unchanged it is too wide, broken twice it has a line too many.
too_wide : refusal_line (refusal 11 0) 3 (ascii "a b c") (ascii "a b c") ≡ ascii "refused 11 at byte 0 (line 1, column 1): a line of two or more words is wider than 3 columns\n"
unfolding refusal_line place_part sentence parting_part decimal_of decimal_for newlines column_after
too_wide = refl

too_many : refusal_line (refusal 12 0) 3 (ascii "a b c") (ascii "a\nb\nc") ≡ ascii "refused 12 at byte 0 (line 1, column 1): the words of this line of the text before need fewer lines\n"
unfolding refusal_line place_part sentence parting_part decimal_of decimal_for newlines column_after
too_many = refl

-- A second line that starts with a character of two bytes: the byte after it is at column 2.
second_line : refusal_line (refusal 2 6) 3 (ascii "abc\n" ++ (0xC3 ∷ 0xA9 ∷ 0xFF ∷ [])) [] ≡ ascii "refused 2 at byte 6 (line 2, column 2): this is not UTF-8: no character starts here\n"
unfolding refusal_line place_part sentence parting_part decimal_of decimal_for newlines column_after
second_line = refl

-- A slip whose last words are missing: broken at 7, it parts from the stored body where it ends.
words_missing : refusal_line (refusal 9 0) 7 (ascii "foo bar baz") (ascii "foo bar\n") ≡ ascii "refused 9: the texts differ in length: 11 bytes before, 8 after; they part at byte 8 (line 2, column 1)\n"
unfolding refusal_line place_part sentence parting_part parts_at goes_on decimal_of decimal_for newlines column_after
words_missing = refl
