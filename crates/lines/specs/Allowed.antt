-- Document 01, "Fill and check": "An allowed break is such a last space, with another word after it in the input line."
use Rattle.std.specs.Prelude.{◌≡◌, ℕ, suc, ◌+◌, ◌<◌, List, get_or}
use Rattle.logic.specs.Member.{◌∈◌}
use Rattle.words.specs.declared.Word.{Word}
use Rattle.words.specs.Words.{words}
use Rattle.words.specs.Lists.{start_of}
use Rattle.lines.specs.Lines.{InputLine, input_lines, body_of}

-- Byte p of a text is a space and stands directly before a word of an input line that is not the line's first: so it is the last space of the word before.
pub record AllowedBreak (s : List ℕ) (p : ℕ) : Type 0 where
  pub line : InputLine
  pub in_text : line ∈ input_lines s
  pub word : Word
  pub in_line : word ∈ words (body_of s line)
  pub further : 0 < start_of word
  pub before : suc p ≡ line.start + start_of word
  pub space : get_or s p 0 ≡ 0x20
