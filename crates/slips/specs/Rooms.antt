-- The bytes of the buffers that are lent.
use Rattle.std.specs.Prelude.{ℕ}

-- A text: one byte more than the longest. A text that fills the buffer is too long, however long it is.
abbrev pub text_room : ℕ
text_room = 60001

-- A line: no line that is written has more bytes.
abbrev pub line_room : ℕ
line_room = 180267

-- The longest argument, and one byte more.
abbrev pub argument_room : ℕ
argument_room = 4096

-- Six arguments, each with a 0 after it.
abbrev pub block_room : ℕ
block_room = 24582
