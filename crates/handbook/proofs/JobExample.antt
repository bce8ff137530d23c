-- THE WHOLE EXAMPLE of document 01's job program: `57 4A 03 00 05 61 20 62 20 63` gives `57 52 00 00 01 00 05 61 20 62 0A 63`. The definitions compute, so the proof is to compute them.
use mathlib.Core.Path.{◌≡◌, refl}
use mathlib.Core.List.{[], ◌∷◌}
use Rattle.logic.specs.Count.{count}
use Rattle.logic.specs.Items.{items, items_for}
use Rattle.chars.specs.Utf8.{utf8_1, head4, decode_from, bytes, first_fault}
use Rattle.chars.specs.Utf8 as utf8
use Rattle.measure.specs.Escapes.{columns, next, in_text, taken, width_from, width_of}
use Rattle.words.specs.Words.{content_end, white, after_word, word_at, words}
use Rattle.first_fit.specs.FirstFit.{flags}
use Rattle.lines.specs.Lines.{line_end, body_end, next_line, input_lines}
use Rattle.lines.specs.Breaks.{places, breaks_of, breaks, breaks_all, text_breaks, broken, filled}
use Rattle.fill.specs.Fill.{fill_of}
use Rattle.limits.specs.Limits.{answer_of}
use Rattle.record.specs.Record.{head_of, answer_to, text_after, reply_of}
use Rattle.record.specs.Stream.{replies_after, replies}

pub whole :
    replies (0x57 ∷ 0x4A ∷ 0x03 ∷ 0x00 ∷ 0x05 ∷ 0x61 ∷ 0x20 ∷ 0x62 ∷ 0x20 ∷ 0x63 ∷ [])
    ≡ 0x57 ∷ 0x52 ∷ 0x00 ∷ 0x00 ∷ 0x01 ∷ 0x00 ∷ 0x05 ∷ 0x61 ∷ 0x20 ∷ 0x62 ∷ 0x0A ∷ 0x63 ∷ []
unfolding count items items_for utf8_1 head4 utf8.head_of decode_from bytes first_fault columns next in_text taken width_from width_of content_end white after_word word_at words flags line_end body_end next_line input_lines places breaks_of breaks breaks_all text_breaks broken filled fill_of answer_of head_of answer_to text_after reply_of replies_after
whole = refl
