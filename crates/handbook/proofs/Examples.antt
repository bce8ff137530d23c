-- THE TABLE OF EXAMPLES: the definitions give what document 01 says, row by row. They compute, so the proof is to compute them.
use mathlib.Core.Path.{◌≡◌, refl}
use mathlib.Core.List.{map}
use Rattle.logic.specs.Count.{count}
use Rattle.logic.specs.Items.{items, items_for}
use Rattle.chars.specs.Utf8.{utf8_1, utf8_2, utf8_3, utf8_4, point_2, point_3, point_4, head4, head_of, decode_from, bytes, first_fault}
use Rattle.measure.specs.Escapes.{columns, next, in_text, taken, width_from, width_of}
use Rattle.measure.specs.Measure.{measure_of, answer_of}
use Rattle.words.specs.Words.{content_end, white, after_word, word_at, words}
use Rattle.pieces.specs.Pieces.{starts, fitting, piece_end, piece_at, pieces, trimmed, word_from, break_apart}
use Rattle.first_fit.specs.FirstFit.{flags}
use Rattle.first_fit.specs.Groupings.{line_width, started}
use Rattle.lines.specs.Lines.{line_end, body_end, in_body, next_line, input_lines}
use Rattle.lines.specs.Breaks.{places, breaks_of, breaks, breaks_all, text_breaks}
use Rattle.fill.specs.Fill as fill
use Rattle.limits.specs.Limits as limits
use Rattle.judge.specs.Change.{change_at, first_bad_from, first_bad}
use Rattle.judge.specs.Judge as check
use Rattle.handbook.specs.Examples.{Row, table}

pub examples : map (λ (r : Row). r.given) table ≡ map (λ (r : Row). r.wanted) table
unfolding count items items_for utf8_1 utf8_2 utf8_3 utf8_4 point_2 point_3 point_4 head4 head_of decode_from bytes first_fault columns next in_text taken width_from width_of measure_of answer_of content_end white after_word word_at words starts fitting piece_end piece_at pieces trimmed word_from break_apart flags line_width started line_end body_end in_body next_line input_lines places breaks_of breaks breaks_all text_breaks fill.fill_of limits.answer_of change_at first_bad_from first_bad check.wide_from check.wide_of check.given_of check.needed_of check.first_in check.lines_of check.changes_of check.judge_of check.answer_of
examples = refl
