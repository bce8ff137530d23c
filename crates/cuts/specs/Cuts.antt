-- The cut of a line: "The printer drops whatever passes its last column and says nothing." Words as document 01 has them, so that a line of two or more words is too wide here exactly where the check says so.
use Rattle.std.specs.Prelude.{ℕ, ◌+◌, ◌-◌, List, [], ◌∷◌, map, ltb, length, Option, Some, None}
use Rattle.units.specs.declared.Offset.{Offset}
use Rattle.logic.specs.Choice.{pick}
use Rattle.chars.specs.Utf8.{decode}
use Rattle.measure.specs.declared.Mode.TheVariants.{Text}
use Rattle.measure.specs.Escapes.{width_from}
use Rattle.words.specs.declared.Word.{Word}
use Rattle.words.specs.Words.{words}
use Rattle.words.specs.Lists.{start_of, end_of, width_of_word}
use Rattle.first_fit.specs.Groupings.{line_width}
use Rattle.lines.specs.Breaks.{fragment_of, columns_of}
use Rattle.pieces.specs.Pieces.{piece, rest, piece_end}
use Rattle.cuts.specs.declared.Kept.{Kept}
use Rattle.cuts.specs.declared.Cut.{Cut}

-- The columns of a line by its words: each word's, and the whitespace between two. Spaces at the end do not count, and the line as a whole is not measured. It is what the check counts.
abbrev pub line_columns : List Word → ℕ
line_columns ws = line_width (map fragment_of ws)

-- What of a word's content still fits into so many columns, which is its first piece: where it ends, and its columns.
abbrev pub fit_end : ℕ → List ℕ → Word → ℕ
fit_end left s x = piece_end s left (end_of x) (start_of x)

abbrev pub fit_columns : ℕ → List ℕ → Word → ℕ
fit_columns left s x = width_from Text (piece left (decode (rest s (end_of x) (start_of x))))

-- The kept part with one more word, the line having c columns before that.
abbrev pub kept_to : ℕ → Word → Kept
kept_to c x = record { end = x.end; columns = record { 0 = c + width_of_word x } }

-- Where the dropped part of a line starts: at the line's end where nothing is dropped.
abbrev pub dropped_at : List ℕ → Option Offset → ℕ
dropped_at s None = length s
dropped_at s (Some place) = place.0

-- The cut at a word that passes the last column. A piece takes one character at least, so it may be wider than what is left: then the cut stands before the word.
unfoldable pub cut_in : ℕ → List ℕ → ℕ → Kept → Word → Cut
cut_in width s c k x =
    pick (ltb width (c + fit_columns (width - c) s x))
    (record { kept = k; dropped = Some x.start })
    (record {
      kept = record { end = record { 0 = fit_end (width - c) s x }; columns = record { 0 = c + fit_columns (width - c) s x } };
      dropped = Some (record { 0 = fit_end (width - c) s x });
    })

-- The line s from some word on, with c columns before it, of which k is kept: cut at the first word that passes the last column.
unfoldable pub cut_from : ℕ → List ℕ → ℕ → Kept → List Word → Cut
cut_from width s c k [] = record { kept = k; dropped = None }
cut_from width s c k (x ∷ xs) = pick (ltb width (c + width_of_word x)) (cut_in width s c k x) (cut_from width s (c + columns_of x) (kept_to c x) xs)

abbrev pub nothing : Kept
nothing = record { end = record { 0 = 0 }; columns = record { 0 = 0 } }

-- The whole line.
unfoldable pub cut_of : ℕ → List ℕ → Cut
cut_of width s = cut_from width s 0 nothing (words s)
