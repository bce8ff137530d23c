-- What a record of the stored file asks, and how the answer compares with the stored one. The form of a record is that of `rust/vectors`, which writes the file.
use Rattle.std.specs.Prelude.{ℕ, ◌+◌, ◌*◌, Bool, false, ◌&&◌, List, [], ◌∷◌, map, ltb, eqb, length, get_or}
use Rattle.std.specs.Prelude.{Option, Some, None, Result, Ok, Err}
use Rattle.std.specs.Str.{bytes_eq}
use Rattle.units.specs.declared.Columns.{Columns}
use Rattle.units.specs.Limits.{text_most}
use Rattle.logic.specs.Choice.{pick}
use Rattle.wire.specs.Wire.{numbers16}
use Rattle.limits.specs.declared.TextRefusal.{TextRefusal}
use Rattle.measure.specs.Measure.{measure_of}
use Rattle.words.specs.declared.Word.{Word}
use Rattle.words.specs.Words.{words}
use Rattle.words.specs.Lists.{start_of, end_of, white_of, width_of_word, listed_of}
use Rattle.pieces.specs.Pieces.{break_apart, break_words}
use Rattle.pieces.specs.Lists.{broken_of}
use Rattle.fragments.specs.declared.ListRefusal.{ListRefusal}
use Rattle.fragments.specs.Fragments.{fragments}
use Rattle.first_fit.specs.FirstFit.{line_ends}
use Rattle.first_fit.specs.Entry.{first_fit_of}
use Rattle.cheapest.specs.Table.{at}
use Rattle.least_cost.specs.declared.Penalties.{Penalties}
use Rattle.least_cost.specs.Layout as least
use Rattle.fill.specs.Fill.{fill_of, leaves}
use Rattle.replay.specs.declared.Head.{Head}
use Rattle.replay.specs.declared.CutShort.{CutShort}
use Rattle.replay.specs.declared.Listing.{Listing}
use Rattle.replay.specs.declared.Listing.TheVariants as listing
use Rattle.replay.specs.declared.Layout.{Layout}
use Rattle.replay.specs.declared.Layout.TheVariants as layout
use Rattle.replay.specs.declared.Kind.{Kind}
use Rattle.replay.specs.declared.Kind.TheVariants as kind
use Rattle.replay.specs.declared.UnknownKind.{UnknownKind}
use Rattle.replay.specs.declared.Verdict.{Verdict}
use Rattle.replay.specs.declared.Verdict.TheVariants.{Agreed, Tied, Differs, Turn, Unknown}
use Rattle.replay.specs.Parts.{part, holds, four, long_at}

-- ---- a record

-- Its head: the byte of its kind, a line width, the bytes that it asks and those that it stores, two bytes each, high first.
abbrev pub head_bytes : ℕ
head_bytes = 6

-- What the bytes at the start of a record are, by the first six of them or all that came.
unfoldable pub head_of : List ℕ → Result (Option Head) CutShort
head_of h =
    pick (eqb (length h) 0) (Ok None)
    (pick (ltb (length h) head_bytes) (Err (record {}))
    (Ok (Some (record { kind = get_or h 0 0; width = get_or h 1 0; asked = get_or h 2 0 * 256 + get_or h 3 0; stored = get_or h 4 0 * 256 + get_or h 5 0 }))))

-- The file ends inside a record, of whose bytes after the head so many came.
abbrev pub cut : ℕ → ℕ → ℕ → Bool
cut asked stored came = ltb came (asked + stored)

-- What the byte of a kind asks: M, W, A, B, F, L, I or !.
unfoldable pub kind_of : ℕ → Result Kind UnknownKind
kind_of b =
    pick (eqb b 0x4D) (Ok kind.Measure)
    (pick (eqb b 0x57) (Ok (kind.List listing.Words))
    (pick (eqb b 0x41) (Ok (kind.List listing.Apart))
    (pick (eqb b 0x42) (Ok (kind.List listing.Broken))
    (pick (eqb b 0x46) (Ok (kind.Lay layout.FirstFit))
    (pick (eqb b 0x4C) (Ok (kind.Lay layout.LeastCost))
    (pick (eqb b 0x49) (Ok kind.Fill)
    (pick (eqb b 0x21) (Ok kind.Turn) (Err (record { 0 = b })))))))))

-- ---- texts: the crate refuses none that it is given, so a refusal never agrees

-- Measure stores the columns.
abbrev pub measured_agrees : Result Columns TextRefusal → List ℕ → Bool
measured_agrees (Ok cols) s = holds (cols.0 ∷ []) s
measured_agrees (Err why) s = false

unfoldable pub measure_agrees : List ℕ → List ℕ → Bool
measure_agrees text s = measured_agrees (measure_of text) s

-- The three entries that list words or pieces: what each lists,
abbrev pub listed : Listing → ℕ → List ℕ → List Word
listed listing.Words w text = words text
listed listing.Apart w text = break_apart text w
listed listing.Broken w text = break_words text w

-- and what it answers, of whose lists `room` places are lent.
abbrev pub found : Listing → ℕ → List ℕ → ℕ → Result ℕ TextRefusal
found listing.Words w text room = listed_of text room
found listing.Apart w text room = broken_of text w room (break_apart text w)
found listing.Broken w text room = broken_of text w room (break_words text w)

-- Words and pieces are stored as four lists, one after the other: starts, content ends, whitespace lengths, widths.
abbrev pub words_are : List Word → List ℕ → Bool
words_are ws s = four (length ws) (map start_of ws) (map end_of ws) (map white_of ws) (map width_of_word ws) s

abbrev pub listed_agrees : Result ℕ TextRefusal → List Word → List ℕ → Bool
listed_agrees (Ok n) ws s = words_are ws s
listed_agrees (Err why) ws s = false

unfoldable pub lists_agree : Listing → ℕ → List ℕ → ℕ → List ℕ → Bool
lists_agree l w text room s = listed_agrees (found l w text room) (listed l w text) s

-- The fill stores how many bytes are changed, and the text after it.
unfoldable pub filled_agrees : ℕ → List ℕ → List ℕ → Bool
filled_agrees n after s = pick (ltb (length s) 2) false (holds (n ∷ []) (part 0 2 s) && bytes_eq after (part 2 (length s) s))

abbrev pub changed_agrees : Result ℕ TextRefusal → List ℕ → List ℕ → Bool
changed_agrees (Ok n) after s = filled_agrees n after s
changed_agrees (Err why) after s = false

unfoldable pub fill_agrees : ℕ → List ℕ → List ℕ → Bool
fill_agrees w text s = changed_agrees (fill_of w text) (leaves (fill_of w text) w text) s

-- ---- layouts: what is asked is a row of 16-bit numbers

-- The count of fragments, so many words, whitespaces and penalty widths, and the line widths.
unfoldable pub parts_of : List ℕ → Option ℕ
parts_of ns = pick (ltb (length ns) (1 + 3 * get_or ns 0 0)) None (Some (get_or ns 0 0))

module _ (n : ℕ) (ns : List ℕ) where
  abbrev pub words_in : List ℕ
  words_in = part 1 (1 + n) ns

  abbrev pub whites_in : List ℕ
  whites_in = part (1 + n) (1 + 2 * n) ns

  abbrev pub penalties_in : List ℕ
  penalties_in = part (1 + 2 * n) (1 + 3 * n) ns

  abbrev pub widths_in : List ℕ
  widths_in = part (1 + 3 * n) (length ns) ns

-- First fit stores the ends of the lines; `room` places are lent for them.
abbrev pub laid_agrees : Result ℕ ListRefusal → List ℕ → List ℕ → Bool
laid_agrees (Ok k) es s = holds es s
laid_agrees (Err why) es s = false

unfoldable pub first_of_parts : ℕ → List ℕ → ℕ → List ℕ → Bool
first_of_parts n ns room s =
    laid_agrees
    (first_fit_of (words_in n ns) (whites_in n ns) (penalties_in n ns) (widths_in n ns) room)
    (line_ends (widths_in n ns) (fragments (words_in n ns) (whites_in n ns) (penalties_in n ns)))
    s

abbrev pub first_by : Option ℕ → List ℕ → ℕ → List ℕ → Bool
first_by None ns room s = false
first_by (Some n) ns room s = first_of_parts n ns room s

unfoldable pub first_agrees : List ℕ → ℕ → List ℕ → Bool
first_agrees ns room s = first_by (parts_of ns) ns room s

-- Least cost stores the cost of the crate's lines, by document 01's price, in four bytes, and their ends: "The crate's layout may differ on ties", so other lines at the same cost are a tie.
unfoldable pub weighed : ℕ → List ℕ → List ℕ → Verdict
weighed cost es s =
    pick (ltb (length s) 4) Differs
    (pick (eqb (long_at (numbers16 s) 0) cost)
    (pick (holds es (part 4 (length s) s)) Agreed Tied)
    Differs)

abbrev pub laid_verdict : Result ℕ ListRefusal → ℕ → List ℕ → List ℕ → Verdict
laid_verdict (Ok k) cost es s = weighed cost es s
laid_verdict (Err why) cost es s = Differs

unfoldable pub least_of_parts : ℕ → List ℕ → Penalties → ℕ → ℕ → ℕ → List ℕ → Verdict
least_of_parts n ns P ends costs starts s =
    laid_verdict
    (least.laid_of (words_in n ns) (whites_in n ns) (penalties_in n ns) (widths_in n ns) P ends costs starts)
    (at (least.costs_of (words_in n ns) (whites_in n ns) (penalties_in n ns) (widths_in n ns) P) n)
    (least.ends_of_lines (words_in n ns) (whites_in n ns) (penalties_in n ns) (widths_in n ns) P)
    s

abbrev pub least_by : Option ℕ → List ℕ → Penalties → ℕ → ℕ → ℕ → List ℕ → Verdict
least_by None ns P ends costs starts s = Differs
least_by (Some n) ns P ends costs starts s = least_of_parts n ns P ends costs starts s

unfoldable pub least_verdict : List ℕ → Penalties → ℕ → ℕ → ℕ → List ℕ → Verdict
least_verdict ns P ends costs starts s = least_by (parts_of ns) ns P ends costs starts s

-- The five penalties stand before the layout, as two numbers each.
unfoldable pub penalties_of : List ℕ → Penalties
penalties_of ns = record { line = long_at ns 0; overflow = long_at ns 2; fraction = long_at ns 4; short = long_at ns 6; hyphen = long_at ns 8 }

unfoldable pub least_asked : List ℕ → ℕ → ℕ → ℕ → List ℕ → Verdict
least_asked ns ends costs starts s = pick (ltb (length ns) 10) Differs (least_verdict (part 10 (length ns) ns) (penalties_of ns) ends costs starts s)

-- What a comparison comes to that knows no ties.
abbrev pub agreed : Bool → Verdict
agreed a = pick a Agreed Differs

-- The two layouts, by the numbers that are asked and the places that are lent for ends, costs and starts,
unfoldable pub numbers_verdict : Layout → List ℕ → ℕ → ℕ → ℕ → List ℕ → Verdict
numbers_verdict layout.FirstFit ns ends costs starts s = agreed (first_agrees ns ends s)
numbers_verdict layout.LeastCost ns ends costs starts s = least_asked ns ends costs starts s

-- by the bytes, with so many places for the numbers,
unfoldable pub asked_verdict : Layout → List ℕ → ℕ → ℕ → ℕ → ℕ → List ℕ → Verdict
asked_verdict k asked room ends costs starts s = pick (ltb room (length (numbers16 asked))) Differs (numbers_verdict k (numbers16 asked) ends costs starts s)

-- and with as many as a record can ask and the most fragments want.
unfoldable pub layout_verdict : Layout → List ℕ → List ℕ → Verdict
layout_verdict k asked s = asked_verdict k asked 32767 4096 4097 4097 s

-- ---- the comparison

-- How the answer to what a record asks compares with the stored one;
unfoldable pub verdict_of : Result Kind UnknownKind → ℕ → List ℕ → List ℕ → Verdict
verdict_of (Ok kind.Measure) w asked s = agreed (measure_agrees asked s)
verdict_of (Ok (kind.List l)) w asked s = agreed (lists_agree l w asked text_most s)
verdict_of (Ok (kind.Lay l)) w asked s = layout_verdict l asked s
verdict_of (Ok kind.Fill) w asked s = agreed (fill_agrees w asked s)
verdict_of (Ok kind.Turn) w asked s = Turn
verdict_of (Err b) w asked s = Unknown

-- and what it leaves of what is asked: a text that is filled, or all as it was.
unfoldable pub asked_after : Result Kind UnknownKind → ℕ → List ℕ → List ℕ
asked_after (Ok kind.Measure) w asked = asked
asked_after (Ok (kind.List l)) w asked = asked
asked_after (Ok (kind.Lay l)) w asked = asked
asked_after (Ok kind.Fill) w asked = leaves (fill_of w asked) w asked
asked_after (Ok kind.Turn) w asked = asked
asked_after (Err b) w asked = asked
