-- A row: its parts, one after the other, and that there is room for each.
use mathlib.Core.Path.{◌≡◌, sym, ◌∙◌}
use mathlib.Core.Bool.{Bool}
use mathlib.Core.List.{List, [], ◌∷◌, ◌++◌}
use Prim.Native.Nat.{ℕ, ◌+◌, ◌-◌, ◌*◌, ◌≤◌}
use native.Mathlib.Numerals.{add-one}
use native.Mathlib.Omega.{arith}
use lib.ListN.{length, take, drop, replicate, length-append, length-drop, length-replicate}
use lib.Seq.{length-take-le}
use Rattle.std.proofs.Common.{Option, Some, None}
use Rattle.std.specs.Option.{is_some}
use Rattle.std.proofs.lemmas.List.{take_rest}
use mir.Syntax.{w64}
use mir.Val.{Fits}
use Rattle.units.specs.declared.Offset.{Offset}
use Rattle.units.specs.Limits.{text_most, width_most}
use Rattle.chars.specs.Utf8.{Whole}
use Rattle.lines.specs.Lines.{line_end, body_end, next_line, line_at, body_of}
use Rattle.lines.proofs.Laws.{next_is, line_inside, body_inside, slice_mid, body_length, body_whole}
use Rattle.saying.specs.declared.Line.{Line}
use Rattle.saying.specs.Saying.{Said}
use Rattle.saying.proofs.Laws.{said_none, said_then}
use Rattle.cuts.specs.declared.Kept.{Kept}
use Rattle.cuts.specs.declared.Cut.{Cut}
use Rattle.cuts.specs.Cuts.{dropped_at, cut_of}
use Rattle.cuts.proofs.Laws.{kept_fits, between}
use Rattle.shown.specs.Shown.{shown}
use Rattle.shown.specs.Slip.{kept_part, dropped_word, dropped_part, row_by, row_of, wide_of, row_most, Keeps, Sits}
use Rattle.shown.proofs.Showing.{shown_most}

-- ---- what is dropped

module _ (line : List ℕ) (dropped : Option Offset) {l : Line} where
  pub dropped_none : dropped ≡ None → l.len ≤ length l.room.now → Said l (dropped_part line dropped) l
  unfolding dropped_part
  dropped_none e h = rw e (said_none l h)

  pub dropped_said : {place : Offset} {m n : Line} → dropped ≡ Some place → Said l dropped_word m → Said m (shown (take (length line - place.0) (drop place.0 line))) n → Said l (dropped_part line dropped) n
  unfolding dropped_part
  dropped_said {place} e s t = rw e (said_then s (rw (take_rest line place.0) at t))

dropped_most : (line : List ℕ) (dropped : Option Offset) → length (dropped_part line dropped) ≤ 10 + 3 * (length line - dropped_at line dropped)
unfolding dropped_part
dropped_most line None = omega arith
dropped_most line (Some d) = omega (arith, length-append dropped_word (shown (drop d.0 line)), shown_most (drop d.0 line), length-drop d.0 line)

-- ---- what is kept

module _ {width : ℕ} {line : List ℕ} {k : Kept} (z : Keeps width line k) where
  kept_long : length (take k.end.0 line) ≡ k.end.0
  kept_long = length-take-le k.end.0 line z.inside

  module _ (l : Line) (h : l.len + row_most ≤ length l.room.now) where
    pub keeps_room : l.len + 3 * length (take k.end.0 line) ≤ length l.room.now
    keeps_room = omega (arith, kept_long, z.inside, z.short)

    module _ {m : Line} (sa : Said l (shown (take k.end.0 line)) m) where
      reach : m.len ≤ l.len + 3 * k.end.0
      reach = omega (arith, sa.count, shown_most (take k.end.0 line), kept_long)

      pub keeps_spaces : m.len + (width - k.columns.0) ≤ length m.room.now
      keeps_spaces = omega (arith, reach, sa.long, z.inside, z.short, z.narrow)

      module _ {n : Line} (sb : Said m (replicate (width - k.columns.0) 0x20) n) where
        pub keeps_edge : n.len + 1 ≤ length n.room.now
        keeps_edge = omega (arith, sb.count, length-replicate {A = ℕ} (width - k.columns.0) 0x20, sb.long, reach, sa.long, z.inside, z.short, z.narrow)

        pub keeps_said : {q : Line} → Said n (0x7C ∷ []) q → Said l (kept_part width line k) q
        unfolding kept_part
        keeps_said sc = said_then sa (said_then sb sc)

pub ruleset keeping = (keeps_room, keeps_spaces, keeps_edge, keeps_said)

kept_most : {width : ℕ} {line : List ℕ} {k : Kept} → Keeps width line k → length (kept_part width line k) ≤ 3 * k.end.0 + width_most + 1
unfolding kept_part
kept_most {width} {line} {k} z =
    let t : List ℕ = shown (take k.end.0 line) in
    let f : List ℕ = replicate (width - k.columns.0) 0x20 in
    omega (arith, length-append t (f ++ (0x7C ∷ [])), length-append f (0x7C ∷ []), shown_most (take k.end.0 line), length-take-le k.end.0 line z.inside, length-replicate {A = ℕ} (width - k.columns.0) 0x20, z.narrow)

-- ---- a row

module _ {width : ℕ} {line : List ℕ} {c : Cut} (z : Sits width line c) {l m : Line} (h : l.len + row_most ≤ length l.room.now) (sa : Said l (kept_part width line c.kept) m) where
  pub row_dropped : m.len + (10 + 3 * (length line - dropped_at line c.dropped)) ≤ length m.room.now
  row_dropped = omega (arith, sa.count, kept_most z.keeps, sa.long, z.order, z.inside, z.keeps.short)

  module _ {n : Line} (sb : Said m (dropped_part line c.dropped) n) where
    pub row_last : n.len + 1 ≤ length n.room.now
    row_last = omega (arith, sa.count, kept_most z.keeps, sa.long, sb.count, dropped_most line c.dropped, sb.long, z.order, z.inside, z.keeps.short)

    pub row_said : {q : Line} → Said n (0x0A ∷ []) q → Said l (row_by width line c) q
    unfolding row_by
    row_said sc = said_then sa (said_then sb sc)

pub ruleset rows = (row_dropped, row_last, row_said)

-- ---- a line, and the line at a place

-- Every cut sits.
pub cut_sits : {width : ℕ} {line : List ℕ} {c : Cut} → width ≤ width_most → length line ≤ text_most → c ≡ cut_of width line → Sits width line c
cut_sits {width} {line} {c} w l e =
    let b = between width line in
    rw e (record {
      keeps = record { inside = omega (arith, b.order, b.inside); fits = kept_fits width line; narrow = w; short = l };
      order = b.order;
      inside = b.inside;
    })

pub line_said : (width : ℕ) (line : List ℕ) {l m : Line} {c : Cut} → c ≡ cut_of width line → Said l (row_by width line c) m → Said l (row_of width line) m
line_said width line e s = rw e at s

pub line_wide : (width : ℕ) (line : List ℕ) {c : Cut} → c ≡ cut_of width line → is_some c.dropped ≡ wide_of width line
line_wide width line e = rw e

pub ruleset drawing = (cut_sits, line_said, line_wide)

module _ (s : List ℕ) (from : ℕ) (l : from ≤ length s) {e b : ℕ} (p : e ≡ line_end s from) (q : b ≡ body_end s from) where
  pub place_order : from ≤ b
  place_order = omega (arith, (body_inside s from l).0)

  pub place_inside : b ≤ length s
  place_inside = omega (arith, (body_inside s from l).1, (line_inside s from l).1)

  pub place_next : length s ≤ text_most → Fits w64 (e + 1)
  place_next h = record { fits = omega (arith, (line_inside s from l).1) }

  pub place_body : take (b - from) (drop from s) ≡ body_of s (line_at s from)
  place_body = rw q (sym (slice_mid from (body_end s from) s))

  pub place_short : length s ≤ text_most → length (take (b - from) (drop from s)) ≤ text_most
  place_short h = rw place_body (omega (arith, body_length s from l, place_inside))

  pub place_whole : Whole (drop from s) → Whole (take (b - from) (drop from s))
  place_whole w = rw place_body (body_whole s from w)

  pub place_said : (width : ℕ) {m n : Line} → Said m (row_of width (take (b - from) (drop from s))) n → Said m (row_of width (body_of s (line_at s from))) n
  place_said width t = rw place_body at t

  pub place_wide : (width : ℕ) {t : Bool} → t ≡ wide_of width (take (b - from) (drop from s)) → t ≡ wide_of width (body_of s (line_at s from))
  place_wide width t = rw place_body at t

  pub place_after : e + 1 ≡ next_line s from
  place_after = add-one e ∙ rw p (sym (next_is s from))

pub ruleset placing = (place_order, place_inside, place_next, place_short, place_whole, place_said, place_wide, place_after)
