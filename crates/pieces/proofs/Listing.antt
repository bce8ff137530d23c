-- The loops of `count_pieces` and `write_pieces`, and what `list_pieces` answers: one law for each way through them.
use mathlib.Core.Path.{◌≡◌, ap, ◌∙◌}
use mathlib.Core.List.{List, [], ◌∷◌}
use Prim.Native.Nat.{ℕ, ◌+◌, ◌-◌, ◌*◌, ◌^◌, ◌≤◌, ◌<◌}
use native.Mathlib.Omega.{arith}
use mir.Syntax.{w64}
use mir.Val.{Fits}
use lib.Dec.{eqb}
use lib.ListN.{length, take, drop, length-drop, length-take, length-append}
use borrow.Author.Tests.{lt-ltb, le-ltb}
use Rattle.units.specs.Limits.{text_most}
use Rattle.logic.proofs.Choice.{both}
use Rattle.chars.specs.Utf8.{Chr, decode, Whole}
use Rattle.chars.proofs.Laws.{chars_most}
use Rattle.measure.specs.declared.Mode.TheVariants.{Text}
use Rattle.measure.specs.Measure.{until}
use Rattle.measure.specs.Walk.{ahead}
use Rattle.measure.proofs.Laws.{width_most_lem}
use Rattle.words.specs.declared.Word.{Word}
use Rattle.words.specs.declared.WordLists.{WordLists}
use Rattle.words.specs.Lists.{start_of, end_of, white_of, width_of_word, Small, PutAt, Same, room}
use Rattle.words.proofs.Storing.{Writing, After, writing_start, writing_put, writing_step, Written, writing_end}
use Rattle.wire.specs.Cells.{CellLaws}
use Rattle.pieces.specs.Pieces.{piece, trimmed}
use Rattle.limits.specs.Limits.{listed_in}
use Rattle.pieces.specs.Lists.{pieces_by}
use Rattle.pieces.specs.Steps.{Way, one_word, all_words, step_piece, after_step, step_pieces}
use Rattle.pieces.proofs.Fitting.{leaving, fitting_leaving}
use Rattle.pieces.proofs.Stepping.{Place, goes, place_start, way_inside, step_next, step_none, after_is, start_is}
use Rattle.pieces.proofs.Same.{same_by}
use Rattle.std.specs.Prelude.{Err, Ok}
use Rattle.limits.specs.declared.TextRefusal.TheVariants.{NoRoom}

-- ---- the loop of `count_pieces`

pub record Counted (stop last w : ℕ) (s : List ℕ) (n at : ℕ) : Type 0 where
  pub place : Place last s at
  pub inside : at ≤ length s
  pub few : n ≤ at
  pub same : n + length (step_pieces stop last w s at) ≡ length (pieces_by stop s w)

pub counted_start : (stop last w : ℕ) (s : List ℕ) → Way stop last s → Whole s → Counted stop last w s 0 0
counted_start stop last w s v h = record { place = place_start v h; inside = omega arith; few = omega arith; same = omega (arith, ap length (same_by v w h)) }

module _ {stop last : ℕ} {s : List ℕ} (w : ℕ) (v : Way stop last s) where
  pub counted_step : {n i : ℕ} {r : Word} → Counted stop last w s n i → i < last → r ≡ step_piece stop last w s i → Counted stop last w s (n + 1) (r.end.0 + r.white.0)
  counted_step {n} {i} {r} k l p =
      let g = goes v w i k.place l in
      rw (after_is stop last w s i p) (record {
        place = g.place;
        inside = g.inside;
        few = omega (arith, g.later, k.few);
        same = omega (arith, k.same, ap length (step_next v w i k.place l));
      })

  pub counted_less : {n i : ℕ} {r : Word} → Counted stop last w s n i → i < last → r ≡ step_piece stop last w s i → last - (r.end.0 + r.white.0) < last - i
  counted_less {n} {i} {r} k l p = let g = goes v w i k.place l in omega (arith, g.later, after_is stop last w s i p)

  -- The place after a piece is in the text, so the sums fit.
  pub counted_fits : {n i : ℕ} {r : Word} → length s * 1 < 2 ^ 63 → Counted stop last w s n i → i < last → r ≡ step_piece stop last w s i → Fits w64 (r.end.0 + r.white.0)
  counted_fits {n} {i} {r} h k l p = let g = goes v w i k.place l in omega (arith, g.inside, after_is stop last w s i p)

pub counted_end : {stop last w : ℕ} {s : List ℕ} {n i : ℕ} → Counted stop last w s n i → last ≤ i → n ≡ length (pieces_by stop s w)
counted_end {stop} {last} {w} {s} {n} {i} k l = omega (arith, k.same, ap length (step_none stop last w s i l))

pub ruleset counting = (counted_start, counted_step, counted_less, counted_fits, counted_end, way_inside)

-- ---- the loop of `write_pieces`

-- At the start of a piece, before which there are k.
pub record Putting {A : Type 0} (stored : List ℕ → List A) (size stop last w : ℕ) (s : List ℕ) (at k : ℕ) (l l₀ : WordLists A) : Type 0 where
  pub way : Way stop last s
  pub here : Place last s at
  pub inside : at ≤ length s
  pub few : k ≤ at
  pub writes : Writing stored size (pieces_by stop s w) (step_pieces stop last w s at) k l l₀

-- A piece has at most two columns a byte.
until_most : (stop : ℕ) (xs : List Chr) → length (until stop xs) ≤ length xs
unfolding until
until_most stop [] = omega arith
until_most stop (x ∷ xs) = let h = until_most stop xs in both (eqb x.code stop) (λ t. rw t (omega arith)) (λ t. rw t (omega arith))

piece_most : (w : ℕ) (xs : List Chr) → length (piece w xs) ≤ length xs
piece_most w xs = omega (arith, ap length (fitting_leaving w 0 Text xs), length-append (piece w xs) (leaving w 0 Text xs))

step_width : (stop last w : ℕ) (s : List ℕ) (i : ℕ) → (step_piece stop last w s i).width.0 ≤ 2 * length s
unfolding step_piece
step_width stop last w s i =
    omega (
      arith,
      width_most_lem Text (piece w (ahead stop (take last s) i)),
      piece_most w (ahead stop (take last s) i),
      until_most stop (decode (drop i (take last s))),
      chars_most (drop i (take last s)),
      length-drop i (take last s),
      length-take last s,
    )

module _ {A : Type 0} {numbers : List A → List ℕ} {places : List A → ℕ} {place : ℕ → ℕ} {stored : List ℕ → List A} {size : ℕ} (laws : CellLaws numbers places place stored size) where
  pub putting_start : {stop last : ℕ} {s : List ℕ} (w : ℕ) (l : WordLists A) → Way stop last s → Whole s → length (pieces_by stop s w) ≤ room places l → Putting stored size stop last w s 0 0 l l
  putting_start {stop} {last} {s} w l v h r = record { way = v; here = place_start v h; inside = omega arith; few = omega arith; writes = rw (same_by v w h) (writing_start laws (pieces_by stop s w) l r) }

  next_writes : {stop last w : ℕ} {s : List ℕ} {at k : ℕ} {l l₀ : WordLists A} → Putting stored size stop last w s at k l l₀ → at < last
      → Writing stored size (pieces_by stop s w) (step_piece stop last w s at ∷ step_pieces stop last w s (after_step stop last w s at)) k l l₀
  next_writes {w = w} {at = at} p h = rw (step_next p.way w at p.here h) at p.writes

  pub putting_put : {stop last w : ℕ} {s : List ℕ} {at k : ℕ} {l l₀ : WordLists A} → Putting stored size stop last w s at k l l₀ → at < last → PutAt size (size * k) l
  putting_put p h = writing_put laws (next_writes p h)

  pub putting_again : {stop last w : ℕ} {s : List ℕ} {at k : ℕ} {l l₀ l' : WordLists A} {r : Word} → Putting stored size stop last w s at k l l₀ → at < last → r ≡ step_piece stop last w s at
      → After stored (size * k) (start_of r) l.starts.now l'.starts.now → After stored (size * k) (end_of r) l.ends.now l'.ends.now
      → After stored (size * k) (white_of r) l.whites.now l'.whites.now → After stored (size * k) (width_of_word r) l.widths.now l'.widths.now
      → Same l l' → Putting stored size stop last w s (r.end.0 + r.white.0) (k + 1) l' l₀
  putting_again {stop} {last} {w} {s} {at} p h e ea eb ec ed m =
      let g = goes p.way w at p.here h in
      rw (after_is stop last w s at e) (record {
        way = p.way;
        here = g.place;
        inside = g.inside;
        few = omega (arith, g.later, p.few);
        writes = writing_step laws (next_writes p h) (ea ∙ rw e) (eb ∙ rw e) (ec ∙ rw e) (ed ∙ rw e) m;
      })

  pub putting_end : {stop last w : ℕ} {s : List ℕ} {at k : ℕ} {l l₀ : WordLists A} → Putting stored size stop last w s at k l l₀ → last ≤ at → Written stored (pieces_by stop s w) l l₀
  putting_end {stop} {last} {w} {s} {at} p h = writing_end laws (rw (step_none stop last w s at h) at p.writes)

module _ {A : Type 0} {stored : List ℕ → List A} {size stop last w : ℕ} {s : List ℕ} {at k : ℕ} {lists lists₀ : WordLists A} (p : Putting stored size stop last w s at k lists lists₀) (l : at < last) where
  pub putting_less : {r : Word} → r ≡ step_piece stop last w s at → last - (r.end.0 + r.white.0) < last - at
  putting_less {r} e = let g = goes p.way w at p.here l in omega (arith, g.later, after_is stop last w s at e)

  pub putting_fits : {r : Word} → length s * 1 < 2 ^ 63 → r ≡ step_piece stop last w s at → Fits w64 (r.end.0 + r.white.0)
  putting_fits {r} h e = let g = goes p.way w at p.here l in omega (arith, g.inside, after_is stop last w s at e)

  pub putting_small : {r : Word} → length s ≤ text_most → r ≡ step_piece stop last w s at → Small r
  putting_small {r} h e =
      let g = goes p.way w at p.here l in
      let x = after_is stop last w s at e in
      let y : r.width.0 ≤ 2 * length s = rw e (step_width stop last w s at) in
      let z : r.start.0 ≡ at = start_is stop last w s at e in
      record { start = omega (arith, p.inside); end = omega (arith, g.inside); white = omega (arith, g.inside); width = omega arith }

pub ruleset putting = (putting_less, putting_fits, putting_small, way_inside)

-- ---- what `list_pieces` answers, of a text and a width that are admitted

pub broken_no_room : (room : ℕ) (ps : List Word) {n m : ℕ} → n ≡ length ps → m ≡ room → m < n → Err (NoRoom n) ≡ listed_in room (length ps)
broken_no_room room ps {n} {m} q z b = rw (← q, ← z, lt-ltb m n b)

pub broken_all : (room : ℕ) (ps : List Word) {n m : ℕ} → n ≡ length ps → m ≡ room → n ≤ m → Ok n ≡ listed_in room (length ps)
broken_all room ps {n} {m} q z b = rw (← q, ← z, le-ltb m n b)

pub broken_room : (room : ℕ) (ps : List Word) {n m : ℕ} → n ≡ length ps → m ≡ room → n ≤ m → length ps ≤ room
broken_room room ps q z b = omega arith

pub ruleset breaking = (broken_no_room, broken_all, broken_room)

-- ---- the two entries

pub way_word : {s : List ℕ} {last : ℕ} → last ≡ trimmed s → Way 0xFFFFFFFF last s
way_word {s} e = rw e (one_word s)

pub way_words : (s : List ℕ) → Way 0x20 (length s) s
way_words s = all_words s

pub ruleset ways = (way_word, way_words)
