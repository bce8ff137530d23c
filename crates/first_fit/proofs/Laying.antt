-- The loop of first fit: what is stored and what is still to come are the ends of all lines. It serves lists whose numbers are elements and lists of bytes.
use mathlib.Core.Path.{◌≡◌, refl, sym, ap, ◌∙◌}
use mathlib.Core.Bool.{Bool, true, false}
use mathlib.Core.List.{List, [], ◌∷◌}
use Prim.Native.Nat.{ℕ, suc, ◌+◌, ◌*◌, ◌≤◌, ◌<◌, max}
use native.Mathlib.Numerals.{add-one}
use native.Mathlib.Omega.{arith}
use lib.Dec.{ltb}
use lib.ListN.{length, get_or, drop, drop_of_length-le}
use lib.Seq.{sets}
use Rattle.logic.specs.Flat.{flat}
use Rattle.logic.proofs.Stored.{Stored, stored_start, stored_step, stored_end}
use Rattle.wire.specs.Cells.{CellLaws}
use Rattle.wire.proofs.Cells.{stored_flat, places_same}
use Rattle.fragments.specs.Fragments.{Fragment, fragments}
use Rattle.fragments.specs.Lists.{width_of}
use Rattle.fragments.proofs.Laws.{fragments_length, fragments_at}
use Rattle.first_fit.specs.FirstFit.{flags, ends_from, starts, step, begun, line_ends}

-- The ends from fragment i on, where line `line` has so many columns already.
unfoldable pub rest : List ℕ → List Fragment → (i line columns : ℕ) → List ℕ
rest widths fs i line columns = ends_from i (flags (starts widths) (step widths) (record { number = line; columns = columns }) (drop i fs))

rest_start : (widths ws ss ps : List ℕ) → 0 < length ws → rest widths (fragments ws ss ps) 1 0 (get_or ws 0 0 + get_or ss 0 0) ≡ line_ends widths (fragments ws ss ps)
unfolding rest line_ends fragments
rest_start widths [] ss ps p = absurd (omega arith)
rest_start widths (w ∷ ws) ss ps p = refl

module _ (widths : List ℕ) (fs : List Fragment) (i line columns : ℕ) (f : Fragment) (at : drop i fs ≡ f ∷ drop (suc i) fs) where
  rest_break : starts widths (record { number = line; columns = columns }) f ≡ true
      → rest widths fs i line columns ≡ i ∷ rest widths fs (i + 1) (line + 1) (f.word + f.white)
  unfolding rest ends_from flags
  rest_break t = rw (add-one i, add-one line, at, t)

  rest_join : starts widths (record { number = line; columns = columns }) f ≡ false
      → rest widths fs i line columns ≡ rest widths fs (i + 1) line (columns + (f.word + f.white))
  unfolding rest ends_from flags
  rest_join t = rw (add-one i, at, t)

rest_end : (widths : List ℕ) (fs : List Fragment) (i line columns : ℕ) → length fs ≤ i → rest widths fs i line columns ≡ i ∷ []
unfolding rest ends_from flags
rest_end widths fs i line columns h = rw (drop_of_length-le fs h)

-- There are at most as many lines as fragments, but one of none.
ends_from_few : (i : ℕ) (b : List Bool) → length (ends_from i b) ≤ suc (length b)
unfolding ends_from
ends_from_few i [] = omega arith
ends_from_few i (true ∷ b) = omega (arith, ends_from_few (suc i) b)
ends_from_few i (false ∷ b) = omega (arith, ends_from_few (suc i) b)

pub flags_length : {L F : Type 0} (starts : L → F → Bool) (step : L → F → L) (l : L) (r : List F) → length (flags starts step l r) ≡ length r
unfolding flags
flags_length starts step l [] = refl
flags_length starts step l (f ∷ r) = ap suc (flags_length starts step (step l f) r)

pub ends_few : (widths : List ℕ) (fs : List Fragment) → length (line_ends widths fs) ≤ max 1 (length fs)
unfolding line_ends
ends_few widths [] = omega arith
ends_few widths (f ∷ r) = omega (arith, ends_from_few 1 (flags (starts widths) (step widths) (begun f) r), flags_length (starts widths) (step widths) (begun f) r)

pub ends_none : (widths ws ss ps : List ℕ) → length ws ≡ 0 → line_ends widths (fragments ws ss ps) ≡ 0 ∷ []
unfolding line_ends fragments
ends_none widths [] ss ps e = refl
ends_none widths (w ∷ ws) ss ps e = absurd (omega arith)

-- Fragment i is next, line `line` has so many columns already and so much width, and its end goes to `place` of `out`, which has come of `out₀`.
pub record Laying {A : Type 0} (one : ℕ → List A) (widths ws ss ps : List ℕ) (place i line columns width : ℕ) (out out₀ : List A) : Type 0 where
  pub stored : Stored one (line_ends widths (fragments ws ss ps)) (rest widths (fragments ws ss ps) i line columns) place out out₀
  pub wide : width ≡ width_of widths line
  pub below : line < i
  pub inside : i ≤ length ws
  pub small : columns ≤ 131070 * i
  pub lines : line + length (rest widths (fragments ws ss ps) i line columns) ≡ length (line_ends widths (fragments ws ss ps))

module _ {A : Type 0} (one : ℕ → List A) (widths ws ss ps : List ℕ) where
  pub laying_start : {w s width : ℕ} (out : List A) → 0 < length ws → length (flat one (line_ends widths (fragments ws ss ps))) ≤ length out
      → (w ≡ get_or ws 0 0) × (w ≤ 65535) → (s ≡ get_or ss 0 0) × (s ≤ 65535) → width ≡ width_of widths 0
      → Laying one widths ws ss ps 0 1 0 (w + s) width out out
  laying_start {w} {s} {width} out p h ew es t = rw (ew.0, es.0) (record {
    stored = rw same (stored_start one (line_ends widths (fragments ws ss ps)) out h);
    wide = t;
    below = omega arith;
    inside = omega arith;
    small = omega arith;
    lines = omega (arith, ap length same);
  })
    where
      same : rest widths (fragments ws ss ps) 1 0 (get_or ws 0 0 + get_or ss 0 0) ≡ line_ends widths (fragments ws ss ps)
      same = rest_start widths ws ss ps p

  module _ {place i line columns width w s p : ℕ} {t : Bool} {out out₀ : List A} (k : Laying one widths ws ss ps place i line columns width out out₀)
      (h : i < length ws) (ew : w ≡ get_or ws i 0) (es : s ≡ get_or ss i 0) (ep : p ≡ get_or ps i 0) (et : t ≡ ltb width (columns + w + p)) where
    f : Fragment
    f = record { word = get_or ws i 0; white = get_or ss i 0; penalty = get_or ps i 0 }

    tested : (b : Bool) → t ≡ b → starts widths (record { number = line; columns = columns }) f ≡ b
    unfolding f
    tested b q = rw (← ew, ← ep, ← k.wide) (sym et ∙ q)

    pub laying_break : {width' : ℕ} {out' : List A} → w ≤ 65535 → s ≤ 65535 → t ≡ true → out' ≡ sets out place (one i) → width' ≡ width_of widths (line + 1)
        → Laying one widths ws ss ps (place + length (one i)) (i + 1) (line + 1) (w + s) width' out' out₀
    unfolding f
    laying_break lw ls q e v = record {
      stored = rw (ew, es) (stored_step one (rw go at k.stored) e);
      wide = v;
      below = omega (arith, k.below);
      inside = omega arith;
      small = omega (arith, k.below);
      lines = rw (ew, es) (omega (arith, k.lines, ap length go));
    }
      where
        go : rest widths (fragments ws ss ps) i line columns ≡ i ∷ rest widths (fragments ws ss ps) (i + 1) (line + 1) (get_or ws i 0 + get_or ss i 0)
        go = rest_break widths (fragments ws ss ps) i line columns f (fragments_at ws ss ps i h) (tested true q)

    pub laying_join : w ≤ 65535 → s ≤ 65535 → t ≡ false → Laying one widths ws ss ps place (i + 1) line (columns + (w + s)) width out out₀
    unfolding f
    laying_join lw ls q = record {
      stored = rw (ew, es) (rw go at k.stored);
      wide = k.wide;
      below = omega (arith, k.below);
      inside = omega arith;
      small = omega (arith, k.small);
      lines = rw (ew, es) (omega (arith, k.lines, ap length go));
    }
      where
        go : rest widths (fragments ws ss ps) i line columns ≡ rest widths (fragments ws ss ps) (i + 1) line (columns + (get_or ws i 0 + get_or ss i 0))
        go = rest_join widths (fragments ws ss ps) i line columns f (fragments_at ws ss ps i h) (tested false q)

  -- the last line ends at the last fragment
  module _ {place i line columns width : ℕ} {out out₀ : List A} (k : Laying one widths ws ss ps place i line columns width out out₀) (h : length ws ≤ i) where
    last : rest widths (fragments ws ss ps) i line columns ≡ i ∷ []
    last = rest_end widths (fragments ws ss ps) i line columns (omega (arith, fragments_length ws ss ps))

    pub laying_end : {out' : List A} → out' ≡ sets out place (one i) → out' ≡ sets out₀ 0 (flat one (line_ends widths (fragments ws ss ps)))
    laying_end e = stored_end (stored_step one (rw last at k.stored) e)

    pub laying_lines : line + 1 ≡ length (line_ends widths (fragments ws ss ps))
    laying_lines = omega (arith, k.lines, ap length last)

-- ---- where the ends lie in a list of cells

module _ {A : Type 0} {numbers : List A → List ℕ} {places : List A → ℕ} {at : ℕ → ℕ} {stored : List ℕ → List A} {size : ℕ} (laws : CellLaws numbers places at stored size) (widths ws ss ps : List ℕ) where
  ends : List ℕ
  ends = line_ends widths (fragments ws ss ps)

  first_place : at 0 ≡ 0
  first_place = omega (arith, laws.found 0)

  ends_room : (out : List A) → 0 < length ws → length ws ≤ places out → length (flat (λ v. stored (v ∷ [])) ends) ≤ length out
  unfolding ends
  ends_room out p l =
      rw (stored_flat laws (line_ends widths (fragments ws ss ps)))
      (omega (arith, laws.sized (line_ends widths (fragments ws ss ps)), laws.room (length (line_ends widths (fragments ws ss ps))) out (omega (arith, ends_few widths (fragments ws ss ps), fragments_length ws ss ps))))

  pub cells_start : {w s width : ℕ} (out : List A) → 0 < length ws → length ws ≤ places out → (w ≡ get_or ws 0 0) × (w ≤ 65535) → (s ≡ get_or ss 0 0) × (s ≤ 65535) → width ≡ width_of widths 0
      → Laying (λ v. stored (v ∷ [])) widths ws ss ps (at 0) 1 0 (w + s) width out out
  unfolding ends
  cells_start out p l ew es t = rw first_place (laying_start (λ v. stored (v ∷ [])) widths ws ss ps out p (ends_room out p l) ew es t)

  pub cells_break : {i line columns width w s p width' : ℕ} {t : Bool} {out out₀ out' : List A}
      → Laying (λ v. stored (v ∷ [])) widths ws ss ps (at line) i line columns width out out₀ → i < length ws → w ≡ get_or ws i 0 → s ≡ get_or ss i 0 → p ≡ get_or ps i 0 → t ≡ ltb width (columns + w + p)
      → w ≤ 65535 → s ≤ 65535 → t ≡ true → out' ≡ sets out (at line) (stored (i ∷ [])) → width' ≡ width_of widths (line + 1)
      → Laying (λ v. stored (v ∷ [])) widths ws ss ps (at (line + 1)) (i + 1) (line + 1) (w + s) width' out' out₀
  cells_break {i} {line} k h ew es ep et lw ls q e v =
      let next : at (line + 1) ≡ at line + length (stored (i ∷ [])) = omega (arith, laws.found line, laws.found (line + 1), laws.sized (i ∷ [])) in
      rw next (laying_break (λ v. stored (v ∷ [])) widths ws ss ps k h ew es ep et lw ls q e v)

  -- there is a place for the end of the line
  pub cells_place : {i line columns width : ℕ} {out out₀ : List A} → Laying (λ v. stored (v ∷ [])) widths ws ss ps (at line) i line columns width out out₀ → length ws ≤ places out₀ → line < places out
  cells_place {line = line} {out = out} {out₀ = out₀} k l = omega (arith, places_same laws (line + 1) out₀ out k.stored.long (omega (arith, k.below, k.inside)))

  pub cells_end : {i line columns width : ℕ} {out out₀ out' : List A} → Laying (λ v. stored (v ∷ [])) widths ws ss ps (at line) i line columns width out out₀ → length ws ≤ i
      → out' ≡ sets out (at line) (stored (i ∷ [])) → out' ≡ sets out₀ 0 (stored (line_ends widths (fragments ws ss ps)))
  cells_end k h e = rw (stored_flat laws (line_ends widths (fragments ws ss ps))) at (laying_end (λ v. stored (v ∷ [])) widths ws ss ps k h e)

  -- the one line of no fragments
  pub none_stored : {n : ℕ} {out' : List A} (out : List A) → n ≡ length ws → n ≡ 0 → out' ≡ sets out (at 0) (stored (0 ∷ [])) → out' ≡ sets out 0 (stored (line_ends widths (fragments ws ss ps)))
  none_stored out l z e = rw (ends_none widths ws ss ps (omega arith)) (rw first_place at e)
