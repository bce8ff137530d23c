-- The loop of `cut_from`: one law for each way into, round and out of it.
use mathlib.Core.Path.{◌≡◌, refl, ap}
use mathlib.Core.Bool.{Bool, true, false}
use mathlib.Core.List.{List, [], ◌∷◌}
use Prim.Native.Nat.{ℕ, ◌+◌, ◌*◌, ◌-◌, max, ◌^◌, ◌≤◌, ◌<◌}
use native.Mathlib.Omega.{arith}
use mir.Syntax.{w64}
use mir.Val.{Fits}
use lib.ListN.{length}
use borrow.Author.Tests.{eq-eqb}
use Rattle.units.specs.declared.Offset.{Offset}
use Rattle.units.specs.declared.Columns.{Columns}
use Rattle.chars.specs.Utf8.{Chr, read_at, bytes}
use Rattle.chars.proofs.Laws.{Stepped, step_fault, decode_end}
use Rattle.measure.specs.declared.Mode.{Mode}
use Rattle.measure.specs.declared.Mode.TheVariants.{Text}
use Rattle.measure.specs.Escapes.{next, taken, width_from}
use Rattle.measure.specs.Measure.{until}
use Rattle.measure.specs.Walk.{ahead}
use Rattle.measure.proofs.Walk.{here, ahead_char, taken_most}
use Rattle.pieces.specs.Pieces.{starts, fitting, piece}
use Rattle.pieces.specs.Steps.{cut_at}
use Rattle.std.specs.Prelude.{Err, Ok, Result}

-- What the current piece still takes at a place.
abbrev still : ℕ → ℕ → List ℕ → ℕ → ℕ → Mode → List Chr
still stop w s at cols m = fitting w cols m (ahead stop s at)

-- From the piece's start to a place: what it takes is what it took and what it still takes.
pub record Cutting (stop w : ℕ) (s : List ℕ) (from at cols : ℕ) (m : Mode) : Type 0 where
  pub inside : at ≤ max from (length s)
  pub place : from + bytes (piece w (ahead stop s from)) ≡ at + bytes (still stop w s at cols m)
  pub width : width_from Text (piece w (ahead stop s from)) ≡ cols + width_from m (still stop w s at cols m)
  pub room : cols + 2 * from ≤ 2 * at

pub cutting_start : (stop w : ℕ) (s : List ℕ) (from : ℕ) → Cutting stop w s from from 0 Text
cutting_start stop w s from = record { inside = omega arith; place = refl; width = omega arith; room = omega arith }

-- It ends where it takes nothing more.
cutting_ends : {stop w : ℕ} {s : List ℕ} {from : ℕ} {at : Offset} {cols : Columns} {m : Mode} → Cutting stop w s from at.0 cols.0 m → still stop w s at.0 cols.0 m ≡ []
    → record { end = at; width = cols } ≡ cut_at stop w s from
unfolding cut_at bytes width_from
cutting_ends {stop} {w} {s} {from} {at} {cols} {m} k e =
    let b : from + bytes (piece w (ahead stop s from)) ≡ at.0 = omega (arith, k.place, ap bytes e) in
    let c : width_from Text (piece w (ahead stop s from)) ≡ cols.0 = omega (arith, k.width, ap (width_from m) e) in
    rw (b, c)

module _ {stop w : ℕ} {s : List ℕ} {from : ℕ} {at : Offset} {cols : Columns} {m : Mode} (k : Cutting stop w s from at.0 cols.0 m) where
  pub cutting_step : {c t : ℕ} {n : Mode} {r : Result (ℕ × Offset) Offset} {o : Offset} {b : Bool} → r ≡ Ok (c, o) → r ≡ read_at s at.0 → (c ≡ stop → ⊥) → t ≡ taken m c → b ≡ starts w cols.0 (cols.0 + t) → b ≡ false
      → n ≡ next m c → Cutting stop w s from o.0 (cols.0 + t) n
  unfolding fitting bytes width_from
  cutting_step {c} {t} {n} {r} {o} {b} p e q et eb f en =
      let d : Stepped s at.0 c o = here p e in
      let h : starts w cols.0 (cols.0 + taken m c) ≡ false = rw (← et, ← eb) f in
      let a : still stop w s at.0 cols.0 m ≡ record { code = c; size = o.0 - at.0 } ∷ still stop w s o.0 (cols.0 + taken m c) (next m c) = rw (ahead_char stop d q, h) in
      let l = d.later in
      let i = d.inside in
      let u = taken_most m c in
      rw (et, en) (record {
        inside = omega arith;
        place = omega (arith, k.place, ap bytes a);
        width = omega (arith, k.width, ap (width_from m) a);
        room = omega (arith, k.room);
      })

  pub cutting_new : {c t : ℕ} {r : Result (ℕ × Offset) Offset} {o : Offset} {b : Bool} → r ≡ Ok (c, o) → r ≡ read_at s at.0 → (c ≡ stop → ⊥) → t ≡ taken m c → b ≡ starts w cols.0 (cols.0 + t) → b ≡ true
      → record { end = at; width = cols } ≡ cut_at stop w s from
  unfolding fitting
  cutting_new {c} {t} {r} {o} {b} p e q et eb f =
      let d : Stepped s at.0 c o = here p e in
      let h : starts w cols.0 (cols.0 + taken m c) ≡ true = rw (← et, ← eb) f in
      cutting_ends k (rw (ahead_char stop d q, h))

  pub cutting_stop : {c : ℕ} {r : Result (ℕ × Offset) Offset} {o : Offset} → r ≡ Ok (c, o) → r ≡ read_at s at.0 → c ≡ stop → record { end = at; width = cols } ≡ cut_at stop w s from
  unfolding fitting until
  cutting_stop {c} {r} {o} p e q = let d : Stepped s at.0 c o = here p e in cutting_ends k (rw (d.chars, eq-eqb c stop q))

  pub cutting_fault : {r : Result (ℕ × Offset) Offset} {o : Offset} → r ≡ Err o → r ≡ read_at s at.0 → record { end = at; width = cols } ≡ cut_at stop w s from
  unfolding fitting until
  cutting_fault {r} {o} p e =
      let e' : Err o ≡ read_at s at.0 = cc in
      let d = (step_fault s at.0 e').1 in
      cutting_ends k (rw d)

  pub cutting_end : length s ≤ at.0 → record { end = at; width = cols } ≡ cut_at stop w s from
  unfolding fitting until
  cutting_end l = cutting_ends k (rw (decode_end s at.0 l))

  -- The sum of columns fits: a text has fewer than 2^63 bytes, and at most two columns a byte.
  pub cutting_room : {c t : ℕ} {r : Result (ℕ × Offset) Offset} {o : Offset} → length s * 1 < 2 ^ 63 → r ≡ Ok (c, o) → r ≡ read_at s at.0 → t ≡ taken m c → Fits w64 (cols.0 + t)
  cutting_room {c} h p e q = let d : Stepped s at.0 c _ = here p e in omega (arith, k.room, d.later, d.inside, taken_most m c)

pub cutting_less : (s : List ℕ) (at : ℕ) {c : ℕ} {r : Result (ℕ × Offset) Offset} {o : Offset} → r ≡ Ok (c, o) → r ≡ read_at s at → length s - o.0 < length s - at
cutting_less s at {c} {r} {o} p e = let d : Stepped s at c o = here p e in omega (arith, d.later, d.inside)

pub ruleset cutting = (cutting_start, cutting_step, cutting_new, cutting_stop, cutting_fault, cutting_end, cutting_room, cutting_less)
