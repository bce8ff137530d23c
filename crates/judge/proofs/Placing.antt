-- What `placed` and `many_next` answer, one law for each way through them.
use mathlib.Core.Path.{◌≡◌}
use mathlib.Core.Bool.{Bool, true, false}
use Prim.Native.Nat.{ℕ, ◌+◌}
use native.Mathlib.Numerals.{add-one}
use Rattle.units.specs.declared.Offset.{Offset}
use Rattle.lines.specs.declared.Met.{Met}
use Rattle.judge.specs.declared.Line.{Line}
use Rattle.judge.specs.Judge.{placed_of, many_next}
use Rattle.std.specs.Prelude.{None, Option, Some}

-- ---- `placed`, `is_wide` and `fit_word`

module _ (l : Line) (at : Offset) (m : Met) where
  pub placed_starts : {n : ℕ} {b : Bool} → b ≡ true → n ≡ l.before + 1 → record { start = at; columns = m.both; before = n } ≡ placed_of l at m b
  unfolding placed_of
  placed_starts e f = rw (e, f, add-one)

  pub placed_joins : {c : ℕ} {b : Bool} → b ≡ false → c ≡ l.columns.0 + m.both.0 → record { start = l.start; columns = record { 0 = c }; before = l.before } ≡ placed_of l at m b
  unfolding placed_of
  placed_joins e f = rw (e, f)

pub ruleset placing = (placed_starts, placed_joins)

-- ---- `many_next`

module _ {m : Option Offset} {more : Bool} (start : ℕ) where
  pub many_kept : more ≡ false → m ≡ many_next m more start
  unfolding many_next
  many_kept e = rw e

  pub many_first : {p : Offset} → more ≡ true → m ≡ Some p → Some p ≡ many_next m more start
  unfolding many_next
  many_first e f = rw (e, f)

  pub many_new : more ≡ true → m ≡ None → Some (record { 0 = start }) ≡ many_next m more start
  unfolding many_next
  many_new e f = rw (e, f)

pub ruleset manying = (many_kept, many_first, many_new)
