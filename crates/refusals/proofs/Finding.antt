-- A loop that goes over the bytes before a place, and counts lines and columns: one record, and a law for each way.
use mathlib.Core.Path.{◌≡◌, refl, sym, ◌∙◌}
use mathlib.Core.Bool.{Bool, true, false}
use mathlib.Core.List.{List, [], ◌∷◌}
use Prim.Native.Nat.{ℕ, ◌+◌, ◌≤◌, ◌<◌, min}
use native.Mathlib.Numerals.{add-one}
use native.Mathlib.Omega.{arith}
use lib.ListN.{length, get_or, take, drop, drop_of_length-le}
use lib.Seq.{drop-cons}
use Rattle.std.proofs.lemmas.List.{take_min}
use Rattle.logic.specs.Choice.{pick}
use Rattle.logic.proofs.Choice.{both}
use Rattle.lines.specs.Lines.{newline}
use Rattle.refusals.specs.Places.{starts_character, newlines, column_after, spot_of}

-- i of the bytes s before the place are passed, and a person who reads on stands at this line and column.
pub record Finding (s : List ℕ) (i line column : ℕ) : Type 0 where
  pub lines : line + newlines (drop i s) ≡ 1 + newlines s
  pub columns : column_after column (drop i s) ≡ column_after 1 s
  pub low_line : line ≤ i + 1
  pub low_column : column ≤ i + 1

pub finding_start : (s : List ℕ) → Finding s 0 1 1
finding_start s = record { lines = refl; columns = refl; low_line = omega arith; low_column = omega arith }

module _ {s : List ℕ} {i line column : ℕ} (f : Finding s i line column) where
  -- After the byte at i: its line and column are those that the definitions give.
  step : {line' column' : ℕ} → i < length s → line' ≡ pick (newline (get_or s i 0)) (line + 1) line → column' ≡ pick (newline (get_or s i 0)) 1 (pick (starts_character (get_or s i 0)) (column + 1) column)
      → line' ≤ line + 1 → column' ≤ i + 2 → Finding s (i + 1) line' column'
  unfolding newlines column_after
  step {line'} {column'} l p q a b =
      let next : drop i s ≡ get_or s i 0 ∷ drop (i + 1) s = rw (add-one i, drop-cons s i 0 l) in
      let more : line + newlines (drop i s) ≡ line' + newlines (drop (i + 1) s) =
      both (newline (get_or s i 0)) (λ t. rw (next, p, t) (omega arith)) (λ t. rw (next, p, t)) in
      let on : column_after column (drop i s) ≡ column_after column' (drop (i + 1) s) = rw (next, q) in
      record { lines = sym more ∙ f.lines; columns = sym on ∙ f.columns; low_line = omega (arith, f.low_line); low_column = omega arith }

  module _ {r : Bool} (l : i < length s) (e : r ≡ newline (get_or s i 0)) where
    pub finding_newline : r ≡ true → Finding s (i + 1) (line + 1) 1
    finding_newline q = step l (rw (← e, q)) (rw (← e, q)) (omega arith) (omega arith)

    module _ {t : Bool} (q : r ≡ false) (d : t ≡ starts_character (get_or s i 0)) where
      pub finding_character : t ≡ true → Finding s (i + 1) line (column + 1)
      finding_character w = step l (rw (← e, q)) (rw (← e, q, ← d, w)) (omega arith) (omega (arith, f.low_column))

      pub finding_further : t ≡ false → Finding s (i + 1) line column
      finding_further w = step l (rw (← e, q)) (rw (← e, q, ← d, w)) (omega arith) (omega (arith, f.low_column))

pub finding_end : {i line column : ℕ} (text : List ℕ) (place e : ℕ) → e ≡ min place (length text) → Finding (take e text) i line column → length (take e text) ≤ i → record { line = line; column = column } ≡ spot_of text place
unfolding newlines column_after
finding_end {i} {line} {column} text place e q f l =
    let w : take e text ≡ take place text = rw q (take_min place text) in
    let z : drop i (take e text) ≡ [] = drop_of_length-le (take e text) l in
    let a : line + newlines [] ≡ 1 + newlines (take e text) = rw z at f.lines in
    let b : line ≡ 1 + newlines (take e text) = omega arith in
    let c : column ≡ column_after 1 (take e text) = rw z at f.columns in
    rw (b, c, w)

pub ruleset finding = (finding_start, finding_newline, finding_character, finding_further, finding_end)
