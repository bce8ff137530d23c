-- Document 01, "Fill and check": what the fill answers, and the text after it.
use Rattle.std.specs.Prelude.{ℕ, List, length, Result, Ok, Err}
use Rattle.units.specs.Limits.{text_most}
use Rattle.limits.specs.declared.TextRefusal.{TextRefusal}
use Rattle.limits.specs.Limits.{admitted_then, narrow_then}
use Rattle.lines.specs.Breaks.{text_breaks, filled}

-- "Where several hold, text entries go 1, 2, 3, 7", "fill no 7". "The count returned is the number of bytes changed."
unfoldable pub fill_of : ℕ → List ℕ → Result ℕ TextRefusal
fill_of width s = admitted_then text_most s (narrow_then width (Ok (length (text_breaks width s))))

-- "A refusal .. changes no lent memory": the text after the fill, by its answer and what the text was.
abbrev pub leaves : Result ℕ TextRefusal → ℕ → List ℕ → List ℕ
leaves (Ok n) width s = filled width s
leaves (Err why) width s = s
