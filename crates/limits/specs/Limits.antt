-- What text entries refuse before they begin, and their answers: "Where several hold, text entries go 1, 2, 3, 7".
use Rattle.std.specs.Prelude.{ℕ, List, ltb, length, Result, Ok, Err, ⊤}
use Rattle.units.specs.declared.Answer.{Answer}
use Rattle.units.specs.declared.Columns.{Columns}
use Rattle.units.specs.Limits.{width_most}
use Rattle.units.specs.Answers.{success, refusal}
use Rattle.logic.specs.Choice.{pick}
use Rattle.chars.specs.Utf8.{first_fault}
use Rattle.limits.specs.declared.TextRefusal.{TextRefusal}
use Rattle.limits.specs.declared.TextRefusal.TheVariants.{TooLong, NotUtf8, TooWide, NoRoom}

-- Refusals 1 and 2, and then r: a text that is too long, "with its length" as the place; then "the first byte at which no well-formed character starts".
abbrev pub admitted_then : {T : Type 0} → ℕ → List ℕ → Result T TextRefusal → Result T TextRefusal
admitted_then most s r =
    pick (ltb most (length s)) (Err (TooLong (record { 0 = length s })))
    (pick (ltb (first_fault s) (length s)) (Err (NotUtf8 (record { 0 = first_fault s })))
    r)

unfoldable pub admitted : ℕ → List ℕ → Result ⊤ TextRefusal
admitted most s = admitted_then most s (Ok tt)

-- Refusal 3, and then r: a line width above 255.
abbrev pub narrow_then : {T : Type 0} → ℕ → Result T TextRefusal → Result T TextRefusal
narrow_then width r = pick (ltb width_most width) (Err TooWide) r

unfoldable pub narrow : ℕ → Result Columns TextRefusal
narrow width = narrow_then width (Ok (record { 0 = width }))

-- Refusal 7, and then the count n of what is listed: "7 is tested on the answer lists .. by the shortest of each". `room` is the shortest list's length.
abbrev pub listed_in : ℕ → ℕ → Result ℕ TextRefusal
listed_in room n = pick (ltb room n) (Err (NoRoom n)) (Ok n)

-- The document's numbers: 1 with the length; 2 with the first fault; 3, "0 for a single width"; 7 with the places needed.
abbrev pub refusal_of : TextRefusal → Answer
refusal_of (TooLong l) = refusal 1 l.0
refusal_of (NotUtf8 o) = refusal 2 o.0
refusal_of TooWide = refusal 3 0
refusal_of (NoRoom n) = refusal 7 n

-- And 0 with the count.
unfoldable pub answer_of : Result ℕ TextRefusal → Answer
answer_of (Ok n) = success n
answer_of (Err why) = refusal_of why
