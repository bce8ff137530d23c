-- Document 01, "Words and pieces": the reader that holds the lent text and its offset.
use Rattle.std.specs.Prelude.{ℕ, zero, suc, List, [], ◌∷◌, ltb, length}
use Rattle.units.specs.declared.Answer.{Answer}
use Rattle.units.specs.Limits.{text_most}
use Rattle.units.specs.Answers.{success}
use Rattle.logic.specs.Choice.{pick}
use Rattle.words.specs.declared.Word.{Word}
use Rattle.words.specs.declared.Step.{Step}
use Rattle.words.specs.declared.Step.TheVariants as step
use Rattle.words.specs.Words.{step_at}
use Rattle.reader.specs.declared.Opening.{Opening}
use Rattle.reader.specs.declared.Turn.{Turn}
use Rattle.std.specs.Prelude.{Err, None, Ok, Option, Result, Some, ⊤}
use Rattle.limits.specs.declared.TextRefusal.{TextRefusal}
use Rattle.limits.specs.Limits.{admitted, refusal_of}

-- "Opening tests 1 and 2 and starts at 0; if refused, the reader stands at the text's length."
abbrev pub opened : Result ⊤ TextRefusal → ℕ → Opening
opened (Ok u) n = record { answer = Ok u; at = record { 0 = 0 } }
opened (Err why) n = record { answer = Err why; at = record { 0 = n } }

unfoldable pub opening_of : List ℕ → Opening
opening_of s = opened (admitted text_most s) (length s)

-- The document's numbers: 0 with count 0; 1 with the length; 2 with the first fault.
unfoldable pub answer_of : Result ⊤ TextRefusal → Answer
answer_of (Ok u) = success 0
answer_of (Err why) = refusal_of why

-- ""no more" .., the offset staying"
abbrev pub stay : ℕ → Turn
stay i = record { found = None; next = record { 0 = i } }

-- What the step answers, as the reader's: a word; no more at the end; "also "no more" if .. a fault as in 2 lies in the word to be read".
abbrev pub to_turn : ℕ → Step → Turn
to_turn i (step.Found w o) = record { found = Some w; next = o }
to_turn i step.End = stay i
to_turn i (step.Fault o) = stay i

-- "It answers the words in order, then "no more" at each call, the offset staying; also "no more" if the text exceeds 60,000 bytes, its offset is past the end or a fault as in 2 lies in the word to
-- be read."
unfoldable pub turn_of : List ℕ → ℕ → Turn
turn_of s i = pick (ltb text_most (length s)) (stay i) (to_turn i (step_at s i))

-- The words that n calls answer, one after the other, from the offset i on: "no more" adds none.
abbrev pub found : Option Word → List Word → List Word
found (Some w) ws = w ∷ ws
found None ws = ws

unfoldable pub answers : ℕ → List ℕ → ℕ → List Word
answers zero s i = []
answers (suc n) s i = found (turn_of s i).found (answers n s (turn_of s i).next.0)
