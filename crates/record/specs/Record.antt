-- Document 01, "Job program": what a job's head asks for, what is answered to a job, and the bytes of a reply.
use Rattle.std.specs.Prelude.{ℕ, ◌+◌, ◌-◌, ◌*◌, ◌%◌, min, Bool, true, false, not, ◌&&◌, ◌||◌, List, [], ◌∷◌, ◌++◌, ltb, eqb, length, get_or, Option, Some, None, Result, Ok, Err}
use Rattle.units.specs.declared.Answer.{Answer}
use Rattle.units.specs.Limits.{text_most}
use Rattle.units.specs.Answers.{refusal}
use Rattle.logic.specs.Choice.{pick}
use Rattle.wire.specs.Wire.{be16}
use Rattle.fill.specs.Fill.{fill_of, leaves}
use Rattle.limits.specs.Limits.{answer_of}
use Rattle.record.specs.declared.Job.{Job}
use Rattle.record.specs.declared.Reply.{Reply}

-- ---- a job

-- "Job: 57 4A, one byte of width, two of length (high first), the text."
abbrev pub head_bytes : ℕ
head_bytes = 5

abbrev pub is_job : ℕ → ℕ → Bool
is_job a b = eqb a 0x57 && eqb b 0x4A

-- What the bytes at the start of a record are, by the first five of them or all that came. "13 needs two bytes present, a single byte is 14"
unfoldable pub head_of : List ℕ → Result (Option Job) Answer
head_of h =
    pick (eqb (length h) 0) (Ok None)
    (pick (ltb (length h) 2) (Err (refusal 14 0))
    (pick (is_job (get_or h 0 0) (get_or h 1 0))
    (pick (ltb (length h) head_bytes) (Err (refusal 14 0)) (Ok (Some (record { width = get_or h 2 0; len = get_or h 3 0 * 256 + get_or h 4 0 }))))
    (Err (refusal 13 0))))

-- "The program keeps one 60,000-byte text buffer": how much of a text it keeps, and how much more it reads past.
abbrev pub kept_of : ℕ → ℕ
kept_of n = min n text_most

abbrev pub past_of : ℕ → ℕ
past_of n = n - text_most

-- The answer to a job of width w whose text is of n bytes, of which so many came. "14 goes before 1"
unfoldable pub answer_to : ℕ → ℕ → ℕ → List ℕ → Answer
answer_to w n came text =
    pick (ltb came n) (refusal 14 0)
    (pick (ltb text_most n) (refusal 1 n)
    (answer_of (fill_of w text)))

-- The text after that: filled, or as it was where the job is refused.
unfoldable pub text_after : ℕ → ℕ → ℕ → List ℕ → List ℕ
text_after w n came text =
    pick (ltb came n) text
    (pick (ltb text_most n) text
    (leaves (fill_of w text) w text))

-- ---- a reply

-- "Reply: 57 52, one byte of answer, two of count or place, two of length, the filled text"
abbrev pub reply_head : ℕ → ℕ → ℕ → List ℕ
reply_head number value n = 0x57 ∷ 0x52 ∷ (number % 256) ∷ be16 value ++ be16 n

-- "After replying 13 or 14 it stops"
abbrev pub stops : ℕ → Bool
stops number = eqb number 13 || eqb number 14

-- The reply to a job with a text of n bytes: the count on success, the place on refusal. "(length 0 and no text on refusal)"
unfoldable pub reply_of : Answer → ℕ → Reply
reply_of a n =
    pick (eqb a.number 0)
    (record { head = reply_head 0 a.count n; filled = true; more = true })
    (record { head = reply_head a.number a.place 0; filled = false; more = not (stops a.number) })

-- The reply to a job.
abbrev pub settled : ℕ → ℕ → ℕ → List ℕ → Reply
settled w n came text = reply_of (answer_to w n came text) n

-- The bytes of a reply, with the text that is in the buffer.
abbrev pub bytes_of : Reply → List ℕ → List ℕ
bytes_of r text = r.head ++ pick r.filled text []
