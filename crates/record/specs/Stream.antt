-- Document 01, "Job program": the replies to a whole input, from its first byte to its last.
use Rattle.std.specs.Prelude.{ℕ, zero, suc, ◌+◌, Bool, false, List, [], ◌∷◌, ◌++◌, length, take, drop, Option, Some, None, Result, Ok, Err}
use Rattle.logic.specs.Choice.{pick}
use Rattle.units.specs.declared.Answer.{Answer}
use Rattle.record.specs.declared.Job.{Job}
use Rattle.record.specs.declared.Reply.{Reply}
use Rattle.wire.specs.Wire.{be16}
use Rattle.record.specs.Record.{head_of, settled, text_after, reply_head, reply_of, bytes_of}

-- The reply to a job, where `rest` is what comes after its head.
abbrev pub job_reply : ℕ → ℕ → List ℕ → Reply
job_reply w n rest = settled w n (length (take n rest)) (take n rest)

abbrev pub job_bytes : ℕ → ℕ → List ℕ → List ℕ
job_bytes w n rest = bytes_of (job_reply w n rest) (text_after w n (length (take n rest)) (take n rest))

-- What is written to a record with a head, and `rest` after the head;
abbrev pub served : Result (Option Job) Answer → List ℕ → List ℕ
served (Ok None) rest = []
served (Err a) rest = bytes_of (reply_of a 0) []
served (Ok (Some j)) rest = job_bytes j.width j.len rest

-- whether the program goes on after it: "It .. stops silently at the end of input between records. After 1 it reads past the text and goes on. After replying 13 or 14 it stops";
abbrev pub goes_on : Result (Option Job) Answer → List ℕ → Bool
goes_on (Ok None) rest = false
goes_on (Err a) rest = false
goes_on (Ok (Some j)) rest = (job_reply j.width j.len rest).more

-- and how many bytes the record has after its first one.
abbrev pub further_bytes : Result (Option Job) Answer → ℕ
further_bytes (Ok None) = 0
further_bytes (Err a) = 0
further_bytes (Ok (Some j)) = 4 + j.len

-- "It answers jobs in order": the replies to what comes after the first k bytes of an input,
unfoldable pub replies_after : ℕ → List ℕ → List ℕ
replies_after k [] = []
replies_after (suc k) (a ∷ t) = replies_after k t
replies_after zero (a ∷ t) =
    served (head_of (a ∷ t)) (drop 4 t) ++ pick (goes_on (head_of (a ∷ t)) (drop 4 t)) (replies_after (further_bytes (head_of (a ∷ t))) t) []

-- and to a whole input.
abbrev pub replies : List ℕ → List ℕ
replies s = replies_after 0 s

-- ---- records, written down

-- A job of a width and a text.
abbrev pub job_record : ℕ → List ℕ → List ℕ
job_record w text = 0x57 ∷ 0x4A ∷ w ∷ be16 (length text) ++ text

-- The reply to that job.
abbrev pub reply_record : ℕ → List ℕ → List ℕ
reply_record w text = bytes_of (settled w (length text) (length text) text) (text_after w (length text) (length text) text)

-- A reply after which the program stops.
abbrev pub last_reply : ℕ → List ℕ
last_reply number = reply_head number 0 0
