-- JOBS: the replies to a whole input. Whole jobs are answered in order, each as if it stood alone; what comes after them is the end, or gets one last reply. And what the program does at each
-- record comes to these replies.
use mathlib.Core.Path.{◌≡◌, refl}
use mathlib.Core.Bool.{false}
use mathlib.Core.List.Memᴰ
use mathlib.Core.List.{List, [], ◌∷◌, ◌++◌, append_assoc}
use Prim.Native.Nat.{ℕ, suc, ◌+◌, ◌*◌, ◌/◌, ◌%◌, ◌≤◌, ◌<◌}
use native.Mathlib.Omega.{arith}
use lib.Dec.{eqb}
use lib.ListN.{length, take, drop}
use borrow.Author.Tests.{lt-ltb, le-ltb}
use Rattle.std.specs.Prelude.{Some, None, Ok, Err}
use Rattle.units.specs.declared.Answer.{Answer}
use Rattle.units.specs.Limits.{text_most, width_most}
use Rattle.logic.specs.Choice.{pick}
use Rattle.logic.specs.Member.{◌∈◌}
use Rattle.logic.proofs.Choice.{pick_le}
use Rattle.chars.specs.Utf8.{first_fault, Whole}
use Rattle.lines.specs.Breaks.{text_breaks, filled}
use Rattle.lines.proofs.Rising.{differences}
use Rattle.lines.proofs.Allowed.{breaks_counted}
use Rattle.fill.specs.Fill.{fill_of}
use Rattle.limits.specs.Limits.{answer_of}
use Rattle.record.specs.declared.Job.{Job}
use Rattle.record.specs.Record.{head_bytes, is_job, head_of, answer_to, text_after, reply_head, reply_of, settled, bytes_of}
use Rattle.record.specs.Stream.{replies_after, replies, job_record, reply_record, last_reply}
use Rattle.record.proofs.Streams as streams

-- ---- whole jobs, in order

-- What one job asks for.
pub record Asked : Type 0 where
  pub width : ℕ
  pub text : List ℕ

-- The jobs of an input, one after the other, and the replies to them.
abbrev pub jobs_of : List Asked → List ℕ
jobs_of [] = []
jobs_of (j ∷ js) = job_record j.width j.text ++ jobs_of js

abbrev pub replies_of : List Asked → List ℕ
replies_of [] = []
replies_of (j ∷ js) = reply_record j.width j.text ++ replies_of js

-- "It answers jobs in order". A record says a length up to 65,535.
pub in_order : (js : List Asked) (rest : List ℕ) → ((j : Asked) → j ∈ js → length j.text ≤ 65535) → replies (jobs_of js ++ rest) ≡ replies_of js ++ replies rest
in_order [] rest f = refl
in_order (j ∷ js) rest f =
    let first = streams.answered j.width j.text (jobs_of js ++ rest) (f j (Memᴰ.head refl)) in
    let then = in_order js rest (λ i m. f i (Memᴰ.tail m)) in
    rw (append_assoc (job_record j.width j.text) (jobs_of js) rest, append_assoc (reply_record j.width j.text) (replies_of js) (replies rest), ← then) first

-- ---- the reply to a job

module _ (w : ℕ) (text : List ℕ) where
  -- 57 52 01, the length as the place, length 0 and no text
  pub too_long : text_most < length text → reply_record w text ≡ reply_head 1 (length text) 0
  unfolding answer_to text_after reply_of
  too_long l = rw (le-ltb (length text) (length text) (omega arith), lt-ltb text_most (length text) l)

  module _ (l : length text ≤ text_most) where
    -- 57 52 02, the first fault as the place, length 0 and no text
    pub not_utf8 : first_fault text < length text → reply_record w text ≡ reply_head 2 (first_fault text) 0
    unfolding answer_to text_after reply_of answer_of fill_of
    not_utf8 h = rw (le-ltb (length text) (length text) (omega arith), le-ltb text_most (length text) l, lt-ltb (first_fault text) (length text) h)

    -- 57 52 00, the number of bytes changed, the length, and the filled text
    pub filled_text : Whole text → w ≤ width_most → reply_record w text ≡ reply_head 0 (length (text_breaks w text)) (length text) ++ filled w text
    unfolding answer_to text_after reply_of answer_of fill_of
    filled_text u h =
        rw (le-ltb (length text) (length text) (omega arith), le-ltb text_most (length text) l, le-ltb (first_fault text) (length text) (omega arith), le-ltb width_most w h)

-- Two bytes are enough for a length, a place and a count: each is at most 65,535, and its bytes give it back.
differences_few : (s t : List ℕ) → differences s t ≤ length s
unfolding differences
differences_few [] t = omega arith
differences_few (x ∷ s) [] = omega arith
differences_few (x ∷ s) (y ∷ t) =
    let i = differences_few s t in
    pick_le (eqb x y) (differences s t) (suc (differences s t)) (suc (length s)) (omega arith) (omega arith)

pub count_fits : (w : ℕ) (text : List ℕ) → length text ≤ text_most → length (text_breaks w text) ≤ 65535
count_fits w text l = omega (arith, breaks_counted w text, differences_few text (filled w text))

pub two_bytes : (v : ℕ) → v ≤ 65535 → v / 256 % 256 * 256 + v % 256 ≡ v
two_bytes v l = omega arith

-- ---- what comes after the whole jobs

-- "It .. stops silently at the end of input between records."
pub the_end : replies [] ≡ []
unfolding replies_after
the_end = refl

-- "13 needs two bytes present, a single byte is 14"
pub single_byte : (a : ℕ) → replies (a ∷ []) ≡ last_reply 14
single_byte = streams.one_byte

-- 57 52 0D 00 00 00 00, and nothing that follows is answered
pub wrong_mark : (a b : ℕ) (t : List ℕ) → is_job a b ≡ false → replies (a ∷ b ∷ t) ≡ last_reply 13
wrong_mark = streams.wrong_mark

-- "input ends inside a record": in its head,
pub cut_head : (t : List ℕ) → length t < 3 → replies (0x57 ∷ 0x4A ∷ t) ≡ last_reply 14
cut_head = streams.cut_head

-- or in its text. "14 goes before 1": this is so however long the text should be
pub cut_text : (w high low : ℕ) (t : List ℕ) → length t < high * 256 + low → replies (0x57 ∷ 0x4A ∷ w ∷ high ∷ low ∷ t) ≡ last_reply 14
cut_text = streams.cut_text

-- ---- the program, at an input s

-- It reads the first five bytes, or all that there is, and has `record` say what they are. Nothing: it stops.
pub program_ends : (s : List ℕ) → head_of (take head_bytes s) ≡ Ok None → replies s ≡ []
program_ends = streams.at_end

-- A refusal: it writes the reply, which says to stop.
pub program_refuses : (s : List ℕ) {a : Answer} → head_of (take head_bytes s) ≡ Err a → (replies s ≡ bytes_of (reply_of a 0) []) × ((reply_of a 0).more ≡ false)
program_refuses = streams.at_refused

-- A job: so many bytes of the text came, and what is in the buffer is the text, if all of it came and the buffer holds it. It writes the reply, and goes on after the text where the reply says so.
pub program_serves : (s : List ℕ) {w n : ℕ} (buffer : List ℕ) (came : ℕ) → head_of (take head_bytes s) ≡ Ok (Some (record { width = w; len = n })) → came ≡ length (take n (drop head_bytes s))
    → (n ≤ came → n ≤ text_most → buffer ≡ take n (drop head_bytes s))
    → replies s ≡ bytes_of (settled w n came buffer) (text_after w n came buffer) ++ pick (settled w n came buffer).more (replies (drop (head_bytes + n) s)) []
program_serves = streams.at_job
