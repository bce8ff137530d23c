-- EVERY INPUT of the job program is whole jobs, one after the other, and then the end, a single byte, a wrong mark or a record that is cut; and its replies are those to the jobs, in order, and then nothing, 14,
-- 13 or 14.
use mathlib.Core.Path.{◌≡◌, ap, ◌∙◌}
use mathlib.Core.Bool.{false}
use mathlib.Core.List.{List, [], ◌∷◌, ◌++◌}
use Prim.Native.Nat.{ℕ, zero, suc, ◌+◌, ◌*◌, ◌/◌, ◌%◌, ◌≤◌, ◌<◌}
use native.Mathlib.Omega.{arith}
use lib.Dec.{ltb, eqb}
use lib.ListN.{length, get_or, take, drop, length-drop, take-append-drop}
use lib.Seq.{length-take-le, get_or-drop}
use borrow.Author.Tests.{eqb-true, ltb-true, ltb-false}
use Rattle.logic.proofs.Choice.{both, and_true}
use Rattle.record.specs.Record.{is_job}
use Rattle.record.specs.Stream.{replies, job_record, reply_record, last_reply}
use Rattle.record.proofs.Streams as streams
use Rattle.handbook.proofs.Jobs as jobs

-- What can come after the whole jobs.
pub data Last : List ℕ → Type 0 where
  nothing : Last []
  single : (a : ℕ) → Last (a ∷ [])
  wrong : (a b : ℕ) (t : List ℕ) → is_job a b ≡ false → Last (a ∷ b ∷ t)
  in_head : (t : List ℕ) → length t < 3 → Last (0x57 ∷ 0x4A ∷ t)
  in_text : (w high low : ℕ) (t : List ℕ) → length t < high * 256 + low → Last (0x57 ∷ 0x4A ∷ w ∷ high ∷ low ∷ t)

-- Whole jobs, and then that.
pub data Input : List ℕ → Type 0 where
  last : {s : List ℕ} → Last s → Input s
  job : (w : ℕ) (text rest : List ℕ) → length text ≤ 65535 → Input rest → Input (job_record w text ++ rest)

first_job : (w high low : ℕ) (t : List ℕ) → high < 256 → low < 256 → high * 256 + low ≤ length t → Input (drop (high * 256 + low) t) → Input (0x57 ∷ 0x4A ∷ w ∷ high ∷ low ∷ t)
first_job w high low t h l fits i =
    let long : length (take (high * 256 + low) t) ≡ high * 256 + low = length-take-le (high * 256 + low) t fits in
    let upper : (high * 256 + low) / 256 % 256 ≡ high = omega arith in
    let lower : (high * 256 + low) % 256 ≡ low = omega arith in
    rw (long, upper, lower, take-append-drop (high * 256 + low) t) at (job w (take (high * 256 + low) t) (drop (high * 256 + low) t) (omega arith) i)

short : (a b : ℕ) (t : List ℕ) → length t < 3 → Input (a ∷ b ∷ t)
short a b t l =
    both (is_job a b)
    (λ p. let q = and_true (eqb a 0x57) (eqb b 0x4A) p in rw (eqb-true a 0x57 q.0, eqb-true b 0x4A q.1) (last (in_head t l)))
    (λ p. last (wrong a b t p))

of_length : (n : ℕ) (s : List ℕ) → length s ≤ n → ((i : ℕ) → get_or s i 0 < 256) → Input s
of_length zero [] l f = last nothing
of_length zero (a ∷ t) l f = absurd (omega arith)
of_length (suc n) [] l f = last nothing
of_length (suc n) (a ∷ []) l f = last (single a)
of_length (suc n) (a ∷ b ∷ []) l f = short a b [] (omega arith)
of_length (suc n) (a ∷ b ∷ c ∷ []) l f = short a b (c ∷ []) (omega arith)
of_length (suc n) (a ∷ b ∷ c ∷ d ∷ []) l f = short a b (c ∷ d ∷ []) (omega arith)
of_length (suc n) (a ∷ b ∷ c ∷ d ∷ e ∷ t) l f =
    both (is_job a b)
    (λ p.
    let q = and_true (eqb a 0x57) (eqb b 0x4A) p in
    rw (eqb-true a 0x57 q.0, eqb-true b 0x4A q.1)
    (both (ltb (length t) (d * 256 + e))
    (λ u. last (in_text c d e t (ltb-true (length t) (d * 256 + e) u)))
    (λ u.
    let later : Input (drop (d * 256 + e) t) = of_length n (drop (d * 256 + e) t) (omega (arith, length-drop (d * 256 + e) t)) (λ i. rw (get_or-drop (d * 256 + e) t i 0) (f (suc (suc (suc (suc (suc (d * 256 + e + i)))))))) in
    first_job c d e t (f 3) (f 4) (ltb-false (length t) (d * 256 + e) u) later)))
    (λ p. last (wrong a b (c ∷ d ∷ e ∷ t) p))

-- Bytes are below 256.
pub every_input : (s : List ℕ) → ((i : ℕ) → get_or s i 0 < 256) → Input s
every_input s f = of_length (length s) s (omega arith) f

-- The replies, by what the input is.
abbrev pub last_to : {s : List ℕ} → Last s → List ℕ
last_to nothing = []
last_to (single a) = last_reply 14
last_to (wrong a b t e) = last_reply 13
last_to (in_head t l) = last_reply 14
last_to (in_text w high low t l) = last_reply 14

abbrev pub replies_to : {s : List ℕ} → Input s → List ℕ
replies_to (last e) = last_to e
replies_to (job w text rest l i) = reply_record w text ++ replies_to i

last_replies : {s : List ℕ} (e : Last s) → replies s ≡ last_to e
last_replies nothing = jobs.the_end
last_replies (single a) = jobs.single_byte a
last_replies (wrong a b t e) = jobs.wrong_mark a b t e
last_replies (in_head t l) = jobs.cut_head t l
last_replies (in_text w high low t l) = jobs.cut_text w high low t l

pub all_replies : {s : List ℕ} (i : Input s) → replies s ≡ replies_to i
all_replies (last e) = last_replies e
all_replies (job w text rest l i) = streams.answered w text rest l ∙ ap (λ r. reply_record w text ++ r) (all_replies i)
