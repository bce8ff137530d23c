-- The replies to an input, record by record: what the program reads, asks `record` and writes at each of them comes to `replies`.
use mathlib.Core.Path.{◌≡◌, refl, sym, ap, ◌∙◌}
use mathlib.Core.Bool.{Bool, true, false, not}
use mathlib.Core.List.{List, [], ◌∷◌, ◌++◌, append-nil}
use Prim.Native.Nat.{ℕ, zero, suc, ◌+◌, ◌*◌, ◌/◌, ◌%◌, ◌≤◌, ◌<◌}
use native.Mathlib.Omega.{arith}
use lib.Dec.{ltb, eqb}
use lib.ListN.{length, take, drop, get_or}
use lib.Seq.{take-append_seam, drop-append_seam, take_all}
use borrow.Author.Tests.{ltb-false, lt-ltb, le-ltb, not-true}
use Rattle.std.specs.Prelude.{Option, Some, None, Result, Ok, Err}
use Rattle.units.specs.declared.Answer.{Answer}
use Rattle.units.specs.Limits.{text_most}
use Rattle.units.specs.Answers.{refusal}
use Rattle.logic.specs.Choice.{pick}
use Rattle.logic.proofs.Choice.{both}
use Rattle.fill.specs.Fill.{fill_of}
use Rattle.limits.specs.Limits.{answer_of}
use Rattle.record.specs.declared.Job.{Job}
use Rattle.record.specs.Record.{head_bytes, is_job, head_of, answer_to, text_after, reply_of, settled, bytes_of}
use Rattle.record.specs.Stream.{job_reply, job_bytes, served, goes_on, further_bytes, replies_after, replies, job_record, reply_record, last_reply}
use Rattle.record.proofs.Heads.{head_wrong, head_short, head_job}
use Rattle.std.specs.Prelude.{Err, Ok, Result}
use Rattle.limits.specs.declared.TextRefusal.{TextRefusal}
use Rattle.limits.specs.declared.TextRefusal.TheVariants.{NoRoom, NotUtf8, TooLong, TooWide}

-- ---- an input from its first record on

after_drop : (k : ℕ) (s : List ℕ) → replies_after k s ≡ replies (drop k s)
unfolding replies_after
after_drop zero s = refl
after_drop (suc k) [] = refl
after_drop (suc k) (a ∷ t) = after_drop k t

-- What is written to the first record, and then to the rest, where the program goes on.
pub from_first : (s : List ℕ)
    → replies s ≡ served (head_of s) (drop head_bytes s) ++ pick (goes_on (head_of s) (drop head_bytes s)) (replies (drop (suc (further_bytes (head_of s))) s)) []
unfolding replies_after head_of
from_first [] = refl
from_first (a ∷ t) = rw (after_drop (further_bytes (head_of (a ∷ t))) t)

module _ (s : List ℕ) {h : Result (Option Job) Answer} (e : head_of s ≡ h) where
  goes_on_lem : goes_on h (drop head_bytes s) ≡ true → replies s ≡ served h (drop head_bytes s) ++ replies (drop (suc (further_bytes h)) s)
  goes_on_lem g = rw (from_first s, e, g)

  stops_there : goes_on h (drop head_bytes s) ≡ false → replies s ≡ served h (drop head_bytes s)
  stops_there g = rw (from_first s, e, g) (append-nil (served h (drop head_bytes s)))

-- The head is in the first five bytes, so reading no more of an input is enough.
pub head_first : (s : List ℕ) → head_of (take head_bytes s) ≡ head_of s
head_first [] = refl
head_first (a ∷ []) = refl
head_first (a ∷ b ∷ []) = refl
head_first (a ∷ b ∷ c ∷ []) = refl
head_first (a ∷ b ∷ c ∷ d ∷ []) = refl
head_first (a ∷ b ∷ c ∷ d ∷ e ∷ t) =
    both (is_job a b)
    (λ p. head_job (a ∷ b ∷ c ∷ d ∷ e ∷ []) (omega arith) p (omega arith) ∙ sym (head_job (a ∷ b ∷ c ∷ d ∷ e ∷ t) (omega arith) p (omega arith)))
    (λ p. head_wrong (a ∷ b ∷ c ∷ d ∷ e ∷ []) (omega arith) p ∙ sym (head_wrong (a ∷ b ∷ c ∷ d ∷ e ∷ t) (omega arith) p))

-- What stands in the buffer counts only where all of the text came and is kept: then it is the text.
module _ (w n : ℕ) (rest text : List ℕ) (came : ℕ) (c : came ≡ length (take n rest)) (k : n ≤ came → n ≤ text_most → text ≡ take n rest) where
  pub job_bytes_lem : bytes_of (settled w n came text) (text_after w n came text) ≡ job_bytes w n rest
  unfolding answer_to text_after reply_of
  job_bytes_lem =
      rw (← c)
      (both (ltb came n)
      (λ p. rw p)
      (λ p. both (ltb text_most n)
      (λ q. rw (p, q))
      (λ q. rw (p, q, k (ltb-false came n p) (ltb-false text_most n q)))))

  pub job_more : (settled w n came text).more ≡ (job_reply w n rest).more
  unfolding answer_to reply_of
  job_more =
      rw (← c)
      (both (ltb came n)
      (λ p. rw p)
      (λ p. both (ltb text_most n)
      (λ q. rw (p, q))
      (λ q. rw (p, q, k (ltb-false came n p) (ltb-false text_most n q)))))

-- ---- what the program does at a record

-- What is refused by its head is 13 or 14.
stops_at : Result (Option Job) Answer → Bool
stops_at (Ok None) = true
stops_at (Err a) = not (reply_of a 0).more
stops_at (Ok (Some j)) = true

head_stops : (h : List ℕ) → stops_at (head_of h) ≡ true
unfolding stops_at head_of reply_of
head_stops h =
    both (eqb (length h) 0)
    (λ p. rw p)
    (λ p. both (ltb (length h) 2)
    (λ q. rw (p, q))
    (λ q. both (is_job (get_or h 0 0) (get_or h 1 0))
    (λ r. both (ltb (length h) head_bytes) (λ u. rw (p, q, r, u)) (λ u. rw (p, q, r, u)))
    (λ r. rw (p, q, r))))

-- The program, at an input s of which it reads the first five bytes, or all that there is.
module _ (s : List ℕ) where
  -- Nothing came: it stops silently.
  pub at_end : head_of (take head_bytes s) ≡ Ok None → replies s ≡ []
  at_end e = rw (from_first s, sym (head_first s) ∙ e)

  -- The head is refused: it replies, and stops.
  pub at_refused : {a : Answer} → head_of (take head_bytes s) ≡ Err a → (replies s ≡ bytes_of (reply_of a 0) []) × ((reply_of a 0).more ≡ false)
  unfolding stops_at
  at_refused {a} e =
      let h : head_of s ≡ Err a = sym (head_first s) ∙ e in
      (rw (from_first s, h) (append-nil (bytes_of (reply_of a 0) [])), not-true (reply_of a 0).more (rw h at (head_stops s)))

  -- A job: it reads the text as far as the input goes, replies, and goes on after the text where the reply says so.
  pub at_job : {w n : ℕ} (text : List ℕ) (came : ℕ) → head_of (take head_bytes s) ≡ Ok (Some (record { width = w; len = n })) → came ≡ length (take n (drop head_bytes s))
      → (n ≤ came → n ≤ text_most → text ≡ take n (drop head_bytes s))
      → replies s ≡ bytes_of (settled w n came text) (text_after w n came text) ++ pick (settled w n came text).more (replies (drop (head_bytes + n) s)) []
  at_job {w} {n} text came e c k =
      let h : head_of s ≡ Ok (Some (record { width = w; len = n })) = sym (head_first s) ∙ e in
      let five : head_bytes + n ≡ suc (4 + n) = omega arith in
      rw (from_first s, h, five, job_bytes_lem w n (drop head_bytes s) text came c k, job_more w n (drop head_bytes s) text came c k)

-- ---- whole jobs

filled_more : (f : Result ℕ TextRefusal) (n : ℕ) → (reply_of (answer_of f) n).more ≡ true
unfolding answer_of reply_of
filled_more (Ok k) n = refl
filled_more (Err (TooLong l)) n = refl
filled_more (Err (NotUtf8 o)) n = refl
filled_more (Err TooWide) n = refl
filled_more (Err (NoRoom k)) n = refl

long_more : (n : ℕ) → (reply_of (refusal 1 n) n).more ≡ true
unfolding reply_of
long_more n = refl

whole_more : (w : ℕ) (text : List ℕ) → (settled w (length text) (length text) text).more ≡ true
unfolding answer_to
whole_more w text =
    rw (le-ltb (length text) (length text) (omega arith))
    (both (ltb text_most (length text)) (λ q. rw q (long_more (length text))) (λ q. rw q (filled_more (fill_of w text) (length text))))

-- A job is answered by its reply, and the rest as if it stood alone.
pub answered : (w : ℕ) (text rest : List ℕ) → length text ≤ 65535 → replies (job_record w text ++ rest) ≡ reply_record w text ++ replies rest
answered w text rest l =
    let s : List ℕ = job_record w text ++ rest in
    let size : length text ≡ length text / 256 % 256 * 256 + length text % 256 = omega arith in
    let h : head_of s ≡ Ok (Some (record { width = w; len = length text })) = head_job s (omega arith) refl (omega arith) ∙ rw (← size) in
    let four : 4 + length text ≡ suc (suc (suc (suc (length text)))) = omega arith in
    let on : (job_reply w (length text) (text ++ rest)).more ≡ true = rw (take-append_seam text rest) (whole_more w text) in
    goes_on_lem s h on ∙ rw (four, take-append_seam text rest, drop-append_seam text rest)

-- ---- the last reply

-- "a single byte is 14"
pub one_byte : (a : ℕ) → replies (a ∷ []) ≡ last_reply 14
unfolding reply_of head_of
one_byte a = rw (from_first (a ∷ []))

-- "13 needs two bytes present"
pub wrong_mark : (a b : ℕ) (t : List ℕ) → is_job a b ≡ false → replies (a ∷ b ∷ t) ≡ last_reply 13
unfolding reply_of
wrong_mark a b t e =
    rw (from_first (a ∷ b ∷ t), head_wrong (a ∷ b ∷ t) (omega arith) e)

pub cut_head : (t : List ℕ) → length t < 3 → replies (0x57 ∷ 0x4A ∷ t) ≡ last_reply 14
unfolding reply_of
cut_head t l =
    rw (from_first (0x57 ∷ 0x4A ∷ t), head_short (0x57 ∷ 0x4A ∷ t) (omega arith) refl (omega arith))

-- "14 goes before 1": also where the text is too long.
pub cut_text : (w high low : ℕ) (t : List ℕ) → length t < high * 256 + low → replies (0x57 ∷ 0x4A ∷ w ∷ high ∷ low ∷ t) ≡ last_reply 14
unfolding reply_of answer_to
cut_text w high low t l =
    let s : List ℕ = 0x57 ∷ 0x4A ∷ w ∷ high ∷ low ∷ t in
    let h : head_of s ≡ Ok (Some (record { width = w; len = high * 256 + low })) = head_job s (omega arith) refl (omega arith) in
    let cut : job_reply w (high * 256 + low) t ≡ reply_of (refusal 14 0) (high * 256 + low) = rw (take_all (high * 256 + low) t (omega arith), lt-ltb (length t) (high * 256 + low) l) in
    stops_there s h (ap (λ r. r.more) cut) ∙ rw cut
