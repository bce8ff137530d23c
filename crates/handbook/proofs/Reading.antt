-- THE READER, in the words of document 01, "Words and pieces": where it stands after opening, that it answers the words in order and then "no more", and when else it answers "no more". `turn_of s i` is what a
-- reader of the text s answers that stands at i, and where it then stands; `answers n s i` are the words of n calls.
use mathlib.Core.Path.{◌≡◌}
use mathlib.Core.List.{List, []}
use Prim.Native.Nat.{ℕ, ◌≤◌, ◌<◌}
use lib.ListN.{length, take}
use Rattle.units.specs.Limits.{text_most}
use Rattle.chars.specs.Utf8.{first_fault, Whole}
use Rattle.words.specs.Words.{content, words}
use Rattle.reader.specs.Reader.{opening_of, stay, turn_of, answers}
use Rattle.reader.proofs.Laws as laws
use Rattle.std.specs.Prelude.{Err, None, Ok}
use Rattle.limits.specs.declared.TextRefusal.TheVariants.{NotUtf8, TooLong}

module _ (s : List ℕ) where
  -- "Opening tests 1 and 2 and starts at 0; if refused, the reader stands at the text's length."
  pub opening_too_long : text_most < length s → opening_of s ≡ record { answer = Err (TooLong (record { 0 = length s })); at = record { 0 = length s } }
  opening_too_long = laws.refuses_long s

  pub opening_not_utf8 : length s ≤ text_most → first_fault s < length s → opening_of s ≡ record { answer = Err (NotUtf8 (record { 0 = first_fault s })); at = record { 0 = length s } }
  opening_not_utf8 = laws.refuses_broken s

  pub opening_starts : length s ≤ text_most → Whole s → opening_of s ≡ record { answer = (Ok tt); at = record { 0 = 0 } }
  opening_starts = laws.opens s

  -- "It answers the words in order": n calls answer the first n words, and as many as the text has bytes answer all of them.
  pub reads_in_order : (n : ℕ) → length s ≤ text_most → Whole s → answers n s (opening_of s).at.0 ≡ take n (words s)
  reads_in_order n = laws.opened_reads n s

  pub reads_all : (n : ℕ) → length s ≤ text_most → Whole s → length s ≤ n → answers n s (opening_of s).at.0 ≡ words s
  reads_all n = laws.opened_reads_all n s

  -- A reader whose opening was refused answers no word.
  pub refused_none : (n : ℕ) → ((opening_of s).answer ≡ (Ok tt) → ⊥) → answers n s (opening_of s).at.0 ≡ []
  refused_none n = laws.refused_reads n s

  -- "then "no more" at each call, the offset staying"
  pub no_more_stays : (i : ℕ) → (turn_of s i).found ≡ None → turn_of s i ≡ stay i
  no_more_stays = laws.no_more_stays s

  -- "also "no more" if the text exceeds 60,000 bytes, its offset is past the end or a fault as in 2 lies in the word to be read"
  pub no_more_too_long : (i : ℕ) → text_most < length s → turn_of s i ≡ stay i
  no_more_too_long = laws.turn_too_long s

  pub no_more_past : (i : ℕ) → length s ≤ i → turn_of s i ≡ stay i
  no_more_past = laws.turn_at_end s

  pub no_more_fault : (i : ℕ) → i < length s → first_fault (content s i) < length (content s i) → turn_of s i ≡ stay i
  no_more_fault = laws.turn_broken s
