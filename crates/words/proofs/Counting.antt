-- How many words there are: at each word's start, those passed and those from there on are all of them.
use mathlib.Core.Path.{◌≡◌, ap}
use mathlib.Core.List.{List, [], ◌∷◌}
use Prim.Native.Nat.{ℕ, ◌+◌, ◌-◌, ◌≤◌, ◌<◌}
use native.Mathlib.Omega.{arith}
use lib.ListN.{length, drop}
use Rattle.logic.specs.Count.{count}
use Rattle.logic.specs.Items.{items}
use Rattle.logic.proofs.Items.{items_next, items_none}
use Rattle.words.specs.declared.Word.{Word}
use Rattle.words.specs.Words.{space, letter, content_end, white, after_word, word_at, words}
use Rattle.words.proofs.Laws.{after_later}

-- The words from a place on.
abbrev pub words_from : List ℕ → ℕ → List Word
words_from s i = items (word_at s) (after_word s) (length s) i

pub words_next : (s : List ℕ) (i : ℕ) → i < length s → words_from s i ≡ word_at s i ∷ words_from s (after_word s i)
words_next s i l = items_next (word_at s) (after_word s) (length s) (after_later s) i l

pub words_none : (s : List ℕ) (i : ℕ) → length s ≤ i → words_from s i ≡ []
words_none s i l = items_none (word_at s) (after_word s) (length s) i l

pub record Counted (s : List ℕ) (at n : ℕ) : Type 0 where
  pub same : n + length (words_from s at) ≡ length (words s)
  pub room : n ≤ at

pub counted_start : (s : List ℕ) → Counted s 0 0
unfolding words
counted_start s = record { same = omega arith; room = omega arith }

module _ {s : List ℕ} {at n : ℕ} (k : Counted s at n) where
  pub counted_step : {e f : ℕ} → at < length s → e ≡ at + count letter (drop at s) → f ≡ e + count space (drop e s) → Counted s f (n + 1)
  unfolding after_word white content_end
  counted_step {e} {f} l p q =
      let a : f ≡ after_word s at = rw (q, p) in
      let g = after_later s at l in
      rw a (record { same = omega (arith, k.same, ap length (words_next s at l)); room = omega (arith, k.room) })

  pub counted_end : length s ≤ at → n ≡ length (words s)
  counted_end l = omega (arith, k.same, ap length (words_none s at l))

-- What is passed of a text is less and less.
pub counted_less : (s : List ℕ) {at e f : ℕ} → at < length s → e ≡ at + count letter (drop at s) → f ≡ e + count space (drop e s) → length s - f < length s - at
unfolding after_word white content_end
counted_less s {at} {e} {f} l p q =
    let a : f ≡ after_word s at = rw (q, p) in
    let g = after_later s at l in
    omega (arith, a)

pub ruleset counting_words = (counted_start, counted_step, counted_end, counted_less)
