-- The arguments as one row of bytes: each argument, and a byte 0 after it. A word is what stands before a 0, or before the end.
use Rattle.std.specs.Prelude.{◌≡◌, ℕ, ◌+◌, ◌-◌, Bool, true, false, ◌&&◌, not, List, [], ◌∷◌, eqb, ltb, leb, length, take, drop}
use Rattle.logic.specs.Choice.{pick}
use Rattle.logic.specs.Count.{count}
use Rattle.asked.specs.declared.Part.{Part}

abbrev pub in_word : ℕ → Bool
in_word b = not (eqb b 0)

-- Where the word that starts at a place ends,
unfoldable pub end_at : List ℕ → ℕ → ℕ
end_at b at = at + count in_word (drop at b)

-- where the next one starts: past the 0, or at the end where there is none,
unfoldable pub after_of : List ℕ → ℕ → ℕ
after_of b at = pick (ltb (end_at b at) (length b)) (end_at b at + 1) (end_at b at)

-- its bytes, and where it stands.
abbrev pub word_at : List ℕ → ℕ → List ℕ
word_at b at = take (end_at b at - at) (drop at b)

abbrev pub part_at : List ℕ → ℕ → Part
part_at b at = record { start = at; end = end_at b at }

abbrev pub nowhere : Part
nowhere = record { start = 0; end = 0 }

-- There is no word at a place.
abbrev pub none : List ℕ → ℕ → Bool
none b at = leb (length b) at

-- The words of c from a place on are those of b after the word at another.
pub record IsAfter (c : List ℕ) (next : ℕ) (b : List ℕ) (at : ℕ) : Type 0 where
  pub block : c ≡ b
  pub place : next ≡ after_of b at

-- Two rows of bytes are the same.
unfoldable pub same : List ℕ → List ℕ → Bool
same [] [] = true
same [] (b ∷ t) = false
same (a ∷ s) [] = false
same (a ∷ s) (b ∷ t) = eqb a b && same s t

-- How many bytes of a word are passed after one more byte: a 0 ends the word.
abbrev pub run_after : ℕ → ℕ → ℕ
run_after run b = pick (in_word b) (run + 1) 0

-- A word has more than so many bytes, where `run` bytes of it are passed already.
unfoldable pub runs_over : ℕ → ℕ → List ℕ → Bool
runs_over most run [] = false
runs_over most run (b ∷ t) = pick (ltb most (run_after run b)) true (runs_over most (run_after run b) t)
