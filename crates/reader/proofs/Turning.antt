-- What `open_at`, `turn_at` and `answer_of` answer, one law for each way through them.
use mathlib.Core.Path.{◌≡◌, sym, ◌∙◌}
use mathlib.Core.Bool.{Bool, true, false}
use mathlib.Core.List.{List}
use Prim.Native.Nat.{ℕ}
use lib.Dec.{ltb}
use lib.ListN.{length}
use Rattle.units.specs.declared.Offset.{Offset}
use Rattle.units.specs.Limits.{text_most}
use Rattle.logic.proofs.Choice.{both}
use Rattle.words.specs.declared.Word.{Word}
use Rattle.words.specs.declared.Step.{Step}
use Rattle.words.specs.declared.Step.TheVariants.{Found, End, Fault}
use Rattle.words.specs.Words.{step_at}
use Rattle.reader.specs.declared.Turn.{Turn}
use Rattle.reader.specs.Reader.{opening_of, stay, turn_of}
use Rattle.std.specs.Prelude.{Err, None, Ok, Option, Result, Some, ⊤}
use Rattle.limits.specs.declared.TextRefusal.{TextRefusal}
use Rattle.limits.specs.Limits.{admitted}

-- ---- opening

module _ (s : List ℕ) {r : Result ⊤ TextRefusal} (e : r ≡ admitted text_most s) where
  pub opening_ready : r ≡ Ok tt → record { answer = Ok tt; at = record { 0 = 0 } } ≡ opening_of s
  unfolding opening_of
  opening_ready p = rw (← e, p)

  pub opening_refused : {why : TextRefusal} → r ≡ Err why → record { answer = Err why; at = record { 0 = length s } } ≡ opening_of s
  unfolding opening_of
  opening_refused p = rw (← e, p)

pub ruleset opening = (opening_ready, opening_refused)

-- ---- a turn

pub turn_long : (s : List ℕ) (i : ℕ) {b : Bool} {t : Turn} → b ≡ ltb text_most (length s) → b ≡ true → t ≡ stay i → t ≡ turn_of s i
unfolding turn_of
turn_long s i l m q = rw (sym l ∙ m) q

module _ (s : List ℕ) (i : ℕ) {b : Bool} {r : Step} (l : b ≡ ltb text_most (length s)) (m : b ≡ false) (e : r ≡ step_at s i) where
  pub turn_word : {w : Word} {o : Offset} → r ≡ Found w o → record { found = Some w; next = o } ≡ turn_of s i
  unfolding turn_of
  turn_word p = rw (sym l ∙ m, ← e, p)

  pub turn_end : {t : Turn} → r ≡ End → t ≡ stay i → t ≡ turn_of s i
  unfolding turn_of
  turn_end p q = rw (sym l ∙ m, ← e, p) q

  pub turn_fault : {t : Turn} {o : Offset} → r ≡ Fault o → t ≡ stay i → t ≡ turn_of s i
  unfolding turn_of
  turn_fault p q = rw (sym l ∙ m, ← e, p) q

pub ruleset turning = (turn_long, turn_word, turn_end, turn_fault)
