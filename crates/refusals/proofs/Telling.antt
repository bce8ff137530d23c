-- The sentence of a number, by its row in the table; and the place of a refusal, where it has one.
use mathlib.Core.Path.{◌≡◌, refl, sym, ◌∙◌}
use mathlib.Core.Bool.{Bool, true, false}
use mathlib.Core.List.{List, ◌++◌}
use Prim.Native.Nat.{ℕ, zero, suc, ◌≤◌, ◌<◌}
use native.Mathlib.Omega.{arith}
use lib.ListN.{length, get_or, get_or-eq_default}
use borrow.Author.Tests.{ne_eqb}
use Rattle.std.specs.Prelude.{Option, Some, None, eqb}
use Rattle.std.specs.Option.{option_eq}
use Rattle.units.specs.contracts.RefusalPartialEq.TheImpl.{eq-value}
use Rattle.units.specs.declared.Refusal.{Refusal}
use Rattle.units.specs.declared.Refusal.TheVariants.{TooLong, NotUtf8, TooWide, TooMany, Unequal, BigPenalty, NoRoom, TooDear, Lengths, BadChange, WideLine, ManyLines, WrongMark, Cut}
use Rattle.units.specs.Numbers.{number_of}
use Rattle.saying.specs.declared.Line.{Line}
use Rattle.saying.specs.Saying.{Said, decimal_of}
use Rattle.saying.specs.Ascii.{ascii}
use Rattle.saying.proofs.Laws.{said_none, said_then}
use Rattle.parting.specs.Parting.{parts_at}
use Rattle.refusals.specs.declared.Spot.{Spot}
use Rattle.refusals.specs.Places.{spot_of}
use Rattle.refusals.specs.Sentences.{Numbers, unknown, sentences, sentence}
use Rattle.refusals.specs.Lines.{has_place, in_after, shown_place, place_words, place_part, parting_part}

-- ---- the sentence

-- The refusal that is known has the number.
named : {o : Option Refusal} (why : Refusal) → o ≡ Some why → (number : ℕ) → Numbers number o → number_of why ≡ number
named why i number k = rw i at k

module _ {l m : Line} {b : List ℕ} {o : Option Refusal} {why : Refusal} (r : Refusal) (w p q : ℕ) where
  pub by_name : o ≡ Some why → why ≡ r → b ≡ get_or (sentences w p q) (number_of r) unknown → Said l b m → (number : ℕ) → Numbers number o → Said l (sentence number w p q) m
  unfolding sentence
  by_name i e d s number k = rw (← named why i number k, e, ← d) s

-- Past the table, and at 0, stands that there is none.
beyond : {l m : Line} (number w p q : ℕ) → (0 < number → 14 < number) → Said l unknown m → Said l (sentence number w p q) m
unfolding sentence
beyond zero w p q f s = s
beyond (suc k) w p q f s = rw (get_or-eq_default (sentences w p q) unknown (f (omega arith))) s

pub past_table : {l m : Line} {o : Option Refusal} (w p q : ℕ) → o ≡ None → Said l unknown m → (number : ℕ) → Numbers number o → Said l (sentence number w p q) m
past_table w p q e s number k = let f : 0 < number → 14 < number = rw e at k in beyond number w p q f s

-- ---- the place

-- A byte of a text and where it is found, part by part.
pub spot_said : {i j k l m : Line} (spot : Spot) (place : ℕ) (text : List ℕ)
    → Said i (ascii " at byte " ++ decimal_of place) j
    → Said j (ascii " (line " ++ decimal_of spot.line) k
    → Said k (ascii ", column " ++ decimal_of spot.column) l
    → Said l (ascii ")") m
    → spot ≡ spot_of text place
    → Said i (place_words place text) m
spot_said spot place text a b c d e =
    let b' = rw e at b in
    let c' = rw e at c in
    said_then a (said_then b' (said_then c' d))

-- Where no refusal has the number, it has no place.
pub unknown_place : {l : Line} {o : Option Refusal} (place : ℕ) (before after : List ℕ) → o ≡ None → l.len ≤ length l.room.now
    → (number : ℕ) → Numbers number o → Said l (place_part number place before after) l
unfolding place_part
unknown_place {l} place before after e w number k =
    let f : 0 < number → 14 < number = rw e at k in
    rw (ne_eqb number 1 (λ e. omega (arith, f)), ne_eqb number 2 (λ e. omega (arith, f)), ne_eqb number 10 (λ e. omega (arith, f)), ne_eqb number 11 (λ e. omega (arith, f)), ne_eqb number 12 (λ e. omega (arith, f))) (said_none l w)

module _ {h : Bool} {l : Line} {o : Option Refusal} (why : Refusal) (place : ℕ) (before after : List ℕ) (i : o ≡ Some why) (e : h ≡ has_place (number_of why)) where
  pub no_place : h ≡ false → l.len ≤ length l.room.now → (number : ℕ) → Numbers number o → Said l (place_part number place before after) l
  unfolding place_part
  no_place d w number k = rw (← named why i number k, sym e ∙ d) (said_none l w)

  module _ {t : Bool} {m : Line} {p : ℕ} (d : h ≡ true) (f : p ≡ shown_place (number_of why) place) (g : t ≡ in_after (number_of why) before) where
    pub place_after : t ≡ true → Said l (place_words p after) m → (number : ℕ) → Numbers number o → Said l (place_part number place before after) m
    unfolding place_part
    place_after w s number k = rw (← named why i number k, sym e ∙ d, sym g ∙ w, ← f) s

    pub place_before : t ≡ false → Said l (place_words p before) m → (number : ℕ) → Numbers number o → Said l (place_part number place before after) m
    unfolding place_part
    place_before w s number k = rw (← named why i number k, sym e ∙ d, sym g ∙ w, ← f) s

-- ---- where the texts part

-- `==` at 9 tests for its number.
lengths_is : (number : ℕ) (o : Option Refusal) → Numbers number o → option_eq eq-value.it o (Some Lengths) ≡ eqb number 9
lengths_is number None k = sym (ne_eqb number 9 (λ e. omega (arith, k)))
lengths_is number (Some TooLong) k = rw (← k) refl
lengths_is number (Some NotUtf8) k = rw (← k) refl
lengths_is number (Some TooWide) k = rw (← k) refl
lengths_is number (Some TooMany) k = rw (← k) refl
lengths_is number (Some Unequal) k = rw (← k) refl
lengths_is number (Some BigPenalty) k = rw (← k) refl
lengths_is number (Some NoRoom) k = rw (← k) refl
lengths_is number (Some TooDear) k = rw (← k) refl
lengths_is number (Some Lengths) k = rw (← k) refl
lengths_is number (Some BadChange) k = rw (← k) refl
lengths_is number (Some WideLine) k = rw (← k) refl
lengths_is number (Some ManyLines) k = rw (← k) refl
lengths_is number (Some WrongMark) k = rw (← k) refl
lengths_is number (Some Cut) k = rw (← k) refl

module _ {r : Bool} {l : Line} (o : Option Refusal) (before after : List ℕ) (q : r ≡ option_eq eq-value.it o (Some Lengths)) where
  pub no_parting : r ≡ false → l.len ≤ length l.room.now → (number : ℕ) → Numbers number o → Said l (parting_part number before after) l
  unfolding parting_part
  no_parting d w number k = rw (← lengths_is number o k, ← q, d) (said_none l w)

  pub parting_said : {m n : Line} {place : ℕ} → r ≡ true → place ≡ parts_at before after → Said l (ascii "; they part") m → Said m (place_words place after) n
      → (number : ℕ) → Numbers number o → Said l (parting_part number before after) n
  unfolding parting_part
  parting_said d f a b number k = rw (← lengths_is number o k, ← q, d, ← f) (said_then a b)
