-- The ruler: what stands at a column, and the loop over the columns.
use mathlib.Core.Path.{◌≡◌, refl, ◌∙◌}
use mathlib.Core.Bool.{true, false}
use mathlib.Core.List.{[], ◌∷◌}
use Prim.Native.Nat.{ℕ, suc, ◌+◌, ◌-◌, ◌/◌, ◌%◌, ◌≤◌, ◌<◌}
use native.Mathlib.Numerals.{add-one}
use native.Mathlib.Omega.{arith}
use lib.ListN.{length}
use borrow.Author.Tests.{eq-eqb, ne_eqb}
use Rattle.saying.specs.declared.Line.{Line}
use Rattle.saying.specs.Saying.{Said, digit_of}
use Rattle.saying.proofs.Laws.{said_then}
use Rattle.shown.specs.Slip.{top_mark, mark_of, Marks, marks_from, marks_of, digits_of, ruler_of}
use Rattle.shown.proofs.Telling.{Telling, telling_start, telling_step, telling_end}

-- ---- a column

module _ (width c : ℕ) where
  pub top_last : c ≡ width → 0x76 ≡ top_mark width c
  unfolding top_mark
  top_last e = rw (eq-eqb c width e)

  pub top_tens : {r : ℕ} → (c ≡ width → ⊥) → c % 10 ≡ 0 → r ≡ digit_of (c / 10 % 10) → r ≡ top_mark width c
  unfolding top_mark
  top_tens n e q = rw (ne_eqb c width n, eq-eqb (c % 10) 0 e) q

  pub top_space : (c ≡ width → ⊥) → (c % 10 ≡ 0 → ⊥) → 0x20 ≡ top_mark width c
  unfolding top_mark
  top_space n e = rw (ne_eqb c width n, ne_eqb (c % 10) 0 e)

pub ruleset columns = (top_last, top_tens, top_space)

-- A mark of the first row, and of the second.
pub marks_top : {given : ℕ → ℕ → Type 0} (width : ℕ) → ((c m : ℕ) → given c m → m ≡ top_mark width c) → Marks given width (mark_of true width)
unfolding mark_of
marks_top width h c m l g = h c m g

pub marks_digits : {given : ℕ → ℕ → Type 0} (width : ℕ) → ((c m : ℕ) → given c m → m ≡ digit_of (c % 10)) → Marks given width (mark_of false width)
unfolding mark_of
marks_digits width h c m l g = h c m g

-- ---- all columns

marks_next : (f : ℕ → ℕ) (c width : ℕ) → c < width → marks_from f c (width - c) ≡ f (c + 1) ∷ marks_from f (c + 1) (width - (c + 1))
unfolding marks_from
marks_next f c width l =
    let z : width - c ≡ suc (width - (c + 1)) = omega arith in
    rw (z, add-one c)

marks_none : (f : ℕ → ℕ) (c width : ℕ) → width ≤ c → marks_from f c (width - c) ≡ []
unfolding marks_from
marks_none f c width l = let z : width - c ≡ 0 = omega arith in rw z

-- The column after c is next; the line says the marks of those before it.
pub record Ruling (given : ℕ → ℕ → Type 0) (width : ℕ) (l : Line) (c : ℕ) (m : Line) : Type 0 where
  pub told : (f : ℕ → ℕ) → Marks given width f → Telling l (marks_from f 0 width) (marks_from f c (width - c)) m
  pub long : length m.room.now ≡ length l.room.now
  pub count : m.len ≡ l.len + c
  pub room : l.len + width ≤ length l.room.now

pub ruling_start : (given : ℕ → ℕ → Type 0) (width : ℕ) (l : Line) → l.len + width ≤ length l.room.now → Ruling given width l 0 l
ruling_start given width l h =
    let z : width - 0 ≡ width = omega arith in
    record { told = λ f p. rw z (telling_start l (marks_from f 0 width) (omega arith)); long = refl; count = omega arith; room = h }

module _ {given : ℕ → ℕ → Type 0} {width : ℕ} {l m : Line} {c : ℕ} (k : Ruling given width l c m) where
  pub ruling_room : c < width → m.len + 1 ≤ length m.room.now
  ruling_room h = omega (arith, k.room, k.long, k.count)

  pub ruling_step : {b : ℕ} {n : Line} → c < width → given (c + 1) b → Said m (b ∷ []) n → Ruling given width l (c + 1) n
  ruling_step {b} {n} h g s = record {
    told = λ f p. telling_step (b ∷ []) (marks_from f (c + 1) (width - (c + 1))) (k.told f p) s (rw (p (c + 1) b (omega arith) g) (marks_next f c width h));
    long = s.long ∙ k.long;
    count = omega (arith, k.count, s.count);
    room = k.room;
  }

  pub ruling_end : (f : ℕ → ℕ) → Marks given width f → width ≤ c → Said l (marks_from f 0 width) m
  ruling_end f p h = telling_end (k.told f p) (marks_none f c width h)

pub ruleset ruling = (ruling_start, ruling_room, ruling_step)

-- ---- the two rows

pub ruler_said : (width : ℕ) {k l m n q : Line} → Said k (marks_of true width) l → Said l (0x0A ∷ []) m → Said m (marks_of false width) n → Said n (0x7C ∷ 0x0A ∷ []) q → Said k (ruler_of width) q
unfolding ruler_of digits_of
ruler_said width a b c d = said_then a (said_then b (said_then c d))
