-- The tally and the line that says it.
use mathlib.Core.Path.{◌≡◌}
use mathlib.Core.Bool.{Bool, true, false}
use mathlib.Core.List.{[], ◌∷◌, ◌++◌}
use Prim.Native.Nat.{ℕ, ◌+◌, ◌≤◌}
use lib.ListN.{length}
use borrow.Author.Tests.{eq-eqb, ne_eqb, not-true, not-false}
use Rattle.saying.specs.declared.Line.{Line}
use Rattle.saying.specs.Saying.{Said, decimal_of}
use Rattle.saying.proofs.Laws.{said_none, said_then}
use Rattle.shown.specs.declared.Tally.{Tally}
use Rattle.shown.specs.Slip.{first_of, counted_of, first_word, lines_word, wide_word, first_wide, summary_of}

module _ (t : Tally) where
  pub first_here : (n : ℕ) → t.wide ≡ 0 → n ≡ first_of t n
  first_here n e = rw (eq-eqb t.wide 0 e)

  pub first_before : (n : ℕ) → (t.wide ≡ 0 → ⊥) → t.first ≡ first_of t n
  first_before n e = rw (ne_eqb t.wide 0 e)

  pub counted_fits : {wide : Bool} → wide ≡ false → record { lines = t.lines + 1; wide = t.wide; first = t.first } ≡ counted_of t wide
  unfolding counted_of
  counted_fits e = rw e

  pub counted_wide : {wide : Bool} {f : ℕ} → wide ≡ true → f ≡ first_of t (t.lines + 1) → record { lines = t.lines + 1; wide = t.wide + 1; first = f } ≡ counted_of t wide
  unfolding counted_of
  counted_wide e q = rw (e, q)

  pub first_none : {l : Line} → t.wide ≡ 0 → l.len ≤ length l.room.now → Said l (first_wide t) l
  unfolding first_wide
  first_none {l} e h = rw (eq-eqb t.wide 0 e) (said_none l h)

  pub first_said : {l m : Line} → (t.wide ≡ 0 → ⊥) → Said l (first_word ++ decimal_of t.first) m → Said l (first_wide t) m
  unfolding first_wide
  first_said e s = rw (ne_eqb t.wide 0 e) s

  pub summary_said : {k l m n q : Line} → Said k (lines_word ++ decimal_of t.lines) l → Said l (wide_word ++ decimal_of t.wide) m → Said m (first_wide t) n → Said n (0x0A ∷ []) q → Said k (summary_of t) q
  unfolding summary_of
  summary_said a b c d = said_then a (said_then b (said_then c d))

pub ruleset tallies = (first_here, first_before, counted_fits, counted_wide, first_none, first_said, summary_said, not-true, not-false)
