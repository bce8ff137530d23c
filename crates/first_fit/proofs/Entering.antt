-- What the entry answers, by the tests that it made.
use Rattle.std.proofs.Common.{Result, Ok, Err}
use mathlib.Core.Path.{◌≡◌, refl}
use mathlib.Core.List.{List}
use Prim.Native.Nat.{ℕ, ◌≤◌, ◌<◌, max}
use native.Mathlib.Omega.{arith}
use lib.ListN.{length}
use borrow.Author.Tests.{lt-ltb, le-ltb}
use Rattle.fragments.specs.declared.ListRefusal.{ListRefusal}
use Rattle.fragments.specs.declared.ListRefusal.TheVariants.{NoRoom}
use Rattle.fragments.specs.Fragments.{fragments}
use Rattle.fragments.specs.Lists.{list_test}
use Rattle.fragments.proofs.Laws.{Sound, tested_good}
use Rattle.first_fit.specs.FirstFit.{line_ends}
use Rattle.first_fit.specs.Entry.{laid_of, first_fit_of, Lists}
use Rattle.first_fit.proofs.Laying.{ends_none}

module _ (words whites penalties widths : List ℕ) (room : ℕ) {t : Result (Unit {0}) ListRefusal} (q : t ≡ list_test words whites penalties widths) where
  by_test : {t' : Result (Unit {0}) ListRefusal} {l : Result ℕ ListRefusal} → t ≡ t' → l ≡ laid_of t' (length words) room (length (line_ends widths (fragments words whites penalties)))
      → l ≡ first_fit_of words whites penalties widths room
  unfolding first_fit_of
  by_test p r = rw (← q, p) r

  pub laid_refused : {why : ListRefusal} → t ≡ Err why → Err why ≡ first_fit_of words whites penalties widths room
  laid_refused p = by_test p refl

  module _ {n : ℕ} (p : t ≡ Ok tt) (en : n ≡ length words) where
    sound : Sound (length words) (length whites) (length penalties)
    sound = (tested_good _ _ _ _ (rw q at p)).0

    pub laid_room : {needed : ℕ} → needed ≡ max 1 n → room < needed → Err (NoRoom needed) ≡ first_fit_of words whites penalties widths room
    laid_room k l = by_test p (rw (← en, ← k, lt-ltb room _ l))

    pub laid_lines : {needed lines : ℕ} → needed ≡ max 1 n → needed ≤ room → lines ≡ length (line_ends widths (fragments words whites penalties))
        → Ok lines ≡ first_fit_of words whites penalties widths room
    laid_lines k l h = by_test p (rw (← h, ← en, ← k, le-ltb room _ l))

    pub laid_none : {needed : ℕ} → needed ≡ max 1 n → needed ≤ room → n ≡ 0 → Ok 1 ≡ first_fit_of words whites penalties widths room
    laid_none k l z = laid_lines k l (rw (ends_none widths words whites penalties (omega arith)))

    pub lists_fit : {needed : ℕ} → needed ≡ max 1 n → needed ≤ room → Lists words whites penalties room
    lists_fit k l = record { whites_same = sound.whites_same; penalties_same = sound.penalties_same; few = sound.few; room_enough = omega arith }

pub ruleset entering = (laid_refused, laid_room, laid_lines, laid_none, lists_fit)
