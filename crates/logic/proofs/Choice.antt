-- What a choice by a test comes to, from what the test says. `search (picks, needs)` goes through a definition that is made of `pick`.
use mathlib.Core.Path.{◌≡◌, refl, sym, ◌∙◌}
use mathlib.Core.Bool.{Bool, true, false, ◌&&◌, ◌||◌}
use Prim.Native.Nat.{ℕ, ◌≤◌, ◌<◌}
use lib.Dec.{leb}
use native.Mathlib.Omega.{arith}
use borrow.Author.Tests.{lt-ltb, le-ltb, le-leb, lt-leb, eq-eqb, ne_eqb, leb-true, leb-false}
use Rattle.logic.specs.Choice.{pick, within}

pub pick_true : {A : Type 0} {r : A} (t : Bool) (a b : A) → t ≡ true → r ≡ a → r ≡ pick t a b
pick_true t a b p q = rw p q

pub pick_false : {A : Type 0} {r : A} (t : Bool) (a b : A) → t ≡ false → r ≡ b → r ≡ pick t a b
pick_false t a b p q = rw p q

-- a test that a call made: what the call ensures of its result, and what the branch says of it
pub by_result : {t r b : Bool} → r ≡ t → r ≡ b → t ≡ b
by_result p q = sym p ∙ q

pub within_true : (lo hi n : ℕ) → lo ≤ n → n ≤ hi → within lo hi n ≡ true
within_true lo hi n p q = rw (le-leb lo n p, le-leb n hi q)

pub within_below : (lo hi n : ℕ) → n < lo → within lo hi n ≡ false
within_below lo hi n p = rw (lt-leb lo n p)

pub within_above : (lo hi n : ℕ) → lo ≤ n → hi < n → within lo hi n ≡ false
within_above lo hi n p q = rw (le-leb lo n p, lt-leb n hi q)

pub ruleset picks = (pick_true, pick_false, lt-ltb, le-ltb, le-leb, lt-leb, eq-eqb, ne_eqb, within_true, within_below, within_above, by_result)

-- To go by a test, with what it says in hand.
pub both : {P : Type 0} (t : Bool) → (t ≡ true → P) → (t ≡ false → P) → P
both true p q = p refl
both false p q = q refl

pub clash : {t : Bool} → t ≡ true → t ≡ false → ⊥
clash p q = let z : ◌≡◌ {A = ℕ} 0 1 = cc in omega arith

pub and_true : (p q : Bool) → (p && q) ≡ true → (p ≡ true) × (q ≡ true)
and_true true q e = (refl, e)
and_true false q e = (cc, cc)

pub or_true : {P : Type 0} (p q : Bool) → (p || q) ≡ true → (p ≡ true → P) → (q ≡ true → P) → P
or_true true q e f g = f refl
or_true false q e f g = g e

pub neither : (p q : Bool) → (p || q) ≡ false → (p ≡ false) × (q ≡ false)
neither true q e = (cc, cc)
neither false q e = (refl, e)

pub within_says : (lo hi n : ℕ) → within lo hi n ≡ true → (lo ≤ n) × (n ≤ hi)
within_says lo hi n e =
    let p = and_true (leb lo n) (leb n hi) e in
    (leb-true lo n p.0, leb-true n hi p.1)

pub outside : (lo hi n : ℕ) → within lo hi n ≡ false → lo ≤ n → hi < n
outside lo hi n e l = leb-false n hi (rw (le-leb lo n l) at e)

-- What is false without p is p's where it is true.
pub needs_true : (p : Bool) {q : Bool} → (p ≡ false → q ≡ false) → q ≡ true → p ≡ true
needs_true true f e = refl
needs_true false f e = let g = f refl in cc

-- Both choices are at most n.
pub pick_le : (t : Bool) (a b n : ℕ) → a ≤ n → b ≤ n → pick t a b ≤ n
pick_le true a b n p q = p
pick_le false a b n p q = q
