-- What the test of a text says of it, and of an answer that begins with that test.
use mathlib.Core.Path.{◌≡◌, sym, ap, ◌∙◌}
use mathlib.Core.List.{List}
use Prim.Native.Nat.{ℕ, ◌≤◌, ◌<◌}
use native.Mathlib.Omega.{arith}
use lib.ListN.{length}
use lib.Dec.{ltb}
use borrow.Author.Tests.{lt-ltb, le-ltb, ltb-true, ltb-false}
use Rattle.std.specs.Prelude.{Result, Ok, Err, ⊤}
use Rattle.units.specs.Limits.{width_most}
use Rattle.units.specs.declared.Columns.{Columns}
use Rattle.logic.proofs.Choice.{both}
use Rattle.chars.specs.Utf8.{first_fault, Whole}
use Rattle.chars.proofs.Laws.{fault_fits}
use Rattle.limits.specs.declared.TextRefusal.{TextRefusal}
use Rattle.limits.specs.declared.TextRefusal.TheVariants.{TooLong, NotUtf8, TooWide, NoRoom}
use Rattle.limits.specs.Limits.{admitted_then, admitted, narrow_then, narrow, listed_in}

-- A text that is admitted has no more bytes than it may, and is UTF-8.
pub record Admitted (most : ℕ) (s : List ℕ) : Type 0 where
  pub short : length s ≤ most
  pub whole : Whole s

pub admitted_ok : (most : ℕ) (s : List ℕ) → Ok tt ≡ admitted most s → Admitted most s
unfolding admitted
admitted_ok most s e =
    both (ltb most (length s))
    (λ t. let z : ◌≡◌ {A = Result ⊤ TextRefusal} (Ok tt) (Err (TooLong (record { 0 = length s }))) = e ∙ rw t in cc)
    (λ t.
    both (ltb (first_fault s) (length s))
    (λ u. let z : ◌≡◌ {A = Result ⊤ TextRefusal} (Ok tt) (Err (NotUtf8 (record { 0 = first_fault s }))) = e ∙ rw (t, u) in cc)
    (λ u. record { short = ltb-false most (length s) t; whole = omega (arith, ltb-false (first_fault s) (length s) u, fault_fits s) }))

module _ (most : ℕ) (s : List ℕ) {r : Result ⊤ TextRefusal} (e : r ≡ admitted most s) where
  pub short : r ≡ Ok tt → length s ≤ most
  short p = (admitted_ok most s (sym p ∙ e)).short

  pub whole : r ≡ Ok tt → Whole s
  whole p = (admitted_ok most s (sym p ∙ e)).whole

  -- Where a text is admitted, what follows decides; where it is not, its refusal is the answer.
  pub passes : {T : Type 0} {x y : Result T TextRefusal} → r ≡ Ok tt → x ≡ y → x ≡ admitted_then most s y
  passes {T} {x} {y} p q =
      let a = admitted_ok most s (sym p ∙ e) in
      rw (le-ltb most (length s) a.short, le-ltb (first_fault s) (length s) (omega (arith, a.whole)), q)

  pub stops : {T : Type 0} {x : Result T TextRefusal} (y : Result T TextRefusal) {why : TextRefusal} → r ≡ Err why → x ≡ Err why → x ≡ admitted_then most s y
  unfolding admitted
  stops {T} {x} y {why} p q =
      both (ltb most (length s))
      (λ t. let z : ◌≡◌ {A = Result ⊤ TextRefusal} (Err why) (Err (TooLong (record { 0 = length s }))) = sym p ∙ e ∙ rw t in let w : why ≡ TooLong (record { 0 = length s }) = cc in rw (t, ← w, q))
      (λ t.
      both (ltb (first_fault s) (length s))
      (λ u. let z : ◌≡◌ {A = Result ⊤ TextRefusal} (Err why) (Err (NotUtf8 (record { 0 = first_fault s }))) = sym p ∙ e ∙ rw (t, u) in let w : why ≡ NotUtf8 (record { 0 = first_fault s }) = cc in rw (t, u, ← w, q))
      (λ u. let z : ◌≡◌ {A = Result ⊤ TextRefusal} (Err why) (Ok tt) = sym p ∙ e ∙ rw (t, u) in cc))

pub ruleset admitting = (short, whole, passes, stops)

-- The same of a width.
pub narrow_ok : (width : ℕ) {w : Columns} → Ok w ≡ narrow width → (w ≡ record { 0 = width }) × (width ≤ width_most)
unfolding narrow
narrow_ok width {w} e =
    both (ltb width_most width)
    (λ t. let z : ◌≡◌ {A = Result Columns TextRefusal} (Ok w) (Err TooWide) = e ∙ rw t in cc)
    (λ t. let z : ◌≡◌ {A = Result Columns TextRefusal} (Ok w) (Ok (record { 0 = width })) = e ∙ rw t in (cc, ltb-false width_most width t))

module _ (width : ℕ) {r : Result Columns TextRefusal} (e : r ≡ narrow width) where
  pub fits_paper : {w : Columns} → r ≡ Ok w → w.0 ≤ width_most
  fits_paper {w} p = let a = narrow_ok width (sym p ∙ e) in omega (arith, a.1, ap (λ (c : Columns). c.0) a.0)

  pub is_width : {w : Columns} → r ≡ Ok w → w.0 ≡ width
  is_width {w} p = ap (λ (c : Columns). c.0) (narrow_ok width (sym p ∙ e)).0

  pub narrow_passes : {T : Type 0} {x y : Result T TextRefusal} {w : Columns} → r ≡ Ok w → x ≡ y → x ≡ narrow_then width y
  narrow_passes p q = let a = narrow_ok width (sym p ∙ e) in rw (le-ltb width_most width a.1, q)

  pub narrow_stops : {T : Type 0} {x : Result T TextRefusal} (y : Result T TextRefusal) {why : TextRefusal} → r ≡ Err why → x ≡ Err why → x ≡ narrow_then width y
  unfolding narrow
  narrow_stops {T} {x} y {why} p q =
      both (ltb width_most width)
      (λ t. let z : ◌≡◌ {A = Result Columns TextRefusal} (Err why) (Err TooWide) = sym p ∙ e ∙ rw t in let w : why ≡ TooWide = cc in rw (t, ← w, q))
      (λ t. let z : ◌≡◌ {A = Result Columns TextRefusal} (Err why) (Ok (record { 0 = width })) = sym p ∙ e ∙ rw t in cc)

pub ruleset narrowing = (fits_paper, is_width, narrow_passes, narrow_stops)
