-- What `judge_changes`, `check` and `answer_of` answer, one law for each way through them.
use mathlib.Core.Path.{◌≡◌, sym, ◌∙◌}
use mathlib.Core.List.{List}
use Prim.Native.Nat.{ℕ, ◌≤◌, ◌<◌}
use native.Mathlib.Omega.{arith}
use lib.ListN.{length}
use borrow.Author.Tests.{lt-ltb, le-ltb, eq-eqb, ne_eqb}
use Rattle.units.specs.declared.Offset.{Offset}
use Rattle.units.specs.declared.Answer.{Answer}
use Rattle.units.specs.Limits.{text_most, width_most}
use Rattle.chars.specs.Utf8.{first_fault, Whole, checked}
use Rattle.chars.proofs.Reading.{checked_whole, checked_fault}
use Rattle.lines.specs.Lines.{input_lines}
use Rattle.judge.specs.Change.{first_bad, bad_of}
use Rattle.judge.specs.Judge.{lines_of, changes_of, judge_of, answer_of}
use Rattle.std.specs.Prelude.{Err, None, Option, Result, Some, ⊤}
use Rattle.logic.proofs.Choice.{both}
use lib.Dec.{ltb}
use Rattle.judge.specs.declared.Rejection.{Rejection}
use Rattle.judge.specs.declared.Rejection.TheVariants.{BadChange, Lengths, Text}
use Rattle.limits.specs.declared.TextRefusal.TheVariants.{NotUtf8, TooLong, TooWide}

pub answer_of_lem : {r : Answer} {j k : Result ⊤ Rejection} → j ≡ k → r ≡ answer_of k → r ≡ answer_of j
answer_of_lem p q = rw p q

-- ---- `judge_changes`

module _ (width : ℕ) (b a : List ℕ) {bad : Option Offset} (e : bad ≡ bad_of b a) where
  pub changes_bad : {o : Offset} → bad ≡ Some o → Err (BadChange o) ≡ changes_of width b a
  unfolding changes_of
  changes_bad {o} h =
      both (ltb (first_bad b a) (length b))
      (λ t.
      let z : ◌≡◌ {A = Option Offset} (Some o) (Some (record { 0 = first_bad b a })) = sym h ∙ e ∙ rw t in
      let w : o ≡ record { 0 = first_bad b a } = cc in
      rw (t, w))
      (λ t. let z : ◌≡◌ {A = Option Offset} (Some o) None = sym h ∙ e ∙ rw t in cc)

  pub changes_lines : {r : Result ⊤ Rejection} → bad ≡ None → r ≡ lines_of width b a (input_lines b) → r ≡ changes_of width b a
  unfolding changes_of
  changes_lines {r} h f =
      both (ltb (first_bad b a) (length b))
      (λ t. let z : ◌≡◌ {A = Option Offset} None (Some (record { 0 = first_bad b a })) = sym h ∙ e ∙ rw t in cc)
      (λ t. rw t f)

pub ruleset changes = (changes_bad, changes_lines)

-- ---- `check`

module _ (width : ℕ) (b a : List ℕ) where
  pub check_long : text_most < length b → Err (Text (TooLong (record { 0 = length b }))) ≡ judge_of width b a
  unfolding judge_of
  check_long h = rw (lt-ltb text_most (length b) h)

  module _ (h : length b ≤ text_most) where
    pub check_long_after : text_most < length a → Err (Text (TooLong (record { 0 = length a }))) ≡ judge_of width b a
    unfolding judge_of
    check_long_after g = rw (le-ltb text_most (length b) h, lt-ltb text_most (length a) g)

    module _ (g : length a ≤ text_most) {r : Option Offset} (e : r ≡ checked b) where
      pub check_fault : {o : Offset} → r ≡ Some o → Err (Text (NotUtf8 o)) ≡ judge_of width b a
      unfolding judge_of
      check_fault {o} p =
          let f = checked_fault b (sym p ∙ e) in
          rw (le-ltb text_most (length b) h, le-ltb text_most (length a) g, lt-ltb (first_fault b) (length b) f.1, f.0)

      module _ (p : r ≡ None) where
        pub check_width : width_most < width → (Err (Text TooWide)) ≡ judge_of width b a
        unfolding judge_of
        check_width w =
            let f = checked_whole b (sym p ∙ e) in
            rw (le-ltb text_most (length b) h, le-ltb text_most (length a) g, le-ltb (first_fault b) (length b) (omega (arith, f)), lt-ltb width_most width w)

        module _ (w : width ≤ width_most) where
          pub check_lengths : (length a ≡ length b → ⊥) → (Err Lengths) ≡ judge_of width b a
          unfolding judge_of
          check_lengths d =
              let f = checked_whole b (sym p ∙ e) in
              rw (le-ltb text_most (length b) h, le-ltb text_most (length a) g, le-ltb (first_fault b) (length b) (omega (arith, f)), le-ltb width_most width w, ne_eqb (length a) (length b) d)

          pub check_judged : {j : Result ⊤ Rejection} → length a ≡ length b → j ≡ changes_of width b a → j ≡ judge_of width b a
          unfolding judge_of
          check_judged d q =
              let f = checked_whole b (sym p ∙ e) in
              rw (le-ltb text_most (length b) h, le-ltb text_most (length a) g, le-ltb (first_fault b) (length b) (omega (arith, f)), le-ltb width_most width w, eq-eqb (length a) (length b) d) q

pub check_whole : (b : List ℕ) {r : Option Offset} → r ≡ checked b → r ≡ None → Whole b
check_whole b e p = checked_whole b (sym p ∙ e)

pub ruleset checking = (check_long, check_long_after, check_fault, check_width, check_lengths, check_judged, check_whole)
