-- THE CHECK, demand 3: it accepts exactly what is asked of it, over all groupings of each input line's words; whatever the fill writes at a width is accepted; and each refusal comes exactly when document 01
-- says, at that place, in its order 1 (before, then after), 2, 3, 9, 10, 11, 12.
use mathlib.Core.Path.{◌≡◌, refl, sym, ap, ◌∙◌}
use mathlib.Core.Logic.{◌↔◌}
use mathlib.Core.List.{List}
use Prim.Native.Nat.{ℕ, ◌≤◌, ◌<◌}
use native.Mathlib.Omega.{arith}
use lib.Dec.{eqb}
use lib.ListN.{length}
use borrow.Author.Tests.{lt-ltb, le-ltb, eq-eqb, ne_eqb}
use Rattle.units.specs.declared.Answer.{Answer}
use Rattle.units.specs.Limits.{text_most, width_most}
use Rattle.units.specs.Answers.{success, refusal}
use Rattle.logic.specs.Choice.{pick}
use Rattle.chars.specs.Utf8.{first_fault, Whole}
use Rattle.lines.specs.Breaks.{filled}
use Rattle.judge.specs.Judge.{changes_of, judge_of, answer_of}
use Rattle.judge.specs.Demand.{Limits, AcceptedText, BadAt, WideLineAt, ManyLinesAt}
use Rattle.judge.proofs.Accepting.{accepts}
use Rattle.judge.proofs.Filled.{filled_accepted}
use Rattle.judge.proofs.Refusing.{says_bad, says_wide, says_many, bad_said, wide_said, many_said}
use Rattle.std.specs.Prelude.{Err, Ok, Result, ⊤}
use Rattle.judge.specs.declared.Rejection.{Rejection}
use Rattle.judge.specs.declared.Rejection.TheVariants.{BadChange, Lengths, ManyLines, Text, WideLine}
use Rattle.limits.specs.declared.TextRefusal.TheVariants.{NoRoom, NotUtf8, TooLong, TooWide}

-- Each answer has numbers of its own, so that what is said of the numbers is said of the answer.
judged_of : Answer → Result ⊤ Rejection
judged_of a =
    pick (eqb a.number 0) (Ok tt)
    (pick (eqb a.number 1) (Err (Text (TooLong (record { 0 = a.place }))))
    (pick (eqb a.number 2) (Err (Text (NotUtf8 (record { 0 = a.place }))))
    (pick (eqb a.number 3) (Err (Text TooWide))
    (pick (eqb a.number 7) (Err (Text (NoRoom a.place)))
    (pick (eqb a.number 9) (Err Lengths)
    (pick (eqb a.number 10) (Err (BadChange (record { 0 = a.place })))
    (pick (eqb a.number 11) (Err (WideLine (record { 0 = a.place })))
    (Err (ManyLines (record { 0 = a.place }))))))))))

told_back : (j : Result ⊤ Rejection) → judged_of (answer_of j) ≡ j
unfolding judged_of answer_of
told_back (Ok tt) = refl
told_back (Err (Text (TooLong l))) = refl
told_back (Err (Text (NotUtf8 o))) = refl
told_back (Err (Text TooWide)) = refl
told_back (Err (Text (NoRoom n))) = refl
told_back (Err Lengths) = refl
told_back (Err (BadChange o)) = refl
told_back (Err (WideLine o)) = refl
told_back (Err (ManyLines o)) = refl

told : (j k : Result ⊤ Rejection) → answer_of j ≡ answer_of k → j ≡ k
told j k e = sym (told_back j) ∙ ap judged_of e ∙ told_back k

-- The check accepts exactly if the text before and the width are within the limits and: lengths agree; each changed byte was the last space before a further word of its input line and is now a newline; each
-- line so formed holds one word or fits; and no other grouping of an input line's words has fewer lines.
pub check_accepts : (width : ℕ) (before after : List ℕ) → (answer_of (judge_of width before after) ≡ success 0) ↔ (Limits width before × AcceptedText width before after)
unfolding answer_of
check_accepts width before after =
    let a = accepts width before after in
    (λ e. a.0 (told (judge_of width before after) (Ok tt) e), λ h. ap answer_of (a.1 h))

-- "Whatever the in-place fill writes at that width is accepted against the text it was given."
pub check_filled : (width : ℕ) (text : List ℕ) → Limits width text → answer_of (judge_of width text (filled width text)) ≡ success 0
check_filled width text limits = (check_accepts width text (filled width text)).1 (limits, filled_accepted width text)

module _ (width : ℕ) (before after : List ℕ) where
  -- "a text exceeds 60,000 bytes | its length": the text before, then the text after.
  pub check_too_long : text_most < length before → answer_of (judge_of width before after) ≡ refusal 1 (length before)
  unfolding judge_of answer_of
  check_too_long h = rw (lt-ltb text_most (length before) h)

  module _ (h : length before ≤ text_most) where
    pub check_after_too_long : text_most < length after → answer_of (judge_of width before after) ≡ refusal 1 (length after)
    unfolding judge_of answer_of
    check_after_too_long g = rw (le-ltb text_most (length before) h, lt-ltb text_most (length after) g)

    module _ (g : length after ≤ text_most) where
      -- "the text is not UTF-8", the text before.
      pub check_not_utf8 : first_fault before < length before → answer_of (judge_of width before after) ≡ refusal 2 (first_fault before)
      unfolding judge_of answer_of
      check_not_utf8 f = rw (le-ltb text_most (length before) h, le-ltb text_most (length after) g, lt-ltb (first_fault before) (length before) f)

      module _ (f : Whole before) where
        -- "a line width exceeds 255 | .. 0 for a single width"
        pub check_too_wide : width_most < width → answer_of (judge_of width before after) ≡ refusal 3 0
        unfolding judge_of answer_of
        check_too_wide w = rw (le-ltb text_most (length before) h, le-ltb text_most (length after) g, le-ltb (first_fault before) (length before) (omega (arith, f)), lt-ltb width_most width w)

        module _ (w : width ≤ width_most) where
          -- "check: the two texts differ in length"
          pub check_lengths : (length after ≡ length before → ⊥) → answer_of (judge_of width before after) ≡ refusal 9 0
          unfolding judge_of answer_of
          check_lengths d = rw (le-ltb text_most (length before) h, le-ltb text_most (length after) g, le-ltb (first_fault before) (length before) (omega (arith, f)), le-ltb width_most width w, ne_eqb (length after) (length before) d)

          -- Where the lengths agree, it is the changes and then the lines that decide.
          check_changes : length after ≡ length before → judge_of width before after ≡ changes_of width before after
          unfolding judge_of
          check_changes e = rw (le-ltb text_most (length before) h, le-ltb text_most (length after) g, le-ltb (first_fault before) (length before) (omega (arith, f)), le-ltb width_most width w, eq-eqb (length after) (length before) e)

          module _ (e : length after ≡ length before) where
            -- 10, "some change is not an allowed break | first such byte": the byte is changed and no allowed break, and each byte before it is the same or one.
            pub check_bad_change : (p : ℕ) → (answer_of (judge_of width before after) ≡ refusal 10 p) ↔ BadAt before after p
            unfolding answer_of
            check_bad_change p =
                (λ a. says_bad width before after e (sym (check_changes e) ∙ told (judge_of width before after) (Err (BadChange (record { 0 = p }))) a), λ h. ap answer_of (check_changes e ∙ bad_said width before after e h))

            -- 11, "a line of two or more words is too wide | first byte of the first such line": none of an earlier input line is, and none before it in its own.
            pub check_wide_line : (p : ℕ) → (answer_of (judge_of width before after) ≡ refusal 11 p) ↔ WideLineAt width before after p
            unfolding answer_of
            check_wide_line p =
                (λ a. says_wide width before after e (sym (check_changes e) ∙ told (judge_of width before after) (Err (WideLine (record { 0 = p }))) a), λ h. ap answer_of (check_changes e ∙ wide_said width before after e h))

            -- 12, "an input line has more lines than needed | first byte of the first such input line": a grouping of its words has fewer, and no earlier input line has one.
            pub check_many_lines : (p : ℕ) → (answer_of (judge_of width before after) ≡ refusal 12 p) ↔ ManyLinesAt width before after p
            unfolding answer_of
            check_many_lines p =
                (λ a. says_many width before after e (sym (check_changes e) ∙ told (judge_of width before after) (Err (ManyLines (record { 0 = p }))) a), λ h. ap answer_of (check_changes e ∙ many_said width before after e h))
