-- Demand 3: the check accepts exactly what a person asks it to accept.
use mathlib.Core.Path.{◌≡◌, refl}
use mathlib.Core.Logic.{◌↔◌, ⊎_elim}
use mathlib.Core.Bool.{Bool, true, false}
use mathlib.Core.List.Memᴰ
use mathlib.Core.List.{List, [], ◌∷◌}
use Prim.Native.Nat.{ℕ, ◌≤◌, ◌<◌}
use native.Mathlib.Omega.{arith}
use lib.Dec.{eqb, ltb}
use lib.ListN.{length, get_or}
use borrow.Author.Tests.{eqb-true, eqb-false, ltb-true, ltb-false, le-ltb, eq-eqb}
use Rattle.units.specs.Limits.{text_most, width_most}
use Rattle.logic.specs.Choice.{pick}
use Rattle.logic.specs.Member.{◌∈◌}
use Rattle.logic.proofs.Choice.{both, clash}
use Rattle.chars.specs.Utf8.{first_fault}
use Rattle.chars.proofs.Laws.{fault_fits}
use Rattle.words.specs.Words.{words}
use Rattle.lines.specs.Lines.{InputLine, input_lines, body_of}
use Rattle.judge.specs.Change.{change_at, allowed, first_bad_from, first_bad}
use Rattle.judge.specs.Judge.{many_of, wide_in, many_in, or_else, first_in, wide_by, lines_of, changes_of, judge_of}
use Rattle.judge.specs.Demand.{Limits, AcceptedLine, AcceptedText}
use Rattle.judge.proofs.Forming.{at_nowhere, formed_fine, fine_formed}
use Rattle.judge.proofs.Allowing.{changed_broke, broke_allowed, kept_allowed, broke_is, is_broke, bad_before, bad_there}
use Rattle.std.specs.Prelude.{None, Ok, Option, Result, Some, ⊤}
use Rattle.judge.specs.declared.Rejection.{Rejection}
use Rattle.units.specs.declared.Offset.{Offset}

-- ---- nothing is found in a text exactly if nothing is found in any line

pub first_none : (rule : InputLine → Option Offset) (ls : List InputLine) → first_in rule ls ≡ None → (l : InputLine) → l ∈ ls → rule l ≡ None
unfolding first_in
first_none rule [] e l m = absurd (Memᴰ.not-nil m)
first_none rule (k ∷ ls) e l m =
    let h = go (rule k) (first_in rule ls) e in
    ⊎_elim (λ x. rw x h.0) (λ x. first_none rule ls h.1 l x) (Memᴰ.cases_cons m)
  where
    go : (f g : Option Offset) → or_else f g ≡ None → (f ≡ None) × (g ≡ None)
    go (Some p) g e = absurd (at_nowhere e)
    go None g e = (refl, e)

pub none_first : (rule : InputLine → Option Offset) (ls : List InputLine) → ((l : InputLine) → l ∈ ls → rule l ≡ None) → first_in rule ls ≡ None
unfolding first_in
none_first rule [] h = refl
none_first rule (k ∷ ls) h = rw (h k (Memᴰ.head refl)) (none_first rule ls (λ l m. h l (Memᴰ.tail m)))

many_none : (t : Bool) {f : Option Offset} → pick t f None ≡ None → (f ≡ None → ⊥) → t ≡ false
many_none true e d = absurd (d e)
many_none false e d = refl

-- ---- all tests are passed exactly if the check accepts

pub record Passed (width : ℕ) (b a : List ℕ) : Type 0 where
  pub limits : Limits width b
  pub lengths : length a ≡ length b
  pub good : length b ≤ first_bad b a
  pub wide : first_in (wide_in width b a) (input_lines b) ≡ None
  pub many : first_in (many_in width b a) (input_lines b) ≡ None

passed_lines : (f g : Option Offset) → wide_by f g ≡ (Ok tt) → (f ≡ None) × (g ≡ None)
passed_lines (Some p) g e = let z : ◌≡◌ {A = ℕ} 0 1 = cc in absurd (omega arith)
passed_lines None (Some p) e = let z : ◌≡◌ {A = ℕ} 0 1 = cc in absurd (omega arith)
passed_lines None None e = (refl, refl)

-- a choice that came to Accepted, where one side is a refusal
not_first : (t : Bool) {r j : Result ⊤ Rejection} → pick t r j ≡ (Ok tt) → (r ≡ (Ok tt) → ⊥) → (t ≡ false) × (j ≡ (Ok tt))
not_first true e d = absurd (d e)
not_first false e d = (refl, e)

not_second : (t : Bool) {r j : Result ⊤ Rejection} → pick t j r ≡ (Ok tt) → (r ≡ (Ok tt) → ⊥) → (t ≡ true) × (j ≡ (Ok tt))
not_second true e d = (refl, e)
not_second false e d = absurd (d e)

module _ (width : ℕ) (b a : List ℕ) where
  pub accepted_passed : judge_of width b a ≡ (Ok tt) → Passed width b a
  unfolding judge_of changes_of lines_of
  accepted_passed e =
      let s1 = not_first (ltb text_most (length b)) e (λ x. let z : ◌≡◌ {A = ℕ} 0 1 = cc in omega arith) in
      let s2 = not_first (ltb text_most (length a)) s1.1 (λ x. let z : ◌≡◌ {A = ℕ} 0 1 = cc in omega arith) in
      let s3 = not_first (ltb (first_fault b) (length b)) s2.1 (λ x. let z : ◌≡◌ {A = ℕ} 0 1 = cc in omega arith) in
      let s4 = not_first (ltb width_most width) s3.1 (λ x. let z : ◌≡◌ {A = ℕ} 0 1 = cc in omega arith) in
      let s5 = not_second (eqb (length a) (length b)) s4.1 (λ x. let z : ◌≡◌ {A = ℕ} 0 1 = cc in omega arith) in
      let s6 = not_first (ltb (first_bad b a) (length b)) s5.1 (λ x. let z : ◌≡◌ {A = ℕ} 0 1 = cc in omega arith) in
      let s7 = passed_lines (first_in (wide_in width b a) (input_lines b)) (first_in (many_in width b a) (input_lines b)) s6.1 in
      record {
        limits = record {
          small = ltb-false text_most (length b) s1.0;
          whole = omega (arith, fault_fits b, ltb-false (first_fault b) (length b) s3.0);
          narrow = ltb-false width_most width s4.0;
        };
        lengths = eqb-true (length a) (length b) s5.0;
        good = ltb-false (first_bad b a) (length b) s6.0;
        wide = s7.0;
        many = s7.1;
      }

  pub passed_accepted : Passed width b a → judge_of width b a ≡ (Ok tt)
  unfolding judge_of changes_of lines_of
  passed_accepted k =
      let l = k.limits in
      rw (le-ltb text_most (length b) l.small, le-ltb text_most (length a) (omega (arith, k.lengths, l.small)), le-ltb (first_fault b) (length b) (omega (arith, l.whole)), le-ltb width_most width l.narrow, eq-eqb (length a) (length b) k.lengths, le-ltb (first_bad b a) (length b) k.good, k.wide, k.many)

  -- ---- and that is demand 3

  pub line_fine : (l : InputLine) → AcceptedLine width b a l → (wide_in width b a l ≡ None) × (many_in width b a l ≡ None)
  line_fine l h = let k = formed_fine width a l.start (words (body_of b l)) (h.fits, h.fewest) in (k.0, rw k.1)

  pub fine_line : (l : InputLine) → wide_in width b a l ≡ None → many_in width b a l ≡ None → AcceptedLine width b a l
  fine_line l h g =
      let k = fine_formed width a l.start (words (body_of b l)) (h, many_none (many_of width a l.start (words (body_of b l))) g at_nowhere) in
      record { fits = k.0; fewest = k.1 }

  pub passed_text : Passed width b a → AcceptedText width b a
  unfolding first_bad
  passed_text k = record {
    lengths = k.lengths;
    changes = λ p l d. broke_is b a p l (changed_broke b a p (bad_before b a (length b) 0 p (omega arith) (omega (arith, k.good))) d);
    each = λ l m. fine_line l (first_none (wide_in width b a) (input_lines b) k.wide l m) (first_none (many_in width b a) (input_lines b) k.many l m);
  }

  pub text_passed : Limits width b → AcceptedText width b a → Passed width b a
  unfolding first_bad
  text_passed limits t = record {
    limits = limits;
    lengths = t.lengths;
    good =
        both (ltb (first_bad_from b a (length b) 0) (length b))
        (λ u.
        let l = ltb-true (first_bad_from b a (length b) 0) (length b) u in
        absurd (clash (ok (first_bad_from b a (length b) 0) l) (bad_there b a (length b) 0 (omega arith))))
        (λ u. ltb-false (first_bad_from b a (length b) 0) (length b) u);
    wide = none_first (wide_in width b a) (input_lines b) (λ l m. (line_fine l (t.each l m)).0);
    many = none_first (many_in width b a) (input_lines b) (λ l m. (line_fine l (t.each l m)).1);
  }
    where
      ok : (p : ℕ) → p < length b → allowed (change_at b a p) ≡ true
      ok p l =
          both (eqb (get_or a p 0) (get_or b p 0))
          (λ u. rw (kept_allowed b a p (eqb-true (get_or a p 0) (get_or b p 0) u)))
          (λ u. rw (broke_allowed b a p (is_broke b a p t.lengths l (t.changes p l (eqb-false (get_or a p 0) (get_or b p 0) u)))))

  -- The check accepts exactly if the texts and the width are within the limits and demand 3 holds.
  pub accepts : (judge_of width b a ≡ (Ok tt)) ↔ (Limits width b × AcceptedText width b a)
  accepts = (λ e. let k = accepted_passed e in (k.limits, passed_text k), λ h. passed_accepted (text_passed h.0 h.1))
