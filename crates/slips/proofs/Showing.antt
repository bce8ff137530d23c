-- The slip: which texts are shown, and the loop over the lines of one.
use mathlib.Core.Path.{◌≡◌, refl, sym, ap, ◌∙◌}
use mathlib.Core.List.{List}
use mathlib.Core.Bool.{Bool, true, false}
use Prim.Native.Nat.{ℕ, ◌+◌, ◌-◌, ◌≤◌, ◌<◌}
use native.Mathlib.Omega.{arith}
use lib.ListN.{length, drop}
use lib.Dec.{ltb}
use borrow.Author.Tests.{ltb-false}
use Rattle.std.specs.Prelude.{Result, Ok, Err, IfOk, ⊤}
use Rattle.units.specs.declared.Answer.{Answer}
use Rattle.units.specs.declared.Columns.{Columns}
use Rattle.units.specs.Limits.{text_most, width_most}
use Rattle.units.specs.Answers.{success}
use Rattle.chars.specs.Utf8.{first_fault, Whole}
use Rattle.chars.proofs.Laws.{fault_fits}
use Rattle.limits.specs.declared.TextRefusal.{TextRefusal}
use Rattle.limits.specs.Limits.{admitted, narrow, refusal_of}
use Rattle.limits.proofs.Laws.{Admitted, admitted_ok, narrow_ok}
use Rattle.logic.proofs.Choice.{both}
use Rattle.lines.specs.Lines.{next_line}
use Rattle.lines.proofs.Laws.{next_later, next_whole}
use Rattle.shown.specs.declared.Tally.{Tally}
use Rattle.shown.specs.Slip.{counted_of}
use Rattle.slips.specs.Show.{Shows, shown_at, show_answer}

-- The numbers of document 01 for what the tests answer.
abbrev answer_from : Result Columns TextRefusal → Answer
answer_from (Ok c) = success 0
answer_from (Err why) = refusal_of why

answer_shown : (s : List ℕ) (width : ℕ) → answer_from (shown_at s width) ≡ show_answer s width
unfolding show_answer narrow
answer_shown s width =
    both (ltb text_most (length s))
    (λ t. rw t)
    (λ t. both (ltb (first_fault s) (length s))
    (λ u. rw (t, u))
    (λ u. both (ltb width_most width)
    (λ v. rw (t, u, v))
    (λ v. rw (t, u, v))))

module _ (s : List ℕ) (width : ℕ) {r : Result Columns TextRefusal} {a : Answer} (e : r ≡ shown_at s width) where
  pub show_done : {c : Columns} → r ≡ Ok c → a ≡ success 0 → a ≡ show_answer s width
  show_done p q = q ∙ ap answer_from (sym p ∙ e) ∙ answer_shown s width

  pub show_refused : {why : TextRefusal} → r ≡ Err why → a ≡ refusal_of why → a ≡ show_answer s width
  show_refused p q = q ∙ ap answer_from (sym p ∙ e) ∙ answer_shown s width

pub ruleset answering = (show_done, show_refused)

-- What is not refused is shown, on a slip of the columns that are asked for.
pub shows_if : (s : List ℕ) (width : ℕ) {a : Result ⊤ TextRefusal} {r : Result Columns TextRefusal} → a ≡ admitted text_most s → a ≡ Ok tt → r ≡ narrow width → IfOk r (λ c. (c.0 ≡ width) × Shows s width)
shows_if s width {a} {r} e p = go r
  where
    front : Admitted text_most s
    front = admitted_ok text_most s (sym p ∙ e)

    go : (r : Result Columns TextRefusal) → r ≡ narrow width → IfOk r (λ c. (c.0 ≡ width) × Shows s width)
    go (Ok c) q = let k = narrow_ok width q in (ap (λ (c : Columns). c.0) k.0, record { short = front.short; whole = front.whole; narrow = k.1 })
    go (Err why) q = tt

-- Nor is what is answered 0.
pub show_shows : (s : List ℕ) (width : ℕ) {a : Answer} → a ≡ show_answer s width → a.number ≡ 0 → Shows s width
unfolding show_answer
show_shows s width e z =
    both (ltb text_most (length s))
    (λ p. let k : 1 ≡ 0 = rw (e, p) at z in absurd (omega arith))
    (λ p. both (ltb (first_fault s) (length s))
    (λ q. let k : 2 ≡ 0 = rw (e, p, q) at z in absurd (omega arith))
    (λ q. both (ltb width_most width)
    (λ w. let k : 3 ≡ 0 = rw (e, p, q, w) at z in absurd (omega arith))
    (λ w. record {
      short = ltb-false text_most (length s) p;
      whole = omega (arith, ltb-false (first_fault s) (length s) q, fault_fits s);
      narrow = ltb-false width_most width w;
    })))

pub show_narrow : (s : List ℕ) (width : ℕ) {a : Answer} → a ≡ show_answer s width → a.number ≡ 0 → width ≤ width_most
show_narrow s width e z = (show_shows s width e z).narrow

-- ---- the lines

-- Lines counted up to a place of a text: no more of them than bytes.
pub record Putting (s : List ℕ) (width from : ℕ) (t : Tally) : Type 0 where
  pub shows : Shows s width
  pub rest : Whole (drop from s)
  pub lines : t.lines ≤ from
  pub wide : t.wide ≤ t.lines

counted_lines : (t : Tally) (b : Bool) → (counted_of t b).lines ≡ t.lines + 1
unfolding counted_of
counted_lines t b = refl

counted_wide : (t : Tally) (b : Bool) → (counted_of t b).wide ≤ t.wide + 1
unfolding counted_of
counted_wide t true = omega arith
counted_wide t false = omega arith

pub putting_step : {s : List ℕ} {width from next : ℕ} {t u : Tally} (b : Bool) → Putting s width from t → next ≡ next_line s from → u ≡ counted_of t b → Putting s width next u
putting_step {s} {width} {from} {next} {t} {u} b r e q = record {
  shows = r.shows;
  rest = rw e (next_whole s from r.rest);
  lines = rw (q, counted_lines t b) (omega (arith, e, next_later s from, r.lines));
  wide = rw (q, counted_lines t b) (omega (arith, counted_wide t b, r.wide));
}

pub putting_less : {next : ℕ} (s : List ℕ) (from : ℕ) → next ≡ next_line s from → from < length s → length s - next < length s - from
putting_less s from e l = omega (arith, next_later s from)
