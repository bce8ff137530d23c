-- What `next_word` answers, one law for each way through it, and that the step goes on.
use mathlib.Core.Path.{◌≡◌, sym, ap, ◌∙◌}
use mathlib.Core.List.{List}
use Prim.Native.Nat.{ℕ, ◌+◌, ◌-◌, ◌≤◌, ◌<◌}
use native.Mathlib.Nat.{add-sub_cancel_left}
use native.Mathlib.Omega.{arith}
use lib.Dec.{leb}
use lib.ListN.{length, drop}
use lib.Seq.{length-take-le}
use borrow.Author.Tests.{lt-ltb, le-ltb, leb-true, leb-false}
use Rattle.units.specs.declared.Offset.{Offset}
use Rattle.units.specs.declared.Columns.{Columns}
use Rattle.logic.specs.Choice.{pick}
use Rattle.logic.specs.Count.{count}
use Rattle.logic.proofs.Choice.{both}
use Rattle.logic.proofs.Count.{count_fits}
use Rattle.chars.specs.Utf8.{first_fault}
use Rattle.chars.proofs.Laws.{fault_fits}
use Rattle.measure.specs.Escapes.{width_of}
use Rattle.measure.specs.Measure.{passed_of}
use Rattle.measure.proofs.Upto.{walk_upto}
use Rattle.words.specs.declared.Step.TheVariants.{Found, End, Fault}
use Rattle.words.specs.Words.{space, letter, content_end, content, white, after_word, word_at, step_at}
use Rattle.std.specs.Prelude.{Err, Ok, Result}

pub length_content : (s : List ℕ) (i : ℕ) → length (content s i) ≡ count letter (drop i s)
length_content s i = length-take-le (count letter (drop i s)) (drop i s) (count_fits letter (drop i s))

-- The walk to the space, by the content.
walked : (s : List ℕ) (i : ℕ) → passed_of 0x20 s i ≡
    pick (leb (length (content s i)) (first_fault (content s i)))
    (Ok (record { 0 = width_of (content s i) }, record { 0 = i + first_fault (content s i) }))
    (Err (record { 0 = i + first_fault (content s i) }))
walked s i = walk_upto 0x20 (omega arith) s i ∙ rw (length_content s i)

pub step_end : (s : List ℕ) (i : ℕ) → length s ≤ i → End ≡ step_at s i
unfolding step_at
step_end s i l = rw (le-ltb i (length s) l)

pub step_found : (s : List ℕ) (at : Offset) {r : Result (Columns × Offset) Offset} {w : Columns} {e : Offset} {f : ℕ} → at.0 < length s → r ≡ passed_of 0x20 s at.0 → r ≡ Ok (w, e) → f ≡ e.0 + count space (drop e.0 s)
    → Found (record { start = at; end = e; white = record { 0 = f - e.0 }; width = w }) (record { 0 = f }) ≡ step_at s at.0
unfolding step_at word_at after_word white content_end
step_found s at {r} {w} {e} {f} l p q z =
    both (leb (length (content s at.0)) (first_fault (content s at.0)))
    (λ t.
    let j : Ok (w, e) ≡ Ok (record { 0 = width_of (content s at.0) }, record { 0 = at.0 + first_fault (content s at.0) }) = sym q ∙ p ∙ walked s at.0 ∙ rw t in
    let jj : ◌≡◌ {A = Columns × Offset} (w, e) (record { 0 = width_of (content s at.0) }, record { 0 = at.0 + first_fault (content s at.0) }) = cc in
    let ew : w ≡ record { 0 = width_of (content s at.0) } = ap (λ z. z.0) jj in
    let ee : e ≡ record { 0 = at.0 + first_fault (content s at.0) } = ap (λ z. z.1) jj in
    let h = leb-true (length (content s at.0)) (first_fault (content s at.0)) t in
    let b : first_fault (content s at.0) ≡ count letter (drop at.0 s) = omega (arith, fault_fits (content s at.0), length_content s at.0) in
    rw (lt-ltb at.0 (length s) l, le-ltb (first_fault (content s at.0)) (length (content s at.0)) h, z, ew, ee, b, add-sub_cancel_left))
    (λ t. let j : Ok (w, e) ≡ Err (record { 0 = at.0 + first_fault (content s at.0) }) = sym q ∙ p ∙ walked s at.0 ∙ rw t in cc)

pub step_fault : (s : List ℕ) (at : Offset) {r : Result (Columns × Offset) Offset} {o : Offset} → at.0 < length s → r ≡ passed_of 0x20 s at.0 → r ≡ Err o → Fault o ≡ step_at s at.0
unfolding step_at
step_fault s at {r} {o} l p q =
    both (leb (length (content s at.0)) (first_fault (content s at.0)))
    (λ t. let j : Err o ≡ Ok (record { 0 = width_of (content s at.0) }, record { 0 = at.0 + first_fault (content s at.0) }) = sym q ∙ p ∙ walked s at.0 ∙ rw t in cc)
    (λ t.
    let j : Err o ≡ Err (record { 0 = at.0 + first_fault (content s at.0) }) = sym q ∙ p ∙ walked s at.0 ∙ rw t in
    let e : o ≡ record { 0 = at.0 + first_fault (content s at.0) } = cc in
    rw (lt-ltb at.0 (length s) l, lt-ltb (first_fault (content s at.0)) (length (content s at.0)) (leb-false (length (content s at.0)) (first_fault (content s at.0)) t), e))

pub ruleset stepping = (step_end, step_found, step_fault)
