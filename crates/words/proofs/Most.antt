-- A text has at most half as many words as bytes, and one more: each but the first and the last takes a letter and a space at least.
use mathlib.Core.Path.{◌≡◌, sym, ap, ◌∙◌}
use mathlib.Core.Bool.{false}
use mathlib.Core.List.{List}
use Prim.Native.Nat.{ℕ, zero, suc, ◌+◌, ◌-◌, ◌*◌, ◌/◌, ◌≤◌, ◌<◌}
use native.Mathlib.Omega.{arith}
use lib.Dec.{ltb}
use lib.ListN.{length, get_or}
use borrow.Author.Tests.{ltb-true, ltb-false}
use Rattle.logic.proofs.Choice.{both, clash}
use Rattle.words.specs.Words.{space, content_end, after_word, words}
use Rattle.words.proofs.Laws.{after_later, after_inside}
use Rattle.words.proofs.Counting.{words_from, words_next, words_none}
use Rattle.words.proofs.Theory.{content_stops, white_stops, after_content, start_content}

-- A word that starts at a letter takes two bytes, unless it is the last.
two_bytes : (s : List ℕ) (i : ℕ) → i < length s → space (get_or s i 0) ≡ false → after_word s i < length s → i + 2 ≤ after_word s i
two_bytes s i l e a =
    let c = start_content s i in
    let f = after_content s i in
    let n : i ≡ content_end s i → ⊥ = λ z. clash (content_stops s i (omega arith)) (ap (λ j. space (get_or s j 0)) (sym z) ∙ e) in
    let m : content_end s i ≡ after_word s i → ⊥ = λ z. clash (content_stops s i (omega arith)) (ap (λ j. space (get_or s j 0)) z ∙ white_stops s i a) in
    omega arith

from_letter : (s : List ℕ) (n i : ℕ) → length s - i ≤ n → (i < length s → space (get_or s i 0) ≡ false) → 2 * length (words_from s i) ≤ length s - i + 1
from_letter s zero i h e = omega (arith, ap length (words_none s i (omega arith)))
from_letter s (suc n) i h e =
    both (ltb i (length s))
    (λ t.
    let l = ltb-true i (length s) t in
    let g = after_later s i l in
    let r = from_letter s n (after_word s i) (omega arith) (white_stops s i) in
    let w = ap length (words_next s i l) in
    both (ltb (after_word s i) (length s))
    (λ u. let b = two_bytes s i l (e l) (ltb-true (after_word s i) (length s) u) in let v = ltb-true (after_word s i) (length s) u in omega (arith, r, w))
    (λ u. let v = ltb-false (after_word s i) (length s) u in omega (arith, r, w)))
    (λ t. let v = ltb-false i (length s) t in omega (arith, ap length (words_none s i v)))

pub words_most : (s : List ℕ) → length (words s) ≤ length s / 2 + 1
unfolding words
words_most s =
    both (ltb 0 (length s))
    (λ t.
    let l = ltb-true 0 (length s) t in
    let g = after_later s 0 l in
    let r = from_letter s (length s) (after_word s 0) (omega arith) (white_stops s 0) in
    let i = after_inside s 0 (omega arith) in
    omega (arith, r, ap length (words_next s 0 l)))
    (λ t. let v = ltb-false 0 (length s) t in omega (arith, ap length (words_none s 0 v)))
