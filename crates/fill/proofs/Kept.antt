-- A filled text is UTF-8 where the text was: a space that becomes a newline is one character of one byte as before.
use mathlib.Core.Path.{◌≡◌, refl, sym, ap, ◌∙◌}
use mathlib.Core.List.Memᴰ
use mathlib.Core.List.{List, [], ◌∷◌, ◌++◌}
use Prim.Native.Nat.{ℕ, suc, ◌+◌, ◌-◌, ◌<◌}
use native.Mathlib.Omega.{arith}
use lib.ListN.{length, get_or, take, drop, set, length-set, length-append}
use lib.Seq.{drop-set-lt, get_or-drop, set_split, split_at}
use Rattle.logic.specs.Member.{◌∈◌}
use Rattle.chars.specs.Utf8.{Whole}
use Rattle.chars.proofs.Laws.{cut_before, cut_after, fault_append}
use Rattle.words.proofs.Laws.{whole_low}
use Rattle.lines.specs.Breaks.{text_breaks, broken, filled}
use Rattle.lines.proofs.Walk.{drop_on}
use Rattle.lines.proofs.Rising.{Rising, text_breaks_rise}
use Rattle.lines.proofs.Allowed.{break_allowed}

-- Another byte below 80 in the place of one.
other_low : (xs ys : List ℕ) (a b : ℕ) → a < 0x80 → b < 0x80 → Whole (xs ++ a ∷ ys) → Whole (xs ++ b ∷ ys)
other_low xs ys a b l h w =
    let x = cut_before xs ys a l w in
    let y = cut_after xs ys a l w in
    omega (arith, fault_append xs (b ∷ ys) x, fault_append (b ∷ []) ys (whole_low b h), fault_append (a ∷ []) ys (whole_low a l), y, length-append xs (b ∷ ys))

set_whole : (s : List ℕ) (p : ℕ) → p < length s → get_or s p 0 ≡ 0x20 → Whole s → Whole (set s p 0x0A)
set_whole s p l e w =
    let a : s ≡ take p s ++ 0x20 ∷ drop (suc p) s = split_at s p 0 l ∙ ap (λ x. take p s ++ x ∷ drop (suc p) s) e in
    let v : Whole (take p s ++ 0x20 ∷ drop (suc p) s) = rw a at w in
    rw (set_split s p 0x0A l) (other_low (take p s) (drop (suc p) s) 0x20 0x0A (omega arith) (omega arith) v)

broken_whole : (s t ps : List ℕ) (k : ℕ) → Rising k ps → drop k t ≡ drop k s → length s ≡ length t → ((p : ℕ) → p ∈ ps → (p < length s) × (get_or s p 0 ≡ 0x20)) → Whole t → Whole (broken t ps)
unfolding Rising broken
broken_whole s t [] k r d n f w = w
broken_whole s t (p ∷ ps) k r d n f w =
    let h = f p (Memᴰ.head refl) in
    let a : k + (p - k) ≡ p = omega (arith, r.0) in
    let b : k + (suc p - k) ≡ suc p = omega (arith, r.0) in
    let c : get_or t (k + (p - k)) 0 ≡ get_or s (k + (p - k)) 0 = sym (get_or-drop k t (p - k) 0) ∙ ap (λ x. get_or x (p - k) 0) d ∙ get_or-drop k s (p - k) 0 in
    let g : get_or t p 0 ≡ 0x20 = rw a at c ∙ h.1 in
    let e = rw b at (drop_on t s k (suc p - k) d) in
    broken_whole s (set t p 0x0A) ps (suc p) r.1 (drop-set-lt (suc p) t p 0x0A (omega arith) ∙ e) (n ∙ sym (length-set t p 0x0A)) (λ q m. f q (Memᴰ.tail m))
    (set_whole t p (omega (arith, h.0)) g w)

pub filled_whole : (width : ℕ) (s : List ℕ) → Whole s → Whole (filled width s)
unfolding filled
filled_whole width s w = broken_whole s s (text_breaks width s) 0 (text_breaks_rise width s) refl refl (λ p m. let a = break_allowed width s m in (a.0, a.1.space)) w
