-- The characters that a piece takes, and those that it leaves.
use mathlib.Core.Path.{◌≡◌, refl, sym, ap, ◌∙◌}
use mathlib.Core.Bool.{true, false, ◌&&◌}
use mathlib.Core.List.{List, [], ◌∷◌, ◌++◌}
use Prim.Native.Nat.{ℕ, ◌+◌, ◌≤◌, ◌<◌}
use native.Mathlib.Nat.{zero-add, add-zero, add_assoc}
use native.Mathlib.Omega.{arith}
use lib.Dec.{ltb}
use borrow.Author.Tests.{lt-ltb, ltb-true, ltb-false}
use Rattle.logic.specs.Choice.{pick}
use Rattle.logic.proofs.Choice.{both, and_true}
use Rattle.chars.specs.Utf8.{Chr}
use Rattle.measure.specs.declared.Mode.{Mode}
use Rattle.measure.specs.declared.Mode.TheVariants.{Text}
use Rattle.measure.specs.Escapes.{next, in_text, taken, width_from, mode_after}
use Rattle.measure.proofs.Walk.{text_mode}
use Rattle.measure.proofs.Laws.{width_append}
use Rattle.pieces.specs.Pieces.{starts, fitting, piece}
use Rattle.pieces.specs.Parts.{takers}

-- ---- what the rule says

pub starts_says : (w cols sum : ℕ) → starts w cols sum ≡ true → (cols < sum) × (0 < cols) × (w < sum)
unfolding starts
starts_says w cols sum e =
    let p = and_true (ltb cols sum) (ltb 0 cols && ltb w sum) e in
    let q = and_true (ltb 0 cols) (ltb w sum) p.1 in
    (ltb-true cols sum p.0, ltb-true 0 cols q.0, ltb-true w sum q.1)

pub starts_when : (w cols sum : ℕ) → cols < sum → 0 < cols → w < sum → starts w cols sum ≡ true
unfolding starts
starts_when w cols sum p q r = rw (lt-ltb cols sum p, lt-ltb 0 cols q, lt-ltb w sum r)

pub starts_not : (w cols sum : ℕ) → ((cols < sum) × (0 < cols) × (w < sum) → ⊥) → starts w cols sum ≡ false
starts_not w cols sum n = both (starts w cols sum) (λ t. absurd (n (starts_says w cols sum t))) (λ f. f)

-- ---- the two parts

-- What the current piece leaves.
unfoldable pub leaving : ℕ → ℕ → Mode → List Chr → List Chr
leaving w cols m [] = []
leaving w cols m (x ∷ xs) = pick (starts w cols (cols + taken m x.code)) (x ∷ xs) (leaving w (cols + taken m x.code) (next m x.code) xs)

pub fitting_leaving : (w cols : ℕ) (m : Mode) (xs : List Chr) → fitting w cols m xs ++ leaving w cols m xs ≡ xs
unfolding fitting leaving
fitting_leaving w cols m [] = refl
fitting_leaving w cols m (x ∷ xs) =
    both (starts w cols (cols + taken m x.code))
    (λ t. rw t)
    (λ f. rw f (ap (λ l. x ∷ l) (fitting_leaving w (cols + taken m x.code) (next m x.code) xs)))

-- What is left is nothing, or starts with a character that starts a new piece: by the columns that the piece has then, and where the text stands.
pub data Leaves (w cols : ℕ) (m : Mode) : List Chr → Type 0 where
  nothing : Leaves w cols m []
  next_piece : {x : Chr} {xs : List Chr} → starts w cols (cols + taken m x.code) ≡ true → Leaves w cols m (x ∷ xs)

pub leaves : (w cols : ℕ) (m : Mode) (xs : List Chr) → Leaves w (cols + width_from m (fitting w cols m xs)) (mode_after m (fitting w cols m xs)) (leaving w cols m xs)
unfolding fitting leaving width_from mode_after
leaves w cols m [] = nothing
leaves w cols m (x ∷ xs) =
    both (starts w cols (cols + taken m x.code))
    (λ t. rw (t, add-zero) (next_piece t))
    (λ f. rw (f, ← add_assoc) (leaves w (cols + taken m x.code) (next m x.code) xs))

-- What takes columns stands in plain text, so a piece ends in no escape, and the columns of what it leaves are those of the same characters by themselves.
pub takes_text : (m : Mode) (c : ℕ) → 0 < taken m c → m ≡ Text
unfolding taken
takes_text m c l = text_mode m (both (in_text m) (λ t. t) (λ t. let z : taken m c ≡ 0 = rw t in absurd (omega arith)))

left_width : {w cols : ℕ} {m : Mode} {zs : List Chr} → Leaves w cols m zs → width_from m zs ≡ width_from Text zs
unfolding width_from
left_width nothing = refl
left_width {w} {cols} {m} (next_piece {x} {xs} n) = let y = starts_says w cols (cols + taken m x.code) n in let t = takes_text m x.code (omega arith) in rw t

pub parts_width : (w : ℕ) (xs : List Chr) → width_from Text (piece w xs) + width_from Text (leaving w 0 Text xs) ≡ width_from Text xs
parts_width w xs =
    let a = rw (fitting_leaving w 0 Text xs) at (width_append Text (piece w xs) (leaving w 0 Text xs)) in
    rw (← left_width (leaves w 0 Text xs)) (sym a)

-- A piece takes at least one character, if there is one.
pub piece_first : (w : ℕ) (x : Chr) (xs : List Chr) → piece w (x ∷ xs) ≡ x ∷ fitting w (taken Text x.code) (next Text x.code) xs
unfolding fitting
piece_first w x xs = rw (starts_not w 0 (0 + taken Text x.code) (λ h. omega arith), zero-add)

-- What is no wider than w is one piece.
pub fits_whole : (w cols : ℕ) (m : Mode) (xs : List Chr) → cols + width_from m xs ≤ w → fitting w cols m xs ≡ xs
unfolding fitting width_from
fits_whole w cols m [] l = refl
fits_whole w cols m (x ∷ xs) l =
    rw (starts_not w cols (cols + taken m x.code) (λ h. omega arith)) (ap (λ l. x ∷ l) (fits_whole w (cols + taken m x.code) (next m x.code) xs (omega arith)))

-- ---- how wide a piece is

-- A piece that has columns and is no wider than w stays so.
stays : (w cols : ℕ) (m : Mode) (xs : List Chr) → 0 < cols → cols ≤ w → cols + width_from m (fitting w cols m xs) ≤ w
unfolding fitting width_from
stays w cols m [] p l = omega arith
stays w cols m (x ∷ xs) p l =
    both (starts w cols (cols + taken m x.code))
    (λ t. rw t (omega arith))
    (λ f. rw f
    (let n : cols + taken m x.code ≤ w = both (ltb w (cols + taken m x.code))
    (λ a. let b = ltb-true w (cols + taken m x.code) a in let z = sym f ∙ starts_when w cols (cols + taken m x.code) (omega arith) p b in let y : ◌≡◌ {A = ℕ} 0 1 = cc in absurd (omega arith))
    (λ a. ltb-false w (cols + taken m x.code) a) in
    let h = stays w (cols + taken m x.code) (next m x.code) xs (omega arith) n in omega arith))

-- One that is wider takes no more columns.
full : (w cols : ℕ) (m : Mode) (xs : List Chr) → 0 < cols → w < cols → takers m (fitting w cols m xs) ≡ 0
unfolding fitting takers
full w cols m [] p l = refl
full w cols m (x ∷ xs) p l =
    both (starts w cols (cols + taken m x.code))
    (λ t. rw t)
    (λ f. rw f
    (let n : taken m x.code ≡ 0 = both (ltb 0 (taken m x.code))
    (λ a. let b = ltb-true 0 (taken m x.code) a in let z = sym f ∙ starts_when w cols (cols + taken m x.code) (omega arith) p (omega arith) in let y : ◌≡◌ {A = ℕ} 0 1 = cc in absurd (omega arith))
    (λ a. let b = ltb-false 0 (taken m x.code) a in omega arith) in
    rw (n, add-zero, zero-add) (full w cols (next m x.code) xs p l)))

-- A piece wider than w has exactly one character that takes columns.
pub too_wide_one : (w : ℕ) (m : Mode) (xs : List Chr) → w < width_from m (fitting w 0 m xs) → takers m (fitting w 0 m xs) ≡ 1
unfolding fitting width_from takers
too_wide_one w m [] l = absurd (omega arith)
too_wide_one w m (x ∷ xs) l =
    both (ltb 0 (taken m x.code))
    (λ a.
    let b = ltb-true 0 (taken m x.code) a in
    let l' : w < taken m x.code + width_from (next m x.code) (fitting w (taken m x.code) (next m x.code) xs) = rw (first, zero-add) at l in
    rw (first, zero-add, a) (both (ltb w (taken m x.code))
    (λ d. let g = full w (taken m x.code) (next m x.code) xs b (ltb-true w (taken m x.code) d) in omega arith)
    (λ d. let g = stays w (taken m x.code) (next m x.code) xs b (ltb-false w (taken m x.code) d) in absurd (omega arith))))
    (λ a.
    let z : taken m x.code ≡ 0 = let b = ltb-false 0 (taken m x.code) a in omega arith in
    let l' : w < width_from (next m x.code) (fitting w 0 (next m x.code) xs) = rw (first, z, zero-add, zero-add) at l in
    rw (first, z, zero-add, zero-add) (too_wide_one w (next m x.code) xs l'))
  where
    first : starts w 0 (0 + taken m x.code) ≡ false
    first = starts_not w 0 (0 + taken m x.code) (λ h. omega arith)
