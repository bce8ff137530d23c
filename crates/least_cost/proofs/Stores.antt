-- Lists that numbers were stored into from the front.
use mathlib.Core.Path.{◌≡◌, refl, sym, ap, ◌∙◌}
use mathlib.Core.Logic.{◌≢◌}
use mathlib.Core.List.{List, [], ◌∷◌, ◌++◌}
use Prim.Native.Nat.{ℕ, suc, ◌+◌, ◌≤◌, ◌<◌}
use native.Mathlib.Nat.{zero-add}
use native.Mathlib.Omega.{arith}
use lib.ListN.{length, get_or, set, drop, get_or-append}
use lib.Seq.{sets, length-sets, sets-eq, set-set, set_comm, drop_at}
use Rattle.logic.proofs.Stored.{sets_append}

-- One more at the end.
pub sets_snoc : (l vs : List ℕ) (k v : ℕ) → k ≡ length vs → set (sets l 0 vs) k v ≡ sets l 0 (vs ++ (v ∷ []))
sets_snoc l vs k v e = rw (sets_append l 0 vs (v ∷ []), zero-add, e)

-- What was stored is there.
pub sets_at : (l vs : List ℕ) (k : ℕ) → k < length vs → length vs ≤ length l → get_or (sets l 0 vs) k 0 ≡ get_or vs k 0
sets_at l vs k h b =
    let m : 0 + length vs ≤ length l = omega arith in
    rw (sets-eq vs l 0 m) (get_or-append vs (drop (0 + length vs) l) 0 k h)

-- A first store that is stored over leaves nothing, nor do as many stores as come after it.
pub sets_first : (l vs : List ℕ) (v : ℕ) → 0 < length vs → sets (set l 0 v) 0 vs ≡ sets l 0 vs
sets_first l [] v h = absurd (omega arith)
sets_first l (x ∷ vs) v h = rw set-set

pub sets_over : (l xs ys : List ℕ) → length xs ≡ length ys → length xs ≤ length l → sets (sets l 0 xs) 0 ys ≡ sets l 0 ys
sets_over l xs ys e b =
    let m : 0 + length ys ≤ length (sets l 0 xs) = omega (arith, length-sets l 0 xs) in
    let k : 0 + length xs ≤ length l = omega arith in
    let g : 0 + length ys ≤ length l = omega arith in
    let f : length xs ≡ 0 + length ys = omega arith in
    let h : 0 + length xs ≡ 0 + length ys = omega arith in
    sets-eq ys (sets l 0 xs) 0 m
    ∙ ap (λ (r : List ℕ). ys ++ drop (0 + length ys) r) (sets-eq xs l 0 k)
    ∙ ap (λ (r : List ℕ). ys ++ r) (drop_at xs (drop (0 + length xs) l) (0 + length ys) f ∙ ap (λ (n : ℕ). drop n l) h)
    ∙ sym (sets-eq ys l 0 g)

-- A store behind them all may come before or after them.
pub set_behind : (l : List ℕ) (i : ℕ) (xs : List ℕ) (k v : ℕ) → i + length xs ≤ k → sets (set l k v) i xs ≡ set (sets l i xs) k v
set_behind l i [] k v h = refl
set_behind l i (x ∷ xs) k v h =
    let n : k ≢ i = omega arith in
    rw (set_comm l k i v x n) (set_behind (set l i x) (suc i) xs k v (omega arith))
