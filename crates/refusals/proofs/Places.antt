-- The column is 1 and the characters of the line before the place: what comes before a newline does not matter, and in a line each character counts once.
use mathlib.Core.Path.{◌≡◌, refl, ◌∙◌}
use mathlib.Core.List.{List, [], ◌∷◌, ◌++◌}
use Prim.Native.Nat.{ℕ, ◌+◌}
use native.Mathlib.Omega.{arith}
use Rattle.logic.specs.Choice.{pick}
use Rattle.logic.proofs.Choice.{both}
use Rattle.lines.specs.Lines.{newline}
use Rattle.refusals.specs.Places.{starts_character, newlines, column_after}

pub column_fresh : (n : ℕ) (before line : List ℕ) → column_after n (before ++ (0x0A ∷ line)) ≡ column_after 1 line
unfolding column_after
column_fresh n [] line = refl
column_fresh n (b ∷ t) line = column_fresh (pick (newline b) 1 (pick (starts_character b) (n + 1) n)) t line

abbrev pub characters : List ℕ → ℕ
characters [] = 0
characters (b ∷ t) = pick (starts_character b) (characters t + 1) (characters t)

pub column_line : (n : ℕ) (line : List ℕ) → newlines line ≡ 0 → column_after n line ≡ n + characters line
unfolding newlines column_after
column_line n [] e = omega arith
column_line n (b ∷ t) e =
    both (newline b)
    (λ q. let z : newlines t + 1 ≡ 0 = rw q at e in absurd (omega arith))
    (λ q.
    let z : newlines t ≡ 0 = rw q at e in
    both (starts_character b)
    (λ s. rw (q, s) (column_line (n + 1) t z ∙ omega arith))
    (λ s. rw (q, s) (column_line n t z)))
