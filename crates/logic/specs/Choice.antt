-- A choice by a test, and the test that a number lies between two others.
use Rattle.std.specs.Prelude.{ℕ, Bool, true, false, ◌&&◌, leb}

-- a where the test holds, b where it does not
abbrev pub pick : {A : Type 0} → Bool → A → A → A
pick true a b = a
pick false a b = b

-- lo ≤ n ≤ hi
abbrev pub within : ℕ → ℕ → ℕ → Bool
within lo hi n = leb lo n && leb n hi
