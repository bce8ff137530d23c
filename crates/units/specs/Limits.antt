-- The limits of document 01, "Bounds". The constants of `src/lib.rt` have the same values: a contract cites these, and the proof of each function that tests one
-- holds the two against each other.
use Rattle.std.specs.Prelude.{ℕ, ◌^◌}

-- "Text at most 60,000 bytes."
abbrev pub text_most : ℕ
text_most = 60000

-- "Line width 0 to 255."
abbrev pub width_most : ℕ
width_most = 255

-- "At most 4,096 fragments"
abbrev pub fragments_most : ℕ
fragments_most = 4096

-- "Penalties are five numbers, each 0 to 1,000,000"
abbrev pub penalty_most : ℕ
penalty_most = 1000000

-- "the least cost exceeds 2^53"
abbrev pub cost_most : ℕ
cost_most = 2 ^ 53
