-- Whether one of the k places from `from` on passes a test.
use Rattle.std.specs.Prelude.{ℕ, zero, suc, ◌+◌, Bool, false, ◌||◌}

unfoldable pub any : (ℕ → Bool) → ℕ → ℕ → Bool
any p from zero = false
any p from (suc k) = any p from k || p (from + k)
