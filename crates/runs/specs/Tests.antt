-- What a function of a byte tests.
use Rattle.std.specs.Prelude.{◌≡◌, ℕ, Bool}
use Rattle.std.specs.Fn.{Shared}

-- f answers each byte as the test does.
pub record AnswersAs {F : Type 0} (g : Shared F (ℕ × Unit {0}) Bool) (f : F) (test : ℕ → Bool) : Type 0 where
  pub at : (b : ℕ) (r : Bool) → g.post f (b, tt) r → r ≡ test b
