-- What the start of a record of two bytes or more is, one law for each way through the tests.
use mathlib.Core.Path.{◌≡◌}
use mathlib.Core.Bool.{true, false}
use mathlib.Core.List.{List}
use Prim.Native.Nat.{ℕ, ◌+◌, ◌*◌, ◌≤◌, ◌<◌}
use native.Mathlib.Omega.{arith}
use lib.ListN.{length, get_or}
use borrow.Author.Tests.{lt-ltb, le-ltb, ne_eqb}
use Rattle.std.specs.Prelude.{Some, Ok, Err}
use Rattle.units.specs.Answers.{refusal}
use Rattle.record.specs.Record.{head_bytes, is_job, head_of}

module _ (h : List ℕ) (l : 2 ≤ length h) where
  pub head_wrong : is_job (get_or h 0 0) (get_or h 1 0) ≡ false → head_of h ≡ Err (refusal 13 0)
  unfolding head_of
  head_wrong p = rw (ne_eqb (length h) 0 (λ z. omega arith), le-ltb (length h) 2 l, p)

  module _ (p : is_job (get_or h 0 0) (get_or h 1 0) ≡ true) where
    pub head_short : length h < head_bytes → head_of h ≡ Err (refusal 14 0)
    unfolding head_of
    head_short s = rw (ne_eqb (length h) 0 (λ z. omega arith), le-ltb (length h) 2 l, p, lt-ltb (length h) head_bytes s)

    pub head_job : head_bytes ≤ length h → head_of h ≡ Ok (Some (record { width = get_or h 2 0; len = get_or h 3 0 * 256 + get_or h 4 0 }))
    unfolding head_of
    head_job s = rw (ne_eqb (length h) 0 (λ z. omega arith), le-ltb (length h) 2 l, p, le-ltb (length h) head_bytes s)
