-- Whether the search is begun: a law for each way through the tests, and what is known where it is.
use Rattle.std.proofs.Common.{Option, Some, None, Result, Ok, Err}
use mathlib.Core.Path.{◌≡◌}
use Prim.Native.Nat.{ℕ, ◌+◌, ◌≤◌, ◌<◌, min, max}
use native.Mathlib.Omega.{arith}
use borrow.Author.Tests.{lt-ltb, le-ltb}
use Rattle.fragments.specs.declared.ListRefusal.{ListRefusal}
use Rattle.fragments.specs.declared.ListRefusal.TheVariants.{BigPenalty, NoRoom}
use Rattle.least_cost.specs.Layout.{admission_of}

pub admit_refused : {t : Result (Unit {0}) ListRefusal} {why : ListRefusal} (big : Option ℕ) (n ends costs starts : ℕ) → t ≡ Err why → Err why ≡ admission_of t big n ends costs starts
unfolding admission_of
admit_refused big n ends costs starts e = rw e

module _ {t : Result (Unit {0}) ListRefusal} {big : Option ℕ} (n ends costs starts : ℕ) where
  module _ (e : t ≡ Ok tt) where
    pub admit_big : {i : ℕ} → big ≡ Some i → Err (BigPenalty i) ≡ admission_of t big n ends costs starts
    unfolding admission_of
    admit_big b = rw (e, b)

    module _ (b : big ≡ None) where
      pub admit_ends : {m : ℕ} → m ≡ max 1 n → ends < m → Err (NoRoom m) ≡ admission_of t big n ends costs starts
      unfolding admission_of
      admit_ends q l = rw (e, b, q, lt-ltb ends (max 1 n) (rw q at l))

      scratch : max 1 n ≤ ends → min costs starts < n + 1 → Err (NoRoom (n + 1)) ≡ admission_of t big n ends costs starts
      unfolding admission_of
      scratch l h = rw (e, b, le-ltb ends (max 1 n) l, lt-ltb (min costs starts) (n + 1) h)

      pub admit_costs : {m : ℕ} → m ≡ max 1 n → m ≤ ends → costs < n + 1 → Err (NoRoom (n + 1)) ≡ admission_of t big n ends costs starts
      admit_costs q l h = scratch (omega arith) (omega arith)

      pub admit_starts : {m : ℕ} → m ≡ max 1 n → m ≤ ends → starts < n + 1 → Err (NoRoom (n + 1)) ≡ admission_of t big n ends costs starts
      admit_starts q l h = scratch (omega arith) (omega arith)

      pub admit_open : {m : ℕ} → m ≡ max 1 n → m ≤ ends → n + 1 ≤ costs → n + 1 ≤ starts → Ok tt ≡ admission_of t big n ends costs starts
      unfolding admission_of
      admit_open q l h g =
          let k : n + 1 ≤ min costs starts = omega arith in
          rw (e, b, le-ltb ends (max 1 n) (rw q at l), le-ltb (min costs starts) (n + 1) k)

pub ruleset admitting = (admit_refused, admit_big, admit_ends, admit_costs, admit_starts, admit_open)
