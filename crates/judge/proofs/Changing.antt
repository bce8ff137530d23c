-- What `change_at` and `first_bad` answer, one law for each way through them.
use mathlib.Core.Path.{◌≡◌, sym, ◌∙◌}
use mathlib.Core.Bool.{Bool, true, false}
use mathlib.Core.List.{List}
use Prim.Native.Nat.{ℕ, suc, ◌+◌, ◌-◌, ◌≤◌, ◌<◌}
use native.Mathlib.Numerals.{add-one}
use native.Mathlib.Omega.{arith}
use lib.ListN.{length, get_or, get_or-eq_default}
use borrow.Author.Tests.{eq-eqb, ne_eqb, lt-ltb, le-ltb, not-true, not-false}
use Rattle.std.specs.Prelude.{Some, None}
use Rattle.logic.specs.Choice.{pick}
use Rattle.words.specs.Words.{space}
use Rattle.lines.specs.Lines.{newline, in_body}
use Rattle.judge.specs.declared.Change.{Change}
use Rattle.judge.specs.declared.Change.TheVariants.{Kept, Break, NotSpace, NotNewline, SpaceFollows, NoWord}
use Rattle.judge.specs.Change.{change_at, allowed, first_bad_from, first_bad, bad_of}

-- There is no space past the end.
pub space_none : (s : List ℕ) (p : ℕ) → length s ≤ p → false ≡ space (get_or s p 0)
space_none s p l = rw (get_or-eq_default s 0 l)

-- ---- `change_at`

module _ (b a : List ℕ) (p : ℕ) where
  pub change_kept : get_or b p 0 ≡ get_or a p 0 → Kept ≡ change_at b a p
  unfolding change_at
  change_kept e = rw (eq-eqb (get_or b p 0) (get_or a p 0) e)

  module _ {r : Bool} (d : get_or b p 0 ≡ get_or a p 0 → ⊥) (f : r ≡ space (get_or b p 0)) where
    pub change_letter : r ≡ false → NotSpace ≡ change_at b a p
    unfolding change_at
    change_letter e = rw (ne_eqb (get_or b p 0) (get_or a p 0) d, ← f, e)

    module _ {q : Bool} (e : r ≡ true) (g : q ≡ newline (get_or a p 0)) where
      pub change_other : q ≡ false → NotNewline ≡ change_at b a p
      unfolding change_at
      change_other h = rw (ne_eqb (get_or b p 0) (get_or a p 0) d, ← f, e, ← g, h)

      module _ {t : Bool} (h : q ≡ true) (i : t ≡ space (get_or b (p + 1) 0)) where
        pub change_space : t ≡ true → SpaceFollows ≡ change_at b a p
        unfolding change_at
        change_space j = rw (ne_eqb (get_or b p 0) (get_or a p 0) d, ← f, e, ← g, h, ← add-one p, ← i, j)

        module _ {u : Bool} (j : t ≡ false) (k : u ≡ in_body b (p + 1)) where
          pub change_break : u ≡ true → Break ≡ change_at b a p
          unfolding change_at
          change_break l = rw (ne_eqb (get_or b p 0) (get_or a p 0) d, ← f, e, ← g, h, ← add-one p, ← i, j, ← k, l)

          pub change_no_word : u ≡ false → NoWord ≡ change_at b a p
          unfolding change_at
          change_no_word l = rw (ne_eqb (get_or b p 0) (get_or a p 0) d, ← f, e, ← g, h, ← add-one p, ← i, j, ← k, l)

pub ruleset changing = (change_kept, change_letter, change_other, change_space, change_break, change_no_word, not-true, not-false)

-- ---- `first_bad`

-- All bytes before `at` are changed as they may be.
pub record Sought (b a : List ℕ) (at : ℕ) : Type 0 where
  pub same : first_bad_from b a (length b - at) at ≡ first_bad b a
  pub inside : at ≤ length b

pub sought_start : (b a : List ℕ) → Sought b a 0
unfolding first_bad
sought_start b a = let e : length b - 0 ≡ length b = omega arith in record { same = rw e; inside = omega arith }

module _ {b a : List ℕ} {at : ℕ} (k : Sought b a at) where
  next_place : at < length b → first_bad b a ≡ pick (allowed (change_at b a at)) (first_bad_from b a (length b - (at + 1)) (at + 1)) at
  unfolding first_bad_from
  next_place l =
      let e : length b - at ≡ suc (length b - (at + 1)) = omega arith in
      let s : first_bad_from b a (suc (length b - (at + 1))) at ≡ first_bad b a = rw e at k.same in
      sym s ∙ rw (add-one at)

  pub sought_step : {r : Change} {t : Bool} → at < length b → r ≡ change_at b a at → t ≡ allowed r → t ≡ true → Sought b a (at + 1)
  sought_step {r} {t} l e f g =
      let h : allowed (change_at b a at) ≡ true = rw (← e, ← f, g) in
      record { same = sym (next_place l ∙ rw h); inside = omega arith }

  pub sought_stop : {r : Change} {t : Bool} → at < length b → r ≡ change_at b a at → t ≡ allowed r → t ≡ false → Some (record { 0 = at }) ≡ bad_of b a
  sought_stop {r} {t} l e f g =
      let h : allowed (change_at b a at) ≡ false = rw (← e, ← f, g) in
      let p : first_bad b a ≡ at = next_place l ∙ rw h in
      rw (p, lt-ltb at (length b) l)

  pub sought_end : length b ≤ at → None ≡ bad_of b a
  unfolding first_bad_from
  sought_end l =
      let e : length b - at ≡ 0 = omega arith in
      let s : first_bad_from b a 0 at ≡ first_bad b a = rw e at k.same in
      rw (← s, le-ltb at (length b) l)

pub ruleset seeking = (sought_start, sought_step, sought_stop, sought_end, not-true, not-false)
