-- Words of the block: where one ends and the next starts, whether two rows are the same, whether a word is too long; a law for each way through the code.
use mathlib.Core.Path.{◌≡◌, refl, sym, ◌∙◌}
use mathlib.Core.Bool.{Bool, true, false}
use mathlib.Core.List.{List, [], ◌∷◌}
use Prim.Native.Nat.{ℕ, suc, ◌+◌, ◌≤◌, ◌<◌, min}
use native.Mathlib.Numerals.{add-one}
use native.Mathlib.Omega.{arith}
use lib.Dec.{eqb, ltb}
use lib.ListN.{length, get_or, drop, drop_of_length-le}
use lib.Pointwise.{pointwise}
use lib.Seq.{drop-cons}
use borrow.Author.Tests.{lt-ltb, le-ltb, ltb-true, ltb-false}
use Rattle.std.specs.List.{prefix_len}
use Rattle.logic.specs.Choice.{pick}
use Rattle.logic.specs.Count.{count}
use Rattle.logic.proofs.Choice.{both}
use Rattle.asked.specs.Block.{in_word, end_at, after_of, same, IsAfter, run_after, runs_over}

-- ---- where a word ends

prefix_count : (p : ℕ → Bool) (s : List ℕ) → prefix_len p s ≡ count p s
unfolding count
prefix_count p [] = refl
prefix_count p (b ∷ t) = both (p b) (λ e. rw e (rw (prefix_count p t) (omega arith))) (λ e. rw e)

pub end_counted : {n : ℕ} (b : List ℕ) (at : ℕ) → n ≡ prefix_len in_word (drop at b) → at + n ≡ end_at b at
unfolding end_at
end_counted b at e = rw (e, prefix_count in_word (drop at b))

pub after_least : {e n : ℕ} (b : List ℕ) (at : ℕ) → e ≡ end_at b at → e ≤ length b → n ≡ min (length b) (e + 1) → IsAfter b n b at
unfolding after_of
after_least {e} b at q h m = record {
  block = refl;
  place = rw (← q) (both (ltb e (length b))
      (λ l. rw l (omega (arith, ltb-true e (length b) l)))
      (λ l. rw l (omega (arith, ltb-false e (length b) l))));
}

-- ---- two rows of bytes

pub same_pairs : (s t : List ℕ) → pointwise eqb s t ≡ same s t
unfolding same
same_pairs [] [] = refl
same_pairs [] (b ∷ t) = refl
same_pairs (a ∷ s) [] = refl
same_pairs (a ∷ s) (b ∷ t) = rw (same_pairs s t)

-- ---- a word that is too long

pub run_on : {t : Bool} (run b : ℕ) → t ≡ in_word b → t ≡ true → run + 1 ≡ run_after run b
run_on run b e q = rw (sym e ∙ q)

pub run_off : {t : Bool} (run b : ℕ) → t ≡ in_word b → t ≡ false → 0 ≡ run_after run b
run_off run b e q = rw (sym e ∙ q)

pub record Running (m : ℕ) (s : List ℕ) (run i : ℕ) : Type 0 where
  pub left : runs_over m run (drop i s) ≡ runs_over m 0 s
  pub small : run ≤ m

pub running_start : (m : ℕ) (s : List ℕ) → Running m s 0 0
running_start m s = record { left = refl; small = omega arith }

module _ {m : ℕ} {s : List ℕ} {run i n : ℕ} (r : Running m s run i) (h : i < length s) (e : n ≡ run_after run (get_or s i 0)) where
  stepped : pick (ltb m n) true (runs_over m n (drop (suc i) s)) ≡ runs_over m 0 s
  unfolding runs_over
  stepped = rw e (rw (drop-cons s i 0 h) at r.left)

  pub running_long : m < n → true ≡ runs_over m 0 s
  running_long l = rw (lt-ltb m n l) at stepped

  pub running_step : n ≤ m → Running m s n (i + 1)
  running_step l = record { left = rw (add-one i) (rw (le-ltb m n l) at stepped); small = l }

pub running_end : {m : ℕ} {s : List ℕ} {run i : ℕ} → Running m s run i → length s ≤ i → false ≡ runs_over m 0 s
unfolding runs_over
running_end {m} {s} {run} {i} r h = rw (drop_of_length-le s h) at r.left

pub ruleset running = (run_on, run_off, running_start, running_long, running_step, running_end)
