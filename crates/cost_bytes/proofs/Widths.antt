-- Line widths past the 4,096th are never met: line numbers are below the number of fragments. So the widths that are read are enough.
use Rattle.std.proofs.Common.{Result}
use mathlib.Core.Path.{◌≡◌, refl, sym, ap, ◌∙◌}
use mathlib.Core.Bool.{Bool}
use mathlib.Core.List.{List, [], ◌∷◌}
use Prim.Native.Nat.{ℕ, zero, suc, ◌+◌, ◌≤◌, ◌<◌, min}
use native.Mathlib.Omega.{arith}
use lib.Dec.{leb, ltb}
use lib.ListN.{length, take}
use lib.Seq.{sets, take-length, length-take-le, get_or-take}
use borrow.Author.Tests.{ltb-true, ltb-false}
use Rattle.units.specs.Limits.{width_most}
use Rattle.logic.specs.Count.{count}
use Rattle.logic.proofs.Choice.{both}
use Rattle.fragments.specs.declared.ListRefusal.{ListRefusal}
use Rattle.fragments.specs.Lists.{width_of, found, first_above, tested_of}
use Rattle.fragments.proofs.Laws.{Sound, found_none, none_found, tested_good, good_tested, width_in}
use Rattle.cheapest.specs.Least.{first_least}
use Rattle.cheapest.specs.Lines.{line_of}
use Rattle.cheapest.specs.Table.{at, via, choice, table_of, best_costs, chosen_starts}
use Rattle.cheapest.proofs.Lines.{line_le}
use Rattle.least_cost.specs.declared.Penalties.{Penalties}
use Rattle.least_cost.specs.Price.{target, price}
use Rattle.least_cost.specs.Layout.{lines_of, costs_of, starts_of, ends_of_lines}
use Rattle.least_cost.proofs.Laying.{open_says}
use Rattle.cost_bytes.specs.Bytes.{LaidBytes, admitted, Begun}
use Rattle.cost_bytes.proofs.Stores.{take_stored}
use Rattle.cost_bytes.proofs.Laying.{begun_few, laid_open}

-- ---- a table by two prices that agree on the lines that can be met

first_same : (f g : ℕ → ℕ) (n : ℕ) → ((k : ℕ) → k ≤ n → f k ≡ g k) → first_least f n ≡ first_least g n
unfolding first_least
first_same f g zero e = ap (λ v. (0, v)) (e 0 (omega arith))
first_same f g (suc n) e = rw (first_same f g n (λ k l. e k (omega arith)), e (suc n) (omega arith))

tables_same : (q r : ℕ → ℕ → ℕ → ℕ) (n : ℕ) → ((l i j : ℕ) → l ≤ i → i < n → q l i j ≡ r l i j) → table_of q n ≡ table_of r n
unfolding table_of choice
tables_same q r zero e = refl
tables_same q r (suc n) e =
    let t = table_of r n in
    rw (
      tables_same q r n (λ l i j a b. e l i j a (omega arith)),
      first_same (via q (at t.0) (at t.1) (suc n)) (via r (at t.0) (at t.1) (suc n)) n
          (λ k l. ap (λ v. at t.0 k + v) (e (line_of (at t.1) k) k (suc n) (line_le (at t.1) k) (omega arith))),
    )

-- ---- widths cut off

cut_width : (ws : List ℕ) (m k : ℕ) → m ≡ min (length ws) 4096 → k < 4096 → width_of (take m ws) k ≡ width_of ws k
cut_width ws m k e h =
    both (ltb 4096 (length ws))
    (λ t.
    let l = ltb-true 4096 (length ws) t in
    let z : m ≡ 4096 = omega arith in
    let n : length (take m ws) ≡ 4096 = length-take-le m ws (omega arith) ∙ z in
    sym (width_in (take m ws) k (sym n) h refl) ∙ get_or-take m ws k 0 (omega arith) ∙ width_in ws k refl (omega arith) refl)
    (λ t. let z : m ≡ length ws = omega (arith, ltb-false 4096 (length ws) t) in rw (z, take-length ws))

cut_price : (w s p ws : List ℕ) (P : Penalties) (m l i j : ℕ) → m ≡ min (length ws) 4096 → l < 4096 → price w s p (take m ws) P l i j ≡ price w s p ws P l i j
unfolding price target
cut_price w s p ws P m l i j e h = rw (cut_width ws m l e h)

module _ (w s p ws : List ℕ) (P : Penalties) (m : ℕ) (e : m ≡ min (length ws) 4096) (few : length w ≤ 4096) where
  cut_table : table_of (price w s p (take m ws) P) (length w) ≡ table_of (price w s p ws P) (length w)
  cut_table = tables_same (price w s p (take m ws) P) (price w s p ws P) (length w) (λ l i j a b. cut_price w s p ws P m l i j e (omega arith))

  cut_costs : costs_of w s p (take m ws) P ≡ costs_of w s p ws P
  unfolding costs_of best_costs
  cut_costs = ap (λ t. t.0) cut_table

  cut_starts : starts_of w s p (take m ws) P ≡ starts_of w s p ws P
  unfolding starts_of chosen_starts
  cut_starts = ap (λ t. t.1) cut_table

  cut_ends : ends_of_lines w s p (take m ws) P ≡ ends_of_lines w s p ws P
  unfolding ends_of_lines
  cut_ends = ap (λ t. lines_of (at t) (length w)) cut_starts

-- ---- the tests of widths cut off

all_taken : (p : ℕ → Bool) (l : List ℕ) (m : ℕ) → length l ≤ count p l → length (take m l) ≤ count p (take m l)
unfolding count
all_taken p l zero h = omega arith
all_taken p [] (suc m) h = omega arith
all_taken p (b ∷ l) (suc m) h =
    both (p b)
    (λ e. let k : suc (length l) ≤ suc (count p l) = rw e at h in rw e (omega (arith, all_taken p l m (omega arith))))
    (λ e. let k : suc (length l) ≤ 0 = rw e at h in absurd (omega arith))

module _ {w s p ws : List ℕ} {P : Penalties} {E C S : List ℕ} (g : Begun w s p ws P E C S) where
  narrow : Sound (length w) (length s) (length p) × (length ws ≤ first_above width_most ws)
  unfolding admitted
  narrow =
      let t = tested_good (length w) (length s) (length p) (found (first_above width_most ws) (length ws)) (open_says _ _ _ _ _ _ (sym g.begun)).good in
      (t.0, none_found (first_above width_most ws) (length ws) t.1)

  pub begun_whites : length s ≡ length w
  begun_whites = narrow.0.whites_same

  pub begun_penalties : length p ≡ length w
  begun_penalties = narrow.0.penalties_same

module _ {w s p ws : List ℕ} {P : Penalties} {E C S : List ℕ} {m : ℕ} (g : Begun w s p ws P E C S) (e : m ≡ min (length ws) 4096) where
  cut_tested : tested_of (length w) (length s) (length p) (found (first_above width_most (take m ws)) (length (take m ws))) ≡ tested_of (length w) (length s) (length p) (found (first_above width_most ws) (length ws))
  unfolding first_above
  cut_tested =
      let n = narrow g in
      good_tested (length w) (length s) (length p) _ n.0 (found_none _ _ (all_taken (λ x. leb x width_most) ws m n.1))
      ∙ sym (good_tested (length w) (length s) (length p) _ n.0 (found_none _ _ n.1))

  pub begun_cut : Begun w s p (take m ws) P E C S
  unfolding admitted
  begun_cut = record { begun = rw cut_tested g.begun }

  pub laid_cut : {r : Result ℕ ListRefusal} {E' C' S' : List ℕ} → LaidBytes w s p (take m ws) P E C S r E' C' S' → LaidBytes w s p ws P E C S r E' C' S'
  laid_cut k =
      let f = begun_few g in
      record {
        answer = k.answer ∙ laid_open w s p (take m ws) P _ _ _ begun_cut.begun ∙ rw (cut_costs w s p ws P m e f, cut_ends w s p ws P m e f) (sym (laid_open w s p ws P _ _ _ g.begun));
        ends = rw (cut_ends w s p ws P m e f) at k.ends;
        costs = rw (cut_costs w s p ws P m e f) at k.costs;
        starts = rw (cut_starts w s p ws P m e f) at k.starts;
      }

-- ---- the numbers that were read

pub read_all : {A : List ℕ} (l xs : List ℕ) (n : ℕ) → n ≡ length xs → n ≤ length l → A ≡ sets l 0 (take n xs) → take n A ≡ xs
read_all l xs n e h q =
    let a : take n xs ≡ xs = rw (e, take-length xs) in
    rw (q, a) (take_stored l xs n e (omega arith))

pub read_some : {A : List ℕ} (l xs : List ℕ) (n : ℕ) → n ≤ length xs → n ≤ length l → A ≡ sets l 0 (take n xs) → take n A ≡ take n xs
read_some l xs n b h q =
    let a : length (take n xs) ≡ n = length-take-le n xs b in
    rw q (take_stored l (take n xs) n (sym a) (omega arith))

module _ {w s p ws w' s' p' ws' : List ℕ} {P : Penalties} {E C S : List ℕ} {m : ℕ} (g : Begun w s p ws P E C S) (e : m ≡ min (length ws) 4096)
    (a : w' ≡ w) (b : s' ≡ s) (c : p' ≡ p) (d : ws' ≡ take m ws) where
  pub begun_read : Begun w' s' p' ws' P E C S
  begun_read = rw (a, b, c, d) (begun_cut g e)

  pub laid_read : {r : Result ℕ ListRefusal} {E' C' S' : List ℕ} → LaidBytes w' s' p' ws' P E C S r E' C' S' → LaidBytes w s p ws P E C S r E' C' S'
  laid_read k = laid_cut g e (rw (a, b, c, d) at k)
