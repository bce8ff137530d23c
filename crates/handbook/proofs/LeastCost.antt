-- LEAST COST: the table that stands in the scratch is document 01's, and there is only one; the written ends are a layout of that cost; with one line width no layout costs less; success and each refusal
-- exactly when document 01 says, in its order 5, 4, 3, 6, 7, 8; refusal 8 never comes. w, s, p and ws are the word, whitespace and penalty widths and the line widths, P the penalties.
use Rattle.std.proofs.Common.{Ok, Err}
use mathlib.Core.Path.{◌≡◌}
use mathlib.Core.List.{List, [], ◌∷◌}
use Prim.Native.Nat.{ℕ, ◌+◌, ◌≤◌, ◌<◌, min, max}
use lib.ListN.{length}
use borrow.Author.Tests.{lt-ltb, le-ltb, eq-eqb, ne_eqb}
use Rattle.units.specs.Limits.{fragments_most, width_most, cost_most}
use Rattle.units.specs.Answers.{success, refusal}
use Rattle.fragments.specs.declared.ListRefusal.TheVariants.{TooDear}
use Rattle.fragments.specs.Lists.{found, first_above, tested_of}
use Rattle.fragments.specs.Answers.{answer_of}
use Rattle.fragments.proofs.Laws.{found_none, good_tested}
use Rattle.cheapest.specs.Lines.{Rises, cost_of}
use Rattle.cheapest.specs.Table.{at, Table}
use Rattle.cheapest.proofs.Table.{table_unique}
use Rattle.least_cost.specs.declared.Penalties.{Penalties}
use Rattle.least_cost.specs.Price.{price}
use Rattle.least_cost.specs.Layout.{first_big, admission_of, costs_of, starts_of, ends_of_lines, laid_of}
use Rattle.least_cost.proofs.Bounds.{Short}
use Rattle.least_cost.proofs.Laws as laws

module _ (w s p ws : List ℕ) (P : Penalties) where
  -- "best(0) = 0; best(j) is the least price, and of equal prices the smallest i is chosen": this is what the costs and the chosen starts are,
  pub scratch_is_table : Table (price w s p ws P) (length w) (at (costs_of w s p ws P)) (at (starts_of w s p ws P))
  scratch_is_table = laws.scratch_table w s p ws P

  -- and any other table of the same prices has the same costs and the same starts.
  pub table_is_one : (c d : ℕ → ℕ) → Table (price w s p ws P) (length w) c d → (k : ℕ) → k ≤ length w → (c k ≡ at (costs_of w s p ws P) k) × (d k ≡ at (starts_of w s p ws P) k)
  table_is_one c d t k l = table_unique (price w s p ws P) (length w) c d (at (costs_of w s p ws P)) (at (starts_of w s p ws P)) t scratch_is_table k l

  -- "The answer is one end index per line": the ends rise strictly from above 0 to the number of fragments, and as a layout they cost best(n).
  pub ends_are_layout : 0 < length w → Rises 0 (ends_of_lines w s p ws P) (length w)
  ends_are_layout = laws.ends_rise w s p ws P

  pub ends_cost_best : 0 < length w → cost_of (price w s p ws P) 0 0 (ends_of_lines w s p ws P) ≡ at (costs_of w s p ws P) (length w)
  ends_cost_best = laws.ends_cost w s p ws P

  -- "With one line width the answer's cost is proved least over all layouts. With several it is not, and nothing of the kind is claimed."
  pub least_of_all_layouts : length ws ≤ 1 → (ends : List ℕ) → Rises 0 ends (length w) → at (costs_of w s p ws P) (length w) ≤ cost_of (price w s p ws P) 0 0 ends
  least_of_all_layouts = laws.least_over_all w s p ws P

  -- Within the bounds no least cost exceeds 2^53: refusal 8 is never given to lists of 16-bit numbers.
  pub eight_never : Short w → Short s → Short p → Short ws → (ends costs starts : ℕ) → laid_of w s p ws P ends costs starts ≡ Err TooDear → ⊥
  eight_never = laws.never_dear w s p ws P

  -- "No fragments give one empty line with end 0 and cost 0."
  pub none_one_line : length w ≡ 0 → (ends_of_lines w s p ws P ≡ 0 ∷ []) × (at (costs_of w s p ws P) (length w) ≡ 0)
  none_one_line = laws.ends_none w s p ws P

  -- ---- success and refusals; `ends`, `costs` and `starts` are the places of the three lists

  module _ (ends costs starts : ℕ) where
    -- "the three fragment lists differ in length"
    pub least_cost_unequal_whites : (length s ≡ length w → ⊥) → answer_of (laid_of w s p ws P ends costs starts) ≡ refusal 5 0
    unfolding laid_of admission_of tested_of answer_of
    least_cost_unequal_whites d = rw (ne_eqb (length s) (length w) d)

    pub least_cost_unequal_penalties : length s ≡ length w → (length p ≡ length w → ⊥) → answer_of (laid_of w s p ws P ends costs starts) ≡ refusal 5 0
    unfolding laid_of admission_of tested_of answer_of
    least_cost_unequal_penalties e d = rw (eq-eqb (length s) (length w) e, ne_eqb (length p) (length w) d)

    module _ (e : length s ≡ length w) (f : length p ≡ length w) where
      pub least_cost_too_many : fragments_most < length w → answer_of (laid_of w s p ws P ends costs starts) ≡ refusal 4 0
      unfolding laid_of admission_of tested_of answer_of
      least_cost_too_many l = rw (eq-eqb (length s) (length w) e, eq-eqb (length p) (length w) f, lt-ltb fragments_most (length w) l)

      module _ (l : length w ≤ fragments_most) where
        pub least_cost_too_wide : first_above width_most ws < length ws → answer_of (laid_of w s p ws P ends costs starts) ≡ refusal 3 (first_above width_most ws)
        unfolding laid_of admission_of tested_of answer_of
        least_cost_too_wide h = rw (eq-eqb (length s) (length w) e, eq-eqb (length p) (length w) f, le-ltb fragments_most (length w) l, lt-ltb (first_above width_most ws) (length ws) h)

        module _ (h : length ws ≤ first_above width_most ws) where
          good : tested_of (length w) (length s) (length p) (found (first_above width_most ws) (length ws)) ≡ Ok tt
          good = good_tested (length w) (length s) (length p) _ (record { whites_same = e; penalties_same = f; few = l }) (found_none _ _ h)

          -- "a penalty exceeds 1,000,000 | first such, 0 to 4": `first_big P` is the index of the first, and 5 where there is none.
          pub least_cost_big_penalty : first_big P < 5 → answer_of (laid_of w s p ws P ends costs starts) ≡ refusal 6 (first_big P)
          unfolding laid_of admission_of answer_of
          least_cost_big_penalty b = rw (good, lt-ltb (first_big P) 5 b)

          module _ (b : 5 ≤ first_big P) where
            -- "7 is tested on the answer lists, then on the scratch, by the shortest of each"
            pub least_cost_no_room : ends < max 1 (length w) → answer_of (laid_of w s p ws P ends costs starts) ≡ refusal 7 (max 1 (length w))
            unfolding laid_of admission_of answer_of
            least_cost_no_room r = rw (good, le-ltb (first_big P) 5 b, lt-ltb ends (max 1 (length w)) r)

            module _ (r : max 1 (length w) ≤ ends) where
              pub least_cost_no_scratch : min costs starts < length w + 1 → answer_of (laid_of w s p ws P ends costs starts) ≡ refusal 7 (length w + 1)
              unfolding laid_of admission_of answer_of
              least_cost_no_scratch t = rw (good, le-ltb (first_big P) 5 b, le-ltb ends (max 1 (length w)) r, lt-ltb (min costs starts) (length w + 1) t)

              module _ (t : length w + 1 ≤ min costs starts) where
                -- "the least cost exceeds 2^53": for any numbers; `eight_never` says that 16-bit numbers never come to it.
                pub least_cost_too_dear : cost_most < at (costs_of w s p ws P) (length w) → answer_of (laid_of w s p ws P ends costs starts) ≡ refusal 8 0
                unfolding laid_of admission_of answer_of
                least_cost_too_dear c =
                    rw (good, le-ltb (first_big P) 5 b, le-ltb ends (max 1 (length w)) r, le-ltb (min costs starts) (length w + 1) t, lt-ltb cost_most (at (costs_of w s p ws P) (length w)) c)

                pub least_cost_laid : at (costs_of w s p ws P) (length w) ≤ cost_most → answer_of (laid_of w s p ws P ends costs starts) ≡ success (length (ends_of_lines w s p ws P))
                unfolding laid_of admission_of answer_of
                least_cost_laid c =
                    rw (good, le-ltb (first_big P) 5 b, le-ltb ends (max 1 (length w)) r, le-ltb (min costs starts) (length w + 1) t, le-ltb cost_most (at (costs_of w s p ws P) (length w)) c)
