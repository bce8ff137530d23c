-- What callers and the handbook use: how long the lists are, that the written ends are a layout of the cost that stands in the scratch, that with one line width no layout costs less, and that refusal 8
-- never comes.
use Rattle.std.proofs.Common.{Option, Result, Ok, Err}
use mathlib.Core.Path.{◌≡◌, refl, ap, ◌∙◌}
use mathlib.Core.List.{List, [], ◌∷◌}
use Prim.Native.Nat.{ℕ, zero, suc, ◌+◌, ◌^◌, ◌≤◌, ◌<◌, max}
use native.Mathlib.Omega.{arith}
use lib.Dec.{ltb}
use lib.ListN.{length}
use borrow.Author.Tests.{le-ltb}
use Rattle.units.specs.Limits.{fragments_most, cost_most}
use Rattle.logic.specs.Choice.{pick}
use Rattle.logic.proofs.Choice.{both}
use Rattle.fragments.specs.Lists.{found, list_test}
use Rattle.fragments.specs.declared.ListRefusal.{ListRefusal}
use Rattle.fragments.specs.declared.ListRefusal.TheVariants.{TooDear}
use Rattle.fragments.proofs.Laws.{Sound, tested_good}
use Rattle.cheapest.specs.Lines.{Rises, cost_of, ends_of}
use Rattle.cheapest.specs.Table.{at, Table}
use Rattle.cheapest.proofs.Lines.{ends_length, line_le}
use Rattle.cheapest.proofs.Table.{table_computed, costs_length, starts_length}
use Rattle.cheapest.proofs.Laws.{Back, back, least_of_all}
use Rattle.least_cost.specs.declared.Penalties.{Penalties}
use Rattle.least_cost.specs.Price.{price_at, price}
use Rattle.least_cost.specs.Layout.{first_big, admission_of, lines_of, laid_from, scratch_after, costs_of, starts_of, ends_of_lines, laid_of}
use Rattle.least_cost.specs.Search.{Small}
use Rattle.least_cost.proofs.Bounds.{Short, cost_cap}
use Rattle.least_cost.proofs.Filling.{one_target}
use Rattle.least_cost.proofs.Laying.{never, Opened, open_says, small_says, shut_keeps}

module _ (w s p ws : List ℕ) (P : Penalties) where
  pub costs_places : length (costs_of w s p ws P) ≡ length w + 1
  unfolding costs_of
  costs_places = costs_length (price w s p ws P) (length w)

  pub starts_places : length (starts_of w s p ws P) ≡ length w + 1
  unfolding starts_of
  starts_places = starts_length (price w s p ws P) (length w)

  -- The scratch holds the table of best costs and chosen starts.
  pub scratch_table : Table (price w s p ws P) (length w) (at (costs_of w s p ws P)) (at (starts_of w s p ws P))
  unfolding costs_of starts_of
  scratch_table = table_computed (price w s p ws P) (length w)

  way : Back (price w s p ws P) (length w) (at (costs_of w s p ws P)) (at (starts_of w s p ws P)) scratch_table (length w) (ends_of (at (starts_of w s p ws P)) (length w))
  way = back (price w s p ws P) (length w) (at (costs_of w s p ws P)) (at (starts_of w s p ws P)) scratch_table (length w) (omega arith)

  lines_some : (f : ℕ → ℕ) (n : ℕ) → 0 < n → lines_of f n ≡ ends_of f n
  lines_some f zero l = absurd (omega arith)
  lines_some f (suc n) l = refl

  -- The ends of at least one fragment rise strictly from above 0 to the number of fragments, and as a layout they cost what stands last in the costs.
  pub ends_rise : 0 < length w → Rises 0 (ends_of_lines w s p ws P) (length w)
  unfolding ends_of_lines
  ends_rise l = rw (lines_some (at (starts_of w s p ws P)) (length w) l) way.rises

  pub ends_cost : 0 < length w → cost_of (price w s p ws P) 0 0 (ends_of_lines w s p ws P) ≡ at (costs_of w s p ws P) (length w)
  unfolding ends_of_lines
  ends_cost l = rw (lines_some (at (starts_of w s p ws P)) (length w) l) way.cost

  -- No fragments have one line with end 0, and cost 0.
  pub ends_none : length w ≡ 0 → (ends_of_lines w s p ws P ≡ 0 ∷ []) × (at (costs_of w s p ws P) (length w) ≡ 0)
  unfolding ends_of_lines
  ends_none e = rw e (refl, scratch_table.cost0)

  few_lines : (f : ℕ → ℕ) (n : ℕ) → length (lines_of f n) ≤ max 1 n
  few_lines f zero = omega arith
  few_lines f (suc n) = omega (arith, ends_length f (suc n), line_le f (suc n))

  -- There are at most as many ends as the answer list must have places.
  pub ends_few : length (ends_of_lines w s p ws P) ≤ max 1 (length w)
  unfolding ends_of_lines
  ends_few = few_lines (at (starts_of w s p ws P)) (length w)

  -- With at most one line width the line number does not count, and no layout costs less.
  pub one_width : length ws ≤ 1 → (l l' i j : ℕ) → price w s p ws P l i j ≡ price w s p ws P l' i j
  unfolding price
  one_width h l l' i j = ap (λ (t : ℕ). price_at w s p P t i j) (one_target ws l l' h)

  pub least_over_all : length ws ≤ 1 → (es : List ℕ) → Rises 0 es (length w) → at (costs_of w s p ws P) (length w) ≤ cost_of (price w s p ws P) 0 0 es
  least_over_all h = least_of_all (price w s p ws P) (length w) (at (costs_of w s p ws P)) (at (starts_of w s p ws P)) scratch_table (one_width h)

  -- An answer that writes to the scratch says that the search was begun, and it is that of the last step.
  tests : Result (Unit {0}) ListRefusal
  tests = list_test w s p ws

  begun : (ends costs starts : ℕ) (r : Result ℕ ListRefusal) → scratch_after r (0 ∷ []) (1 ∷ []) ≡ 0 ∷ [] → laid_of w s p ws P ends costs starts ≡ r
      → Opened tests (found (first_big P) 5) (length w) ends costs starts × (pick (ltb cost_most (at (costs_of w s p ws P) (length w))) (Err TooDear) (Ok (length (ends_of_lines w s p ws P))) ≡ r)
  unfolding laid_of tests
  begun ends costs starts r writes = go (admission_of tests (found (first_big P) 5) (length w) ends costs starts) refl
    where
      go : (a : Result (Unit {0}) ListRefusal) → a ≡ admission_of tests (found (first_big P) 5) (length w) ends costs starts → laid_from a (at (costs_of w s p ws P) (length w)) (length (ends_of_lines w s p ws P)) ≡ r
          → Opened tests (found (first_big P) 5) (length w) ends costs starts × (pick (ltb cost_most (at (costs_of w s p ws P) (length w))) (Err TooDear) (Ok (length (ends_of_lines w s p ws P))) ≡ r)
      go (Err why) e h =
          let k = (shut_keeps _ _ _ _ (found (first_big P) 5) (length w) ends costs starts why e (0 ∷ []) (1 ∷ [])).1 in
          let z : ◌≡◌ {A = List ℕ} (1 ∷ []) (0 ∷ []) = k ∙ ap (λ (x : Result ℕ ListRefusal). scratch_after x (0 ∷ []) (1 ∷ [])) h ∙ writes in
          never (cc)
      go (Ok u) e h = (open_says tests (found (first_big P) 5) (length w) ends costs starts e, h)

  alike : {big : Option ℕ} {ends costs starts : ℕ} → Opened tests big (length w) ends costs starts → Sound (length w) (length s) (length p)
  unfolding tests
  alike o = (tested_good _ _ _ _ o.good).0

  -- What an answer of k lines says: that is how many ends there are, and every list has the places that are written.
  pub record Fitting (k ends costs starts : ℕ) : Type 0 where
    pub count : k ≡ length (ends_of_lines w s p ws P)
    pub whites : length s ≡ length w
    pub penalties : length p ≡ length w
    pub few : length w ≤ fragments_most
    pub room : length (ends_of_lines w s p ws P) ≤ ends
    pub places : length w + 1 ≤ costs
    pub others : length w + 1 ≤ starts

  pub lines_fit : (k ends costs starts : ℕ) → laid_of w s p ws P ends costs starts ≡ Ok k → Fitting k ends costs starts
  lines_fit k ends costs starts h =
      let b = begun ends costs starts (Ok k) refl h in
      let g = alike b.0 in
      both (ltb cost_most (at (costs_of w s p ws P) (length w)))
      (λ t. let z : Err TooDear ≡ Ok k = rw t at b.1 in never (cc))
      (λ t.
      let z : Ok (length (ends_of_lines w s p ws P)) ≡ Ok k = rw t at b.1 in
      record {
        count = cc;
        whites = g.whites_same;
        penalties = g.penalties_same;
        few = g.few;
        room = omega (arith, ends_few, b.0.room);
        places = omega (arith, b.0.scratch);
        others = omega (arith, b.0.scratch);
      })

  -- Numbers of 16 bits: the least cost is at most 2^50 wherever the search is begun, so refusal 8 never comes.
  module _ (hw : Short w) (hs : Short s) (hp : Short p) (hws : Short ws) where
    pub least_cap : length w ≤ 4096 → Small P → at (costs_of w s p ws P) (length w) ≤ 2 ^ 50
    least_cap few small =
        cost_cap w s p ws P hw hs hp hws small (length w) (at (costs_of w s p ws P)) (at (starts_of w s p ws P)) scratch_table few (length w) (omega arith)

    pub never_dear : (ends costs starts : ℕ) → laid_of w s p ws P ends costs starts ≡ Err TooDear → ⊥
    never_dear ends costs starts h =
        let b = begun ends costs starts (Err TooDear) refl h in
        let l : at (costs_of w s p ws P) (length w) ≤ cost_most = omega (arith, least_cap (alike b.0).few (small_says P b.0.cheap)) in
        let z : Ok (length (ends_of_lines w s p ws P)) ≡ Err TooDear = rw (le-ltb cost_most (at (costs_of w s p ws P) (length w)) l) at b.1 in
        never (cc)
