-- The table as it is filled: what holds at the head of the loop, and a law for each way into, round and out of it.
use mathlib.Core.Path.{◌≡◌, refl, sym, ap, ◌∙◌}
use mathlib.Core.Logic.{⊎_elim, ◌≢◌}
use mathlib.Core.List.{List, []}
use Prim.Native.Nat.{ℕ, suc, ◌+◌, ◌-◌, ◌^◌, ◌≤◌, ◌<◌, min, max}
use native.Mathlib.Nat.{eq-or-lt_of_le}
use native.Mathlib.Numerals.{add-one}
use native.Mathlib.Omega.{arith}
use lib.ListN.{length, get_or, set, replicate, length-set, length-replicate, get_or-replicate}
use lib.Seq.{sets, set-set, get_or_at, get_or-set_same, get_or-set_other}
use Rattle.fragments.specs.Lists.{width_of}
use Rattle.cheapest.specs.Least.{Cheapest}
use Rattle.cheapest.specs.Lines.{Falls, line_of}
use Rattle.cheapest.specs.Table.{at, via, best_costs, chosen_starts}
use Rattle.cheapest.proofs.Lines.{line_same, line_zero}
use Rattle.cheapest.proofs.Table.{table_falls, costs_length, starts_length, table_computed, costs_none, starts_none, grown_same, chosen}
use Rattle.least_cost.specs.declared.Penalties.{Penalties}
use Rattle.least_cost.specs.Price.{target, price}
use Rattle.least_cost.specs.Layout.{costs_of, starts_of}
use Rattle.least_cost.specs.Search.{Small, Even, Ready, Widest, Searchable, Fillable, start_price}
use Rattle.least_cost.proofs.Bounds.{Short, cost_cap}
use Rattle.least_cost.proofs.Stores.{sets_snoc, sets_at, sets_first}

-- With at most one line width the line number does not count.
pub one_target : (ws : List ℕ) (k l : ℕ) → length ws ≤ 1 → target ws k ≡ target ws l
unfolding target width_of
one_target ws k l h =
    let e : min k (length ws - 1) ≡ min l (length ws - 1) = omega arith in
    ap (λ (x : ℕ). max 1 (get_or ws x 0)) e

module _ (w s p ws : List ℕ) (P : Penalties) (widest : ℕ) (C₀ S₀ : List ℕ) where
  -- What does not change.
  pub record Fixed : Type 0 where
    pub small : Small P
    pub even : Even w s p
    pub words : Short w
    pub whites : Short s
    pub penalties : Short p
    pub widths : Short ws
    pub most : Widest ws widest
    pub room : length w < length C₀
    pub place : length w < length S₀

  -- The positions up to j are done.
  pub record Done (C S : List ℕ) (j : ℕ) : Type 0 where
    pub fixed : Fixed
    pub to : j ≤ length w
    pub costs : C ≡ sets C₀ 0 (best_costs (price w s p ws P) j)
    pub starts : S ≡ sets S₀ 0 (chosen_starts (price w s p ws P) j)
    pub room : length C ≡ length C₀
    pub place : length S ≡ length S₀

  -- Their targets and their chosen starts are at hand.
  pub record Aimed (T N : List ℕ) (j : ℕ) : Type 0 where
    pub long : length T ≡ 4097
    pub wide : length N ≡ 4097
    pub chosen : (k : ℕ) → k ≤ j → at N k ≡ at (chosen_starts (price w s p ws P) j) k
    pub targets : (k : ℕ) → k ≤ j → at T k ≡ target ws (line_of (at (chosen_starts (price w s p ws P) j)) k)
    pub one : length ws ≤ 1 → (k : ℕ) → k < 4097 → at T k ≡ target ws 0

  pub record Filling (T N C S : List ℕ) (j : ℕ) : Type 0 where
    pub done : Done C S j
    pub aimed : Aimed T N j

  module _ {C S : List ℕ} {j : ℕ} (d : Done C S j) where
    cost_at : (k : ℕ) → k ≤ j → at C k ≡ at (best_costs (price w s p ws P) j) k
    cost_at k l =
        let n = costs_length (price w s p ws P) j in
        rw d.costs (sets_at C₀ (best_costs (price w s p ws P) j) k (omega arith) (omega (arith, d.to, d.fixed.room)))

    cheap_at : (k : ℕ) → k ≤ j → at C k ≤ 2 ^ 50
    cheap_at k l =
        let q = price w s p ws P in
        let f = d.fixed in
        rw (cost_at k l)
        (cost_cap w s p ws P f.words f.whites f.penalties f.widths f.small j (at (best_costs q j)) (at (chosen_starts q j)) (table_computed q j) (omega (arith, d.to, f.even.few)) k l)

  -- ---- one position more

  module _ {T N C S : List ℕ} {j : ℕ} (f : Filling T N C S j) (below : j < length w) where
    -- What a later end costs with a start that is known, in the lists as in the table.
    priced : (e k : ℕ) → k < suc j → start_price w s p P T C e k ≡ via (price w s p ws P) (at (best_costs (price w s p ws P) j)) (at (chosen_starts (price w s p ws P) j)) e k
    unfolding start_price price
    priced e k l = rw (cost_at f.done k (omega arith), f.aimed.targets k (omega arith))

    settled : (i k : ℕ) → k < i → i < j + 1 → at C i ≤ start_price w s p P T C i k
    settled i k l b =
        let q = price w s p ws P in
        rw (priced i k (omega arith), cost_at f.done i (omega arith)) (((table_computed q j).step i (omega arith) (omega arith)).least k l)

    pub filling_ready : Ready w s p P T widest C (j + 1)
    filling_ready = record {
      above = omega arith;
      within = omega arith;
      room = omega (arith, f.done.room, f.done.fixed.room);
      cheap = λ k l. cheap_at f.done k (omega arith);
      narrow = λ k l. rw (f.aimed.targets k (omega arith)) (f.done.fixed.most.all _);
      least = settled;
      most = f.done.fixed.most.low;
    }

    pub filling_done : {i v : ℕ} → Cheapest (start_price w s p P T C (j + 1)) (j + 1) i v → Done (set C (j + 1) v) (set S (j + 1) i) (j + 1)
    filling_done {i} {v} h =
        let q = price w s p ws P in
        let u = chosen q j i v (start_price w s p P T C (suc j)) (rw (add-one j) at h) (priced (suc j)) in
        record {
          fixed = f.done.fixed;
          to = omega arith;
          costs = rw (add-one j, u.0, f.done.costs) (sets_snoc C₀ (best_costs q j) (suc j) v (omega (arith, costs_length q j)));
          starts = rw (add-one j, u.1, f.done.starts) (sets_snoc S₀ (chosen_starts q j) (suc j) i (omega (arith, starts_length q j)));
          room = length-set C (j + 1) v ∙ f.done.room;
          place = length-set S (j + 1) i ∙ f.done.place;
        }

    module _ {i v : ℕ} (h : Cheapest (start_price w s p P T C (j + 1)) (j + 1) i v) where
      -- The chosen starts, with the one of this position.
      stays : (k : ℕ) → k ≤ j → at (chosen_starts (price w s p ws P) j) k ≡ at (chosen_starts (price w s p ws P) (j + 1)) k
      stays k l = rw (add-one j) (grown_same (price w s p ws P) j k l).1

      last : at (chosen_starts (price w s p ws P) (j + 1)) (j + 1) ≡ i
      last =
          let q = price w s p ws P in
          let u = chosen q j i v (start_price w s p P T C (suc j)) (rw (add-one j) at h) (priced (suc j)) in
          rw (add-one j, u.1) (get_or_at (chosen_starts q j) i [] 0 (suc j) (omega (arith, starts_length q j)))

      chosen_next : (k : ℕ) → k ≤ j + 1 → at (set N (j + 1) i) k ≡ at (chosen_starts (price w s p ws P) (j + 1)) k
      chosen_next k l = ⊎_elim
          (λ (z : k ≡ j + 1). rw z (get_or-set_same N (j + 1) i 0 (omega (arith, f.aimed.wide, f.done.fixed.even.few)) ∙ sym last))
          (λ (m : k < j + 1). let n : k ≢ j + 1 = omega arith in get_or-set_other N (j + 1) k i 0 n ∙ f.aimed.chosen k (omega arith) ∙ stays k (omega arith))
          (eq-or-lt_of_le l)

      -- Each chosen start is smaller.
      pub chosen_falls : Falls (at (set N (j + 1) i)) (j + 1)
      chosen_falls k z l =
          let q = price w s p ws P in
          rw (chosen_next k l) (table_falls q (j + 1) (at (best_costs q (j + 1))) (at (chosen_starts q (j + 1))) (table_computed q (j + 1)) k z l)

      -- With one width its target is there already.
      pub filling_one : {C' S' : List ℕ} → Done C' S' (j + 1) → length ws ≤ 1 → Filling T (set N (j + 1) i) C' S' (j + 1)
      filling_one d l = record {
        done = d;
        aimed = record {
          long = f.aimed.long;
          wide = length-set N (j + 1) i ∙ f.aimed.wide;
          chosen = chosen_next;
          targets = λ k m. f.aimed.one l k (omega (arith, d.to, d.fixed.even.few)) ∙ one_target ws 0 _ l;
          one = f.aimed.one;
        };
      }

      -- With several it is that of its line number.
      pub filling_many : {C' S' : List ℕ} {line t : ℕ} → Done C' S' (j + 1) → 1 < length ws → line ≡ line_of (at (set N (j + 1) i)) (j + 1) → t ≡ target ws line
          → Filling (set T (j + 1) t) (set N (j + 1) i) C' S' (j + 1)
      filling_many {C'} {S'} {line} {t} d l el et = record {
        done = d;
        aimed = record {
          long = length-set T (j + 1) t ∙ f.aimed.long;
          wide = length-set N (j + 1) i ∙ f.aimed.wide;
          chosen = chosen_next;
          targets = λ k m. ⊎_elim (λ (z : k ≡ j + 1). rw z here) (λ (b : k < j + 1). there k (omega arith)) (eq-or-lt_of_le m);
          one = λ o. absurd (omega arith);
        };
      }
        where
          here : at (set T (j + 1) t) (j + 1) ≡ target ws (line_of (at (chosen_starts (price w s p ws P) (j + 1))) (j + 1))
          here =
              get_or-set_same T (j + 1) t 0 (omega (arith, f.aimed.long, d.to, d.fixed.even.few))
              ∙ et
              ∙ ap (λ (x : ℕ). target ws x) (el ∙ line_same (at (set N (j + 1) i)) (at (chosen_starts (price w s p ws P) (j + 1))) (j + 1) chosen_falls chosen_next)

          there : (k : ℕ) → k ≤ j → at (set T (j + 1) t) k ≡ target ws (line_of (at (chosen_starts (price w s p ws P) (j + 1))) k)
          there k m =
              let q = price w s p ws P in
              let n : k ≢ j + 1 = omega arith in
              get_or-set_other T (j + 1) k t 0 n
              ∙ f.aimed.targets k m
              ∙ ap (λ (x : ℕ). target ws x)
              (line_same (at (chosen_starts q j)) (at (chosen_starts q (j + 1))) k
              (λ i z b. table_falls q j (at (best_costs q j)) (at (chosen_starts q j)) (table_computed q j) i z (omega arith))
              (λ i b. stays i (omega arith)))

-- ---- the start and the end; E and F are the scratch lists before the first store

module _ (w s p ws : List ℕ) (P : Penalties) (widest : ℕ) (E F : List ℕ) where
  pub filling_start : {T N : List ℕ} → Small P → Even w s p → Fillable w ws T N E F → Short w → Short s → Short p → Short ws → Widest ws widest
      → Filling w s p ws P widest (set E 0 0) (set F 0 0) T N (set E 0 0) (set F 0 0) 0
  filling_start {T} {N} small even f hw hs hp hws m = record {
    done = record {
      fixed = record {
        small = small;
        even = even;
        words = hw;
        whites = hs;
        penalties = hp;
        widths = hws;
        most = m;
        room = omega (arith, f.costs, length-set E 0 0);
        place = omega (arith, f.starts, length-set F 0 0);
      };
      to = omega arith;
      costs = rw (costs_none (price w s p ws P)) (sym (set-set E 0 0 0));
      starts = rw (starts_none (price w s p ws P)) (sym (set-set F 0 0 0));
      room = refl;
      place = refl;
    };
    aimed = record {
      long = f.long;
      wide = f.wide;
      chosen = λ k l. let z : k ≡ 0 = omega arith in rw (z, starts_none (price w s p ws P)) f.none;
      targets = λ k l. let z : k ≡ 0 = omega arith in rw (z, line_zero) (f.targets 0 (omega arith));
      one = λ o. f.targets;
    };
  }

  pub filling_end : {T N C S : List ℕ} {j : ℕ} → Filling w s p ws P widest (set E 0 0) (set F 0 0) T N C S j → length w ≤ j → (C ≡ sets E 0 (costs_of w s p ws P)) × (S ≡ sets F 0 (starts_of w s p ws P))
  unfolding costs_of starts_of
  filling_end {T} {N} {C} {S} {j} f l =
      let q = price w s p ws P in
      let e : length w ≡ j = omega (arith, f.done.to) in
      rw e (
        f.done.costs ∙ sets_first E (best_costs q j) 0 (omega (arith, costs_length q j)),
        f.done.starts ∙ sets_first F (chosen_starts q j) 0 (omega (arith, starts_length q j)),
      )

pub ruleset filling = (filling_ready, filling_done, filling_one, filling_many, chosen_falls)

-- Every target is that of the first line.
pub filling_all : {w ws C S : List ℕ} {t : ℕ} → Searchable w C S → t ≡ target ws 0 → Fillable w ws (replicate 4097 t) (replicate 4097 0) C S
filling_all {w} {ws} {C} {S} {t} h e = record {
  costs = h.costs;
  starts = h.starts;
  long = length-replicate 4097 t;
  wide = length-replicate {A = ℕ} 4097 0;
  none = get_or-replicate {A = ℕ} 4097 0 0 0 (omega arith);
  targets = λ k l. get_or-replicate 4097 k t 0 l ∙ e;
}
