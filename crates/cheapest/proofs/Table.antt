-- The table: there is one, it is the computed one, and it speaks of the positions up to n alone.
use mathlib.Core.Path.{◌≡◌, refl, sym, ◌∙◌, subst}
use mathlib.Core.Logic.{⊎_elim}
use mathlib.Core.List.{[], ◌∷◌, ◌++◌}
use Prim.Native.Nat.{ℕ, zero, suc, ◌+◌, ◌≤◌, ◌<◌}
use native.Mathlib.Nat.{zero-add, le_antisymm, eq-or-lt_of_le, eq-zero-or-pos}
use native.Mathlib.Omega.{arith}
use lib.ListN.{length, length-append, get_or-append}
use lib.Seq.{get_or_at}
use Rattle.cheapest.specs.Least.{Cheapest}
use Rattle.cheapest.specs.Lines.{Falls}
use Rattle.cheapest.specs.Table.{at, via, Table, choice, table_of, best_costs, chosen_starts}
use Rattle.cheapest.proofs.Least.{first_least_lem, cheapest_same, cheapest_unique}
use Rattle.cheapest.proofs.Lines.{line_same, line_zero}

module _ (q : ℕ → ℕ → ℕ → ℕ) where
  pub table_falls : (n : ℕ) (c s : ℕ → ℕ) → Table q n c s → Falls s n
  table_falls n c s t j p l = (t.step j p l).below

  pub via_same : (c s c' s' : ℕ → ℕ) (j i : ℕ) → Falls s i → ((k : ℕ) → k ≤ i → (c k ≡ c' k) × (s k ≡ s' k)) → via q c s j i ≡ via q c' s' j i
  via_same c s c' s' j i f e = rw ((e i (omega arith)).0, line_same s s' i f (λ k l. (e k l).1))

  -- A table speaks of the positions up to n alone.
  pub table_same : (n : ℕ) (c s c' s' : ℕ → ℕ) → ((k : ℕ) → k ≤ n → (c k ≡ c' k) × (s k ≡ s' k)) → Table q n c s → Table q n c' s'
  table_same n c s c' s' e t = record {
    cost0 = sym (e 0 (omega arith)).0 ∙ t.cost0;
    start0 = sym (e 0 (omega arith)).1 ∙ t.start0;
    step = λ j p l.
        rw (← (e j l).0, ← (e j l).1)
        (cheapest_same (via q c s j) (via q c' s' j) j (s j) (c j)
        (λ i b. via_same c s c' s' j i (λ k p h. table_falls n c s t k p (omega arith)) (λ k h. e k (omega arith)))
        (t.step j p l));
  }

  -- One position more.
  pub table_more : (n : ℕ) (c s : ℕ → ℕ) → Table q n c s → Cheapest (via q c s (suc n)) (suc n) (s (suc n)) (c (suc n)) → Table q (suc n) c s
  table_more n c s t h = record {
    cost0 = t.cost0;
    start0 = t.start0;
    step = λ j p l. ⊎_elim
        (λ (e : j ≡ suc n). subst (λ (x : ℕ). Cheapest (via q c s x) x (s x) (c x)) (sym e) h)
        (λ (b : j < suc n). t.step j p (omega arith))
        (eq-or-lt_of_le l);
  }

  -- Two tables are the same.
  unique_step : (n : ℕ) (c s c' s' : ℕ → ℕ) → Table q n c s → Table q n c' s' → (k : ℕ) → 0 < k → k ≤ n
      → ((a : ℕ) → a < k → (c a ≡ c' a) × (s a ≡ s' a)) → (c k ≡ c' k) × (s k ≡ s' k)
  unique_step n c s c' s' t t' k p l e =
      let r = cheapest_unique (via q c' s' k) k (s k) (c k) (s' k) (c' k)
      (cheapest_same (via q c s k) (via q c' s' k) k (s k) (c k)
      (λ i h. via_same c s c' s' k i (λ a p g. table_falls n c s t a p (omega arith)) (λ a g. e a (omega arith)))
      (t.step k p l))
      (t'.step k p l) in
      (r.1, r.0)

  unique_upto : (n : ℕ) (c s c' s' : ℕ → ℕ) → Table q n c s → Table q n c' s' → (m k : ℕ) → k ≤ m → k ≤ n → (c k ≡ c' k) × (s k ≡ s' k)
  unique_upto n c s c' s' t t' zero k b l =
      rw (le_antisymm b (omega arith)) (t.cost0 ∙ sym t'.cost0, t.start0 ∙ sym t'.start0)
  unique_upto n c s c' s' t t' (suc m) k b l =
      ⊎_elim (λ (z : k ≡ 0). unique_upto n c s c' s' t t' m k (omega arith) l)
      (λ (p : 0 < k). unique_step n c s c' s' t t' k p l (λ a h. unique_upto n c s c' s' t t' m a (omega arith) (omega arith)))
      (eq-zero-or-pos k)

  pub table_unique : (n : ℕ) (c s c' s' : ℕ → ℕ) → Table q n c s → Table q n c' s' → (k : ℕ) → k ≤ n → (c k ≡ c' k) × (s k ≡ s' k)
  table_unique n c s c' s' t t' k l = unique_upto n c s c' s' t t' k k (omega arith) l

  -- No position costs more than one line to it does.
  pub table_bound : (n : ℕ) (c s : ℕ → ℕ) → Table q n c s → (j : ℕ) → 0 < j → j ≤ n → c j ≤ q 0 0 j
  table_bound n c s t j p l = rw (t.cost0, line_zero s, zero-add) at ((t.step j p l).least 0 p)

  -- ---- the computed table

  lengths : (n : ℕ) → (length (table_of q n).0 ≡ suc n) × (length (table_of q n).1 ≡ suc n)
  unfolding table_of
  lengths zero = (refl, refl)
  lengths (suc n) =
      let h = lengths n in
      (rw length-append (omega (arith, h.0)), rw length-append (omega (arith, h.1)))

  pub costs_length : (n : ℕ) → length (best_costs q n) ≡ n + 1
  unfolding best_costs
  costs_length n = omega (arith, (lengths n).0)

  pub starts_length : (n : ℕ) → length (chosen_starts q n) ≡ n + 1
  unfolding chosen_starts
  starts_length n = omega (arith, (lengths n).1)

  -- Position 0; one position more, and what stays.
  pub costs_none : best_costs q 0 ≡ 0 ∷ []
  unfolding best_costs table_of
  costs_none = refl

  pub starts_none : chosen_starts q 0 ≡ 0 ∷ []
  unfolding chosen_starts table_of
  starts_none = refl

  pub costs_more : (n : ℕ) → best_costs q (suc n) ≡ best_costs q n ++ ((choice q n (table_of q n)).1 ∷ [])
  unfolding best_costs table_of
  costs_more n = refl

  pub starts_more : (n : ℕ) → chosen_starts q (suc n) ≡ chosen_starts q n ++ ((choice q n (table_of q n)).0 ∷ [])
  unfolding chosen_starts table_of
  starts_more n = refl

  pub grown_same : (n k : ℕ) → k ≤ n → (at (best_costs q n) k ≡ at (best_costs q (suc n)) k) × (at (chosen_starts q n) k ≡ at (chosen_starts q (suc n)) k)
  grown_same n k l = (
    rw (costs_more n) (sym (get_or-append (best_costs q n) _ 0 k (omega (arith, costs_length n)))),
    rw (starts_more n) (sym (get_or-append (chosen_starts q n) _ 0 k (omega (arith, starts_length n)))),
  )

  grown_last : (n : ℕ) → (at (best_costs q (suc n)) (suc n) ≡ (choice q n (table_of q n)).1) × (at (chosen_starts q (suc n)) (suc n) ≡ (choice q n (table_of q n)).0)
  grown_last n = (
    rw (costs_more n) (get_or_at (best_costs q n) _ [] 0 (suc n) (omega (arith, costs_length n))),
    rw (starts_more n) (get_or_at (chosen_starts q n) _ [] 0 (suc n) (omega (arith, starts_length n))),
  )

  choice_cheapest : (n : ℕ) → Cheapest (via q (at (best_costs q n)) (at (chosen_starts q n)) (suc n)) (suc n) (choice q n (table_of q n)).0 (choice q n (table_of q n)).1
  unfolding choice best_costs chosen_starts
  choice_cheapest n = first_least_lem (via q (at (table_of q n).0) (at (table_of q n).1) (suc n)) n

  computed_none : Table q 0 (at (best_costs q 0)) (at (chosen_starts q 0))
  unfolding best_costs chosen_starts table_of
  computed_none = record { cost0 = refl; start0 = refl; step = λ j p l. absurd (omega arith) }

  -- The computed table is the table.
  pub table_computed : (n : ℕ) → Table q n (at (best_costs q n)) (at (chosen_starts q n))
  table_computed zero = computed_none
  table_computed (suc n) =
      let t = table_computed n in
      let b = at (best_costs q n) in
      let r = at (chosen_starts q n) in
      let b' = at (best_costs q (suc n)) in
      let r' = at (chosen_starts q (suc n)) in
      let e = grown_last n in
      table_more n b' r' (table_same n b r b' r' (grown_same n) t)
      (rw (e.0, e.1)
      (cheapest_same (via q b r (suc n)) (via q b' r' (suc n)) (suc n) _ _
      (λ i l. via_same b r b' r' (suc n) i (λ k p h. table_falls n b r t k p (omega arith)) (λ k h. grown_same n k (omega arith)))
      (choice_cheapest n)))

  -- What is chosen for one position more, over any price of each start that comes to the same.
  pub chosen : (n i v : ℕ) (f : ℕ → ℕ) → Cheapest f (suc n) i v → ((k : ℕ) → k < suc n → f k ≡ via q (at (best_costs q n)) (at (chosen_starts q n)) (suc n) k)
      → (best_costs q (suc n) ≡ best_costs q n ++ (v ∷ [])) × (chosen_starts q (suc n) ≡ chosen_starts q n ++ (i ∷ []))
  chosen n i v f h e =
      let g = via q (at (best_costs q n)) (at (chosen_starts q n)) (suc n) in
      let u = cheapest_unique g (suc n) i v _ _ (cheapest_same f g (suc n) i v e h) (choice_cheapest n) in
      (rw u.1 (costs_more n), rw u.0 (starts_more n))
