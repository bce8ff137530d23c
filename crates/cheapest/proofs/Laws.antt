-- Layouts and the table: the ends on the way back from a position are a layout that costs what the table says, and where the price does not know the line number no layout costs less.
use mathlib.Core.Path.{◌≡◌, refl, sym, ap}
use mathlib.Core.List.{List, [], ◌∷◌, ◌++◌}
use Prim.Native.Nat.{ℕ, zero, suc, ◌+◌, ◌≤◌, ◌<◌}
use native.Mathlib.Nat.{zero-add, le_antisymm, add-zero, add-suc, suc-add}
use native.Mathlib.Omega.{arith}
use lib.ListN.{length, length-append}
use Rattle.cheapest.specs.Lines.{Falls, line_of, ends_in, ends_of, Rises, cost_of}
use Rattle.cheapest.specs.Table.{Table}
use Rattle.cheapest.proofs.Lines.{line_zero, line_next}
use Rattle.cheapest.proofs.Table.{table_falls}

pub rises_le : (i : ℕ) (es : List ℕ) (n : ℕ) → Rises i es n → i ≤ n
rises_le i [] n r = omega arith
rises_le i (e ∷ es) n r = omega (arith, r.0, rises_le e es n r.1)

pub rises_snoc : (i : ℕ) (es : List ℕ) (m j : ℕ) → Rises i es m → m < j → Rises i (es ++ (j ∷ [])) j
rises_snoc i [] m j r l = (rw r l, refl)
rises_snoc i (e ∷ es) m j r l = (r.0, rises_snoc e es m j r.1 l)

module _ (q : ℕ → ℕ → ℕ → ℕ) where
  pub cost_snoc : (l i : ℕ) (es : List ℕ) (m j k : ℕ) → Rises i es m → k ≡ cost_of q l i es → cost_of q l i (es ++ (j ∷ [])) ≡ k + q (l + length es) m j
  unfolding cost_of
  cost_snoc l i [] m j k r e = rw (← r) (omega (arith, ap (λ x. q x i j) (add-zero l)))
  cost_snoc l i (e ∷ es) m j k r h =
      omega (arith, h, cost_snoc (suc l) e es m j (cost_of q (suc l) e es) r.1 refl, ap (λ x. q x m j) (shift l (length es)))
    where
      shift : (a b : ℕ) → suc a + b ≡ a + suc b
      shift a b = omega arith

  -- Whatever no line can undercut is at most the cost of any layout. `c l i` is what is known of position i as the start of line l, and `R l i` that it can be that. One width takes `c l i = best i`; a
  -- table for each line number takes the best at that number.
  module _ (R : ℕ → ℕ → Type 0) (c : ℕ → ℕ → ℕ) (n : ℕ) (reach : (l i e : ℕ) → R l i → i < e → R (suc l) e)
      (step : (l i e : ℕ) → R l i → i < e → e ≤ n → c (suc l) e ≤ c l i + q l i e) where
    pub undercut : (l i : ℕ) (es : List ℕ) → R l i → Rises i es n → c (l + length es) n ≤ c l i + cost_of q l i es
    unfolding cost_of
    undercut l i [] h r = rw (r, add-zero) (omega arith)
    undercut l i (e ∷ es) h r =
        rw (add-suc, ← suc-add)
        (omega (arith, undercut (suc l) e es (reach l i e h r.0) r.1, step l i e h r.0 (rises_le e es n r.1)))

  module _ (n : ℕ) (c s : ℕ → ℕ) (t : Table q n c s) where
    -- Where the price does not know the line number, the best cost is at most that of any layout.
    pub least_of_all : ((l l' i j : ℕ) → q l i j ≡ q l' i j) → (es : List ℕ) → Rises 0 es n → c n ≤ cost_of q 0 0 es
    least_of_all u es r =
        omega (
          arith,
          t.cost0,
          undercut (λ l i. Unit {0}) (λ l i. c i) n (λ l i e h b. tt)
              (λ l i e h b m. omega (arith, (t.step e (omega arith) m).least i b, u (line_of s i) l i e))
              0 0 es tt r,
        )

    -- The way back from j: it rises to j, has as many ends as j's line number says, and costs what the table says.
    pub record Back (j : ℕ) (es : List ℕ) : Type 0 where
      pub rises : Rises 0 es j
      pub count : length es ≡ line_of s j
      pub cost : cost_of q 0 0 es ≡ c j

    back_more : (j : ℕ) → 0 < j → j ≤ n → (es : List ℕ) → Back (s j) es → Back j (es ++ (j ∷ []))
    back_more j p l es b =
        let h = t.step j p l in
        let f : Falls s j = λ k p g. table_falls q n c s t k p (omega arith) in
        record {
          rises = rises_snoc 0 es (s j) j b.rises h.below;
          count = rw length-append (omega (arith, b.count, line_next s j f p));
          cost = rw (cost_snoc 0 0 es (s j) j (c (s j)) b.rises (sym b.cost), b.count, zero-add) (sym h.value);
        }

    back_none : Back 0 []
    unfolding cost_of
    back_none = record { rises = refl; count = sym (line_zero s); cost = sym t.cost0 }

    back_in : (m j : ℕ) → j ≤ m → j ≤ n → Back j (ends_in s m j)
    unfolding ends_in
    back_in zero j b l = rw (le_antisymm b (omega arith)) back_none
    back_in (suc m) zero b l = back_none
    back_in (suc m) (suc j) b l =
        let h : s (suc j) < suc j = (t.step (suc j) (omega arith) l).below in
        back_more (suc j) (omega arith) l (ends_in s m (s (suc j))) (back_in m (s (suc j)) (omega arith) (omega arith))

    pub back : (j : ℕ) → j ≤ n → Back j (ends_of s j)
    unfolding ends_of
    back j l = back_in j j (omega arith) l
