-- The search of one position, from its last start downwards: what holds at the head of the loop, and a law for each way into, round and out of it.
use mathlib.Core.Bool.{true, false}
use mathlib.Core.Path.{◌≡◌, sym, ap, ◌∙◌, subst}
use mathlib.Core.Logic.{⊎_elim}
use mathlib.Core.List.{List}
use Prim.Native.Nat.{ℕ, suc, ◌+◌, ◌-◌, ◌*◌, ◌^◌, ◌≤◌, ◌<◌, max}
use native.Mathlib.Nat.{eq-or-lt_of_le, mul-le-mul, le_refl, mul-add}
use native.Mathlib.Decide.{dec_lt}
use native.Mathlib.Omega.{arith}
use lib.Dec.{ltb}
use lib.ListN.{length, get_or}
use borrow.Author.Tests.{ltb-true, ltb-false, ne_eqb}
use Rattle.logic.proofs.Choice.{both}
use Rattle.cheapest.specs.Least.{Cheapest}
use Rattle.cheapest.specs.Table.{at}
use Rattle.least_cost.specs.declared.Penalties.{Penalties}
use Rattle.least_cost.specs.Price.{line_len, width_price, ending_price, line_price, price_at}
use Rattle.least_cost.specs.Search.{Even, Priceable, Weighable, Hopeless, Ready, start_price}
use Rattle.least_cost.proofs.Lengths.{len_one, len_more, len_grows, len_split}

-- No price is below its overflow.
pub price_low : (P : Penalties) (T L h i j n : ℕ) → P.line + P.overflow * (L - T) ≤ line_price P T L h i j n
unfolding line_price width_price
price_low P T L h i j n =
    both (ltb T L)
    (λ t. rw t (omega arith))
    (λ t.
    let z : L - T ≡ 0 = omega (arith, ltb-false T L t) in
    rw z (omega arith))

-- The price of a line that does not end the text: where it overflows, and at most where it does not.
line_over : (P : Penalties) (T L h i j n e : ℕ) → ltb T L ≡ true → ending_price P h ≡ e → line_price P T L h i j n ≡ P.line + P.overflow * (L - T) + e
unfolding line_price width_price
line_over P T L h i j n e c q = rw (c, q)

line_gap : (P : Penalties) (T L h i j n e most : ℕ) → ltb T L ≡ false → ending_price P h ≡ e → j < n → T ≤ most → line_price P T L h i j n ≤ P.line + most * most + e
unfolding line_price width_price
line_gap P T L h i j n e most c q l m =
    let x : (T - L) * (T - L) ≤ most * most = mul-le-mul (let y : T - L ≤ most = omega arith in y) (let y : T - L ≤ most = omega arith in y) in
    let z : j ≡ n → ⊥ = λ u. absurd (omega arith) in
    rw (c, ne_eqb j n z, q) (omega arith)

module _ (w s p : List ℕ) (P : Penalties) (T C : List ℕ) (widest j : ℕ) where
  -- Of the starts from i on, `from` is the first at which j is cheapest, and `best` is what it costs; the line from i is `len` wide.
  -- The last penalty width is `tail`.
  pub record Pulled (tail len best from i : ℕ) : Type 0 where
    pub ready : Ready w s p P T widest C j
    pub even : Even w s p
    pub last : tail ≡ get_or p (j - 1) 0
    pub below : i < j
    pub chosen_low : i ≤ from
    pub chosen_high : from < j
    pub wide : len ≡ line_len w s p i j
    pub cap : len ≤ 131070 * (j - i)
    pub small : best ≤ 2 ^ 51
    pub value : best ≡ start_price w s p P T C j from
    pub least : (k : ℕ) → i ≤ k → k < j → best ≤ start_price w s p P T C j k
    pub first : (k : ℕ) → i ≤ k → k < from → best < start_price w s p P T C j k

  -- The price that the code finds is that of the start.
  found : (i L h r : ℕ) → L ≡ line_len w s p i j → h ≡ get_or p (j - 1) 0 → r ≡ at C i + line_price P (at T i) L h i j (length w) → r ≡ start_price w s p P T C j i
  unfolding start_price price_at
  found i L h r el eh er = er ∙ rw (el, eh)

  -- A start before j can be priced.
  pub start_ready : {L i : ℕ} → Even w s p → Ready w s p P T widest C j → L ≤ 2 ^ 30 → i < j → Priceable T C L i
  start_ready {L} {i} even ready l b = record {
    sized = record {
      target = omega (arith, ready.narrow i b, ready.most);
      len = l;
      from = omega (arith, ready.within, even.few);
    };
    room = omega (arith, ready.room);
    cheap = ready.cheap i b;
  }

  -- The last start alone.
  pub pulled_start : {a r h : ℕ} → Even w s p → Ready w s p P T widest C j → a ≡ get_or w (j - 1) 0 + get_or p (j - 1) 0 → a ≤ 131070 → r ≡ at C (j - 1) + line_price P (at T (j - 1)) a h (j - 1) j (length w) → r ≤ 2 ^ 51 → h ≡ get_or p (j - 1) 0
      → Pulled h a r (j - 1) (j - 1)
  pulled_start {a} {r} {h} even ready ea la er lr eh =
      let z : suc (j - 1) ≡ j = omega (arith, ready.above) in
      let l : a ≡ line_len w s p (j - 1) j = ea ∙ sym (rw z at (len_one w s p even (j - 1) (omega (arith, ready.within)))) in
      let f = found (j - 1) a h r l eh er in
      record {
        ready = ready;
        even = even;
        last = eh;
        below = omega arith;
        chosen_low = omega arith;
        chosen_high = omega arith;
        wide = l;
        cap = omega arith;
        small = lr;
        value = f;
        least = λ k b h. let y : k ≡ j - 1 = omega arith in rw y (omega arith);
        first = λ k b h. absurd (omega arith);
      }

  -- One start lower: i - 1, whose fragment is a wide with its whitespace.
  module _ {tail len best from i a : ℕ} (h : Pulled tail len best from i) (up : 0 < i) (ea : a ≡ get_or w (i - 1) 0 + get_or s (i - 1) 0) (la : a ≤ 131070) where
    longer : len + a ≡ line_len w s p (i - 1) j
    longer =
        let z : suc (i - 1) ≡ i = omega arith in
        omega (arith, h.wide, rw z at (len_more w s p h.even (i - 1) j (omega (arith, h.below)) h.ready.within))

    pub pulled_fits : len + a ≤ 2 ^ 30
    pulled_fits = omega (arith, h.cap, h.below, h.ready.within, h.even.few)

    -- Each start from i - 1 on is i - 1 itself, or was there before.
    lower : (Q : ℕ → Type 0) → Q (i - 1) → ((k : ℕ) → i ≤ k → Q k) → (k : ℕ) → i - 1 ≤ k → Q k
    lower Q q f k b = ⊎_elim
        (λ (z : i - 1 ≡ k). subst Q z q)
        (λ (m : i - 1 < k). f k (omega arith))
        (eq-or-lt_of_le b)

    -- It is as cheap as the best so far, or cheaper: it is chosen.
    pub pulled_win : {r : ℕ} → r ≡ at C (i - 1) + line_price P (at T (i - 1)) (len + a) tail (i - 1) j (length w) → r ≤ 2 ^ 51 → r ≤ best
        → Pulled tail (len + a) r (i - 1) (i - 1)
    pulled_win {r} er lr le =
        let f = found (i - 1) (len + a) tail r longer h.last er in
        record {
          ready = h.ready;
          even = h.even;
          last = h.last;
          below = omega (arith, h.below);
          chosen_low = omega arith;
          chosen_high = omega (arith, h.below);
          wide = longer;
          cap = omega (arith, h.cap, h.below);
          small = lr;
          value = f;
          least = lower (λ k. k < j → r ≤ start_price w s p P T C j k) (λ b. omega arith) (λ k b m. omega (arith, h.least k b m));
          first = λ k b m. absurd (omega arith);
        }

    -- It is dearer: the choice stands.
    pub pulled_lose : {r : ℕ} → r ≡ at C (i - 1) + line_price P (at T (i - 1)) (len + a) tail (i - 1) j (length w) → best < r → Pulled tail (len + a) best from (i - 1)
    pulled_lose {r} er lt =
        let f = found (i - 1) (len + a) tail r longer h.last er in
        record {
          ready = h.ready;
          even = h.even;
          last = h.last;
          below = omega (arith, h.below);
          chosen_low = omega (arith, h.chosen_low);
          chosen_high = h.chosen_high;
          wide = longer;
          cap = omega (arith, h.cap, h.below);
          small = h.small;
          value = h.value;
          least = lower (λ k. k < j → best ≤ start_price w s p P T C j k) (λ b. omega arith) (λ k b m. h.least k b m);
          first = lower (λ k. k < from → best < start_price w s p P T C j k) (λ b. omega arith) (λ k b m. h.first k b m);
        }

  pub pulled_weigh : {tail len best from i : ℕ} → Pulled tail len best from i → Weighable widest len (at C i) best
  pulled_weigh {tail} {len} {best} {from} {i} h = record {
    most = h.ready.most;
    len = omega (arith, h.cap, h.below, h.ready.within, h.even.few);
    cheap = h.ready.cheap i h.below;
    low = h.small;
  }

  -- A start below i costs at least what i does, less the line that leads to i, and its line overflows by more.
  module _ {tail len best from i t : ℕ} (h : Pulled tail len best from i) (up : 0 < i) (et : t ≡ get_or p (i - 1) 0) (d : Hopeless P widest len t (at C i) best) where
    below : (k : ℕ) → k < i → best < start_price w s p P T C j k
    unfolding start_price price_at
    below k b =
        let Lki = line_len w s p k i in
        let Lkj = line_len w s p k j in
        let n = length w in
        let e = ending_price P t in
        let bar = max widest t in
        let low = price_low P (at T k) Lkj (get_or p (j - 1) 0) k j n in
        let ends : ending_price P (get_or p (i - 1) 0) ≡ e = ap (λ (x : ℕ). ending_price P x) (sym et) in
        let up_to = h.ready.least i k b h.below in
        let narrow = h.ready.narrow k (omega (arith, h.below)) in
        let split = len_split w s p h.even k i j b h.below h.ready.within in
        let grows = len_grows w s p h.even k i j (omega arith) h.below h.ready.within in
        both (ltb (at T k) Lki)
        (λ c.
        let l = ltb-true (at T k) Lki c in
        let w₁ : line_price P (at T k) Lki (get_or p (i - 1) 0) k i n ≡ P.line + P.overflow * (Lki - at T k) + e = line_over P (at T k) Lki (get_or p (i - 1) 0) k i n e c ends in
        let x : (Lki - at T k) + (len - bar) ≤ Lkj - at T k = omega (arith, d.over, h.wide) in
        let m : P.overflow * ((Lki - at T k) + (len - bar)) ≤ P.overflow * (Lkj - at T k) = mul-le-mul (le_refl P.overflow) x in
        omega (arith, d.dear, mul-add P.overflow (Lki - at T k) (len - bar)))
        (λ c.
        let l = ltb-false (at T k) Lki c in
        let w₂ : line_price P (at T k) Lki (get_or p (i - 1) 0) k i n ≤ P.line + widest * widest + e =
        line_gap P (at T k) Lki (get_or p (i - 1) 0) k i n e widest c ends (omega (arith, h.below, h.ready.within)) narrow in
        let x : len - bar ≤ Lkj - at T k = omega (arith, h.wide) in
        let m : P.overflow * (len - bar) ≤ P.overflow * (Lkj - at T k) = mul-le-mul (le_refl P.overflow) x in
        omega (arith, d.dear))

    pub pulled_cut : Cheapest (start_price w s p P T C j) j from best
    pulled_cut = record {
      below = h.chosen_high;
      value = h.value;
      least = λ k m. elim (dec_lt k i) [ yes l ↦ omega (arith, below k l) | no l ↦ h.least k (omega arith) m ];
      first = λ k m. elim (dec_lt k i) [ yes l ↦ below k l | no l ↦ h.first k (omega arith) m ];
    }

  -- No start is left.
  pub pulled_end : {tail len best from i : ℕ} → Pulled tail len best from i → i ≤ 0 → Cheapest (start_price w s p P T C j) j from best
  pulled_end h z = record {
    below = h.chosen_high;
    value = h.value;
    least = λ k m. h.least k (omega arith) m;
    first = λ k m. h.first k (omega arith) m;
  }

pub ruleset pulling = (start_ready, pulled_start, pulled_fits, pulled_win, pulled_lose, pulled_cut, pulled_end)
