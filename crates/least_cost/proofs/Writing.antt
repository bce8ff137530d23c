-- The ends as they are written, from the last to the first: what stands there and the ends still to come are all of them.
use mathlib.Core.Path.{◌≡◌, refl, sym, ap, ◌∙◌}
use mathlib.Core.List.{List, ◌++◌}
use Prim.Native.Nat.{ℕ, zero, suc, ◌+◌, ◌-◌, ◌≤◌, ◌<◌}
use native.Mathlib.Omega.{arith}
use lib.ListN.{length, set, take, drop, replicate, length-set, length-replicate}
use lib.Seq.{sets, sets-eq, length-take-le}
use Rattle.cheapest.specs.Lines.{Falls, line_of, ends_of}
use Rattle.cheapest.specs.Table.{at}
use Rattle.cheapest.proofs.Lines.{line_next, line_le, line_zero, ends_zero, ends_next, ends_length}
use Rattle.least_cost.specs.Layout.{lines_of}
use Rattle.least_cost.specs.Search.{Writable}
use Rattle.least_cost.proofs.Stores.{sets_snoc, set_behind}

-- No fragments have one line, with end 0.
pub lines_none : (s : ℕ → ℕ) (n : ℕ) (E : List ℕ) {E' : List ℕ} → n ≡ 0 → E' ≡ set E 0 0 → (1 ≡ length (lines_of s n)) × (E' ≡ sets E 0 (lines_of s n))
lines_none s zero E e q = (refl, q)
lines_none s (suc n) E e q = absurd (omega arith)

lines_some : (s : ℕ → ℕ) (n : ℕ) → 0 < n → lines_of s n ≡ ends_of s n
lines_some s zero l = absurd (omega arith)
lines_some s (suc n) l = refl

-- So many lines were counted from n back to `end`, and those before `end` are still to be counted.
pub record Counted (S : List ℕ) (n lines end : ℕ) : Type 0 where
  pub falls : Falls (at S) n
  pub starts : n < length S
  pub to : end ≤ n
  pub sum : lines + line_of (at S) end ≡ line_of (at S) n
  pub few : lines + end ≤ n

module _ (S : List ℕ) (n : ℕ) where
  pub counted_start : n < length S → Falls (at S) n → Counted S n 0 n
  counted_start l f = record { falls = f; starts = l; to = omega arith; sum = omega arith; few = omega arith }

  module _ {lines end v : ℕ} (h : Counted S n lines end) (up : 0 < end) (e : v ≡ at S end) where
    pub counted_less : v < end
    counted_less = omega (arith, h.falls end up h.to)

    pub counted_step : Counted S n (lines + 1) v
    counted_step =
        let m : line_of (at S) end ≡ line_of (at S) (at S end) + 1 = line_next (at S) end (λ k z l. h.falls k z (omega (arith, h.to))) up in
        let l = counted_less in
        record {
          falls = h.falls;
          starts = h.starts;
          to = omega (arith, h.to);
          sum = rw e (omega (arith, h.sum));
          few = omega (arith, h.few);
        }

  pub counted_end : {lines end : ℕ} → Counted S n lines end → end ≤ 0 → lines ≡ line_of (at S) n
  counted_end {lines} {end} h z =
      let y : end ≡ 0 = omega arith in
      omega (arith, h.sum, line_zero (at S), ap (λ (k : ℕ). line_of (at S) k) y)

pub ruleset counting_lines = (counted_start, counted_less, counted_step, counted_end)

-- E has come of E₀; the lines before `end` are still to be written, and there are `line` of them.
pub record Writing (S : List ℕ) (n : ℕ) (E₀ E : List ℕ) (line end : ℕ) : Type 0 where
  pub falls : Falls (at S) n
  pub few : n ≤ 4096
  pub starts : n < length S
  pub room : n ≤ length E
  pub to : end ≤ n
  pub count : line ≡ line_of (at S) end
  pub same : sets E 0 (ends_of (at S) end) ≡ sets E₀ 0 (ends_of (at S) n)
  pub long : length E ≡ length E₀

module _ (S : List ℕ) (n : ℕ) where
  pub writing_start : {E : List ℕ} {lines : ℕ} → Writable S n E → lines ≡ line_of (at S) n → Writing S n E E lines n
  writing_start h e = record {
    falls = h.falls;
    few = h.few;
    starts = h.starts;
    room = h.room;
    to = omega arith;
    count = e;
    same = refl;
    long = refl;
  }

  -- Where there is a line still to be written its end is not 0, and where there is none it is.
  pub writing_more : {E₀ E : List ℕ} {line end : ℕ} → Writing S n E₀ E line end → 0 < line → 0 < end
  writing_more {end = zero} h l = absurd (omega (arith, h.count, line_zero (at S)))
  writing_more {end = suc e} h l = omega arith

  pub writing_over : {E₀ E : List ℕ} {line end : ℕ} → Writing S n E₀ E line end → line ≤ 0 → end ≤ 0
  writing_over {end = zero} h l = omega arith
  writing_over {end = suc e} h l = absurd (omega (arith, h.count, line_next (at S) (suc e) (λ k z m. h.falls k z (omega (arith, h.to))) (omega arith)))

  module _ {E₀ E : List ℕ} {line end : ℕ} (h : Writing S n E₀ E line end) (up : 0 < end) where
    here : Falls (at S) end
    here k z l = h.falls k z (omega (arith, h.to))

    -- There is a line before the end, and a place for it.
    pub writing_line : 1 ≤ line
    writing_line = omega (arith, h.count, line_next (at S) end here up)

    pub writing_place : line - 1 < length E
    writing_place = omega (arith, h.count, line_le (at S) end, h.to, h.room, writing_line)

    pub writing_less : {v : ℕ} → v ≡ at S end → v < end
    writing_less e = omega (arith, here end up (omega arith))

    pub writing_step : {E' : List ℕ} {v : ℕ} → E' ≡ set E (line - 1) end → v ≡ at S end → Writing S n E₀ E' (line - 1) v
    writing_step {E'} {v} e ev =
        let m : line - 1 ≡ line_of (at S) (at S end) = omega (arith, h.count, line_next (at S) end here up) in
        let x = ends_of (at S) (at S end) in
        let k : line - 1 ≡ length x = omega (arith, ends_length (at S) (at S end)) in
        rw (e, ev) (record {
          falls = h.falls;
          few = h.few;
          starts = h.starts;
          room = omega (arith, h.room, length-set E (line - 1) end);
          to = omega (arith, h.to, here end up (omega arith));
          count = m;
          same =
              set_behind E 0 x (line - 1) end (omega arith)
              ∙ sets_snoc E x (line - 1) end k
              ∙ ap (λ (l : List ℕ). sets E 0 l) (sym (ends_next (at S) end here up))
              ∙ h.same;
          long = length-set E (line - 1) end ∙ h.long;
        })

  pub writing_end : {E₀ E : List ℕ} {lines line end : ℕ} → Writing S n E₀ E line end → end ≤ 0 → 0 < n → lines ≡ line_of (at S) n
      → (lines ≡ length (lines_of (at S) n)) × (E ≡ sets E₀ 0 (lines_of (at S) n))
  writing_end {E₀} {E} {lines} {line} {end} h z u e =
      let y : end ≡ 0 = omega arith in
      let t : sets E 0 (ends_of (at S) 0) ≡ sets E₀ 0 (ends_of (at S) n) = rw y at h.same in
      rw (lines_some (at S) n u) (omega (arith, ends_length (at S) n), rw ends_zero at t)

pub ruleset writing = (writing_start, writing_more, writing_over, writing_line, writing_place, writing_less, writing_step)

-- ---- the scratch set to zero

pub filled : {r : List ℕ} (n : ℕ) (l : List ℕ) → n < length l → r ≡ replicate (length (take (n + 1) l)) 0 → r ++ drop (n + 1) l ≡ sets l 0 (replicate (n + 1) 0)
filled n l h e =
    let k : length (take (n + 1) l) ≡ n + 1 = length-take-le (n + 1) l (omega arith) in
    let m : length (replicate {A = ℕ} (n + 1) 0) ≡ n + 1 = length-replicate (n + 1) 0 in
    let z : 0 + (n + 1) ≡ n + 1 = omega arith in
    rw (e, k) (sym (sets-eq (replicate (n + 1) 0) l 0 (omega (arith, m)) ∙ rw (m, z)))
