-- Layouts, compared with the stored ones: the ends of lines and the cost, one law for each way through.
use mathlib.Core.Path.{◌≡◌, sym, ap, ◌∙◌}
use mathlib.Core.Bool.{Bool, true, false}
use mathlib.Core.List.{List, [], ◌∷◌, map}
use Prim.Native.Nat.{ℕ, ◌+◌, ◌-◌, ◌*◌, ◌/◌, ◌≤◌, ◌<◌, max}
use native.Mathlib.Omega.{arith}
use lib.Dec.{ltb}
use lib.ListN.{length, take, drop, get_or, length-drop}
use lib.Seq.{sets, length-sets, length-take-le, get_or-take, take_all}
use borrow.Author.Tests.{lt-ltb, le-ltb, eq-eqb, ne_eqb, ltb-false}
use Rattle.std.specs.Prelude.{Result, Ok, Err}
use Rattle.std.specs.Int.{w32, from_be_bytes}
use Rattle.std.proofs.lemmas.List.{map-id}
use Rattle.logic.proofs.Choice.{both}
use Rattle.wire.specs.Wire.{numbers16}
use Rattle.wire.proofs.Laws.{numbers_length}
use Rattle.fragments.specs.declared.ListRefusal.{ListRefusal}
use Rattle.fragments.specs.declared.ListRefusal.TheVariants.{NoRoom}
use Rattle.fragments.specs.Fragments.{fragments}
use Rattle.fragments.specs.Lists.{list_test}
use Rattle.fragments.proofs.Laws.{fragments_length}
use Rattle.first_fit.specs.FirstFit.{line_ends}
use Rattle.first_fit.specs.Entry as first
use Rattle.first_fit.proofs.Laying.{ends_few}
use Rattle.cheapest.specs.Table.{at}
use Rattle.least_cost.specs.declared.Penalties.{Penalties}
use Rattle.least_cost.specs.Layout as least
use Rattle.least_cost.proofs.Laws as least_laws
use Rattle.replay.specs.declared.Layout.{Layout}
use Rattle.replay.specs.declared.Verdict.{Verdict}
use Rattle.replay.specs.declared.Verdict.TheVariants.{Agreed, Tied, Differs}
use Rattle.replay.specs.Parts.{part, holds, long_at}
use Rattle.replay.specs.Replay.{words_in, whites_in, penalties_in, widths_in, laid_agrees, first_of_parts, weighed, laid_verdict, least_of_parts, numbers_verdict, asked_verdict}
use Rattle.replay.proofs.Lists.{take_stored}

-- ---- first fit

first_room : (t : Result (Unit {0}) ListRefusal) (n room lines : ℕ) {k : ℕ} → Ok k ≡ first.laid_of t n room lines → (k ≡ lines) × (max 1 n ≤ room)
first_room (Err why) n room lines {k} e = let z : ◌≡◌ {A = Result ℕ ListRefusal} (Ok k) (Err why) = e in cc
first_room (Ok u) n room lines {k} e =
    both (ltb room (max 1 n))
    (λ t. let z : ◌≡◌ {A = Result ℕ ListRefusal} (Ok k) (Err (NoRoom (max 1 n))) = e ∙ rw t in cc)
    (λ t. let z : ◌≡◌ {A = Result ℕ ListRefusal} (Ok k) (Ok lines) = e ∙ rw t in (cc, ltb-false room (max 1 n) t))

module _ (n : ℕ) (ns ends st : List ℕ) {l : Result ℕ ListRefusal} {ws ss ps : List ℕ} (a : ws ≡ words_in n ns) (b : ss ≡ whites_in n ns) (c : ps ≡ penalties_in n ns)
    (f : l ≡ first.first_fit_of ws ss ps (widths_in n ns) (length ends)) where
  by_laid : {r : Bool} → r ≡ laid_agrees l (line_ends (widths_in n ns) (fragments ws ss ps)) st → r ≡ first_of_parts n ns (length ends) st
  unfolding first_of_parts
  by_laid h = rw (← a, ← b, ← c, ← f) h

  module _ {k : ℕ} (d : l ≡ Ok k) where
    says : (k ≡ length (line_ends (widths_in n ns) (fragments ws ss ps))) × (max 1 (length ws) ≤ length ends)
    unfolding first.first_fit_of
    says = first_room (list_test ws ss ps (widths_in n ns)) (length ws) (length ends) (length (line_ends (widths_in n ns) (fragments ws ss ps))) (sym d ∙ f)

    few : k ≤ length ends
    few = omega (arith, says.0, says.1, ends_few (widths_in n ns) (fragments ws ss ps), fragments_length ws ss ps)

    module _ {ends' : List ℕ} (p : ends' ≡ first.Lays l (line_ends (widths_in n ns) (fragments ws ss ps)) ends) where
      pub first_inside : k ≤ length ends'
      first_inside = rw (p, d, length-sets ends 0 (line_ends (widths_in n ns) (fragments ws ss ps))) few

      pub first_lines : {r : Bool} → r ≡ holds (take k ends') st → r ≡ first_of_parts n ns (length ends) st
      first_lines h = by_laid (rw d (rw (take_stored ends (line_ends (widths_in n ns) (fragments ws ss ps)) says.0 few (rw d at p)) at h))

  pub first_refused : {why : ListRefusal} → l ≡ Err why → false ≡ first_of_parts n ns (length ends) st
  first_refused d = by_laid (rw d)

pub ruleset firsts = (first_inside, first_lines, first_refused)

-- ---- least cost

-- The cost at the start of stored bytes.
cost_read : (st : List ℕ) → 4 ≤ length st → from_be_bytes w32 (get_or st 0 0 ∷ get_or st 1 0 ∷ get_or st 2 0 ∷ get_or st 3 0 ∷ []) ≡ long_at (numbers16 st) 0
unfolding numbers16
cost_read [] h = absurd (omega arith)
cost_read (a ∷ []) h = absurd (omega arith)
cost_read (a ∷ b ∷ []) h = absurd (omega arith)
cost_read (a ∷ b ∷ c ∷ []) h = absurd (omega arith)
cost_read (a ∷ b ∷ c ∷ d ∷ t) h = omega arith

module _ (cost : ℕ) (es st : List ℕ) where
  pub weigh_short : length st < 4 → Differs ≡ weighed cost es st
  unfolding weighed
  weigh_short h = rw (lt-ltb (length st) 4 h)

  module _ {a b : ℕ} (h : 4 ≤ length st) (p : a ≡ from_be_bytes w32 (get_or st 0 0 ∷ get_or st 1 0 ∷ get_or st 2 0 ∷ get_or st 3 0 ∷ [])) (q : b ≡ a) where
    here : b ≡ long_at (numbers16 st) 0
    here = q ∙ p ∙ cost_read st h

    pub weigh_other : (b ≡ cost → ⊥) → Differs ≡ weighed cost es st
    unfolding weighed
    weigh_other n = rw (le-ltb (length st) 4 h, ← here, ne_eqb b cost n)

    -- The ends are held against the stored ones as they are.
    module _ (e : b ≡ cost) {r : Bool} (t : r ≡ holds (map (λ n. n) es) (part 4 (length st) st)) where
      same_ends : r ≡ holds es (part 4 (length st) st)
      same_ends = rw map-id at t

      pub weigh_same : r ≡ true → Agreed ≡ weighed cost es st
      unfolding weighed
      weigh_same g = rw (le-ltb (length st) 4 h, ← here, eq-eqb b cost e, ← same_ends, g)

      pub weigh_tied : r ≡ false → Tied ≡ weighed cost es st
      unfolding weighed
      weigh_tied g = rw (le-ltb (length st) 4 h, ← here, eq-eqb b cost e, ← same_ends, g)

pub ruleset weighing = (weigh_short, weigh_other, weigh_same, weigh_tied)

module _ (n : ℕ) (ns : List ℕ) {l : Result ℕ ListRefusal} {w s p : List ℕ} (P : Penalties) {E C S E' C' S' : List ℕ} (st : List ℕ) (i : 1 + 3 * n ≤ length ns)
    (e : w ≡ words_in n ns) (f : s ≡ whites_in n ns) (g : p ≡ penalties_in n ns) (k : least.Laying w s p (widths_in n ns) P E C S l E' C' S') where
  by_least : {r : Verdict} → r ≡ laid_verdict l (at (least.costs_of w s p (widths_in n ns) P) n) (least.ends_of_lines w s p (widths_in n ns) P) st → r ≡ least_of_parts n ns P (length E) (length C) (length S) st
  unfolding least_of_parts
  by_least h = rw (← e, ← f, ← g, ← k.answer) h

  module _ {lines : ℕ} (d : l ≡ Ok lines) where
    fit : least_laws.Fitting w s p (widths_in n ns) P lines (length E) (length C) (length S)
    fit = least_laws.lines_fit w s p (widths_in n ns) P lines (length E) (length C) (length S) (sym k.answer ∙ d)

    count_is : length w ≡ n
    count_is =
        let d : length (drop 1 ns) ≡ length ns - 1 = length-drop 1 ns in
        let z : 1 + n - 1 ≡ n = omega arith in
        rw e (length-take-le (1 + n - 1) (drop 1 ns) (omega (arith, d)) ∙ z)

    costs_are : C' ≡ sets C 0 (least.costs_of w s p (widths_in n ns) P)
    costs_are = rw d at k.costs

    pub least_place : n < length C'
    least_place = rw (costs_are, length-sets C 0 (least.costs_of w s p (widths_in n ns) P)) (omega (arith, fit.places, count_is))

    cost_is : get_or C' n 0 ≡ at (least.costs_of w s p (widths_in n ns) P) n
    cost_is =
        let m : n + 1 ≡ length (least.costs_of w s p (widths_in n ns) P) = omega (arith, least_laws.costs_places w s p (widths_in n ns) P, count_is) in
        let t : take (n + 1) C' ≡ least.costs_of w s p (widths_in n ns) P = take_stored C (least.costs_of w s p (widths_in n ns) P) m (omega (arith, fit.places, count_is)) costs_are in
        sym (get_or-take (n + 1) C' n 0 (omega arith)) ∙ ap (λ (v : List ℕ). get_or v n 0) t

    ends_are : E' ≡ sets E 0 (least.ends_of_lines w s p (widths_in n ns) P)
    ends_are = rw d at k.ends

    pub least_inside : lines ≤ length E'
    least_inside = rw (ends_are, length-sets E 0 (least.ends_of_lines w s p (widths_in n ns) P)) (omega (arith, fit.count, fit.room))

    pub least_lines : {r : Verdict} {v : ℕ} → v ≡ at C' n → r ≡ weighed v (take lines E') st → r ≡ least_of_parts n ns P (length E) (length C) (length S) st
    least_lines q h =
        let t : take lines E' ≡ least.ends_of_lines w s p (widths_in n ns) P = take_stored E (least.ends_of_lines w s p (widths_in n ns) P) fit.count (omega (arith, fit.count, fit.room)) ends_are in
        by_least (rw d (rw (q, cost_is, t) at h))

  pub least_refused : {why : ListRefusal} → l ≡ Err why → Differs ≡ least_of_parts n ns P (length E) (length C) (length S) st
  least_refused d = by_least (rw d)

pub ruleset leasts = (least_place, least_inside, least_lines, least_refused)

-- ---- from the bytes

module _ (k : Layout) (asked st : List ℕ) (N : List ℕ) (ends costs starts : ℕ) where
  pub read_many : length N < length asked / 2 → Differs ≡ asked_verdict k asked (length N) ends costs starts st
  unfolding asked_verdict
  read_many h = rw (lt-ltb (length N) (length (numbers16 asked)) (omega (arith, numbers_length asked, h)))

  pub read_all : {r : Verdict} {N' : List ℕ} → length asked / 2 ≤ length N → N' ≡ sets N 0 (take (length asked / 2) (numbers16 asked)) → r ≡ numbers_verdict k (take (length asked / 2) N') ends costs starts st
      → r ≡ asked_verdict k asked (length N) ends costs starts st
  unfolding asked_verdict
  read_all {N' = N'} h q p =
      let e : length asked / 2 ≡ length (numbers16 asked) = sym (numbers_length asked) in
      let a : take (length asked / 2) (numbers16 asked) ≡ numbers16 asked = take_all (length asked / 2) (numbers16 asked) (omega (arith, e)) in
      let t : take (length asked / 2) N' ≡ numbers16 asked = take_stored N (numbers16 asked) e h (rw a at q) in
      rw (le-ltb (length N) (length (numbers16 asked)) (omega (arith, e, h))) (rw t at p)

pub read_few : (asked : List ℕ) → length asked / 2 ≤ length (numbers16 asked)
read_few asked = omega (arith, numbers_length asked)

-- The numbers that were read are there.
pub read_inside : {c : ℕ} (N vs : List ℕ) {N' : List ℕ} → c ≤ length N → N' ≡ sets N 0 vs → c ≤ length N'
read_inside N vs h q = rw (q, length-sets N 0 vs) h

pub ruleset reading = (read_many, read_all, read_few, read_inside)
