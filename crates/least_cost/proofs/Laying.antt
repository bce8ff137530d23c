-- The last step and the whole entry: what is known where the search is begun, and the promise of each way through.
use Rattle.std.proofs.Common.{Option, Some, None, Result, Ok, Err}
use mathlib.Core.Path.{◌≡◌, refl, sym, ap, ◌∙◌}
use mathlib.Core.Bool.{Bool, true, false}
use mathlib.Core.List.{List}
use Prim.Native.Nat.{ℕ, zero, suc, ◌+◌, ◌≤◌, ◌<◌, min, max}
use native.Mathlib.Omega.{arith}
use lib.Dec.{ltb, leb, eqb}
use lib.ListN.{length, get_or, replicate, length-replicate}
use lib.Seq.{sets, length-sets}
use borrow.Author.Tests.{lt-ltb, le-ltb, ltb-false, leb-true}
use Rattle.units.specs.Limits.{width_most, fragments_most, cost_most}
use Rattle.logic.specs.Choice.{pick}
use Rattle.logic.proofs.Choice.{both}
use Rattle.logic.proofs.Count.{count_passes}
use Rattle.fragments.specs.Lists.{found, first_above, width_tested, tested_of, list_test}
use Rattle.fragments.specs.declared.ListRefusal.{ListRefusal}
use Rattle.fragments.specs.declared.ListRefusal.TheVariants.{Unequal, TooMany, TooWide, BigPenalty, NoRoom, TooDear}
use Rattle.fragments.proofs.Laws.{none_found, tested_good}
use Rattle.cheapest.specs.Lines.{Falls}
use Rattle.cheapest.specs.Table.{at, best_costs, chosen_starts}
use Rattle.cheapest.proofs.Lines.{ends_same}
use Rattle.cheapest.proofs.Table.{table_falls, table_computed, costs_length, starts_length}
use Rattle.least_cost.specs.declared.Penalties.{Penalties}
use Rattle.least_cost.specs.Price.{price}
use Rattle.least_cost.specs.Layout.{five, first_big, admission_of, lines_of, ends_after, scratch_after, costs_of, starts_of, ends_of_lines, laid_of, Laying}
use Rattle.least_cost.specs.Search.{Small, Even, Searchable, Writable, cleared_by, Finished}
use Rattle.least_cost.proofs.Stores.{sets_at, sets_over}

-- ---- what is known where the search is begun

pub never : {A : Type 0} → ◌≡◌ {A = ℕ} 0 1 → A
never e = absurd (omega arith)

pub record Opened (t : Result (Unit {0}) ListRefusal) (big : Option ℕ) (n ends costs starts : ℕ) : Type 0 where
  pub good : t ≡ Ok tt
  pub cheap : big ≡ None
  pub room : max 1 n ≤ ends
  pub scratch : n + 1 ≤ min costs starts

pub open_says : (t : Result (Unit {0}) ListRefusal) (big : Option ℕ) (n ends costs starts : ℕ) → Ok tt ≡ admission_of t big n ends costs starts → Opened t big n ends costs starts
unfolding admission_of
open_says (Err why) big n ends costs starts e = never (cc)
open_says (Ok u) (Some i) n ends costs starts e = never (cc)
open_says (Ok u) None n ends costs starts e =
    both (ltb ends (max 1 n))
    (λ b. let e₂ : Ok tt ≡ Err (NoRoom (max 1 n)) = e ∙ rw b in never (cc))
    (λ b.
    both (ltb (min costs starts) (n + 1))
    (λ d. let e₃ : Ok tt ≡ Err (NoRoom (n + 1)) = e ∙ rw (b, d) in never (cc))
    (λ d. record { good = refl; cheap = refl; room = ltb-false ends (max 1 n) b; scratch = ltb-false (min costs starts) (n + 1) d }))

pub small_says : (P : Penalties) → found (first_big P) 5 ≡ None → Small P
unfolding first_big first_above
small_says P e = record { line = at_most 0 (omega arith); over = at_most 1 (omega arith); part = at_most 2 (omega arith); last = at_most 3 (omega arith); dash = at_most 4 (omega arith) }
  where
    h : 5 ≤ first_big P
    h = none_found (first_big P) 5 e

    at_most : (k : ℕ) → k < 5 → get_or (five P) k 0 ≤ 1000000
    at_most k l = leb-true (get_or (five P) k 0) 1000000 (count_passes (λ x. leb x 1000000) (five P) k (omega (arith, h)))

-- A search that is not begun changes nothing.
shut_widths : (wide big : Option ℕ) (n ends costs starts : ℕ) (why : ListRefusal) → Err why ≡ admission_of (width_tested wide) big n ends costs starts → (vs l : List ℕ)
    → (l ≡ ends_after (Err why) vs l) × (l ≡ scratch_after (Err why) vs l)
unfolding admission_of
shut_widths (Some i) big n ends costs starts why e vs l = let z : why ≡ TooWide i = cc in rw z (refl, refl)
shut_widths None (Some i) n ends costs starts why e vs l = let z : why ≡ BigPenalty i = cc in rw z (refl, refl)
shut_widths None None n ends costs starts why e vs l =
    both (ltb ends (max 1 n))
    (λ b. let e₂ : Err why ≡ Err (NoRoom (max 1 n)) = e ∙ rw b in let z : why ≡ NoRoom (max 1 n) = cc in rw z (refl, refl))
    (λ b.
    both (ltb (min costs starts) (n + 1))
    (λ d. let e₃ : Err why ≡ Err (NoRoom (n + 1)) = e ∙ rw (b, d) in let z : why ≡ NoRoom (n + 1) = cc in rw z (refl, refl))
    (λ d. let e₄ : Err why ≡ Ok tt = e ∙ rw (b, d) in never (cc)))

pub shut_keeps : (words whites penalties : ℕ) (wide big : Option ℕ) (n ends costs starts : ℕ) (why : ListRefusal) → Err why ≡ admission_of (tested_of words whites penalties wide) big n ends costs starts
    → (vs l : List ℕ) → (l ≡ ends_after (Err why) vs l) × (l ≡ scratch_after (Err why) vs l)
unfolding admission_of tested_of
shut_keeps words whites penalties wide big n ends costs starts why e vs l =
    both (eqb whites words)
    (λ a.
    both (eqb penalties words)
    (λ b.
    both (ltb fragments_most words)
    (λ c. let e₁ : Err why ≡ Err TooMany = e ∙ rw (a, b, c) in let z : why ≡ TooMany = cc in rw z (refl, refl))
    (λ c. shut_widths wide big n ends costs starts why (e ∙ rw (a, b, c)) vs l))
    (λ b. let e₁ : Err why ≡ Err Unequal = e ∙ rw (a, b) in let z : why ≡ Unequal = cc in rw z (refl, refl)))
    (λ a. let e₁ : Err why ≡ Err Unequal = e ∙ rw a in let z : why ≡ Unequal = cc in rw z (refl, refl))

-- ---- the last step

module _ (n : ℕ) {E C S : List ℕ} where
  pub finish_dear : {C' S' : List ℕ} → cost_most < at C n → C' ≡ sets C 0 (replicate (n + 1) 0) → S' ≡ sets S 0 (replicate (n + 1) 0) → Finished n E C S (Err TooDear) E C' S'
  finish_dear l c s = record { answer = rw (lt-ltb cost_most (at C n) l); ends = refl; costs = c; starts = s }

  pub finish_laid : {k : ℕ} {E' : List ℕ} → at C n ≤ cost_most → k ≡ length (lines_of (at S) n) → E' ≡ sets E 0 (lines_of (at S) n) → Finished n E C S (Ok k) E' C S
  finish_laid l k e = record { answer = rw (le-ltb cost_most (at C n) l, k); ends = e; costs = refl; starts = refl }

-- Its scratch, over what the search wrote: what the search wrote, or zeros.
cleared_after : (b : Bool) (k n : ℕ) (r : Result ℕ ListRefusal) (vs l : List ℕ) → r ≡ pick b (Err TooDear) (Ok k) → length vs ≡ n + 1 → n < length l → cleared_by r n (sets l 0 vs) ≡ scratch_after r vs l
cleared_after true k n r vs l e h b =
    rw (e, h) (sets_over l vs (replicate (n + 1) 0) (h ∙ sym (length-replicate (n + 1) 0)) (omega arith))
cleared_after false k n r vs l e h b = rw e

lines_same : (s t : ℕ → ℕ) (n : ℕ) → Falls s n → ((k : ℕ) → k ≤ n → s k ≡ t k) → lines_of s n ≡ lines_of t n
lines_same s t zero f e = refl
lines_same s t (suc n) f e = ends_same s t (suc n) f e

-- ---- the entry

-- The tests have said `a`.
pub record Told (w s p ws : List ℕ) (P : Penalties) (E C S : List ℕ) (a : Result (Unit {0}) ListRefusal) : Type 0 where
  pub says : a ≡ admission_of (list_test w s p ws) (found (first_big P) 5) (length w) (length E) (length C) (length S)

module _ {w s p ws : List ℕ} {P : Penalties} {E C S : List ℕ} {a : Result (Unit {0}) ListRefusal} where
  pub laying_told : {big : Option ℕ} {t : Result (Unit {0}) ListRefusal} → t ≡ list_test w s p ws → big ≡ found (first_big P) 5 → a ≡ admission_of t big (length w) (length E) (length C) (length S) → Told w s p ws P E C S a
  laying_told et eb ea = record { says = ea ∙ rw (et, eb) }

  pub laying_shut : {r : Result ℕ ListRefusal} (why : ListRefusal) → Told w s p ws P E C S a → a ≡ Err why → r ≡ Err why → Laying w s p ws P E C S r E C S
  unfolding laid_of
  laying_shut why told h q =
      let e = sym h ∙ told.says in
      let k = shut_keeps _ _ _ _ _ _ _ _ _ why e in
      rw q (record {
        answer = rw (← e);
        ends = (k (ends_of_lines w s p ws P) E).0;
        costs = (k (costs_of w s p ws P) C).1;
        starts = (k (starts_of w s p ws P) S).1;
      })

  module _ (told : Told w s p ws P E C S a) (h : a ≡ Ok tt) where
    opened : Opened (list_test w s p ws) (found (first_big P) 5) (length w) (length E) (length C) (length S)
    opened = open_says _ _ _ _ _ _ (sym h ∙ told.says)

    pub laying_even : Even w s p
    laying_even =
        let g = (tested_good (length w) (length s) (length p) (found (first_above width_most ws) (length ws)) opened.good).0 in
        record { whites = g.whites_same; penalties = g.penalties_same; few = g.few }

    pub laying_small : Small P
    laying_small = small_says P opened.cheap

    pub laying_search : Searchable w C S
    laying_search = record {
      costs = omega (arith, opened.scratch);
      starts = omega (arith, opened.scratch);
    }

    module _ {C₁ S₁ : List ℕ} (ec : C₁ ≡ sets C 0 (costs_of w s p ws P)) (es : S₁ ≡ sets S 0 (starts_of w s p ws P)) where
      costs_long : length (costs_of w s p ws P) ≡ length w + 1
      unfolding costs_of
      costs_long = costs_length (price w s p ws P) (length w)

      starts_long : length (starts_of w s p ws P) ≡ length w + 1
      unfolding starts_of
      starts_long = starts_length (price w s p ws P) (length w)

      cost_is : at C₁ (length w) ≡ at (costs_of w s p ws P) (length w)
      cost_is = rw ec (sets_at C (costs_of w s p ws P) (length w) (omega (arith, costs_long)) (omega (arith, costs_long, opened.scratch)))

      start_is : (k : ℕ) → k ≤ length w → at S₁ k ≡ at (starts_of w s p ws P) k
      start_is k l = rw es (sets_at S (starts_of w s p ws P) k (omega (arith, starts_long)) (omega (arith, starts_long, opened.scratch)))

      starts_fall : Falls (at (starts_of w s p ws P)) (length w)
      unfolding starts_of
      starts_fall =
          let q = price w s p ws P in
          table_falls q (length w) (at (best_costs q (length w))) (at (chosen_starts q (length w))) (table_computed q (length w))

      falls : Falls (at S₁) (length w)
      falls k z l = rw (start_is k l) (starts_fall k z l)

      pub laying_write : Writable S₁ (length w) E
      laying_write = record {
        starts = rw es (omega (arith, length-sets S 0 (starts_of w s p ws P), opened.scratch));
        falls = falls;
        few = laying_even.few;
        room = omega (arith, opened.room);
        place = omega (arith, opened.room);
      }

      pub laying_cost : length w < length C₁
      laying_cost = rw ec (omega (arith, length-sets C 0 (costs_of w s p ws P), opened.scratch))

      lines_are : lines_of (at S₁) (length w) ≡ ends_of_lines w s p ws P
      unfolding ends_of_lines
      lines_are = lines_same (at S₁) (at (starts_of w s p ws P)) (length w) falls start_is

      pub laying_done : {r : Result ℕ ListRefusal} {E' C' S' : List ℕ} → Finished (length w) E C₁ S₁ r E' C' S' → Laying w s p ws P E C S r E' C' S'
      unfolding laid_of
      laying_done {r} {E'} {C'} {S'} f =
          let e = sym h ∙ told.says in
          let b = ltb cost_most (at C₁ (length w)) in
          let k = length (lines_of (at S₁) (length w)) in
          record {
            answer = f.answer ∙ rw (← e, cost_is, lines_are);
            ends = f.ends ∙ ap (λ (x : List ℕ). ends_after r x E) lines_are;
            costs = f.costs ∙ rw ec (cleared_after b k (length w) r (costs_of w s p ws P) C f.answer costs_long (omega (arith, opened.scratch)));
            starts = f.starts ∙ rw es (cleared_after b k (length w) r (starts_of w s p ws P) S f.answer starts_long (omega (arith, opened.scratch)));
          }

pub ruleset laying = (laying_told, laying_shut, laying_even, laying_small, laying_search, laying_write, laying_cost, laying_done)
