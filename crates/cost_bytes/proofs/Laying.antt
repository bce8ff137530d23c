-- The layout of numbers, stored as bytes: the entry's answer on lists of its own is the answer for the lists of bytes, and what it left in them goes over as it stands.
use Rattle.std.proofs.Common.{Result, Ok, Err}
use Rattle.std.specs.Result.{result_unwrap_or}
use mathlib.Core.Path.{◌≡◌, refl, sym, ap, ◌∙◌}
use mathlib.Core.List.{List}
use Prim.Native.Nat.{ℕ, ◌+◌, ◌*◌, ◌≤◌, max}
use native.Mathlib.Omega.{arith}
use lib.Dec.{ltb}
use lib.ListN.{length, take, replicate, length-replicate}
use lib.Seq.{sets}
use borrow.Author.Tests.{le-ltb}
use Rattle.units.specs.Limits.{cost_most}
use Rattle.logic.specs.Choice.{pick}
use Rattle.logic.specs.Flat.{flat}
use Rattle.logic.proofs.Choice.{both}
use Rattle.wire.specs.Wire.{be16, be64, places16, places64}
use Rattle.fragments.specs.Lists.{found, list_test}
use Rattle.fragments.specs.declared.ListRefusal.{ListRefusal}
use Rattle.fragments.specs.declared.ListRefusal.TheVariants.{TooDear}
use Rattle.fragments.proofs.Laws.{tested_good}
use Rattle.cheapest.specs.Table.{at}
use Rattle.least_cost.specs.declared.Penalties.{Penalties}
use Rattle.least_cost.specs.Layout.{first_big, admission_of, ends_after, scratch_after, costs_of, starts_of, ends_of_lines, laid_of, Laying}
use Rattle.least_cost.proofs.Laying.{Opened, open_says}
use Rattle.least_cost.proofs.Laws.{costs_places, starts_places, ends_few}
use Rattle.cost_bytes.specs.Bytes.{LaidBytes, admitted, Begun}
use Rattle.cost_bytes.proofs.Stores.{take_stored, zero_bytes16, zero_bytes64}

-- The answer where the search is begun: too dear, or the lines.
abbrev pub outcome : List ℕ → List ℕ → List ℕ → List ℕ → Penalties → Result ℕ ListRefusal
outcome w s p ws P = pick (ltb cost_most (at (costs_of w s p ws P) (length w))) (Err TooDear) (Ok (length (ends_of_lines w s p ws P)))

pub laid_open : (w s p ws : List ℕ) (P : Penalties) (a b c : ℕ) → admitted w s p ws P a b c ≡ Ok tt → laid_of w s p ws P a b c ≡ outcome w s p ws P
unfolding laid_of admitted
laid_open w s p ws P a b c e = rw e

module _ {w s p ws : List ℕ} {P : Penalties} {E C S : List ℕ} (g : Begun w s p ws P E C S) where
  opened : Opened (list_test w s p ws) (found (first_big P) 5) (length w) (places16 E) (places64 C) (places16 S)
  unfolding admitted
  opened = open_says _ _ _ _ _ _ (sym g.begun)

  pub begun_few : length w ≤ 4096
  begun_few = (tested_good _ _ _ _ opened.good).0.few

  -- lists of the most places have room
  open_here : admitted w s p ws P 4096 4097 4097 ≡ Ok tt
  unfolding admitted admission_of
  open_here =
      let f = begun_few in
      rw (opened.good, opened.cheap, le-ltb 4096 (max 1 (length w)) (omega arith), le-ltb 4097 (length w + 1) (omega arith))

  module _ {E₀ C₀ S₀ E₁ C₁ S₁ : List ℕ} {r : Result ℕ ListRefusal} (le : length E₀ ≡ 4096) (lc : length C₀ ≡ 4097) (ls : length S₀ ≡ 4097) (k : Laying w s p ws P E₀ C₀ S₀ r E₁ C₁ S₁) where
    answer_is : r ≡ outcome w s p ws P
    answer_is = k.answer ∙ ap (λ n. laid_of w s p ws P n (length C₀) (length S₀)) le ∙ ap (λ n. laid_of w s p ws P 4096 n (length S₀)) lc ∙ ap (λ n. laid_of w s p ws P 4096 4097 n) ls
        ∙ laid_open w s p ws P 4096 4097 4097 open_here

    -- by what the answer is, either way
    by_outcome : (Q : Result ℕ ListRefusal → Type 0) → Q (Err TooDear) → Q (Ok (length (ends_of_lines w s p ws P))) → Q r
    by_outcome Q x y = rw answer_is (both (ltb cost_most (at (costs_of w s p ws P) (length w))) (λ e. rw e x) (λ e. rw e y))

    pub lines_most : result_unwrap_or r 0 ≤ max 1 (length w)
    lines_most = by_outcome (λ r. result_unwrap_or r 0 ≤ max 1 (length w)) (omega arith) (ends_few w s p ws P)

    pub lines_room : 2 * result_unwrap_or r 0 ≤ length E
    lines_room = omega (arith, lines_most, opened.room)

    pub lines_here : result_unwrap_or r 0 ≤ 4096
    lines_here = omega (arith, lines_most, begun_few)

    pub costs_room : 8 * (length w + 1) ≤ length C
    costs_room = omega (arith, opened.scratch)

    pub starts_room : 2 * (length w + 1) ≤ length S
    starts_room = omega (arith, opened.scratch)

    module _ {E' C' S' : List ℕ} (e : E' ≡ sets E 0 (flat be16 (take (result_unwrap_or r 0) E₁))) (c : C' ≡ sets C 0 (flat be64 (take (length w + 1) C₁)))
        (t : S' ≡ sets S 0 (flat be16 (take (length w + 1) S₁))) where
      ends_stored : sets E 0 (flat be16 (take (result_unwrap_or r 0) E₁)) ≡ ends_after r (flat be16 (ends_of_lines w s p ws P)) E
      ends_stored = go r answer_is k.ends
        where
          go : (r : Result ℕ ListRefusal) → r ≡ outcome w s p ws P → E₁ ≡ ends_after r (ends_of_lines w s p ws P) E₀ → sets E 0 (flat be16 (take (result_unwrap_or r 0) E₁)) ≡ ends_after r (flat be16 (ends_of_lines w s p ws P)) E
          go r a q =
              both (ltb cost_most (at (costs_of w s p ws P) (length w)))
              (λ d. let z : r ≡ Err TooDear = a ∙ rw d in rw z)
              (λ d.
              let z : r ≡ Ok (length (ends_of_lines w s p ws P)) = a ∙ rw d in
              let h : E₁ ≡ sets E₀ 0 (ends_of_lines w s p ws P) = rw z at q in
              rw (z, h, take_stored E₀ (ends_of_lines w s p ws P) (length (ends_of_lines w s p ws P)) refl (omega (arith, ends_few w s p ws P, begun_few))))

      scratch : (one : ℕ → List ℕ) (vs l l₁ B : List ℕ) → length vs ≡ length w + 1 → length w + 1 ≤ length l → flat one (replicate (length vs) 0) ≡ replicate (length (flat one vs)) 0
          → l₁ ≡ scratch_after r vs l → sets B 0 (flat one (take (length w + 1) l₁)) ≡ scratch_after r (flat one vs) B
      scratch one vs l l₁ B n m z q = go r answer_is q
        where
          go : (r : Result ℕ ListRefusal) → r ≡ outcome w s p ws P → l₁ ≡ scratch_after r vs l → sets B 0 (flat one (take (length w + 1) l₁)) ≡ scratch_after r (flat one vs) B
          go r a q =
              both (ltb cost_most (at (costs_of w s p ws P) (length w)))
              (λ d.
              let y : r ≡ Err TooDear = a ∙ rw d in
              let h : l₁ ≡ sets l 0 (replicate (length vs) 0) = rw y at q in
              let o : length (replicate {A = ℕ} (length vs) 0) ≡ length vs = length-replicate (length vs) 0 in
              rw (y, h, take_stored l (replicate (length vs) 0) (length w + 1) (sym n ∙ sym o) (omega arith), z))
              (λ d.
              let y : r ≡ Ok (length (ends_of_lines w s p ws P)) = a ∙ rw d in
              let h : l₁ ≡ sets l 0 vs = rw y at q in
              rw (y, h, take_stored l vs (length w + 1) (sym n) (omega arith)))

      pub laid_bytes : LaidBytes w s p ws P E C S r E' C' S'
      laid_bytes = record {
        answer = answer_is ∙ sym (laid_open w s p ws P (places16 E) (places64 C) (places16 S) g.begun);
        ends = e ∙ ends_stored;
        costs = c ∙ scratch be64 (costs_of w s p ws P) C₀ C₁ C (costs_places w s p ws P) (omega (arith, begun_few)) (zero_bytes64 (costs_of w s p ws P)) k.costs;
        starts = t ∙ scratch be16 (starts_of w s p ws P) S₀ S₁ S (starts_places w s p ws P) (omega (arith, begun_few)) (zero_bytes16 (starts_of w s p ws P)) k.starts;
      }
