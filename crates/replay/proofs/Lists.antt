-- Words and pieces, listed by an entry and compared with the stored ones: the first numbers of the lists are those of the words, and a refusal never agrees.
use mathlib.Core.Path.{◌≡◌, sym, ◌∙◌}
use mathlib.Core.Bool.{Bool, false}
use mathlib.Core.List.{List, map}
use Prim.Native.Nat.{ℕ, ◌+◌, ◌-◌, ◌≤◌, min}
use native.Mathlib.Omega.{arith}
use lib.Dec.{ltb}
use lib.ListN.{length, take, drop, length-map}
use lib.Seq.{sets, sets-eq, length-sets, take_at}
use borrow.Author.Tests.{ltb-false}
use Rattle.std.specs.Prelude.{Result, Ok, Err}
use Rattle.units.specs.Limits.{text_most, width_most}
use Rattle.logic.proofs.Choice.{both}
use Rattle.chars.specs.Utf8.{first_fault}
use Rattle.limits.specs.declared.TextRefusal.{TextRefusal}
use Rattle.limits.specs.declared.TextRefusal.TheVariants.{TooLong, NotUtf8, TooWide, NoRoom}
use Rattle.limits.specs.Limits.{admitted_then, narrow_then, listed_in}
use Rattle.words.specs.declared.Word.{Word}
use Rattle.words.specs.Lists.{start_of, end_of, white_of, width_of_word, listed_of, Room}
use Rattle.pieces.specs.Lists.{broken_of, Lists}
use Rattle.replay.specs.declared.Listing.{Listing}
use Rattle.replay.specs.declared.Listing.TheVariants as listing
use Rattle.replay.specs.Parts.{part, four}
use Rattle.replay.specs.Replay.{listed, found, lists_agree}

-- The first n places of a list into which n numbers were stored.
pub take_stored : {n : ℕ} (l vs : List ℕ) {l' : List ℕ} → n ≡ length vs → n ≤ length l → l' ≡ sets l 0 vs → take n l' ≡ vs
take_stored {n} l vs {l'} e h q =
    let m : 0 + length vs ≤ length l = omega arith in
    rw (q, sets-eq vs l 0 m) (take_at vs (drop (0 + length vs) l) n (sym e))

-- The same, as a part from the start.
pub part_stored : {n : ℕ} (l vs : List ℕ) {l' : List ℕ} → n ≡ length vs → n ≤ length l → l' ≡ sets l 0 vs → part 0 n l' ≡ vs
part_stored {n} l vs {l'} e h q = let z : n - 0 ≡ n = omega arith in rw z (take_stored l vs e h q)

-- ---- what an answer that counts says

admitted_says : {T : Type 0} (most : ℕ) (s : List ℕ) {r : Result T TextRefusal} {x : T} → Ok x ≡ admitted_then most s r → Ok x ≡ r
admitted_says {T} most s {r} {x} e =
    both (ltb most (length s))
    (λ t. let z : ◌≡◌ {A = Result T TextRefusal} (Ok x) (Err (TooLong (record { 0 = length s }))) = e ∙ rw t in cc)
    (λ t.
    both (ltb (first_fault s) (length s))
    (λ u. let z : ◌≡◌ {A = Result T TextRefusal} (Ok x) (Err (NotUtf8 (record { 0 = first_fault s }))) = e ∙ rw (t, u) in cc)
    (λ u. e ∙ rw (t, u)))

narrow_says : {T : Type 0} (w : ℕ) {r : Result T TextRefusal} {x : T} → Ok x ≡ narrow_then w r → Ok x ≡ r
narrow_says {T} w {r} {x} e =
    both (ltb width_most w)
    (λ t. let z : ◌≡◌ {A = Result T TextRefusal} (Ok x) (Err TooWide) = e ∙ rw t in cc)
    (λ t. e ∙ rw t)

listed_says : (room k : ℕ) {n : ℕ} → Ok n ≡ listed_in room k → (n ≡ k) × (n ≤ room)
listed_says room k {n} e =
    both (ltb room k)
    (λ t. let z : ◌≡◌ {A = Result ℕ TextRefusal} (Ok n) (Err (NoRoom k)) = e ∙ rw t in cc)
    (λ t.
    let z : ◌≡◌ {A = Result ℕ TextRefusal} (Ok n) (Ok k) = e ∙ rw t in
    let m : n ≡ k = cc in
    (m, omega (arith, ltb-false room k t)))

found_says : (l : Listing) (w : ℕ) (s : List ℕ) (room : ℕ) {n : ℕ} → Ok n ≡ found l w s room → (n ≡ length (listed l w s)) × (n ≤ room)
unfolding listed_of broken_of
found_says listing.Words w s room e = listed_says room (length (listed listing.Words w s)) (admitted_says text_most s e)
found_says listing.Apart w s room e = listed_says room (length (listed listing.Apart w s)) (narrow_says w (admitted_says text_most s e))
found_says listing.Broken w s room e = listed_says room (length (listed listing.Broken w s)) (narrow_says w (admitted_says text_most s e))

-- ---- the lists after it

-- Places of the shortest of four lists.
abbrev shortest : List ℕ → List ℕ → List ℕ → List ℕ → ℕ
shortest a b c d = min (min (length a) (length b)) (min (length c) (length d))

module _ (l : Listing) (w : ℕ) (s : List ℕ) {r : Result ℕ TextRefusal} (a b c d : List ℕ) (e : r ≡ found l w s (shortest a b c d)) where
  module _ {n : ℕ} {a' b' c' d' : List ℕ} (g : r ≡ Ok n) (p : a' ≡ Lists r (map start_of (listed l w s)) a) (q : b' ≡ Lists r (map end_of (listed l w s)) b)
      (t : c' ≡ Lists r (map white_of (listed l w s)) c) (u : d' ≡ Lists r (map width_of_word (listed l w s)) d) where
    says : (n ≡ length (listed l w s)) × (n ≤ shortest a b c d)
    says = found_says l w s (shortest a b c d) (sym g ∙ e)

    numbers : (f : Word → ℕ) → n ≡ length (map f (listed l w s))
    numbers f = says.0 ∙ sym (length-map (listed l w s) f)

    p' : a' ≡ sets a 0 (map start_of (listed l w s))
    p' = rw g at p

    q' : b' ≡ sets b 0 (map end_of (listed l w s))
    q' = rw g at q

    t' : c' ≡ sets c 0 (map white_of (listed l w s))
    t' = rw g at t

    u' : d' ≡ sets d 0 (map width_of_word (listed l w s))
    u' = rw g at u

    pub lists_room : Room n a' b' c' d'
    lists_room = record {
      starts = rw (p', length-sets a 0 (map start_of (listed l w s))) (omega (arith, says.1));
      ends = rw (q', length-sets b 0 (map end_of (listed l w s))) (omega (arith, says.1));
      whites = rw (t', length-sets c 0 (map white_of (listed l w s))) (omega (arith, says.1));
      widths = rw (u', length-sets d 0 (map width_of_word (listed l w s))) (omega (arith, says.1));
    }

    pub lists_found : {v : Bool} (st : List ℕ) → v ≡ four n (take n a') (take n b') (take n c') (take n d') st → v ≡ lists_agree l w s (shortest a b c d) st
    unfolding lists_agree
    lists_found st h =
        let i : take n a' ≡ map start_of (listed l w s) = take_stored a (map start_of (listed l w s)) (numbers start_of) (omega (arith, says.1)) p' in
        let j : take n b' ≡ map end_of (listed l w s) = take_stored b (map end_of (listed l w s)) (numbers end_of) (omega (arith, says.1)) q' in
        let k : take n c' ≡ map white_of (listed l w s) = take_stored c (map white_of (listed l w s)) (numbers white_of) (omega (arith, says.1)) t' in
        let m : take n d' ≡ map width_of_word (listed l w s) = take_stored d (map width_of_word (listed l w s)) (numbers width_of_word) (omega (arith, says.1)) u' in
        rw (← e, g) (h ∙ rw (i, j, k, m, says.0))

  pub lists_refused : {why : TextRefusal} (st : List ℕ) → r ≡ Err why → false ≡ lists_agree l w s (shortest a b c d) st
  unfolding lists_agree
  lists_refused st g = rw (← e, g)

pub ruleset listing_laws = (lists_room, lists_found, lists_refused)
