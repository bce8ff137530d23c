-- What the laws of a `Cell` give: a number stored after those that are stored already, and the room that is left.
use Rattle.std.proofs.Common.{◌≡◌, ℕ, ◌+◌, ◌*◌, ◌≤◌, ◌<◌, List, [], ◌∷◌, ◌++◌, length, get_or, take, refl, sym, ap, ◌∙◌, arith}
use Rattle.std.proofs.lemmas.List.{take_more}
use Rattle.std.proofs.lemmas.List.Edits.{sets}
use lib.Seq.{length-take-le}
use Rattle.logic.specs.Flat.{flat}
use Rattle.logic.proofs.Stored.{sets_append}
use Rattle.wire.specs.Cells.{CellLaws}

module _ {A N : Type 0} {numbers : List A → List N} {places : List A → ℕ} {at : ℕ → ℕ} {stored : List N → List A} {size : ℕ} (laws : CellLaws numbers places at stored size) where
  -- Nothing is stored of no numbers.
  pub stored_none : stored [] ≡ []
  stored_none = no_elements (stored []) (omega (arith, laws.sized []))
    where
      no_elements : (l : List A) → length l ≡ 0 → l ≡ []
      no_elements [] h = refl
      no_elements (a ∷ l) h = absurd (omega arith)

  -- What numbers take is what each of them takes, one after the other.
  pub stored_flat : (xs : List N) → flat (λ x. stored (x ∷ [])) xs ≡ stored xs
  stored_flat [] = sym stored_none
  stored_flat (x ∷ xs) = ap (λ l. stored (x ∷ []) ++ l) (stored_flat xs) ∙ sym (laws.append (x ∷ []) xs)

  -- One number more is stored after the first k of xs.
  pub copied_step : (xs : List N) {to to' : List A} (to₀ : List A) {x : N} (k : ℕ) → to ≡ sets to₀ 0 (stored (take k xs)) → k < length xs → x ≡ get_or xs k x → to' ≡ sets to (at k) (stored (x ∷ [])) → to' ≡ sets to₀ 0 (stored (take (k + 1) xs))
  copied_step xs {to} {to'} to₀ {x} k p h g q =
      let more : take (k + 1) xs ≡ take k xs ++ x ∷ [] = take_more xs k x h ∙ ap (λ y. take k xs ++ (y ∷ [])) (sym g) in
      let long : at k ≡ length (stored (take k xs)) = laws.found k ∙ sym (laws.sized (take k xs) ∙ ap (λ n. size * n) (length-take-le k xs (omega arith))) in
      let z : 0 + length (stored (take k xs)) ≡ length (stored (take k xs)) = omega arith in
      q ∙ rw (more, laws.append (take k xs) (x ∷ []), long, p) (rw z at (sym (sets_append to₀ 0 (stored (take k xs)) (stored (x ∷ [])))))

  -- A list of the same length has as many places.
  pub places_same : (n : ℕ) (l l' : List A) → length l' ≡ length l → n ≤ places l → n ≤ places l'
  places_same n l l' e h = laws.places_all n l' (rw e (laws.room n l h))
