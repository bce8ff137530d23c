-- Lists of bytes keep the laws of `CellLaws`.
use Rattle.std.specs.Prelude.{◌≡◌, ℕ, ◌+◌, ◌*◌, ◌/◌, ◌≤◌, List, [], ◌∷◌, ◌++◌, length, refl}
use Rattle.std.proofs.Common.{ap, arith, length-append, append_assoc}
use Rattle.std.proofs.Common.{zero, suc}
use Rattle.std.specs.Int.{Width, w32, w64}
use Rattle.logic.specs.Flat.{flat}
use Rattle.wire.specs.Wire.{be16, be32, be64, numbers16, first_numbers, numbers32, numbers64, places16, places32, places64}
use Rattle.wire.specs.Cells.{CellLaws}

flat_append : (one : ℕ → List ℕ) (xs ys : List ℕ) → flat one (xs ++ ys) ≡ flat one xs ++ flat one ys
flat_append one [] ys = refl
flat_append one (x ∷ xs) ys = rw (flat_append one xs ys, append_assoc)

flat_sized : (one : ℕ → List ℕ) (size : ℕ) → ((v : ℕ) → length (one v) ≡ size) → (xs : List ℕ) → length (flat one xs) ≡ size * length xs
flat_sized one size sized [] = omega arith
flat_sized one size sized (x ∷ xs) = omega (arith, length-append (one x) (flat one xs), sized x, flat_sized one size sized xs)

halves : (l : List ℕ) → (2 * length (numbers16 l) ≤ length l) × (length l ≤ 2 * length (numbers16 l) + 1)
unfolding numbers16
halves [] = (omega arith, omega arith)
halves (a ∷ []) = (omega arith, omega arith)
halves (a ∷ b ∷ l) = let h = halves l in (omega arith, omega arith)

pub numbers_length : (l : List ℕ) → length (numbers16 l) ≡ length l / 2
numbers_length l = let h = halves l in omega arith

pub first_count : (w : Width) (n : ℕ) (l : List ℕ) → length (first_numbers w n l) ≡ n
unfolding first_numbers
first_count w zero l = refl
first_count w (suc n) l = ap suc (first_count w n _)

pub laws16 : CellLaws numbers16 places16 (λ k. 2 * k) (flat be16) 2
laws16 = record {
  counted = numbers_length;
  append = flat_append be16;
  sized = flat_sized be16 2 (λ v. refl);
  found = λ k. refl;
  some = omega arith;
  room = λ k l h. omega arith;
  places_all = λ k l h. omega arith;
}

pub laws32 : CellLaws numbers32 places32 (λ k. 4 * k) (flat be32) 4
laws32 = record {
  counted = λ l. first_count w32 (places32 l) l;
  append = flat_append be32;
  sized = flat_sized be32 4 (λ v. refl);
  found = λ k. refl;
  some = omega arith;
  room = λ k l h. omega arith;
  places_all = λ k l h. omega arith;
}

pub laws64 : CellLaws numbers64 places64 (λ k. 8 * k) (flat be64) 8
laws64 = record {
  counted = λ l. first_count w64 (places64 l) l;
  append = flat_append be64;
  sized = flat_sized be64 8 (λ v. refl);
  found = λ k. refl;
  some = omega arith;
  room = λ k l h. omega arith;
  places_all = λ k l h. omega arith;
}
