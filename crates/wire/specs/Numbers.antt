-- A list of numbers as it is keeps the laws of `CellLaws`.
use Rattle.std.specs.Prelude.{length, refl}
use Rattle.std.proofs.Common.{arith}
use Rattle.wire.specs.Cells.{CellLaws}

pub plain_laws : {N : Type 0} → CellLaws {A = N} {N = N} (λ l. l) length (λ k. k) (λ l. l) 1
plain_laws = record {
  counted = λ l. refl;
  append = λ xs ys. refl;
  sized = λ xs. omega arith;
  found = λ k. omega arith;
  some = omega arith;
  room = λ k l h. omega arith;
  places_all = λ k l h. omega arith;
}
