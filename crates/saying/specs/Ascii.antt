-- The bytes of a text of ASCII characters, so that a definition shows what is said as people read it.
use Rattle.std.specs.Prelude.{ℕ, List}
use Prim.Native.Char.{code}
use Prim.Native.String.{String, [], ◌∷◌}
use mathlib.Core.List as list

abbrev pub ascii : String → List ℕ
ascii [] = list.[]
ascii (c ∷ t) = list.◌∷◌ (code c) (ascii t)
