-- What is shown of pieces besides (`Laws` of proofs/): their bytes, each of them, and one after the other.
use Rattle.std.specs.Prelude.{◌≡◌, ℕ, ◌+◌, ◌-◌, ◌<◌, List, [], ◌∷◌, ◌++◌, ltb, take, drop}
use Rattle.logic.specs.Choice.{pick}
use Rattle.chars.specs.Utf8.{Chr, decode, Whole}
use Rattle.measure.specs.declared.Mode.{Mode}
use Rattle.measure.specs.declared.Mode.TheVariants.{Text}
use Rattle.measure.specs.Escapes.{next, taken, width_of, mode_after}
use Rattle.words.specs.declared.Word.{Word}
use Rattle.words.specs.Bytes.{content_of}

-- The bytes of a word or piece of the text s, its content and whitespace. (`content_of` is that of words.)
abbrev pub bytes_of : List ℕ → Word → List ℕ
bytes_of s x = take (x.end.0 + x.white.0 - x.start.0) (drop x.start.0 s)

-- Those of several, one after the other.
abbrev pub joined : (Word → List ℕ) → List Word → List ℕ
joined f [] = []
joined f (x ∷ xs) = f x ++ joined f xs

-- The columns of several, together.
abbrev pub widths : List Word → ℕ
widths [] = 0
widths (x ∷ xs) = x.width.0 + widths xs

-- How many characters take columns.
unfoldable pub takers : Mode → List Chr → ℕ
takers m [] = 0
takers m (x ∷ xs) = pick (ltb 0 (taken m x.code)) 1 0 + takers (next m x.code) xs

-- A piece, or a word that is kept, at width w: of whole characters and of their width; and if it is wider than w, exactly one of them takes columns.
pub record Good (s : List ℕ) (w : ℕ) (p : Word) : Type 0 where
  pub whole : Whole (content_of s p)
  pub width : p.width.0 ≡ width_of (content_of s p)
  pub wide : w < p.width.0 → takers Text (decode (content_of s p)) ≡ 1

-- It has content.
abbrev pub Some : Word → Type 0
Some p = p.start.0 < p.end.0

-- A piece and the next one: it could not have taken the first character of the next; it ends in no escape; it has no whitespace.
pub record Follows (s : List ℕ) (w : ℕ) (p q : Word) : Type 0 where
  pub first : Chr
  pub others : List Chr
  pub chars : decode (content_of s q) ≡ first ∷ others
  pub joins : q.start.0 ≡ p.end.0
  pub takes : 0 < taken Text first.code
  pub above : 0 < p.width.0
  pub full : w < p.width.0 + taken Text first.code
  pub text : mode_after Text (decode (content_of s p)) ≡ Text
  pub white : p.white.0 ≡ 0

-- The last piece of a content that ends at e, with k spaces after it.
pub record Last (e k : ℕ) (p : Word) : Type 0 where
  pub end : p.end.0 ≡ e
  pub white : p.white.0 ≡ k

-- Each of a list; each with the next, and the last.
abbrev pub Every : (Word → Type 0) → List Word → Type 0
Every P [] = Unit
Every P (x ∷ xs) = P x × Every P xs

abbrev pub Chained : (Word → Word → Type 0) → (Word → Type 0) → Word → List Word → Type 0
Chained R L p [] = L p
Chained R L p (q ∷ l) = R p q × Chained R L q l

abbrev pub Linked : (Word → Word → Type 0) → (Word → Type 0) → List Word → Type 0
Linked R L [] = Unit
Linked R L (p ∷ l) = Chained R L p l
