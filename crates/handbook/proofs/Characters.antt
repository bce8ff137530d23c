-- CHARACTERS: UTF-8 as RFC 3629 has it, and the first fault as document 01 says it.
use mathlib.Core.Path.{◌≡◌}
use mathlib.Core.Logic.{◌↔◌}
use mathlib.Core.Bool.{true}
use mathlib.Core.List.{List, ◌∷◌, ◌++◌}
use Prim.Native.Nat.{ℕ, ◌-◌, ◌<◌}
use lib.ListN.{length}
use Rattle.chars.specs.Utf8.{Found, Nothing, head_of, decode, first_fault, Whole}
use Rattle.chars.specs.Encoding.{scalar, encode, encode_all, Scalars}
use Rattle.chars.proofs.Encoding as encoding
use Rattle.chars.proofs.Laws as laws

-- Every Unicode scalar value's encoding (RFC 3629, section 3) is read back as that value, whatever follows it.
pub read_back : (c : ℕ) (ys : List ℕ) → scalar c ≡ true → head_of (encode c ++ ys) ≡ Found c (length (encode c) - 1)
read_back = encoding.encoded_is_read

-- Only encodings of scalar values are read: no overlong form, no surrogate, nothing above 10FFFF.
pub only_encodings : (t : List ℕ) {c k : ℕ} → head_of t ≡ Found c k → encoding.Encoded t c k
only_encodings t e = encoding.only_encodings t e

-- So a text is UTF-8 exactly if it is the encoding of a list of scalar values.
pub utf8_exactly : (s : List ℕ) → Whole s ↔ ((cs : List ℕ) × Scalars cs × (encode_all cs ≡ s))
utf8_exactly = encoding.whole_exactly

-- "first byte at which no well-formed character starts, all before it being whole characters": every text has one such place, if only its end, and the first fault is it.
pub has_fault : (s : List ℕ) → laws.Split s
has_fault = laws.split

pub first_fault_lem : (xs ys : List ℕ) → Whole xs → head_of ys ≡ Nothing → first_fault (xs ++ ys) ≡ length xs
first_fault_lem = laws.fault_only

-- A whole text followed by more has its own characters and then those of what follows.
pub followed : (xs ys : List ℕ) → Whole xs → decode (xs ++ ys) ≡ decode xs ++ decode ys
followed = laws.decode_append

-- A whole text cut before a byte below 80 leaves two whole texts.
pub cut_before : (xs ys : List ℕ) (x : ℕ) → x < 0x80 → Whole (xs ++ x ∷ ys) → Whole xs
cut_before = laws.cut_before

pub cut_after : (xs ys : List ℕ) (x : ℕ) → x < 0x80 → Whole (xs ++ x ∷ ys) → Whole (x ∷ ys)
cut_after = laws.cut_after
