-- The numbers of a list of bytes: how many there are, each from its bytes, and one stored.
use mathlib.Core.Path.{◌≡◌, refl, sym, ap, ◌∙◌}
use mathlib.Core.List.{List, [], ◌∷◌}
use Prim.Native.Nat.{ℕ, zero, suc, ◌+◌, ◌*◌, ◌/◌, ◌≤◌, ◌<◌}
use native.Mathlib.Omega.{arith}
use lib.ListN.{length, get_or, take, drop}
use Rattle.std.proofs.lemmas.List.Edits.{sets, sets-eq}
use Rattle.std.proofs.Common.{append_assoc}
use borrow.Rule.Slice.PartMut.{put_mid}
use lib.Seq.{drop-drop}
use Rattle.std.specs.Int.{Width, w16, w32, w64, byte_len, from_be_bytes}
use Rattle.wire.specs.Wire.{be32, be64, numbers16, first_numbers, numbers32, numbers64, places32, places64}
pub use Rattle.wire.specs.Bytes.{numbers_length, first_count}

-- Each number from its two bytes.
pair_at : (l : List ℕ) (i d : ℕ) → i < length (numbers16 l) → get_or (numbers16 l) i d ≡ from_be_bytes w16 (take 2 (drop (2 * i) l))
unfolding numbers16
pair_at [] i d h = absurd (omega arith)
pair_at (a ∷ []) i d h = absurd (omega arith)
pair_at (a ∷ b ∷ l) zero d h = omega arith
pair_at (a ∷ b ∷ l) (suc i) d h = let e : 2 * suc i ≡ suc (suc (2 * i)) = omega arith in rw e (pair_at l i d (omega arith))

-- How many there are, as `count` has it.
pub counted16 : (l : List ℕ) → length l / 2 ≡ length (numbers16 l)
counted16 l = sym (numbers_length l)

pub counted32 : (l : List ℕ) → length l / 4 ≡ length (numbers32 l)
counted32 l = sym (first_count w32 (places32 l) l)

pub counted64 : (l : List ℕ) → length l / 8 ≡ length (numbers64 l)
counted64 l = sym (first_count w64 (places64 l) l)

-- Each number of a width from its bytes.
first_at : (w : Width) (n : ℕ) (l : List ℕ) (i d : ℕ) → i < n → get_or (first_numbers w n l) i d ≡ from_be_bytes w (take (byte_len w) (drop (byte_len w * i) l))
unfolding first_numbers
first_at w zero l i d h = absurd (omega arith)
first_at w (suc n) l zero d h = let z : byte_len w * 0 ≡ 0 = omega arith in rw z refl
first_at w (suc n) l (suc i) d h =
    let e : byte_len w * suc i ≡ byte_len w + byte_len w * i = omega arith in
    rw (e, ← drop-drop (byte_len w * i) (byte_len w) l) (first_at w n (drop (byte_len w) l) i d (omega arith))

-- The number that is read of the bytes b at a number's place is the one of that index.
pub inside16 : (l : List ℕ) (i : ℕ) → i < length (numbers16 l) → 2 * i + 2 ≤ length l
inside16 l i h = omega (arith, numbers_length l)

pub read16 : (l b : List ℕ) (i : ℕ) {n : ℕ} → i < length (numbers16 l) → b ≡ take 2 (drop (2 * i) l) → n ≡ from_be_bytes w16 b → n ≡ get_or (numbers16 l) i n
read16 l b i {n} h e p = p ∙ ap (from_be_bytes w16) e ∙ sym (pair_at l i n h)

pub read32 : (l b : List ℕ) (i : ℕ) {n : ℕ} → i < length (numbers32 l) → b ≡ take 4 (drop (4 * i) l) → n ≡ from_be_bytes w32 b → n ≡ get_or (numbers32 l) i n
read32 l b i {n} h e p = p ∙ ap (from_be_bytes w32) e ∙ sym (first_at w32 (places32 l) l i n (omega (arith, first_count w32 (places32 l) l)))

pub read64 : (l b : List ℕ) (i : ℕ) {n : ℕ} → i < length (numbers64 l) → b ≡ take 8 (drop (8 * i) l) → n ≡ from_be_bytes w64 b → n ≡ get_or (numbers64 l) i n
read64 l b i {n} h e p = p ∙ ap (from_be_bytes w64) e ∙ sym (first_at w64 (places64 l) l i n (omega (arith, first_count w64 (places64 l) l)))

-- Elements that are copied over a range of a list.
put_sets : {A : Type 0} (l vs : List A) (place : ℕ) {k : ℕ} {m : List A} → place + length vs ≤ length l → k ≡ length vs → m ≡ vs → put_mid place k l m ≡ sets l place vs
put_sets l vs place h e p = rw (e, p, drop-drop (length vs) place l) (rw append_assoc at (sym (sets-eq vs l place h)))

pub stored32 : (l : List ℕ) (place v : ℕ) {k : ℕ} {m : List ℕ} → place + 4 ≤ length l → k ≡ 4 → m ≡ be32 v → put_mid place k l m ≡ sets l place (be32 v)
stored32 l place v h e p = put_sets l (be32 v) place h e p

pub stored64 : (l : List ℕ) (place v : ℕ) {k : ℕ} {m : List ℕ} → place + 8 ≤ length l → k ≡ 8 → m ≡ be64 v → put_mid place k l m ≡ sets l place (be64 v)
stored64 l place v h e p = put_sets l (be64 v) place h e p
