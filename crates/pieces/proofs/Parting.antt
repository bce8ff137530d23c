-- A whole text whose characters are parted in two: its bytes are parted at the same place, and both parts are whole.
use mathlib.Core.Path.{◌≡◌, refl, sym, ap, ◌∙◌}
use mathlib.Core.List.{List, [], ◌∷◌, ◌++◌}
use Prim.Native.Nat.{ℕ, suc, ◌+◌, ◌≤◌}
use native.Mathlib.Omega.{arith}
use lib.ListN.{length, take, drop, take-append-drop, length-drop, drop_of_length-le}
use lib.Seq.{length-take-le, drop-drop, take-add}
use Rattle.chars.specs.Utf8.{Head, Found, Nothing, head_of, Chr, decode_from, decode, bytes, first_fault, Whole}
use Rattle.chars.proofs.Laws.{head_fits, head_char, head_fault, head_cut, decode_append}

-- One character by itself.
one_char : (t : List ℕ) {c k : ℕ} → head_of t ≡ Found c k → decode (take (suc k) t) ≡ record { code = c; size = suc k } ∷ []
unfolding decode_from
one_char t {c} {k} e =
    let n : length (take (suc k) t) ≡ suc k = length-take-le (suc k) t (head_fits t e) in
    let e' : head_of (take (suc k) t ++ drop (suc k) t) ≡ Found c k = rw take-append-drop e in
    head_char (take (suc k) t) (head_cut (take (suc k) t) (drop (suc k) t) e' (omega arith)) ∙ rw (drop_of_length-le (take (suc k) t) {i = suc k} (omega arith))

pub record Parted (t : List ℕ) (ys zs : List Chr) : Type 0 where
  pub inside : bytes ys ≤ length t
  pub front : Whole (take (bytes ys) t)
  pub front_chars : decode (take (bytes ys) t) ≡ ys
  pub back : Whole (drop (bytes ys) t)
  pub back_chars : decode (drop (bytes ys) t) ≡ zs

-- One character more in front.
parted_char : (t : List ℕ) (ys zs : List Chr) {c k : ℕ} → head_of t ≡ Found c k → Parted (drop (suc k) t) ys zs → Parted t (record { code = c; size = suc k } ∷ ys) zs
unfolding bytes first_fault
parted_char t ys zs {c} {k} e p =
    let f = head_fits t e in
    let o = one_char t e in
    let n : length (take (suc k) t) ≡ suc k = length-take-le (suc k) t f in
    let w : Whole (take (suc k) t) = omega (arith, ap bytes o) in
    let a : take (suc k + bytes ys) t ≡ take (suc k) t ++ take (bytes ys) (drop (suc k) t) = take-add (suc k) (bytes ys) t in
    let b : drop (suc k + bytes ys) t ≡ drop (bytes ys) (drop (suc k) t) = sym (drop-drop (bytes ys) (suc k) t) in
    let d : decode (take (suc k + bytes ys) t) ≡ record { code = c; size = suc k } ∷ ys = ap decode a ∙ decode_append _ _ w ∙ rw (o, p.front_chars) in
    record {
      inside = omega (arith, p.inside, length-drop (suc k) t);
      front = omega (arith, ap bytes d, length-take-le (suc k + bytes ys) t (omega (arith, p.inside, length-drop (suc k) t)));
      front_chars = d;
      back = rw b p.back;
      back_chars = rw b p.back_chars;
    }

pub parted : (t : List ℕ) (ys zs : List Chr) → Whole t → decode t ≡ ys ++ zs → Parted t ys zs
unfolding bytes first_fault decode_from
parted t [] zs w e = record { inside = omega arith; front = refl; front_chars = refl; back = w; back_chars = e }
parted t (y ∷ ys) zs w e = go (head_of t) refl (λ k. parted (drop (suc k) t) ys zs)
  where
    go : (h : Head) → head_of t ≡ h → ((k : ℕ) → Whole (drop (suc k) t) → decode (drop (suc k) t) ≡ ys ++ zs → Parted (drop (suc k) t) ys zs) → Parted t (y ∷ ys) zs
    go (Found c k) h more =
        let d = head_char t h in
        let f = head_fits t h in
        let x : y ≡ record { code = c; size = suc k } = cc in
        let r : decode (drop (suc k) t) ≡ ys ++ zs = cc in
        let v : Whole (drop (suc k) t) = omega (arith, ap bytes d, length-drop (suc k) t) in
        rw x (parted_char t ys zs h (more k v r))
    go Nothing h more = let d = head_fault t h in let z : ◌≡◌ {A = ℕ} 0 1 = cc in absurd (omega arith)
