-- Laws of what is said: what a line says then, and one saying after another.
use mathlib.Core.Path.{◌≡◌, refl, ◌∙◌}
use mathlib.Core.List.{List, [], ◌++◌, append_assoc}
use Prim.Native.Nat.{ℕ, ◌+◌, ◌≤◌}
use native.Mathlib.Omega.{arith}
use lib.ListN.{length, take, drop, length-append}
use lib.Seq.{sets, sets-eq, length-sets, length-take-le, take_at, drop-drop}
use borrow.Rule.Slice.PartMut.{put_mid}
use Rattle.logic.proofs.Stored.{sets_append}
use Rattle.saying.specs.declared.Line.{Line}
use Rattle.saying.specs.Saying.{bytes_of, Said}

-- ---- what a line says

module _ {l m : Line} {b : List ℕ} (s : Said l b m) where
  -- It says what it said and then what was added.
  pub said_take : bytes_of m ≡ bytes_of l ++ b
  said_take =
      let o : List ℕ = l.room.now in
      let fits : l.len + length b ≤ length o = omega (arith, s.count, s.room) in
      let long : length (take l.len o) ≡ l.len = length-take-le l.len o (omega arith) in
      let whole : length (take l.len o ++ b) ≡ m.len = length-append (take l.len o) b ∙ omega (arith, s.count) in
      rw (s.left, sets-eq b o l.len fits) (take_at (take l.len o ++ b) (drop (l.len + length b) o) m.len whole)

-- A line that is said from the start of a room is what it says.
pub said_line : {l m : Line} {b : List ℕ} → l.len ≡ 0 → Said l b m → bytes_of m ≡ b
said_line {l} {m} {b} e s = said_take s ∙ rw e

-- ---- one after another

-- Nothing is said by not saying.
pub said_none : (l : Line) → l.len ≤ length l.room.now → Said l [] l
said_none l h = record { same_room = refl; long = refl; count = omega arith; room = h; left = refl }

-- What is said after something else is said with it.
pub said_then : {l m n : Line} {a b : List ℕ} → Said l a m → Said m b n → Said l (a ++ b) n
said_then {l} {m} {n} {a} {b} s t = record {
  same_room = t.same_room ∙ s.same_room;
  long = t.long ∙ s.long;
  count = omega (arith, s.count, t.count, length-append a b);
  room = omega (arith, t.room, s.long);
  left = t.left ∙ rw (s.left, s.count, sets_append l.room.now l.len a b);
}

-- ---- a part of the room that is written

-- The bytes after those that are said become others.
pub put_said : (l m : Line) (k : ℕ) (b c : List ℕ) → m.room.ghost_name ≡ l.room.ghost_name → m.len ≡ l.len + length b → k ≡ length b → c ≡ b → l.len + length b ≤ length l.room.now → m.room.now ≡ put_mid l.len k l.room.now c
    → Said l b m
put_said l m k b c g n e d h p =
    let w : m.room.now ≡ sets l.room.now l.len b = p ∙ rw (d, e, sets-eq b l.room.now l.len h, append_assoc (take l.len l.room.now) b, drop-drop (length b) l.len l.room.now) in
    record { same_room = g; long = rw w (length-sets l.room.now l.len b); count = n; room = omega (arith, n); left = w }
