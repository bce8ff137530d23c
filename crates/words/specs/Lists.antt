-- Words in lists: "Four lists of 32-bit numbers give start, content end, whitespace length and width, one place a word." And what the finder answers.
use Rattle.std.specs.Prelude.{◌≡◌, ℕ, min, ◌+◌, ◌^◌, ◌≤◌, ◌<◌, List, ltb, length}
use Rattle.std.proofs.lemmas.List.Edits.{sets}
use Rattle.units.specs.Limits.{text_most}
use Rattle.logic.specs.Choice.{pick}
use Rattle.words.specs.declared.Word.{Word}
use Rattle.words.specs.declared.WordLists.{WordLists}
use Rattle.words.specs.Words.{words}
use Rattle.std.specs.Prelude.{Err, Ok, Result, ⊤}
use Rattle.limits.specs.declared.TextRefusal.{TextRefusal}
use Rattle.limits.specs.Limits.{admitted_then, listed_in}

-- The four numbers of a word.
abbrev pub start_of : Word → ℕ
start_of w = w.start.0

abbrev pub end_of : Word → ℕ
end_of w = w.end.0

abbrev pub white_of : Word → ℕ
white_of w = w.white.0

abbrev pub width_of_word : Word → ℕ
width_of_word w = w.width.0

-- "Where several hold, text entries go 1, 2, 3, 7"; "the word finder no 3"; "7 is tested on the answer lists .. by the shortest of each". `room` is the shortest list's length.
unfoldable pub listed_of : List ℕ → ℕ → Result ℕ TextRefusal
listed_of s room = admitted_then text_most s (listed_in room (length (words s)))

-- "List places past the answer keep what they held. A refusal .. changes no lent memory": a list after the finder, by its answer, the numbers to list, and what it held.
abbrev pub Finds : {A : Type 0} → Result ℕ TextRefusal → List A → List A → List A
Finds (Ok n) vs l = sets l 0 vs
Finds (Err why) vs l = l

-- ---- what the parts of the finder answer and ask of each other

-- Whether `room` places are enough for n words.
abbrev pub fit_of : ℕ → ℕ → Result ⊤ ℕ
fit_of n room = pick (ltb room n) (Err n) (Ok tt)

-- A word's numbers have 32 bits.
pub record Small (w : Word) : Type 0 where
  pub start : start_of w < 2 ^ 32
  pub end : end_of w < 2 ^ 32
  pub white : white_of w < 2 ^ 32
  pub width : width_of_word w < 2 ^ 32

-- The places of the shortest of four lists, by those of each.
abbrev pub room : {A : Type 0} → (List A → ℕ) → WordLists A → ℕ
room places l = min (min (places l.starts.now) (places l.ends.now)) (min (places l.whites.now) (places l.widths.now))

-- The lists are those that were lent before: what is stored in them, their owners find.
pub record Same {A : Type 0} (before after : WordLists A) : Type 0 where
  pub starts : after.starts.ghost_name ≡ before.starts.ghost_name
  pub ends : after.ends.ghost_name ≡ before.ends.ghost_name
  pub whites : after.whites.ghost_name ≡ before.whites.ghost_name
  pub widths : after.widths.ghost_name ≡ before.widths.ghost_name

-- A number of `size` elements goes to `place` of each of the four lists.
pub record PutAt {A : Type 0} (size place : ℕ) (l : WordLists A) : Type 0 where
  pub starts : place + size ≤ length l.starts.now
  pub ends : place + size ≤ length l.ends.now
  pub whites : place + size ≤ length l.whites.now
  pub widths : place + size ≤ length l.widths.now

-- Four lists have n places.
pub record Room (n : ℕ) (a b c d : List ℕ) : Type 0 where
  pub starts : n ≤ length a
  pub ends : n ≤ length b
  pub whites : n ≤ length c
  pub widths : n ≤ length d
