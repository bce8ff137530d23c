-- What the step of the code finds: not what a reader must believe, which is in `Pieces`. `Same` of proofs/ shows that its items are the pieces of one word, and those of a text's words.
use Rattle.std.specs.Prelude.{ℕ, ◌+◌, ◌||◌, List, eqb, length, take, drop}
use Rattle.logic.specs.Choice.{pick}
use Rattle.logic.specs.Count.{count}
use Rattle.logic.specs.Items.{items}
use Rattle.chars.specs.Utf8.{bytes}
use Rattle.measure.specs.declared.Mode.TheVariants.{Text}
use Rattle.measure.specs.Escapes.{width_from}
use Rattle.measure.specs.Walk.{ahead}
use Rattle.words.specs.declared.Word.{Word}
use Rattle.words.specs.Words.{space}
use Rattle.pieces.specs.declared.Cut.{Cut}
use Rattle.pieces.specs.Pieces.{piece, trimmed}

-- The piece from i on, up to the character `stop` if it comes to it: its end and its columns.
unfoldable pub cut_at : ℕ → ℕ → List ℕ → ℕ → Cut
cut_at stop w s i = record {
  end = record { 0 = i + bytes (piece w (ahead stop s i)) };
  width = record { 0 = width_from Text (piece w (ahead stop s i)) };
}

-- The two ways to break: the whole text as one word, whose content ends at `last` and has no character to stop before; and all words of the text, each up to a space.
pub data Way : ℕ → ℕ → List ℕ → Type 0 where
  one_word : (s : List ℕ) → Way 0xFFFFFFFF (trimmed s) s
  all_words : (s : List ℕ) → Way 0x20 (length s) s

-- The spaces that belong to a piece that ends at e: those after a word's content, none where the word goes on.
unfoldable pub spaces_after : ℕ → ℕ → List ℕ → ℕ → ℕ
spaces_after stop last s e = pick (eqb e last || eqb stop 0x20) (count space (drop e s)) 0

unfoldable pub step_end : ℕ → ℕ → ℕ → List ℕ → ℕ → ℕ
step_end stop last w s i = i + bytes (piece w (ahead stop (take last s) i))

unfoldable pub step_piece : ℕ → ℕ → ℕ → List ℕ → ℕ → Word
step_piece stop last w s i = record {
  start = record { 0 = i };
  end = record { 0 = step_end stop last w s i };
  white = record { 0 = spaces_after stop last s (step_end stop last w s i) };
  width = record { 0 = width_from Text (piece w (ahead stop (take last s) i)) };
}

unfoldable pub after_step : ℕ → ℕ → ℕ → List ℕ → ℕ → ℕ
after_step stop last w s i = step_end stop last w s i + spaces_after stop last s (step_end stop last w s i)

unfoldable pub step_pieces : ℕ → ℕ → ℕ → List ℕ → ℕ → List Word
step_pieces stop last w s i = items (step_piece stop last w s) (after_step stop last w s) last i
