-- The numbers of an answer that is known by its definition, and the word of one that has a word.
use Rattle.std.proofs.Common.{Result}
use mathlib.Core.Path.{◌≡◌}
use mathlib.Core.List.{List}
use Prim.Native.Nat.{ℕ}
use Rattle.units.specs.declared.Answer.{Answer}
use Rattle.words.specs.declared.Word.{Word}
use Rattle.fragments.specs.declared.ListRefusal.{ListRefusal}
use Rattle.words.specs.Lists as words
use Rattle.pieces.specs.Lists as pieces
use Rattle.pieces.specs.Lists.{word_answer_of}
use Rattle.least_cost.specs.declared.Penalties.{Penalties}
use Rattle.cost_bytes.specs.Bytes.{LaidBytes}
use Rattle.kenupatun.specs.declared.WordAnswer.{WordAnswer}
use Rattle.kenupatun.specs.Exports.{found_answer, broken_answer, laid_answer, fill_answer, with_word, word_in, LeastCost}
use Rattle.std.specs.Prelude.{Result}
use Rattle.limits.specs.declared.TextRefusal.{TextRefusal}

pub found_by : {a : Answer} {r d : Result ℕ TextRefusal} → a ≡ found_answer r → r ≡ d → a ≡ found_answer d
found_by p q = rw (← q) p

pub broken_by : {a : Answer} {r d : Result ℕ TextRefusal} → a ≡ broken_answer r → r ≡ d → a ≡ broken_answer d
broken_by p q = rw (← q) p

-- A list after an answer that is known.
pub words_by : {r d : Result ℕ TextRefusal} (vs l : List ℕ) {l' : List ℕ} → r ≡ d → l' ≡ words.Finds r vs l → l' ≡ words.Finds d vs l
words_by vs l p q = rw p at q

pub pieces_by : {r d : Result ℕ TextRefusal} (vs l : List ℕ) {l' : List ℕ} → r ≡ d → l' ≡ pieces.Lists r vs l → l' ≡ pieces.Lists d vs l
pieces_by vs l p q = rw p at q

pub laid_by : {a : Answer} {r d : Result ℕ ListRefusal} → a ≡ laid_answer r → r ≡ d → a ≡ laid_answer d
laid_by p q = rw (← q) p

pub filled_by : {a : Answer} {r d : Result ℕ TextRefusal} → a ≡ fill_answer r → r ≡ d → a ≡ fill_answer d
filled_by p q = rw (← q) p

pub made_by : {r : WordAnswer} {a : Answer} {w : Word} {o d : Result Word TextRefusal} → r ≡ with_word a w → a ≡ word_answer_of o → w ≡ word_in o → o ≡ d → r ≡ with_word (word_answer_of d) (word_in d)
made_by r a w o = cc

pub least_by : {a : Answer} {r : Result ℕ ListRefusal} {w s p ws : List ℕ} {P : Penalties} {E C S E' C' S' : List ℕ} → a ≡ laid_answer r → LaidBytes w s p ws P E C S r E' C' S' → LeastCost w s p ws P E C S a E' C' S'
least_by e k = record { answer = laid_by e k.answer; ends = rw k.answer at k.ends; costs = rw k.answer at k.costs; starts = rw k.answer at k.starts }
