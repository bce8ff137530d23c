-- Words stored into four lists, and the loop that lists the words of a text. `Writing` speaks of any words and of any lists of numbers, so it serves pieces too.
use mathlib.Core.Path.{◌≡◌, refl, sym, ap, ◌∙◌}
use mathlib.Core.List.{List, [], ◌∷◌, map}
use Prim.Native.Nat.{ℕ, suc, ◌+◌, ◌-◌, ◌*◌, ◌≤◌, ◌<◌}
use native.Mathlib.Omega.{arith}
use lib.ListN.{length, drop, length-drop, length-append}
use lib.Seq.{sets}
use Rattle.units.specs.declared.Offset.{Offset}
use Rattle.units.specs.Limits.{text_most}
use Rattle.logic.specs.Flat.{flat}
use Rattle.logic.proofs.Count.{count_fits}
use Rattle.logic.proofs.Stored.{Stored, stored_start, stored_step, stored_end}
use Rattle.wire.specs.Cells.{CellLaws}
use Rattle.wire.proofs.Cells.{stored_flat}
use Rattle.chars.specs.Utf8.{Whole}
use Rattle.measure.proofs.Laws.{width_bytes}
use Rattle.words.specs.declared.Word.{Word}
use Rattle.words.specs.declared.WordLists.{WordLists}
use Rattle.words.specs.declared.Step.{Step}
use Rattle.words.specs.declared.Step.TheVariants.{Found}
use Rattle.words.specs.Words.{letter, content, content_end, white, after_word, word_at, words, step_at}
use Rattle.words.specs.Lists.{start_of, end_of, white_of, width_of_word, Small, PutAt, Same, room}
use Rattle.words.proofs.Stepping.{length_content}
use Rattle.words.proofs.Laws.{rest_whole, step_whole, after_later, after_inside}
use Rattle.words.proofs.Counting.{words_from, words_next, words_none}
use Rattle.words.proofs.Most.{words_most}

length_map : (f : Word → ℕ) (ws : List Word) → length (map f ws) ≡ length ws
length_map f [] = refl
length_map f (w ∷ ws) = ap suc (length_map f ws)

-- ---- any words, into four lists

-- The elements of one number.
abbrev pub one_of : {A : Type 0} → (List ℕ → List A) → ℕ → List A
one_of stored v = stored (v ∷ [])

-- k words of all are stored in the lists, and the rest is to come.
pub record Writing {A : Type 0} (stored : List ℕ → List A) (size : ℕ) (all rest : List Word) (k : ℕ) (l l₀ : WordLists A) : Type 0 where
  pub starts : Stored (one_of stored) (map start_of all) (map start_of rest) (size * k) l.starts.now l₀.starts.now
  pub ends : Stored (one_of stored) (map end_of all) (map end_of rest) (size * k) l.ends.now l₀.ends.now
  pub whites : Stored (one_of stored) (map white_of all) (map white_of rest) (size * k) l.whites.now l₀.whites.now
  pub widths : Stored (one_of stored) (map width_of_word all) (map width_of_word rest) (size * k) l.widths.now l₀.widths.now
  pub count : k + length rest ≡ length all
  pub same : Same l₀ l

-- A list after a word's number f.
abbrev pub After : {A : Type 0} → (List ℕ → List A) → ℕ → ℕ → List A → List A → Type 0
After stored place v l l' = l' ≡ sets l place (stored (v ∷ []))

-- All is stored once nothing is to come.
pub record Written {A : Type 0} (stored : List ℕ → List A) (all : List Word) (l l₀ : WordLists A) : Type 0 where
  pub starts : l.starts.now ≡ sets l₀.starts.now 0 (stored (map start_of all))
  pub ends : l.ends.now ≡ sets l₀.ends.now 0 (stored (map end_of all))
  pub whites : l.whites.now ≡ sets l₀.whites.now 0 (stored (map white_of all))
  pub widths : l.widths.now ≡ sets l₀.widths.now 0 (stored (map width_of_word all))

module _ {A : Type 0} {numbers : List A → List ℕ} {places : List A → ℕ} {at : ℕ → ℕ} {stored : List ℕ → List A} {size : ℕ} (laws : CellLaws numbers places at stored size) where
  -- Room for the words is room for their numbers.
  start_one : (f : Word → ℕ) (all : List Word) (l : List A) → length all ≤ places l → Stored (one_of stored) (map f all) (map f all) (size * 0) l l
  start_one f all l h =
      let z : size * 0 ≡ 0 = omega arith in
      let n : length (flat (one_of stored) (map f all)) ≡ size * length all = ap length (stored_flat laws (map f all)) ∙ laws.sized (map f all) ∙ ap (λ n. size * n) (length_map f all) in
      rw z (stored_start (one_of stored) (map f all) l (rw n (laws.room (length all) l h)))

  pub writing_start : (all : List Word) (l : WordLists A) → length all ≤ room places l → Writing stored size all all 0 l l
  writing_start all l r = record {
    starts = start_one start_of all l.starts.now (omega arith);
    ends = start_one end_of all l.ends.now (omega arith);
    whites = start_one white_of all l.whites.now (omega arith);
    widths = start_one width_of_word all l.widths.now (omega arith);
    count = omega arith;
    same = record { starts = refl; ends = refl; whites = refl; widths = refl };
  }

  -- The numbers of a word go to the same place of each, and the next word's to the place after them.
  one_sized : (v : ℕ) → length (stored (v ∷ [])) ≡ size
  one_sized v = omega (arith, laws.sized (v ∷ []))

  inside : (f : Word → ℕ) (all : List Word) {w : Word} (rest : List Word) {place : ℕ} {l l₀ : List A} → Stored (one_of stored) (map f all) (map f (w ∷ rest)) place l l₀ → place + size ≤ length l
  inside f all {w} rest k = omega (arith, k.room, one_sized (f w), length-append (stored (f w ∷ [])) (flat (one_of stored) (map f rest)))

  pub writing_put : {all rest : List Word} {w : Word} {k : ℕ} {l l₀ : WordLists A} → Writing stored size all (w ∷ rest) k l l₀ → PutAt size (size * k) l
  writing_put {all} {rest} {w} p = record { starts = inside start_of all {w = w} rest p.starts; ends = inside end_of all {w = w} rest p.ends; whites = inside white_of all {w = w} rest p.whites; widths = inside width_of_word all {w = w} rest p.widths }

  on : (f : Word → ℕ) (all rest : List Word) (w : Word) (k : ℕ) {l l₀ l' : List A} → Stored (one_of stored) (map f all) (map f (w ∷ rest)) (size * k) l l₀ → After stored (size * k) (f w) l l' → Stored (one_of stored) (map f all) (map f rest) (size * (k + 1)) l' l₀
  on f all rest w k s e =
      let z : size * (k + 1) ≡ size * k + length (one_of stored (f w)) = omega (arith, one_sized (f w)) in
      rw z (stored_step (one_of stored) s e)

  pub writing_step : {all rest : List Word} {w : Word} {k : ℕ} {l l₀ l' : WordLists A} → Writing stored size all (w ∷ rest) k l l₀
      → After stored (size * k) (start_of w) l.starts.now l'.starts.now → After stored (size * k) (end_of w) l.ends.now l'.ends.now
      → After stored (size * k) (white_of w) l.whites.now l'.whites.now → After stored (size * k) (width_of_word w) l.widths.now l'.widths.now
      → Same l l' → Writing stored size all rest (k + 1) l' l₀
  writing_step {all} {rest} {w} {k} p ea eb ec ed m = record {
    starts = on start_of all rest w k p.starts ea;
    ends = on end_of all rest w k p.ends eb;
    whites = on white_of all rest w k p.whites ec;
    widths = on width_of_word all rest w k p.widths ed;
    count = omega (arith, p.count);
    same = record { starts = m.starts ∙ p.same.starts; ends = m.ends ∙ p.same.ends; whites = m.whites ∙ p.same.whites; widths = m.widths ∙ p.same.widths };
  }

  end_one : (f : Word → ℕ) (all : List Word) {place : ℕ} {l l₀ : List A} → Stored (one_of stored) (map f all) [] place l l₀ → l ≡ sets l₀ 0 (stored (map f all))
  end_one f all s = rw (stored_flat laws (map f all)) at (stored_end s)

  pub writing_end : {all : List Word} {k : ℕ} {l l₀ : WordLists A} → Writing stored size all [] k l l₀ → Written stored all l l₀
  writing_end {all} p = record { starts = end_one start_of all p.starts; ends = end_one end_of all p.ends; whites = end_one white_of all p.whites; widths = end_one width_of_word all p.widths }

-- ---- the words of a text

-- At the start of a word, before which there are k.
pub record Listing {A : Type 0} (stored : List ℕ → List A) (size : ℕ) (s : List ℕ) (at k : ℕ) (l l₀ : WordLists A) : Type 0 where
  pub whole : Whole (drop at s)
  pub writes : Writing stored size (words s) (words_from s at) k l l₀

-- What the step finds is the word there.
found_is : (s : List ℕ) (i : ℕ) {r : Step} {w : Word} {o : Offset} → i < length s → Whole (drop i s) → r ≡ Found w o → r ≡ step_at s i → (w ≡ word_at s i) × (o ≡ record { 0 = after_word s i })
found_is s i {r} {w} {o} l h p e = let z : Found w o ≡ Found (word_at s i) (record { 0 = after_word s i }) = sym p ∙ e ∙ step_whole s i l h in (cc, cc)

module _ {A : Type 0} {numbers : List A → List ℕ} {places : List A → ℕ} {place : ℕ → ℕ} {stored : List ℕ → List A} {size : ℕ} (laws : CellLaws numbers places place stored size) where
  pub listing_start : (s : List ℕ) (l : WordLists A) → Whole s → length (words s) ≤ room places l → Listing stored size s 0 0 l l
  unfolding words
  listing_start s l w r = record { whole = w; writes = writing_start laws (words s) l r }

  next_writes : {s : List ℕ} {at k : ℕ} {l l₀ : WordLists A} → Listing stored size s at k l l₀ → at < length s → Writing stored size (words s) (word_at s at ∷ words_from s (after_word s at)) k l l₀
  next_writes {s} {at} p h = rw (words_next s at h) at p.writes

  pub listing_put : {s : List ℕ} {at k : ℕ} {l l₀ : WordLists A} → Listing stored size s at k l l₀ → at < length s → PutAt size (size * k) l
  listing_put p h = writing_put laws (next_writes p h)

  pub listing_again : {s : List ℕ} {at k : ℕ} {l l₀ l' : WordLists A} {r : Step} {w : Word} {o : Offset} → Listing stored size s at k l l₀ → at < length s → r ≡ Found w o → r ≡ step_at s at
      → After stored (size * k) (start_of w) l.starts.now l'.starts.now → After stored (size * k) (end_of w) l.ends.now l'.ends.now
      → After stored (size * k) (white_of w) l.whites.now l'.whites.now → After stored (size * k) (width_of_word w) l.widths.now l'.widths.now
      → Same l l' → Listing stored size s o.0 (k + 1) l' l₀
  listing_again {s} {at} {r = r} {w = w} {o = o} p h q e ea eb ec ed m =
      let f = found_is s at h p.whole q e in
      rw f.1 (record {
        whole = rest_whole s at p.whole;
        writes = writing_step laws (next_writes p h) (ea ∙ rw f.0) (eb ∙ rw f.0) (ec ∙ rw f.0) (ed ∙ rw f.0) m;
      })

  pub listing_end : {s : List ℕ} {at k : ℕ} {l l₀ : WordLists A} → Listing stored size s at k l l₀ → length s ≤ at → Written stored (words s) l l₀
  listing_end {s} {at} p h = writing_end laws (rw (words_none s at h) at p.writes)

module _ {A : Type 0} {stored : List ℕ → List A} {size : ℕ} {s : List ℕ} {at k : ℕ} {lists lists₀ : WordLists A} (p : Listing stored size s at k lists lists₀) where
  pub listing_count : length s ≤ at → k ≡ length (words s)
  listing_count h = omega (arith, p.writes.count, ap length (words_none s at h))

  module _ (l : at < length s) where
    -- There are fewer words than bytes and one.
    pub listing_few : k ≤ length s
    listing_few = omega (arith, p.writes.count, ap length (words_next s at l), words_most s)

    pub listing_less : {r : Step} {w : Word} {o : Offset} → r ≡ Found w o → r ≡ step_at s at → length s - o.0 < length s - at
    listing_less {r} {w} {o} q e =
        let f = found_is s at l p.whole q e in
        let g = after_later s at l in
        rw f.1 (omega arith)

    pub listing_small : {r : Step} {w : Word} {o : Offset} → length s ≤ text_most → r ≡ Found w o → r ≡ step_at s at → Small w
    unfolding word_at content_end white after_word
    listing_small {r} {w} {o} h q e =
        let f = found_is s at l p.whole q e in
        let i = after_inside s at (omega arith) in
        let b = width_bytes (content s at) in
        let n = length_content s at in
        let m = count_fits letter (drop at s) in
        rw f.0 (record { start = omega arith; end = omega (arith, i); white = omega (arith, i); width = omega (arith, b, n, m, length-drop at s) })

    -- It always finds one.
    pub listing_never : (r : Step) → r ≡ step_at s at → ((w : Word) (o : Offset) → r ≡ Found w o → ⊥) → ⊥
    listing_never r e o = o (word_at s at) (record { 0 = after_word s at }) (e ∙ step_whole s at l p.whole)
