-- What refusals 10, 11 and 12 say, and that their places are the first.
use mathlib.Core.Path.{◌≡◌, refl, sym, ap, ◌∙◌, subst}
use mathlib.Core.Logic.{◌⊎◌, inl, inr, ⊎_elim}
use mathlib.Core.Bool.{Bool, true, false}
use mathlib.Core.List.Memᴰ
use mathlib.Core.List.{List, [], ◌∷◌, ◌++◌, map}
use Prim.Native.Nat.{ℕ, zero, suc, ◌+◌, ◌≤◌, ◌<◌}
use native.Mathlib.Omega.{arith}
use lib.Dec.{eqb, ltb}
use lib.ListN.{length, get_or, take}
use borrow.Author.Tests.{eqb-true, eqb-false, ltb-true, ltb-false, lt-ltb}
use Rattle.units.specs.declared.Offset.{Offset}
use Rattle.logic.specs.Choice.{pick}
use Rattle.logic.specs.Member.{◌∈◌}
use Rattle.logic.proofs.Choice.{both, clash}
use Rattle.fragments.specs.Fragments.{Fragment}
use Rattle.first_fit.specs.Groupings.{line_width, Good, AllGood, cut}
use Rattle.words.specs.declared.Word.{Word}
use Rattle.words.specs.Words.{words}
use Rattle.words.specs.Lists.{start_of, width_of_word}
use Rattle.lines.specs.Lines.{InputLine, input_lines, body_of}
use Rattle.lines.specs.Breaks.{fragment_of, columns_of}
use Rattle.judge.specs.Change.{change_at, allowed, first_bad_from, first_bad}
use Rattle.judge.specs.Judge.{marks, wide_from, wide_of, many_of, wide_in, many_in, or_else, first_in, wide_by, lines_of, changes_of}
use Rattle.judge.specs.Demand.{Broken, formed_of, starts_of, line_starts, Wide, BadAt, WideAt, WideLineAt, ManyLinesAt}
use Rattle.judge.proofs.Forming.{at_nowhere, fits_good, good_none, many_fewer, fine_formed}
use Rattle.judge.proofs.Allowing.{changed_broke, broke_allowed, kept_allowed, broke_is, is_broke, bad_before, bad_there}
use Rattle.judge.proofs.Accepting.{first_none, none_first, line_fine, fine_line}
use Rattle.std.specs.Prelude.{Err, None, Option, Result, Some, ⊤}
use Rattle.judge.specs.declared.Rejection.{Rejection}
use Rattle.judge.specs.declared.Rejection.TheVariants.{BadChange, ManyLines, WideLine}

-- ---- the first input line in which a rule finds something

record First (rule : InputLine → Option Offset) (ls : List InputLine) (o : Offset) : Type 0 where
  earlier : List InputLine
  line : InputLine
  later : List InputLine
  split : ls ≡ earlier ++ line ∷ later
  found : rule line ≡ Some o
  none : (l : InputLine) → l ∈ earlier → rule l ≡ None

first_in_lem : (rule : InputLine → Option Offset) (ls : List InputLine) {o : Offset} → first_in rule ls ≡ Some o → First rule ls o
unfolding first_in
first_in_lem rule [] e = absurd (at_nowhere (sym e))
first_in_lem rule (l ∷ ls) {o} e = go (rule l) refl e (first_in_lem rule ls)
  where
    go : (f : Option Offset) → rule l ≡ f → or_else f (first_in rule ls) ≡ Some o → (first_in rule ls ≡ Some o → First rule ls o) → First rule (l ∷ ls) o
    go (Some p) q h k = record { earlier = []; line = l; later = ls; split = refl; found = q ∙ h; none = λ x m. absurd (Memᴰ.not-nil m) }
    go None q h k =
        let r = k h in
        record {
          earlier = l ∷ r.earlier;
          line = r.line;
          later = r.later;
          split = ap (λ xs. l ∷ xs) r.split;
          found = r.found;
          none = λ x m. ⊎_elim (λ e. rw e q) (λ k. r.none x k) (Memᴰ.cases_cons m);
        }

-- ---- the first line of it that is too wide

-- The line of f, which p columns come before, is too wide; or it is not, and a later one is the first that is.
abbrev Now : ℕ → ℕ → ℕ → ℕ → Fragment → List Word → List Bool → Offset → Type 0
Now width start from p f ws b o = (o.0 ≡ start + from) × (0 < length (cut (map fragment_of ws) b).0) × (width < p + line_width (f ∷ (cut (map fragment_of ws) b).0))

record Later (width start p : ℕ) (f : Fragment) (ws : List Word) (b : List Bool) (o : Offset) : Type 0 where
  fits : 0 < length (cut (map fragment_of ws) b).0 → p + line_width (f ∷ (cut (map fragment_of ws) b).0) ≤ width
  number : ℕ
  good : AllGood width (take number (cut (map fragment_of ws) b).1)
  wide : Wide width (get_or (cut (map fragment_of ws) b).1 number [])
  place : o.0 ≡ start + get_or (starts_of ws b) number 0

wide_first : (width start from c p : ℕ) (f : Fragment) (ws : List Word) (b : List Bool) {o : Offset} → length b ≡ length ws → c ≡ p + (f.word + f.white) → wide_from width start from c ws b ≡ Some o
    → Now width start from p f ws b o ⊎ Later width start p f ws b o
unfolding wide_from cut line_width AllGood Good starts_of
wide_first width start from c p f [] b n e h = absurd (at_nowhere (sym h))
wide_first width start from c p f (w ∷ ws) [] n e h = absurd (omega arith)
wide_first width start from c p f (w ∷ ws) (true ∷ b) n e h =
    ⊎_elim
    (λ r. inr (record { fits = λ z. absurd (omega arith); number = 0; good = tt; wide = (omega (arith, r.1), omega (arith, r.2)); place = r.0 }))
    (λ r. inr (record { fits = λ z. absurd (omega arith); number = suc r.number; good = (line_good (cut (map fragment_of ws) b).0 r.fits, r.good); wide = r.wide; place = r.place }))
    (wide_first width start (start_of w) (columns_of w) 0 (fragment_of w) ws b (omega arith) (omega arith) h)
  where
    line_good : (l : List Fragment) → (0 < length l → 0 + line_width (fragment_of w ∷ l) ≤ width) → Good width (fragment_of w ∷ l)
    line_good [] k = tt
    line_good (x ∷ l) k = omega (arith, k (omega arith))
wide_first width start from c p f (w ∷ ws) (false ∷ b) {o} n e h =
    both (ltb width (c + width_of_word w))
    (λ t.
    let z : Some (record { 0 = start + from }) ≡ Some o = rw t at h in
    let y : record { 0 = start + from } ≡ o = cc in
    inl (ap (λ x. x.0) (sym y), omega arith, omega (arith, line_most_lem (cut (map fragment_of ws) b).0, ltb-true width (c + width_of_word w) t)))
    (λ t.
    ⊎_elim
    (λ r. inl (r.0, omega arith, omega (arith, r.2)))
    (λ r. inr (record {
      fits = λ z. on (cut (map fragment_of ws) b).0 (ltb-false width (c + width_of_word w) t) r.fits;
      number = r.number;
      good = r.good;
      wide = r.wide;
      place = r.place;
    }))
    (wide_first width start from (c + columns_of w) (p + (f.word + f.white)) (fragment_of w) ws b (omega arith) (omega arith) (rw t at h)))
  where
    line_most_lem : (l : List Fragment) → width_of_word w ≤ line_width (fragment_of w ∷ l)
    line_most_lem [] = omega arith
    line_most_lem (x ∷ l) = omega arith

    on : (l : List Fragment) → c + width_of_word w ≤ width → (0 < length l → p + (f.word + f.white) + line_width (fragment_of w ∷ l) ≤ width) → p + line_width (f ∷ fragment_of w ∷ l) ≤ width
    on [] q k = omega arith
    on (x ∷ l) q k = omega (arith, k (omega arith))

marks_length : (after : List ℕ) (start : ℕ) (ws : List Word) → length (marks after start ws) ≡ length ws
marks_length after start [] = refl
marks_length after start (w ∷ ws) = ap suc (marks_length after start ws)

pub wide_in_line : (width : ℕ) (after : List ℕ) (start : ℕ) (ws : List Word) {o : Offset} → wide_of width after start ws ≡ Some o → WideAt width after start ws o.0
unfolding wide_of formed_of line_starts AllGood Good
wide_in_line width after start [] e = absurd (at_nowhere (sym e))
wide_in_line width after start (w ∷ ws) {o} e =
    ⊎_elim
    (λ r. record { number = 0; good = tt; wide = (omega (arith, r.1), omega (arith, r.2)); place = r.0 })
    (λ r. record { number = suc r.number; good = (line_good (cut (map fragment_of ws) (marks after start ws)).0 r.fits, r.good); wide = r.wide; place = r.place })
    (wide_first width start 0 (columns_of w) 0 (fragment_of w) ws (marks after start ws) (marks_length after start ws) (omega arith) e)
  where
    line_good : (l : List Fragment) → (0 < length l → 0 + line_width (fragment_of w ∷ l) ≤ width) → Good width (fragment_of w ∷ l)
    line_good [] k = tt
    line_good (x ∷ l) k = omega (arith, k (omega arith))

-- ---- what each answer says

-- Where an answer of the lines comes from.
lines_wide : (f g : Option Offset) {o : Offset} → wide_by f g ≡ Err (WideLine o) → f ≡ Some o
lines_wide (Some p) g e = cc
lines_wide None (Some p) e = cc
lines_wide None None e = cc

lines_many : (f g : Option Offset) {o : Offset} → wide_by f g ≡ Err (ManyLines o) → (f ≡ None) × (g ≡ Some o)
lines_many (Some p) g e = (cc, cc)
lines_many None (Some p) e = (refl, cc)
lines_many None None e = (cc, cc)

module _ (width : ℕ) (b a : List ℕ) where
  lines_bad : (ls : List InputLine) {o : Offset} → lines_of width b a ls ≡ Err (BadChange o) → ⊥
  unfolding lines_of
  lines_bad ls e = go (first_in (wide_in width b a) ls) (first_in (many_in width b a) ls) e
    where
      go : (f g : Option Offset) {o : Offset} → wide_by f g ≡ Err (BadChange o) → ⊥
      go (Some p) g e = let z : ◌≡◌ {A = ℕ} 0 1 = cc in omega arith
      go None (Some p) e = let z : ◌≡◌ {A = ℕ} 0 1 = cc in omega arith
      go None None e = let z : ◌≡◌ {A = ℕ} 0 1 = cc in omega arith

  -- All changes before the first bad byte are allowed breaks.
  before_bad : length a ≡ length b → (p q : ℕ) → p ≤ first_bad b a → p ≤ length b → q < p → (get_or a q 0 ≡ get_or b q 0 → ⊥) → Broken b a q
  unfolding first_bad
  before_bad n p q h k l d = broke_is b a q (omega arith) (changed_broke b a q (bad_before b a (length b) 0 q (omega arith) (omega arith)) d)

  pub says_bad : {o : Offset} → length a ≡ length b → changes_of width b a ≡ Err (BadChange o) → BadAt b a o.0
  unfolding changes_of first_bad
  says_bad {o} n e =
      both (ltb (first_bad b a) (length b))
      (λ t.
      let z : Err (BadChange (record { 0 = first_bad b a })) ≡ Err (BadChange o) = rw t at e in
      let y : record { 0 = first_bad b a } ≡ o = cc in
      let x : o.0 ≡ first_bad b a = ap (λ v. v.0) (sym y) in
      let l = ltb-true (first_bad b a) (length b) t in
      let w = bad_there b a (length b) 0 (omega arith) in
      rw x (record {
        inside = l;
        changed = λ s. clash (rw (kept_allowed b a (first_bad b a) s)) w;
        bad = λ s. clash (rw (broke_allowed b a (first_bad b a) (is_broke b a (first_bad b a) n l s))) w;
        earlier = λ q h d. before_bad n (first_bad b a) q (omega arith) (omega arith) h d;
      }))
      (λ t. absurd (lines_bad (input_lines b) (rw t at e)))

  -- Where the answer is not 10, all changes are allowed breaks.
  no_bad : {j : Result ⊤ Rejection} → changes_of width b a ≡ j → ((o : Offset) → Err (BadChange o) ≡ j → ⊥) → (length b ≤ first_bad b a) × (lines_of width b a (input_lines b) ≡ j)
  unfolding changes_of
  no_bad {j} e d =
      both (ltb (first_bad b a) (length b))
      (λ t. absurd (d (record { 0 = first_bad b a }) (rw t at e)))
      (λ t. (ltb-false (first_bad b a) (length b) t, rw t at e))

  pub says_wide : {o : Offset} → length a ≡ length b → changes_of width b a ≡ Err (WideLine o) → WideLineAt width b a o.0
  unfolding lines_of
  says_wide {o} n e =
      let k = no_bad e (λ p z. let y : ◌≡◌ {A = ℕ} 0 1 = cc in omega arith) in
      let r = first_in_lem (wide_in width b a) (input_lines b) (lines_wide (first_in (wide_in width b a) (input_lines b)) (first_in (many_in width b a) (input_lines b)) k.1) in
      record {
        changes = λ q l d. before_bad n (length b) q k.0 (omega arith) l d;
        earlier = r.earlier;
        line = r.line;
        later = r.later;
        split = r.split;
        good = λ l m. fits_good width a l.start (words (body_of b l)) (r.none l m);
        wide = wide_in_line width a r.line.start (words (body_of b r.line)) r.found;
      }

  pub says_many : {o : Offset} → length a ≡ length b → changes_of width b a ≡ Err (ManyLines o) → ManyLinesAt width b a o.0
  unfolding lines_of
  says_many {o} n e =
      let k = no_bad e (λ p z. let y : ◌≡◌ {A = ℕ} 0 1 = cc in omega arith) in
      let g = lines_many (first_in (wide_in width b a) (input_lines b)) (first_in (many_in width b a) (input_lines b)) k.1 in
      let r = first_in_lem (many_in width b a) (input_lines b) g.1 in
      let none : (l : InputLine) → l ∈ input_lines b → wide_in width b a l ≡ None = first_none (wide_in width b a) (input_lines b) g.0 in
      let m : r.line ∈ input_lines b = subst (λ (x : List InputLine). r.line ∈ x) (sym r.split) (Memᴰ.append_right r.earlier (Memᴰ.head refl)) in
      let h = many_there (many_of width a r.line.start (words (body_of b r.line))) r.found in
      let f = many_fewer width a r.line.start (words (body_of b r.line)) (none r.line m) h.0 in
      record {
        changes = λ q l d. before_bad n (length b) q k.0 (omega arith) l d;
        good = λ l m. fits_good width a l.start (words (body_of b l)) (none l m);
        earlier = r.earlier;
        line = r.line;
        later = r.later;
        split = r.split;
        place = h.1;
        enough = λ l m. fine_line width b a l (none l (subst (λ (x : List InputLine). l ∈ x) (sym r.split) (Memᴰ.append_left (r.line ∷ r.later) m))) (r.none l m);
        others = f.0;
        grouping = f.1;
        fewer = f.2;
      }
    where
      many_there : (t : Bool) {p : ℕ} → pick t (Some (record { 0 = p })) None ≡ Some o → (t ≡ true) × (o.0 ≡ p)
      many_there true {p} e = let z : record { 0 = p } ≡ o = cc in (refl, ap (λ v. v.0) (sym z))
      many_there false e = absurd (at_nowhere (sym e))

-- ---- and the other way: where it is so, that is the answer

-- A good line is not too wide.
not_wide : (w : ℕ) (l : List Fragment) → Good w l → Wide w l → ⊥
unfolding Good
not_wide w [] g h = g
not_wide w (f ∷ []) g h = omega (arith, h.0)
not_wide w (f ∷ x ∷ l) g h = omega (arith, h.1, g)

good_taken : (w : ℕ) (ls : List (List Fragment)) (m n : ℕ) → AllGood w (take m ls) → n < m → Wide w (get_or ls n []) → ⊥
unfolding AllGood
good_taken w [] m n g l h = omega (arith, h.0)
good_taken w (x ∷ ls) zero n g l h = omega arith
good_taken w (x ∷ ls) (suc m) zero g l h = not_wide w x g.0 h
good_taken w (x ∷ ls) (suc m) (suc n) g l h = good_taken w ls m n g.1 (omega arith) h

good_all : (w : ℕ) (ls : List (List Fragment)) (n : ℕ) → AllGood w ls → Wide w (get_or ls n []) → ⊥
unfolding AllGood
good_all w [] n g h = omega (arith, h.0)
good_all w (x ∷ ls) zero g h = not_wide w x g.0 h
good_all w (x ∷ ls) (suc n) g h = good_all w ls n g.1 h

-- Neither is before the other.
same_place : (m n : ℕ) → (m < n → ⊥) → (n < m → ⊥) → m ≡ n
same_place m n c d = both (ltb m n) (λ t. absurd (c (ltb-true m n t))) (λ t. both (ltb n m) (λ u. absurd (d (ltb-true n m u))) (λ u. omega (arith, ltb-false m n t, ltb-false n m u)))

-- So a line that is the first too wide one is what is found.
wide_is : (width : ℕ) (after : List ℕ) (start : ℕ) (ws : List Word) {p : ℕ} → WideAt width after start ws p → wide_of width after start ws ≡ Some (record { 0 = p })
wide_is width after start ws {p} h = go (wide_of width after start ws) refl
  where
    go : (f : Option Offset) → wide_of width after start ws ≡ f → f ≡ Some (record { 0 = p })
    go None e = absurd (good_all width (formed_of after start ws) h.number (fits_good width after start ws e) h.wide)
    go (Some o) e =
        let r = wide_in_line width after start ws e in
        let n : r.number ≡ h.number = same_place r.number h.number (λ l. good_taken width (formed_of after start ws) h.number r.number h.good l r.wide) (λ l. good_taken width (formed_of after start ws) r.number h.number r.good l h.wide) in
        let q : o.0 ≡ p = r.place ∙ rw n (sym h.place) in
        rw (← q)

first_is : (rule : InputLine → Option Offset) (earlier : List InputLine) (line : InputLine) (later : List InputLine) {o : Offset} → ((l : InputLine) → l ∈ earlier → rule l ≡ None) → rule line ≡ Some o
    → first_in rule (earlier ++ line ∷ later) ≡ Some o
unfolding first_in
first_is rule [] line later h e = rw e
first_is rule (x ∷ xs) line later h e = rw (h x (Memᴰ.head refl)) (first_is rule xs line later (λ l m. h l (Memᴰ.tail m)) e)

bad_is : (b a : List ℕ) (n i p : ℕ) → i ≤ p → p < i + n → ((q : ℕ) → q < p → allowed (change_at b a q) ≡ true) → allowed (change_at b a p) ≡ false → first_bad_from b a n i ≡ p
unfolding first_bad_from
bad_is b a zero i p h l f e = absurd (omega arith)
bad_is b a (suc n) i p h l f e =
    both (ltb i p)
    (λ t. rw (f i (ltb-true i p t)) (bad_is b a n (suc i) p (omega (arith, ltb-true i p t)) (omega arith) f e))
    (λ t. let z : i ≡ p = omega (arith, ltb-false i p t) in rw (z, e))

module _ (width : ℕ) (b a : List ℕ) (n : length a ≡ length b) where
  as_allowed : (p : ℕ) → p < length b → ((get_or a p 0 ≡ get_or b p 0 → ⊥) → Broken b a p) → allowed (change_at b a p) ≡ true
  as_allowed p l f =
      both (eqb (get_or a p 0) (get_or b p 0))
      (λ u. rw (kept_allowed b a p (eqb-true (get_or a p 0) (get_or b p 0) u)))
      (λ u. rw (broke_allowed b a p (is_broke b a p n l (f (eqb-false (get_or a p 0) (get_or b p 0) u)))))

  pub bad_said : {p : ℕ} → BadAt b a p → changes_of width b a ≡ Err (BadChange (record { 0 = p }))
  unfolding changes_of first_bad
  bad_said {p} h =
      let l = h.inside in
      let e : allowed (change_at b a p) ≡ false = not_allowed (allowed (change_at b a p)) refl in
      let f = bad_is b a (length b) 0 p (omega arith) (omega arith) (λ q k. as_allowed q (omega arith) (h.earlier q k)) e in
      rw (f, lt-ltb p (length b) l)
    where
      not_allowed : (t : Bool) → allowed (change_at b a p) ≡ t → t ≡ false
      not_allowed true e = absurd (h.bad (broke_is b a p h.inside (changed_broke b a p e h.changed)))
      not_allowed false e = refl

  -- Where all changes are allowed breaks, the lines decide.
  good_said : ((q : ℕ) → q < length b → (get_or a q 0 ≡ get_or b q 0 → ⊥) → Broken b a q) → changes_of width b a ≡ lines_of width b a (input_lines b)
  unfolding changes_of first_bad
  good_said f =
      both (ltb (first_bad b a) (length b))
      (λ t.
      let l = ltb-true (first_bad b a) (length b) t in
      absurd (clash (as_allowed (first_bad b a) l (f (first_bad b a) l)) (bad_there b a (length b) 0 (omega arith))))
      (λ t. rw t)

  pub wide_said : {p : ℕ} → WideLineAt width b a p → changes_of width b a ≡ Err (WideLine (record { 0 = p }))
  unfolding lines_of
  wide_said {p} h =
      let e = first_is (wide_in width b a) h.earlier h.line h.later (λ l m. good_none width a l.start (words (body_of b l)) (h.good l m)) (wide_is width a h.line.start (words (body_of b h.line)) h.wide) in
      let f : first_in (wide_in width b a) (input_lines b) ≡ Some (record { 0 = p }) = ap (first_in (wide_in width b a)) h.split ∙ e in
      good_said h.changes ∙ rw f

  pub many_said : {p : ℕ} → ManyLinesAt width b a p → changes_of width b a ≡ Err (ManyLines (record { 0 = p }))
  unfolding lines_of
  many_said {p} h =
      let none : (l : InputLine) → l ∈ input_lines b → wide_in width b a l ≡ None = λ l m. good_none width a l.start (words (body_of b l)) (h.good l m) in
      let m : h.line ∈ input_lines b = subst (λ (x : List InputLine). h.line ∈ x) (sym h.split) (Memᴰ.append_right h.earlier (Memᴰ.head refl)) in
      let t = too_many (many_of width a h.line.start (words (body_of b h.line))) refl (none h.line m) in
      let e : many_in width b a h.line ≡ Some (record { 0 = p }) = rw (t, h.place) in
      let f = first_is (many_in width b a) h.earlier h.line h.later (λ l m. (line_fine width b a l (h.enough l m)).1) e in
      let g : first_in (many_in width b a) (input_lines b) ≡ Some (record { 0 = p }) = ap (first_in (many_in width b a)) h.split ∙ f in
      good_said h.changes ∙ rw (none_first (wide_in width b a) (input_lines b) none, g)
    where
      too_many : (t : Bool) → many_of width a h.line.start (words (body_of b h.line)) ≡ t → wide_in width b a h.line ≡ None → t ≡ true
      too_many true e k = refl
      too_many false e k = absurd (omega (arith, h.fewer, (fine_formed width a h.line.start (words (body_of b h.line)) (k, e)).1 h.others h.grouping))
