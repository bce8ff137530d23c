-- What the words ask for, one law for each way through the code.
use mathlib.Core.Path.{◌≡◌, refl, sym, ◌∙◌}
use mathlib.Core.Bool.{Bool, true, false, ◌&&◌}
use mathlib.Core.List.{List, [], ◌∷◌}
use Prim.Native.Nat.{ℕ}
use native.Mathlib.Omega.{arith}
use lib.Dec.{eqb}
use lib.ListN.{length}
use borrow.Author.Tests.{lt-leb, ne_eqb}
use Rattle.std.specs.Prelude.{Option, Some, None, Result, Ok, Err}
use Rattle.decimal.specs.Decimal.{parse}
use Rattle.decimal.proofs.Digits.{parse_some, parse_none}
use Rattle.asked.specs.declared.File.{File}
use Rattle.asked.specs.declared.File.TheVariants.{Input, Named}
use Rattle.asked.specs.declared.Part.{Part}
use Rattle.asked.specs.declared.Wrong.{Wrong}
use Rattle.asked.specs.declared.Wrong.TheVariants.{NoCommand, NotWidth, TooFew, TooMany, BothInput, TooLong}
use Rattle.asked.specs.declared.Misuse.{Misuse}
use Rattle.asked.specs.declared.Command.{Command}
use Rattle.asked.specs.declared.Plan.{Plan}
use Rattle.asked.specs.declared.Plan.TheVariants.{Check}
use Rattle.asked.specs.Block.{after_of, word_at, part_at, nowhere, none, IsAfter, runs_over}
use Rattle.asked.specs.Plan.{misuse, printer, argument_most, is_input, file_at, one_file_of, one_word_of, two_words_of, sized_of, pair_of, triple_of, check_of, commanded_of, command_of, plan_of}

module _ (b : List ℕ) (at : ℕ) where
  pub file_input : {t : Bool} → t ≡ is_input b at → t ≡ true → Input ≡ file_at b at
  unfolding file_at
  file_input e q = rw (sym e ∙ q)

  pub file_named : {t : Bool} {p : Part} → t ≡ is_input b at → t ≡ false → p ≡ part_at b at → Named p ≡ file_at b at
  unfolding file_at
  file_named e q p = rw (sym e ∙ q, p)

pub ruleset files = (file_input, file_named)

-- ---- `[FILE]`

module _ (b : List ℕ) (at : ℕ) {t : Bool} (e : t ≡ none b at) where
  pub one_none : t ≡ true → Ok Input ≡ one_file_of b at
  unfolding one_file_of
  one_none h = rw (sym e ∙ h)

  module _ {c : List ℕ} {q : ℕ} {s : Bool} (h : t ≡ false) (r : IsAfter c q b at) (f : s ≡ none c q) where
    pub one_file : {x : File} → s ≡ true → x ≡ file_at b at → Ok x ≡ one_file_of b at
    unfolding one_file_of
    one_file l x = let k : none b q ≡ true = cc in rw (sym e ∙ h, ← r.place, k, x)

    pub one_more : {m : Misuse} → s ≡ false → m ≡ misuse TooMany (part_at c q) → Err m ≡ one_file_of b at
    unfolding one_file_of
    one_more {m} l x =
        let k : none b q ≡ false = cc in
        let y : m ≡ misuse TooMany (part_at b q) = rw (← r.block) x in
        rw (sym e ∙ h, ← r.place, k, y)

pub ruleset one = (one_none, one_file, one_more)

-- ---- `[WIDTH] [FILE]`

module _ (b : List ℕ) (at : ℕ) {o : Option ℕ} (e : o ≡ parse (word_at b at)) where
  pub word_width : {n : ℕ} → o ≡ Some n → (n, Input) ≡ one_word_of b at
  unfolding one_word_of
  word_width q = let k = parse_some (word_at b at) (sym q ∙ e) in rw (k.0, k.1)

  pub word_file : {f : File} → o ≡ None → f ≡ file_at b at → (printer, f) ≡ one_word_of b at
  unfolding one_word_of
  word_file q f = rw (parse_none (word_at b at) (sym q ∙ e), f)

  module _ (c : List ℕ) (second : ℕ) (r : IsAfter c second b at) where
    pub words_both : {n : ℕ} {f : File} → o ≡ Some n → f ≡ file_at c second → Ok (n, f) ≡ two_words_of b at second
    unfolding two_words_of
    words_both {n} {f} q x =
        let k = parse_some (word_at b at) (sym q ∙ e) in
        let y : f ≡ file_at b second = rw (← r.block) x in
        rw (k.0, k.1, y)

    pub words_bad : {m : Misuse} → o ≡ None → m ≡ misuse NotWidth (part_at b at) → Err m ≡ two_words_of b at second
    unfolding two_words_of
    words_bad q x = rw (parse_none (word_at b at) (sym q ∙ e), x)

pub ruleset sizes = (word_width, word_file, words_both, words_bad)

module _ (b : List ℕ) (at : ℕ) {t : Bool} (e : t ≡ none b at) where
  pub sized_none : t ≡ true → Ok (printer, Input) ≡ sized_of b at
  unfolding sized_of
  sized_none h = rw (sym e ∙ h)

  module _ {c : List ℕ} {q : ℕ} {s : Bool} (h : t ≡ false) (r : IsAfter c q b at) (f : s ≡ none c q) where
    pub sized_one : {x : ℕ × File} → s ≡ true → x ≡ one_word_of b at → Ok x ≡ sized_of b at
    unfolding sized_of
    sized_one l x = let k : none b q ≡ true = cc in rw (sym e ∙ h, ← r.place, k, x)

    module _ {d : List ℕ} {p : ℕ} {u : Bool} (l : s ≡ false) (o : IsAfter d p c q) (g : u ≡ none d p) where
      pub sized_two : {x : Result (ℕ × File) Misuse} → u ≡ true → x ≡ two_words_of b at q → x ≡ sized_of b at
      unfolding sized_of
      sized_two m x =
          let k : none b q ≡ false = cc in
          let i : p ≡ after_of b q = rw (← r.block) o.place in
          let n : none b p ≡ true = cc in
          rw (sym e ∙ h, ← r.place, k, ← i, n) x

      pub sized_more : {x : Misuse} → u ≡ false → x ≡ misuse TooMany (part_at d p) → Err x ≡ sized_of b at
      unfolding sized_of
      sized_more {x} m y =
          let k : none b q ≡ false = cc in
          let i : p ≡ after_of b q = rw (← r.block) o.place in
          let n : none b p ≡ false = cc in
          let z : x ≡ misuse TooMany (part_at b p) = rw (← (o.block ∙ r.block)) y in
          rw (sym e ∙ h, ← r.place, k, ← i, n, z)

pub ruleset sizing = (sized_none, sized_one, sized_two, sized_more)

-- ---- `[WIDTH] BEFORE AFTER`

module _ (b c : List ℕ) (w x y : ℕ) {s t : Bool} (same : b ≡ c) (e : s ≡ is_input b x) (f : t ≡ is_input c y) where
  pub pair_input : {m : Misuse} → s ≡ true → t ≡ true → m ≡ misuse BothInput (part_at c y) → Err m ≡ pair_of b w x y
  unfolding pair_of
  pair_input {m} p q z =
      let k : (is_input b x && is_input b y) ≡ true = rw (← e, p, same, ← f, q) in
      let n : m ≡ misuse BothInput (part_at b y) = rw same z in
      rw (k, n)

  pub pair_files : {g h : File} → (s && t) ≡ false → g ≡ file_at b x → h ≡ file_at c y → Ok (Check w g h) ≡ pair_of b w x y
  unfolding pair_of
  pair_files {g} {h} q p r =
      let k : (is_input b x && is_input b y) ≡ false = rw (← e, same, ← f) q in
      let n : h ≡ file_at b y = rw same r in
      rw (k, p, n)

pub ruleset pairs = (pair_input, pair_files)

module _ (b : List ℕ) (x : ℕ) {o : Option ℕ} (e : o ≡ parse (word_at b x)) where
  pub triple_pair : {n : ℕ} {r : Result Plan Misuse} (c : List ℕ) (y z : ℕ) → o ≡ Some n → c ≡ b → r ≡ pair_of c n y z → r ≡ triple_of b x y z
  unfolding triple_of
  triple_pair c y z q s r = let k = parse_some (word_at b x) (sym q ∙ e) in rw (k.0, k.1, ← s) r

  pub triple_bad : {m : Misuse} (y z : ℕ) → o ≡ None → m ≡ misuse NotWidth (part_at b x) → Err m ≡ triple_of b x y z
  unfolding triple_of
  triple_bad y z q m = rw (parse_none (word_at b x) (sym q ∙ e), m)

pub ruleset triples = (triple_pair, triple_bad)

module _ (b : List ℕ) (x : ℕ) {t : Bool} (e : t ≡ none b x) where
  pub check_none : {m : Misuse} → t ≡ true → m ≡ misuse TooFew nowhere → Err m ≡ check_of b x
  unfolding check_of
  check_none h m = rw (sym e ∙ h, m)

  module _ {c : List ℕ} {y : ℕ} {s : Bool} (h : t ≡ false) (r : IsAfter c y b x) (f : s ≡ none c y) where
    pub check_few : {m : Misuse} → s ≡ true → m ≡ misuse TooFew nowhere → Err m ≡ check_of b x
    unfolding check_of
    check_few l m = let k : none b y ≡ true = cc in rw (sym e ∙ h, ← r.place, k, m)

    module _ {d : List ℕ} {z : ℕ} {u : Bool} (l : s ≡ false) (o : IsAfter d z c y) (g : u ≡ none d z) where
      second : none b y ≡ false
      second = cc

      third_at : z ≡ after_of b y
      third_at = rw (← r.block) o.place

      pub check_two : {a : Result Plan Misuse} → u ≡ true → a ≡ pair_of b printer x y → a ≡ check_of b x
      unfolding check_of
      check_two m a = let n : none b z ≡ true = cc in rw (sym e ∙ h, ← r.place, second, ← third_at, n) a

      module _ {i : List ℕ} {v : ℕ} {w : Bool} (m : u ≡ false) (q : IsAfter i v d z) (j : w ≡ none i v) where
        third : none b z ≡ false
        third = cc

        fourth_at : v ≡ after_of b z
        fourth_at = rw (← (o.block ∙ r.block)) q.place

        pub check_three : {a : Result Plan Misuse} → w ≡ true → a ≡ triple_of b x y z → a ≡ check_of b x
        unfolding check_of
        check_three k a =
            let n : none b v ≡ true = cc in
            rw (sym e ∙ h, ← r.place, second, ← third_at, third, ← fourth_at, n) a

        pub check_more : {a : Misuse} → w ≡ false → a ≡ misuse TooMany (part_at i v) → Err a ≡ check_of b x
        unfolding check_of
        check_more {a} k p =
            let n : none b v ≡ false = cc in
            let s : a ≡ misuse TooMany (part_at b v) = rw (← (q.block ∙ (o.block ∙ r.block))) p in
            rw (sym e ∙ h, ← r.place, second, ← third_at, third, ← fourth_at, n, s)

pub ruleset checks = (check_none, check_few, check_two, check_three, check_more)

-- ---- the plan

-- There is no first word where the block has no byte.
first_none : (b : List ℕ) → none b 0 ≡ eqb (length b) 0
first_none [] = refl
first_none (a ∷ t) = rw (lt-leb (length (a ∷ t)) 0 (omega arith), ne_eqb (length (a ∷ t)) 0 (λ e. omega arith))

module _ (b : List ℕ) {t : Bool} (e : t ≡ runs_over argument_most 0 b) where
  pub plan_long : {m : Misuse} → t ≡ true → m ≡ misuse TooLong nowhere → Err m ≡ plan_of b
  unfolding plan_of
  plan_long q m = rw (sym e ∙ q, m)

  module _ {s : Bool} (q : t ≡ false) (f : s ≡ none b 0) where
    pub plan_none : {m : Misuse} → s ≡ true → m ≡ misuse NoCommand nowhere → Err m ≡ plan_of b
    unfolding plan_of
    plan_none l m = rw (sym e ∙ q, sym (first_none b) ∙ sym f ∙ l, m)

    module _ {k : Result Command Wrong} {w : List ℕ} (l : s ≡ false) (d : w ≡ word_at b 0) (g : k ≡ command_of w) where
      pub plan_made : {x : Command} {c : List ℕ} {at : ℕ} {r : Result Plan Misuse} → k ≡ Ok x → IsAfter c at b 0 → r ≡ commanded_of c x at → r ≡ plan_of b
      unfolding plan_of
      plan_made {x} i a r =
          let j : command_of (word_at b 0) ≡ Ok x = rw (← d) (sym g ∙ i) in
          rw (sym e ∙ q, sym (first_none b) ∙ sym f ∙ l, j, ← a.place, ← a.block) r

      pub plan_other : {x : Wrong} {m : Misuse} → k ≡ Err x → m ≡ misuse x (part_at b 0) → Err m ≡ plan_of b
      unfolding plan_of
      plan_other {x} i m =
          let j : command_of (word_at b 0) ≡ Err x = rw (← d) (sym g ∙ i) in
          rw (sym e ∙ q, sym (first_none b) ∙ sym f ∙ l, j, m)

pub ruleset plans = (plan_long, plan_none, plan_made, plan_other)
