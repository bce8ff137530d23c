-- What `room_for_words` and `find_words` answer, one law for each way through them.
use mathlib.Core.Path.{◌≡◌, sym, ◌∙◌}
use mathlib.Core.List.{List}
use Prim.Native.Nat.{ℕ, ◌/◌, ◌≤◌, ◌<◌}
use native.Mathlib.Omega.{arith}
use lib.Dec.{ltb}
use lib.ListN.{length}
use borrow.Author.Tests.{lt-ltb, le-ltb, ltb-true, ltb-false}
use Rattle.logic.proofs.Choice.{both}
use Rattle.words.specs.Words.{words}
use Rattle.words.specs.Lists.{fit_of}
use Rattle.words.proofs.Most.{words_most}
use Rattle.std.specs.Prelude.{Err, Ok, Result, ⊤}
use Rattle.limits.specs.declared.TextRefusal.TheVariants.{NoRoom}
use Rattle.limits.specs.Limits.{listed_in}

-- ---- whether there is room

pub fit_enough : (n room : ℕ) → (Ok tt) ≡ fit_of n room → n ≤ room
fit_enough n room e =
    both (ltb room n)
    (λ t. let z : (Ok tt) ≡ Err n = e ∙ rw t in let y : ◌≡◌ {A = ℕ} 0 1 = cc in absurd (omega arith))
    (λ t. ltb-false room n t)

fit_needs : (n room : ℕ) {k : ℕ} → Err k ≡ fit_of n room → (n ≡ k) × (room < n)
fit_needs n room {k} e =
    both (ltb room n)
    (λ t. let z : Err k ≡ Err n = e ∙ rw t in (cc, ltb-true room n t))
    (λ t. let z : Err k ≡ (Ok tt) = e ∙ rw t in let y : ◌≡◌ {A = ℕ} 0 1 = cc in absurd (omega arith))

-- What `room_for_words` answers, one law for each way through it.
pub fit_many : (s : List ℕ) (room : ℕ) → length s / 2 < room → (Ok tt) ≡ fit_of (length (words s)) room
fit_many s room l = rw (le-ltb room (length (words s)) (omega (arith, words_most s)))

pub fit_no : (n room : ℕ) {k : ℕ} → k ≡ n → room < k → Err k ≡ fit_of n room
fit_no n room e l = rw (← e, lt-ltb room _ l)

pub fit_yes : (n room : ℕ) {k : ℕ} → k ≡ n → k ≤ room → (Ok tt) ≡ fit_of n room
fit_yes n room e l = rw (← e, le-ltb room _ l)

pub ruleset fitting = (fit_many, fit_no, fit_yes)

-- ---- `find_words`

-- Too little room, or the words listed: what the finder answers for a text that is admitted.
pub find_no_room : (s : List ℕ) (m : ℕ) {n : ℕ} {f : Result ⊤ ℕ} → f ≡ fit_of (length (words s)) m → f ≡ Err n → Err (NoRoom n) ≡ listed_in m (length (words s))
find_no_room s m {n} q h = let u = fit_needs (length (words s)) m (sym h ∙ q) in rw (lt-ltb m (length (words s)) u.1, u.0)

pub find_all : (s : List ℕ) (m : ℕ) {n : ℕ} {f : Result ⊤ ℕ} → f ≡ fit_of (length (words s)) m → f ≡ Ok tt → n ≡ length (words s) → Ok n ≡ listed_in m (length (words s))
find_all s m {n} q h k = rw (le-ltb m (length (words s)) (fit_enough (length (words s)) m (sym h ∙ q)), k)

-- Where there is room for n, the shortest list has it.
pub fit_room : (n room : ℕ) {m : ℕ} {f : Result ⊤ ℕ} → m ≡ room → f ≡ fit_of n m → f ≡ Ok tt → n ≤ room
fit_room n room {m} z q h = rw z at (fit_enough n m (sym h ∙ q))

pub ruleset finding = (find_no_room, find_all, fit_room)
