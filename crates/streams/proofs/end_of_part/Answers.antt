-- `end_of_part`: no byte before the first mark is one, and where there is none no byte is.
use Rattle.std.proofs.Common.{◌≡◌, ◌≢◌, ◌∙◌, ℕ, List, ◌<◌, ◌≤◌, ◌-◌, ◌+◌, length, drop, length-drop, arith, rules, tests, slice_index}
use Rattle.std.specs.List.{AllWithin}
use Rattle.std.proofs.lemmas.List.{take_all}
use Rattle.std.proofs.lemmas.Iterator.{YieldsList-from_slice, IsFirst-from_position}
use lib.Seq.{get_or-drop}
use Rattle.streams.proofs.end_of_part.Goals as goal

none_after : (xs : List ℕ) (mark from n : ℕ) → AllWithin (λ b. b ≢ mark) (drop from xs) 0 n → (k : ℕ) → from ≤ k → k < from + n → slice_index xs k ≢ mark
none_after xs mark from n h k l u e =
    let at : from + (k - from) ≡ k = omega arith in
    h (k - from) 0 (omega arith) (omega arith) (rw (get_or-drop, at) e)

pub returns-in-Some-clause-none_inside : goal.returns-in-Some-clause-none_inside
returns-in-Some-clause-none_inside c =
    let from = c.args.from in
    let rest = drop from c.args.text.now in
    let whole = take_all (length c.args.text.now - from) rest (omega (arith, length-drop from c.args.text.now)) in
    let r = IsFirst-from_position _ _ c.position.result (λ b. b ≡ c.args.mark) (λ b. b ≢ c.args.mark) c.position.ensures.ran (YieldsList-from_slice rest (c.iter.ensures.rest ∙ whole)) (λ x q k. search (rules, tests)) (λ x q k. search (rules, tests)) in
    none_after c.args.text.now c.args.mark from c.in-Some.n (rw c.in-Some.is at r).2

pub returns-in-None-clause-none_inside : goal.returns-in-None-clause-none_inside
returns-in-None-clause-none_inside c =
    let from = c.args.from in
    let rest = drop from c.args.text.now in
    let whole = take_all (length c.args.text.now - from) rest (omega (arith, length-drop from c.args.text.now)) in
    let r = IsFirst-from_position _ _ c.position.result (λ b. b ≡ c.args.mark) (λ b. b ≢ c.args.mark) c.position.ensures.ran (YieldsList-from_slice rest (c.iter.ensures.rest ∙ whole)) (λ x q k. search (rules, tests)) (λ x q k. search (rules, tests)) in
    λ k l u. none_after c.args.text.now c.args.mark from (length rest) (rw c.in-None.is at r) k l (omega (arith, length-drop from c.args.text.now))
