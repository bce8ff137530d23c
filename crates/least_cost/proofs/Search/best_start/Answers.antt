-- `best_start`: of the starts from i on, the choice so far is the first cheapest (`Pulled`); each turn has one start more, and a hopeless rest need not be tried.
use mathlib.Core.Path.{◌≡◌, refl}
use Prim.Native.Nat.{◌+◌, ◌-◌}
use native.Mathlib.Omega.{arith}
use borrow.Author.Rules.{rules}
use Rattle.least_cost.proofs.Searching.{pulled_start, pulled_win, pulled_lose, pulled_cut}
use Rattle.least_cost.proofs.Search.best_start.Goals as goal

pub loop-i-init : goal.loop-i-init
loop-i-init c =
    pulled_start _ _ _ _ _ _ _ _ c.args.self.now.even c.requires c.width_with-len.ensures.0 c.width_with-len.ensures.1 c.start_price.ensures.0 c.start_price.ensures.1 refl

pub returns-then-hopeless : goal.returns-then-hopeless
returns-then-hopeless c =
    let e : c.loop-i.i - 1 + 1 ≡ c.loop-i.i = omega (arith, c.loop-i-test.true) in
    pulled_cut _ _ _ _ _ _ _ _ c.loop-i.invariant (search rules) refl (rw e at c.hopeless.ensures c.if-hopeless.true)

pub loop-i-preserved-then-price-best : goal.loop-i-preserved-then-price-best
loop-i-preserved-then-price-best c =
    let inv = c.loop-i.invariant in
    pulled_win _ _ _ _ _ _ _ _ inv (search rules) (search rules) (search rules) c.start_price-price.ensures.0 (search rules) (search rules)

pub loop-i-preserved : goal.loop-i-preserved
loop-i-preserved c =
    let inv = c.loop-i.invariant in
    pulled_lose _ _ _ _ _ _ _ _ inv (search rules) (search rules) (search rules) c.start_price-price.ensures.0 (search rules)
